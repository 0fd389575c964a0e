-- The list of `Together`, computed: each condition as a test, and what the test says. Assumes nothing.
use mathlib.Core.Path.{refl}
use mathlib.Core.List.{[]}
use lib.Dec.{T}
use Rattle.ftd.specs.Login.{login_bytes}
use Rattle.flow.specs.Bench.{rsp_login}
use Rattle.flow.specs.Agreement.{since, of}
use Rattle.flow.proofs.bench.Opened
use Rattle.flow.proofs.bench.Tests.{is_empty, is-empty, is_caught_up, caught-up}
use Rattle.relay.specs.Box.{fresh_box, open_box_of, connect_box_of, ask_of, answer_way, answer_of, receive_way}
use Rattle.relay.specs.Box.{receive_box_of}
use Rattle.relay.specs.Box.{login_seat_of, send_seat_of, send_packet_seat_of}
use Rattle.relay.specs.World.{above, below, start_node, start_box}
use Rattle.relay.specs.Together.{before_above, behind_above, before_below, behind_below, at_end, Together}
use Rattle.std.specs.Prelude.{Some}

unfoldable pub open-all : Unit {0}
unfolding Opened.opened fresh_box open_box_of connect_box_of ask_of answer_way answer_of receive_way receive_box_of login_seat_of
    send_seat_of send_packet_seat_of start_node start_box is_caught_up
open-all = tt

above-tests : T (is_caught_up (above before_above) (above behind_above) (above at_end) 1 7 (login_bytes (Some 7) rsp_login) [])
unfolding open-all
above-tests = tt

below-tests : T (is_caught_up (below before_below 0) (below behind_below 0) (below at_end 0) 1 7
    (login_bytes (Some 7) rsp_login) [])
unfolding open-all
below-tests = tt

taken : T (is_empty (of 1 7 (since behind_above.node.refused at_end.node.refused)))
unfolding open-all
taken = tt

pub both-lines : Together
both-lines =
    record {
      whole = refl;
      seat = refl;
      on-above = caught-up _ _ (above at_end) 1 7 (login_bytes (Some 7) rsp_login) [] above-tests;
      log-takes = is-empty _ taken;
      on_below = caught-up _ _ (below at_end 0) 1 7 (login_bytes (Some 7) rsp_login) [] below-tests;
    }
