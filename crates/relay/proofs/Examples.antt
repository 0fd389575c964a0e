-- The worked examples of the box, computed. Assumes nothing.
use lib.Dec.{T}
use Rattle.ftd.specs.Bench.{all_same}
use Rattle.flow.proofs.bench.Opened
use mathlib.Core.List.{[], ◌∷◌}
use Rattle.relay.specs.Box.{fresh_box, open_box_of, connect_box_of, answer_way, answer_of, receive_way, receive_box_of}
use Rattle.relay.specs.Box.{login_seat_of, send_seat_of}
use Rattle.relay.specs.Examples.{opening, late_again, numbered, full_log, full_chain, no_seats, three_seats, BoxExamples}
use Rattle.relay.specs.Examples.{repeated, wrong_field, wrong_first, reserved}

unfoldable open-examples : Unit {0}
unfolding Opened.opened fresh_box open_box_of connect_box_of answer_way answer_of receive_way receive_box_of login_seat_of send_seat_of
    opening late_again numbered full_log full_chain no_seats three_seats repeated wrong_field wrong_first reserved
open-examples = tt

opens-so : T (all_same (opening ∷ []))
unfolding open-examples
opens-so = tt

repeats-so : T (all_same (late_again ∷ []))
unfolding open-examples
repeats-so = tt

orders-so : T (all_same (numbered ∷ []))
unfolding open-examples
orders-so = tt

full-log-so : T (all_same (full_log ∷ []))
unfolding open-examples
full-log-so = tt

full-chain-so : T (all_same (full_chain ∷ []))
unfolding open-examples
full-chain-so = tt

seat-numbers-so : T (all_same (no_seats ∷ []))
unfolding open-examples
seat-numbers-so = tt

seats-so : T (all_same (three_seats ∷ []))
unfolding open-examples
seats-so = tt

once-so : T (all_same (repeated ∷ []))
unfolding open-examples
once-so = tt

wrong-field-so : T (all_same (wrong_field ∷ wrong_first ∷ []))
unfolding open-examples
wrong-field-so = tt

reserves-so : T (all_same (reserved ∷ []))
unfolding open-examples
reserves-so = tt

pub box-examples : BoxExamples
box-examples =
    record {
      opens = opens-so;
      repeats = repeats-so;
      orders = orders-so;
      full-log = full-log-so;
      full-chain = full-chain-so;
      seat-numbers = seat-numbers-so;
      seats = seats-so;
      once = once-so;
      wrong-field = wrong-field-so;
      reserves = reserves-so;
    }
