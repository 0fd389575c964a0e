-- A list of events in which the second half's conditions hold on the line from above and on a seat's line at once, with
-- the calls of both mixed: what `above-complete` and `below-complete` ask can be met together.
use Rattle.std.specs.Prelude.{◌≡◌, List, [], ◌∷◌, ◌++◌}
use Rattle.ftd.specs.Login.{login_bytes}
use Rattle.flow.specs.Bench.{req_login, rsp_login, tid, note, space}
use Rattle.flow.specs.Agreement.{CaughtUp}
use Rattle.relay.specs.World.{Lent, BoxWorld, above, below, BoxEvent, open_exchange, publish_exchange, login_exchange}
use Rattle.relay.specs.World.{send_exchange, open_box, ask_box, answer_box, receive_box, login_seat, send_seat}
use Rattle.relay.specs.World.{send_packet_seat, open_end, ask_end, answer_end, receive_end, box_step, box_run}
use Rattle.relay.specs.Agreement.{ran, LogTakes}
use Rattle.std.specs.Prelude.{Some}

-- Logs of 100 bytes; chain buffers with the one part that one series needs.
abbrev pub lends : Lent
lends = record { exchange_log = space 100; buffer = space 32768; log = space 100; buffers = λ i. space 32768 }

-- Two messages are published; then the box asks, and logs in to the exchange.
abbrev pub asking : List BoxEvent
asking =
    open_exchange 7 (1 ∷ []) (0 ∷ []) ∷ publish_exchange 1 tid (note 1 3) ∷ open_box (1 ∷ []) (0 ∷ []) ∷ open_end 0 (1 ∷ [])
    ∷ publish_exchange 1 tid [] ∷ ask_box 1 req_login (space 200) ∷ []

abbrev pub login_above : BoxEvent
login_above = login_exchange 1 0 rsp_login (space 163)

-- It has one of them when the end at seat 0 asks, and logs in to the box.
abbrev pub relaying : List BoxEvent
relaying =
    answer_box 0 ∷ send_exchange 1 (space 100) ∷ receive_box 0 0 ∷ ask_end 0 1 req_login (space 200) ∷ []

abbrev pub login_below : BoxEvent
login_below = login_seat 0 1 0 rsp_login (space 163)

-- The other one comes in and goes on while the first is on its way.
abbrev pub finishing : List BoxEvent
finishing =
    send_seat 0 1 (space 100) ∷ answer_end 0 0 ∷ send_exchange 1 (space 100) ∷ receive_box 1 0 ∷ receive_end 0 0 0
    ∷ send_packet_seat 0 1 (space 100) ∷ receive_end 0 1 0 ∷ []

-- Before and behind each login, and the end.
abbrev pub before_above : BoxWorld
before_above = ran lends asking

abbrev pub behind_above : BoxWorld
behind_above = box_step before_above login_above

abbrev pub before_below : BoxWorld
before_below = box_run behind_above relaying

abbrev pub behind_below : BoxWorld
behind_below = box_step before_below login_below

abbrev pub at_end : BoxWorld
at_end = box_run behind_below finishing

pub record Together : Type 0 where
  pub whole : box_run behind_above (relaying ++ (login_below ∷ finishing)) ≡ at_end
  pub seat : ran lends (asking ++ (login_above ∷ relaying)) ≡ before_below
  pub on-above : CaughtUp (above before_above) (above behind_above) (above at_end) 1 7 (login_bytes (Some 7) rsp_login) []
  pub log-takes : LogTakes behind_above.node at_end.node 1 7
  pub on_below : CaughtUp (below before_below 0) (below behind_below 0) (below at_end 0) 1 7 (login_bytes (Some 7) rsp_login) []
