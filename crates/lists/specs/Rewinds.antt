-- A line test with a return (02, No. 13), computed. Series 1 is kept at last 0, one message arrives, and the end returns.
-- By a login packet that was asked for before the return, the login starts at 2 and the message never comes again: all
-- of the second half's other conditions hold, and nothing of the one message published counts as arrived. By one that
-- was asked for behind it, it does.
use Rattle.std.specs.Prelude.{ℕ, ◌<◌, ◌≤◌, ◌≡◌, List, [], ◌∷◌, length, T}
use Rattle.flow.specs.World.{open_sender, publish, login, send, open_receiver, request_login, confirm_login, receive}
use Rattle.flow.specs.Agreement.{published_on, reported, CaughtUp}
use Rattle.flow.specs.Bench.{req_login, rsp_login, tid, space}
use Rattle.flow.specs.Rewind.{RewindEvent, call, keep, restore, RewindWorld, rewind_start, rewind_step, rewind_run}
use Rattle.lists.specs.Examples.{a1, shows, last_answer}

-- The name A.
abbrev pub name : List ℕ
name = 65 ∷ []

unfoldable pub line_test : List RewindEvent
line_test =
    call (open_sender 7 (1 ∷ []) (0 ∷ []))
    ∷ call (open_receiver (1 ∷ []))
    ∷ keep name  -- at last 0, with no day
    ∷ call (publish 1 tid a1)
    ∷ call (request_login 1 req_login (space 200))  -- login packet 0: next 1
    ∷ call (login 1 0 rsp_login (space 200))  -- answer 0
    ∷ call (confirm_login 0)
    ∷ call (send 1 (space 50))  -- message 0: a1
    ∷ call (receive 0 0)  -- a1
    ∷ call (request_login 1 req_login (space 200))  -- login packet 1: of day 7, next 2
    ∷ []

unfoldable pub tested : RewindWorld
tested = rewind_run (rewind_start (space 40) (space 32768)) line_test

unfoldable pub back : RewindWorld
back = rewind_step tested (restore name)

-- ─── By the login packet of before ───

unfoldable pub stale_login : RewindWorld
stale_login = rewind_step back (call (login 1 1 rsp_login (space 200)))

unfoldable pub stale_end : RewindWorld
stale_end = rewind_step stale_login (call (confirm_login 1))

-- ─── By one asked for behind the return ───

unfoldable pub asked_again : RewindWorld
asked_again = rewind_step back (call (request_login 1 req_login (space 200)))  -- login packet 2: next 1

unfoldable pub fresh_login : RewindWorld
fresh_login = rewind_step asked_again (call (login 1 2 rsp_login (space 200)))

-- Keeping within it changes nothing.
unfoldable pub fresh_end : RewindWorld
fresh_end =
    rewind_run fresh_login
    (call (confirm_login 1) ∷ keep name ∷ call (send 1 (space 50)) ∷ call (receive 1 0) ∷ [])

pub record Rewinds : Type 0 where
  -- Before the return one message is handed on; behind it none, and nothing is reported.
  pub before : T (shows tested.now 1 7 (a1 ∷ []) (a1 ∷ []) (0 ∷ 1 ∷ []))
  pub behind : T (shows back.now 1 7 (a1 ∷ []) [] [])
  -- The condition on asking is needed.
  pub stale : 1 < back.asked
  pub stale-caught-up : CaughtUp back.now stale_login.now stale_end.now 1 7 last_answer []
  pub stale-short : (reported stale_end.now 1 7 ≡ 0) × (length (published_on stale_end.now 1 7) ≡ 1)
  -- And it is enough.
  pub fresh : asked_again.asked ≤ 2
  pub fresh-caught-up : CaughtUp asked_again.now fresh_login.now fresh_end.now 1 7 last_answer []
  pub fresh-all : (reported fresh_end.now 1 7 ≡ 1) × (length (published_on fresh_end.now 1 7) ≡ 1)
