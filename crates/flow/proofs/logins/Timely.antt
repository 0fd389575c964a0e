-- The start of a login: what a login packet on the line asks for is at most the next number of the receiving end, while
-- that keeps the packet's day. Assumes nothing.
use Prim.Native.Nat.{ℕ, suc, ◌≤◌, ◌<◌}
use native.Mathlib.Omega.{arith}
use mathlib.Core.Path.{◌≡◌, refl, ◌∙◌, ap}
use mathlib.Core.List.{List}
use mathlib.Core.Bool.{true, false}
use borrow.Author.Tests.{ltb-false}
use Rattle.ftd.specs.Login.{login_bytes}
use Rattle.ftd.specs.declared.resume.Resume.TheVariants.{Next}
use Rattle.ftd.specs.Types.{TradeDate}
use Rattle.flow.specs.declared.sender.Sender.{Sender}
use Rattle.flow.specs.declared.receiver.Receiver.{Receiver}
use Rattle.flow.specs.Ends.{before, is_open, day_of, last_of}
use lib.Dec.{ltb}
use Rattle.flow.specs.Serving.{start_of}
use Rattle.flow.specs.Receiving.{next_wanted}
use Rattle.flow.proofs.common.Rows.{by-when}
use Rattle.flow.proofs.packets.Requests.{full_of, Asking}
use Rattle.flow.proofs.steps.Turns.{Onward, same-day, later-day}
use Rattle.std.specs.Prelude.{Some, None}

-- ─── A number is reached ───

-- Number k of day d is at most the next one of a series that keeps this day and last, or it is the first, or the day is
-- over.
pub data Reached (d k : ℕ) (date : TradeDate) (last : ℕ) : Type 0 where
  first : k ≡ 1 → Reached d k date last
  here : date ≡ Some d → k ≤ suc last → Reached d k date last
  past : (e : ℕ) → date ≡ Some e → d < e → Reached d k date last

-- Days only rise and within a day last only grows, so it stays reached.
pub reached-onward : (d k : ℕ) (date : TradeDate) (last : ℕ) (after : TradeDate) (n : ℕ) → Onward date last after n
    → Reached d k date last → Reached d k after n
reached-onward d k date last after n o (first e) = first e
reached-onward d k date last after n (same-day q m) (here e h) = here (q ∙ e) (omega arith)
reached-onward d k date last after n (same-day q m) (past c e h) = past c (q ∙ e) h
reached-onward d k date last after n (later-day x q m) (here e h) = past x q (rw e at m)
reached-onward d k date last after n (later-day x q m) (past c e h) =
    let j : c < x = rw e at m in past x q (omega arith)

-- On that day it is at most the next one.
pub reached-here : (d k : ℕ) (date : TradeDate) (last : ℕ) → date ≡ Some d → Reached d k date last → k ≤ suc last
reached-here d k date last e (first q) = omega arith
reached-here d k date last e (here f h) = h
reached-here d k date last e (past c f h) = let q : d ≡ c = cc in absurd (omega arith)

-- ─── A request: with a trade date its number is reached; without one it is 1 ───

abbrev pub Timed : TradeDate → ℕ → TradeDate → ℕ → Type 0
Timed None k date last = k ≡ 1
Timed (Some d) k date last = Reached d k date last

pub timed-onward : (asked : TradeDate) (k : ℕ) (date : TradeDate) (last : ℕ) (after : TradeDate) (n : ℕ)
    → Onward date last after n → Timed asked k date last → Timed asked k after n
timed-onward None k date last after n o h = h
timed-onward (Some d) k date last after n o h = reached-onward d k date last after n o h

-- What Ask writes is timed, if nothing was received without a day.
pub timed-now : (date : TradeDate) (last : ℕ) → (date ≡ None → last ≡ 0) → Timed date (next_wanted last) date last
timed-now date last z = go date refl
  where
    low : (n : ℕ) → next_wanted n ≤ suc n
    low n = by-when (λ (k : ℕ). k ≤ suc n) (ltb n 4294967295) (λ q. omega arith) (λ q. omega arith)

    go : (o : TradeDate) → date ≡ o → Timed o (next_wanted last) date last
    go None e = ap next_wanted (z e)
    go (Some d) e = here e (low last)

-- Some bytes are a login packet of Ask that is timed for a receiving end.
pub record Request (r : Receiver) (p : List ℕ) : Type 0 where
  pub series : ℕ
  pub date : TradeDate
  pub next : ℕ
  pub content : List ℕ
  pub is : p ≡ login_bytes date (full_of series next content)
  pub asking : Asking series next content
  pub opens : is_open r series ≡ true
  pub timed : Timed date next (day_of r series) (last_of r series)

-- ─── The login that takes it ───

-- Where it starts, on day d.
pub start-reached : (e : Sender) (d : ℕ) → e.day.date ≡ Some d
    → (s : ℕ) (date : TradeDate) (next : ℕ) (day : TradeDate) (last : ℕ) → Timed date next day last
    → before e.day.date date ≡ false → Reached d (start_of e date (Next s next)) day last
unfolding start_of
start-reached e d q s None next day last h b = first h
start-reached e d q s (Some c) next day last h b =
    by-when (λ (k : ℕ). Reached d k day last) (before (Some c) e.day.date) (λ t. first refl) λ t.
    let u = ltb-false c d (rw q at t) in
    let v = ltb-false d c (rw q at b) in
    let f : c ≡ d = omega arith in
    rw f at h
