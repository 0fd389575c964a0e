-- Login in the parts that the code has: contents, series, line and answer, in the rows' order; over plain variables.
-- Assumes nothing.
use Prim.Native.Nat.{ℕ}
use native.Mathlib.Omega.{arith}
use mathlib.Core.Path.{◌≡◌, refl, sym, ◌∙◌}
use mathlib.Core.List.{List}
use mathlib.Core.Bool.{Bool, true, false, cond, not, ◌||◌}
use Rattle.ftd.specs.Fields.{shaped, packet_content}
use Rattle.ftd.specs.Items.{wrong_width, wrong_item}
use Rattle.ftd.specs.Resume.{resume_of}
use Rattle.ftd.specs.declared.refusal.Refusal.{Refusal}
use Rattle.ftd.specs.declared.refusal.Refusal.TheVariants.{FieldRun, FieldLength, Item, Composition, UnknownSeries}
use Rattle.ftd.specs.declared.refusal.Refusal.TheVariants.{OtherDay, OutOfLine}
use Rattle.ftd.specs.Types.{Checked}
use Rattle.ftd.specs.Types.{TradeDate}
use Rattle.ftd.specs.declared.packet.Header.{Header}
use Rattle.ftd.specs.declared.resume.Resume.{Resume}
use Rattle.flow.specs.Types.{SeriesPlace}
use Rattle.flow.specs.declared.sender.Sender.{Sender}
use Rattle.flow.specs.Types.{LoggedIn}
use Rattle.flow.specs.Ends.{◌when◌else◌, Wrote, wrote, before, index_of, day_series, is_served, published_of}
use Rattle.flow.specs.Ends.{with_place}
use Rattle.flow.specs.Serving.{wrong_run, not_zero, start_elsewhere, wanted, start_of, login_with}
use Rattle.flow.specs.Helpers.{Finds}
use Rattle.flow.specs.LoginHelpers.{wrong_login, login_contents, login_line, login_answer}
use Rattle.flow.proofs.sender.Lookups.{found_at}
use Rattle.std.specs.Prelude.{Some, None, Ok, Err}

-- A refusal stands; what passed goes on.
abbrev unless : Sender → List ℕ → Checked → Wrote Sender LoggedIn → Wrote Sender LoggedIn
unless e out (Ok tt) next = next
unless e out (Err r) next = wrote e (Err r) out

module _ (e : Sender) (out : List ℕ) where
  abbrev refused : Refusal → Wrote Sender LoggedIn
  refused r = wrote e (Err r) out

  -- One row of tests is three, one behind the other.
  rows : (a b c d f g h k : Bool) (w : Wrote Sender LoggedIn)
      → (refused FieldRun when a else refused FieldLength when b else refused Item when c else
      refused Composition when d else
      refused UnknownSeries when f || g else refused OtherDay when h else refused OutOfLine when k else w)
      ≡ unless e out
      (Err FieldRun when a else Err FieldLength when b else Err Item when c else Err Composition when d
      else (Ok tt))
      (refused UnknownSeries when f else
      unless e out
      (Err UnknownSeries when g else Err OtherDay when h else Err OutOfLine when k else (Ok tt)) w)
  rows true b c d f g h k w = refl
  rows false true c d f g h k w = refl
  rows false false true d f g h k w = refl
  rows false false false true f g h k w = refl
  rows false false false false true g h k w = refl
  rows false false false false false true h k w = refl
  rows false false false false false false true k w = refl
  rows false false false false false false false true w = refl
  rows false false false false false false false false w = refl

-- What 7 lets pass has shape.
whole-if : (b : Bool) (c : Checked) → (Ok tt) ≡ (Err FieldRun when not b else c) → b ≡ true
whole-if true c x = refl
whole-if false c x = let z : ◌≡◌ {A = ℕ} 0 1 = cc in absurd (omega arith)

module _ (e : Sender) (s : ℕ) (h : Header) (date : TradeDate) (asked content out : List ℕ) where
  -- The definition of Login, in these parts.
  login-rows : login_with e s h date asked content out ≡ unless e out (login_contents h asked content)
      (wrote e (Err UnknownSeries) out when not (is_served e s) else
      unless e out (login_line e.day.date s h date (resume_of asked))
      (login_answer e (index_of s (day_series e)) (start_of e date (resume_of asked)) content out))
  unfolding login_with login_contents wrong_login login_line login_answer published_of with_place
  login-rows =
      rows e out (wrong_run content packet_content) (wrong_width asked || wrong_width content)
      (wrong_item asked || wrong_item content) (wrong_login h asked content) (not (is_served e s))
      (start_elsewhere s (resume_of asked)) (before e.day.date date) (not_zero h)
      (login_answer e (index_of s (day_series e)) (start_of e date (resume_of asked)) content out)

  -- ─── Each way through the code ───

  module _ (v : Checked) (p : v ≡ login_contents h asked content) where
    pub login-contents : (r : Refusal) → v ≡ Err r → wrote e (Err r) out ≡ login_with e s h date asked content out
    login-contents r x = rw (login-rows, ← p, x)

    module _ (y1 : v ≡ (Ok tt)) (at : SeriesPlace) (f : Finds e s at) where
      pub login-unknown : at ≡ None → wrote e (Err UnknownSeries) out ≡ login_with e s h date asked content out
      login-unknown x = let u = rw x at f in rw (login-rows, ← p, y1, u)

      module _ (i : ℕ) (y2 : at ≡ Some i) (start : Resume) (k : start ≡ resume_of asked) (w : Checked)
          (q : w ≡ login_line e.day.date s h date start) where
        pub login-line : (r : Refusal) → w ≡ Err r → wrote e (Err r) out ≡ login_with e s h date asked content out
        login-line r x = let u = found_at e s at i f y2 in rw (login-rows, ← p, y1, u.0, ← k, ← q, x)

        pub login-answer : w ≡ (Ok tt) → (n : ℕ) → n ≡ cond (before date e.day.date) 1 (wanted start)
            → (x : Wrote Sender LoggedIn) → x ≡ login_answer e i n content out
            → x ≡ login_with e s h date asked content out
        unfolding start_of
        login-answer y3 n m x z =
            let u = found_at e s at i f y2 in
            rw (login-rows, ← p, y1, u.0, ← k, ← q, y3, ← m, ← u.1) z

    -- What passed is whole fields.
    pub contents-whole : v ≡ (Ok tt) → shaped content 4080 ≡ true
    unfolding login_contents
    contents-whole x = whole-if (shaped content 4080) _ (sym x ∙ p)
