-- Answer in the parts that the code has: content, series, line and login, in the rows' order; over plain variables:
-- what each test gave, and what that is by definition. Assumes nothing.
use Prim.Native.Nat.{ℕ}
use mathlib.Core.Path.{◌≡◌, refl}
use mathlib.Core.List.{List}
use mathlib.Core.Bool.{Bool, true, false, not, ◌||◌}
use lib.ListN.{get_or}
use Rattle.ftd.specs.Items.{wrong_width, wrong_item}
use Rattle.ftd.specs.Composition.{composed}
use Rattle.ftd.specs.declared.refusal.Refusal.{Refusal}
use Rattle.ftd.specs.declared.refusal.Refusal.TheVariants.{FieldLength, Item, Composition, UnknownSeries, OtherDay}
use Rattle.ftd.specs.declared.refusal.Refusal.TheVariants.{OutOfLine}
use Rattle.ftd.specs.declared.composition.Direction.TheVariants.{Down}
use Rattle.ftd.specs.Types.{Checked}
use Rattle.ftd.specs.Types.{TradeDate}
use Rattle.ftd.specs.declared.packet.Header.{Header}
use Rattle.flow.specs.Types.{SeriesPlace}
use Rattle.flow.specs.declared.receiver.Receiver.{Receiver}
use Rattle.flow.specs.Types.{Confirmed}
use Rattle.flow.specs.Ends.{◌when◌else◌, Left, left, index_of, kept_series, is_open, kept_of, new_kept}
use Rattle.flow.specs.Ends.{logged_in, with_series}
use Rattle.flow.specs.Serving.{no_login, not_zero}
use Rattle.flow.specs.Receiving.{wrong_day, last_after, confirm_with}
use Rattle.flow.specs.Helpers.{FindsKept, series_at}
use Rattle.flow.specs.RequestHelpers.{answer_content, wrong_date, last_on, confirm_at}
use Rattle.flow.proofs.common.Contents.{on_check}
use Rattle.flow.proofs.receiver.Lookups.{found_at}
use Rattle.std.specs.Prelude.{Some, None, Ok, Err}

-- ─── 15, 16, and the login ───

module _ (e : Receiver) (i s : ℕ) (h : Header) (date : TradeDate) (a : Bool)
    (p : a ≡ wrong_date (get_or e.kept.series i (new_kept 0)).date date) where
  pub confirm-day : a ≡ true → left e (Err OtherDay) ≡ confirm_at e i s h date
  unfolding confirm_at
  confirm-day x = rw (← p, x)

  module _ (y1 : a ≡ false) (b : Bool) (q : b ≡ not_zero h) where
    pub confirm-number : b ≡ true → left e (Err OutOfLine) ≡ confirm_at e i s h date
    unfolding confirm_at
    confirm-number x = rw (← p, y1, ← q, x)

    pub confirm-login : b ≡ false → (last : ℕ)
        → last ≡ last_on (get_or e.kept.series i (new_kept 0)).date (get_or e.kept.series i (new_kept 0)).last date
        → (f : Receiver) → f ≡ series_at e i (record { series = s; date = date; last = last }) logged_in
        → left f (Ok last) ≡ confirm_at e i s h date
    unfolding confirm_at
    confirm-login x last k f g = rw (← p, y1, ← q, x, g, k)

-- ─── The rows ───

module _ (e : Receiver) where
  abbrev refused : Refusal → Left Receiver Confirmed
  refused r = left e (Err r)

  -- One row of tests is two, one behind the other.
  rows : (a b c : Bool) (w : Left Receiver Confirmed)
      → (refused FieldLength when a else refused Item when b else refused Composition when c else w)
      ≡ on_check refused w
      (Err FieldLength when a else Err Item when b else Err Composition when c else (Ok tt))
  rows true b c w = refl
  rows false true c w = refl
  rows false false true w = refl
  rows false false false w = refl

module _ (e : Receiver) (s : ℕ) (h : Header) (date : TradeDate) (content : List ℕ) where
  by-date : (d : TradeDate) → wrong_day e s d ≡ wrong_date (kept_of e s).date d
  by-date None = refl
  by-date (Some d) = refl

  -- The row from 15 on.
  line : (refused e OtherDay when wrong_day e s date else
      refused e OutOfLine when not_zero h else
      left (with_series e s date (last_after e s date) logged_in) (Ok (last_after e s date)))
      ≡ confirm_at e (index_of s (kept_series e)) s h date
  unfolding confirm_at kept_of with_series last_after
  line = rw (by-date date)

  -- The definition of Answer, in these parts.
  confirm-rows : confirm_with e s h date content ≡ on_check (refused e)
      (refused e UnknownSeries when not (is_open e s) else confirm_at e (index_of s (kept_series e)) s h date)
      (answer_content h content)
  unfolding confirm_with answer_content
  confirm-rows =
      rw line
      (rows e (wrong_width content) (wrong_item content) (no_login h || not (composed 22 Down content))
      (refused e UnknownSeries when not (is_open e s) else confirm_at e (index_of s (kept_series e)) s h date))

  -- ─── Each way through the code ───

  module _ (v : Checked) (p : v ≡ answer_content h content) where
    pub confirm-content : (r : Refusal) → v ≡ Err r → left e (Err r) ≡ confirm_with e s h date content
    confirm-content r x = rw (confirm-rows, ← p, x)

    module _ (y1 : v ≡ (Ok tt)) (f : SeriesPlace) (g : FindsKept e s f) where
      pub confirm-unknown : f ≡ None → left e (Err UnknownSeries) ≡ confirm_with e s h date content
      confirm-unknown x = let u = rw x at g in rw (confirm-rows, ← p, y1, u)

      pub confirm-found : (i : ℕ) → f ≡ Some i → (x : Left Receiver Confirmed) → x ≡ confirm_at e i s h date
          → x ≡ confirm_with e s h date content
      confirm-found i y2 x z = let u = found_at e s f i g y2 in rw (confirm-rows, ← p, y1, u.0, ← u.1) z
