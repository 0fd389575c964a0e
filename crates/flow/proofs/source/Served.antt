-- The serving end with its log and what was published: what holds after every list of events. Assumes nothing.
use Prim.Native.Nat.{ℕ, ◌+◌, ◌≤◌}
use native.Mathlib.Omega.{arith}
use mathlib.Core.Path.{◌≡◌, refl, ap, ◌∙◌, sym}
use mathlib.Core.List.{List, []}
use mathlib.Core.Bool.{Bool, true, false}
use borrow.Author.Tests.{eqb-true, eqb-false}
use lib.ListN.{length}
use lib.Dec.{eqb}
use Rattle.ftd.specs.Types.{TradeDate}
use Rattle.flow.specs.declared.sender.Place.{Place}
use Rattle.flow.specs.declared.sender.Sender.{Sender}
use Rattle.flow.specs.Ends.{most_messages, wrong_series, up_to, fresh_sender, day_series, is_served, published_of}
use Rattle.flow.specs.Ends.{place_of, with_place}
use Rattle.flow.specs.Answers.{Message}
use Rattle.flow.specs.World.{Dated, SenderSide}
use Rattle.flow.proofs.common.Days.{above-along}
use Rattle.flow.proofs.source.Logs.{Pub, Holds}
use Rattle.flow.proofs.source.Histories.{on_day, on_date, messages_of, sound-kept}
use Rattle.flow.proofs.ends.SenderLookups.{Eight, series-next, served-next, published-next, place-next}
use Rattle.flow.proofs.ends.SenderLookups.{place_other, eight-next}
use Rattle.flow.proofs.ends.SenderOpened.{opened_sender, fresh-eight, opened-eight, opened-published}
use Rattle.flow.proofs.ends.SenderOpened.{opened-place}
use Rattle.flow.proofs.common.Bools.{not-both}
use Rattle.std.specs.Prelude.{Some, None}

-- Next is 1 at least, and at most the number behind the last one published.
abbrev pub Placed : Sender → ℕ → Type 0
Placed e s = (1 ≤ (place_of e s).next) × ((place_of e s).next ≤ published_of e s + 1)

-- An end with its log, its day and the publications of all days.
pub record Served (e : Sender) (log : List ℕ) (day : TradeDate) (history : List (Dated Message)) : Type 0 where
  pub eight : Eight e
  pub same-day : e.day.date ≡ day
  -- Before the first opening no series is open and nothing is published.
  pub unopened : day ≡ None → (day_series e ≡ []) × (history ≡ [])
  -- The day's count of an open series is right.
  pub counted : (s : ℕ) → is_served e s ≡ true → published_of e s ≡ length (messages_of s (on_date day history))
  -- Nothing is published on a day above the present one; on no day more than may be.
  pub not-later : (d : ℕ) → up_to d day ≡ false → on_day d history ≡ []
  pub few : (s d : ℕ) → length (messages_of s (on_day d history)) ≤ most_messages
  -- The log holds the day's publications, in order.
  pub holds : Holds e log (on_date day history)
  pub placed : (s : ℕ) → is_served e s ≡ true → (place_of e s).login ≡ true → Placed e s

abbrev pub ServedSide : SenderSide → Type 0
ServedSide v = Served v.end v.log v.day v.published

-- ─── Fresh ───

pub served-fresh : (log : List ℕ) → Served fresh_sender log None []
unfolding fresh_sender is_served day_series
served-fresh log = record {
  eight = fresh-eight;
  same-day = refl;
  unopened = λ q. (refl, refl);
  counted = λ s h. absurd (not-both false h refl);
  not-later = λ d h. refl;
  few = λ s d. omega arith;
  holds = record { inside = omega arith; laid_out = refl; sound = tt };
  placed = λ s h. absurd (not-both false h refl);
}

module _ (e : Sender) (log : List ℕ) (day : TradeDate) (history : List (Dated Message)) (h : Served e log day history)
  where
    -- ─── Opened ───

    pub served-opened : (date : ℕ) (ss rs : List ℕ) → wrong_series ss ≡ false → up_to date e.day.date ≡ false →
        Served (opened_sender date ss rs) log (Some date) history
    served-opened date ss rs a b =
        let above : up_to date day ≡ false = rw h.same-day at b in
        let empty : on_day date history ≡ [] = h.not-later date above in
        record {
          eight = opened-eight date ss rs a;
          same-day = refl;
          unopened = λ q. absurd (none-at q);
          counted = λ s q. opened-published date ss rs s ∙ ap (λ (l : List Pub). length (messages_of s l)) (sym empty);
          not-later = λ d q. h.not-later d (above-along d date day above q);
          few = h.few;
          holds = rw empty record { inside = omega arith; laid_out = refl; sound = tt };
          placed = λ s q l. absurd (outside s l);
        }
      where
        none-at : Some date ≡ None → ⊥
        none-at q = let z : ◌≡◌ {A = ℕ} 0 1 = cc in omega arith

        outside : (s : ℕ) → (place_of (opened_sender date ss rs) s).login ≡ true → ⊥
        outside s l =
            not-both (place_of (opened_sender date ss rs) s).login l (ap (λ (p : Place). p.login) (opened-place date ss rs s))

    -- ─── The number that is sent next ───

    module _ (s next piece : ℕ) (open-here : is_served e s ≡ true) (low : 1 ≤ next) (high : next ≤ published_of e s + 1) where
      holds-next : Holds (with_place e s next piece) log (on_date day history)
      unfolding with_place
      holds-next = record {
        inside = h.holds.inside;
        laid_out = h.holds.laid_out;
        sound =
            sound-kept e (with_place e s next piece) (on_date day history) (served-next e s open-here next piece) h.holds.sound;
      }

      date-next : (with_place e s next piece).day.date ≡ e.day.date
      unfolding with_place
      date-next = refl

      placed-next : (u : ℕ) → is_served e u ≡ true → (place_of (with_place e s next piece) u).login ≡ true
          → Placed (with_place e s next piece) u
      placed-next u q l = go (eqb u s) refl
        where
          go : (b : Bool) → eqb u s ≡ b → Placed (with_place e s next piece) u
          go true c =
              rw (eqb-true u s c)
              (rw (place-next e s open-here h.eight next piece, published-next e s open-here next piece s) (low, high))
          go false c =
              let o = place_other e s open-here next piece u (eqb-false u s c) in
              let m : (place_of e u).login ≡ true = ap (λ (p : Place). p.login) (sym o) ∙ l in
              rw (o, published-next e s open-here next piece u) (h.placed u q m)

      pub served-after : Served (with_place e s next piece) log day history
      served-after = record {
        eight = eight-next e s open-here h.eight next piece;
        same-day = date-next ∙ h.same-day;
        unopened = λ q. (series-next e s open-here next piece ∙ (h.unopened q).0, (h.unopened q).1);
        counted =
            λ u q. published-next e s open-here next piece u ∙ h.counted u (sym (served-next e s open-here next piece u) ∙ q);
        not-later = h.not-later;
        few = h.few;
        holds = holds-next;
        placed = λ u q. placed-next u (sym (served-next e s open-here next piece u) ∙ q);
      }
