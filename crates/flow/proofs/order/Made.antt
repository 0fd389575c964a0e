-- What is read off the log of an end that calls have made is what was published. Assumes nothing.
use Prim.Native.Nat.{ℕ, zero, suc, ◌+◌}
use native.Mathlib.Omega.{arith}
use mathlib.Core.Path.{◌≡◌, refl, sym, ap, ◌∙◌}
use mathlib.Core.List.{List, [], ◌∷◌}
use mathlib.Core.Bool.{Bool, true, false, cond, ◌&&◌}
use mathlib.Core.Option.{some}
use borrow.Author.Tests.{eqb-true, eq-eqb, ne_eqb, le-ltb}
use lib.ListN.{length}
use lib.Dec.{eqb}
use Rattle.ftd.specs.Fields.{shaped, most_content}
use Rattle.flow.specs.declared.sender.Sender.{Sender}
use Rattle.flow.specs.Ends.{◌when◌else◌, is_served, published_of}
use Rattle.flow.specs.Log.{times, log_short}
use Rattle.flow.specs.Answers.{Message}
use Rattle.flow.specs.World.{SenderSide}
use Rattle.flow.specs.Agreement.{of}
use Rattle.flow.specs.Order.{ahead, gather, logged}
use Rattle.flow.proofs.source.Logs.{Pub, entry_for, laid, Sound, Holds, entries-are, series-back, zero-back}
use Rattle.flow.proofs.source.Logs.{tid-back, number-back, content-back}
use Rattle.flow.proofs.source.Histories.{on_day, messages_of, of_is}
use Rattle.flow.proofs.source.Served.{ServedSide}
use Rattle.flow.proofs.source.Kept.{published-count}
use Rattle.std.specs.Prelude.{Some}

abbrev message_in : Pub → Message
message_in p = record { tid = p.tid; content = p.content }

-- One entry of a sound log is read.
entry_read : (e : Sender) (s n : ℕ) (earlier : List ℕ) (p : Pub) (xs : List (List ℕ))
    → is_served e p.series ≡ true → shaped p.content most_content ≡ true →
    gather e s n earlier (entry_for earlier p ∷ xs)
    ≡ (some (message_in p ∷ []) when eqb p.series s && eqb (suc (times p.series earlier)) n else
    ahead (eqb p.series s) (message_in p) (gather e s n (p.series ∷ earlier) xs))
entry_read e s n earlier p xs o h =
    let k = suc (times p.series earlier) in
    simp (
      series-back p.series p.tid k p.content,
      zero-back p.series p.tid k p.content,
      number-back p.series p.tid k p.content,
      content-back p.series p.tid k p.content,
      tid-back p.series p.tid k p.content,
      o,
      h,
      eq-eqb k k refl,
    )

none_left : (s : ℕ) (l : List Message) → length l ≡ 0 → l ≡ []
none_left s [] q = refl
none_left s (x ∷ l) q = absurd (omega arith)

-- All of a series, up to its last.
pub gather-laid : (e : Sender) (s n j : ℕ) (earlier : List ℕ) (ps : List Pub) → Sound e ps
    → length (messages_of s ps) ≡ suc j → n ≡ times s earlier + suc j
    → gather e s n earlier (laid earlier ps) ≡ some (messages_of s ps)
gather-laid e s n j earlier [] h c q = absurd (omega arith)
gather-laid e s n j earlier (p ∷ ps) h c q =
    entry_read e s n earlier p (laid (p.series ∷ earlier) ps) h.0 h.1
    ∙ go (eqb p.series s) refl c (λ j. gather-laid e s n j (p.series ∷ earlier) ps h.2)
  where
    go : (b : Bool) → eqb p.series s ≡ b
        → length (cond b (message_in p ∷ messages_of s ps) (messages_of s ps)) ≡ suc j
        → ((j : ℕ) → length (messages_of s ps) ≡ suc j → n ≡ times s (p.series ∷ earlier) + suc j
        → gather e s n (p.series ∷ earlier) (laid (p.series ∷ earlier) ps) ≡ some (messages_of s ps))
        → (some (message_in p ∷ []) when b && eqb (suc (times p.series earlier)) n else
        ahead b (message_in p) (gather e s n (p.series ∷ earlier) (laid (p.series ∷ earlier) ps)))
        ≡ some (cond b (message_in p ∷ messages_of s ps) (messages_of s ps))
    go true b c f = mine j refl
      where
        same : p.series ≡ s
        same = eqb-true p.series s b

        again : times s (p.series ∷ earlier) ≡ suc (times s earlier)
        again = rw b

        mine : (i : ℕ) → j ≡ i →
            (some (message_in p ∷ []) when eqb (suc (times p.series earlier)) n else
            ahead true (message_in p) (gather e s n (p.series ∷ earlier) (laid (p.series ∷ earlier) ps)))
            ≡ some (message_in p ∷ messages_of s ps)
        mine zero z =
            let t : suc (times p.series earlier) ≡ n = omega (arith, ap (λ (u : ℕ). times u earlier) same) in
            let r : messages_of s ps ≡ [] = none_left s (messages_of s ps) (omega arith) in
            rw (eq-eqb _ n t, r)
        mine (suc i) z =
            let t : suc (times p.series earlier) ≡ n → ⊥ =
            λ x. omega (arith, ap (λ (u : ℕ). times u earlier) same) in
            let r = f i (omega arith) (omega (arith, again)) in
            rw (ne_eqb _ n t, r)
    go false b c f =
        let r = f j c (rw b q) in
        rw r

-- ─── A serving side that is right ───

module _ (v : SenderSide) (h : ServedSide v) (s d : ℕ) (day : v.day ≡ Some d) (served : is_served v.end s ≡ true) where
  pub logged-published : logged v.end v.log s ≡ some (of s d v.published)
  unfolding logged log_short
  logged-published =
      let holds : Holds v.end v.log (on_day d v.published) = rw day at h.holds in
      let count = published-count v h s d day served in
      let list = of_is s d v.published in
      rw (le-ltb (length v.log) v.end.day.used holds.inside, entries-are v.end v.log _ holds, list)
      (go (published_of v.end s) (count ∙ ap length list) holds)
    where
      go : (n : ℕ) → n ≡ length (messages_of s (on_day d v.published))
          → Holds v.end v.log (on_day d v.published) →
          (some [] when eqb n 0 else gather v.end s n [] (laid [] (on_day d v.published)))
          ≡ some (messages_of s (on_day d v.published))
      go zero q holds = ap some (sym (none_left s (messages_of s (on_day d v.published)) (sym q)))
      go (suc n) q holds =
          rw (ne_eqb (suc n) 0 (λ z. omega arith))
          (gather-laid v.end s (suc n) n [] (on_day d v.published) holds.sound (sym q) (omega arith))
