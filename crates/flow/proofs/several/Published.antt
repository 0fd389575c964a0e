-- A turn of the serving end's walk. Assumes nothing.
use Prim.Native.Nat.{ℕ, ◌+◌, ◌-◌, ◌<◌, ◌≤◌}
use mathlib.Core.Path.{◌≡◌, refl, sym, ◌∙◌}
use mathlib.Core.List.{List}
use mathlib.Core.Bool.{Bool, true, false, cond}
use native.Mathlib.Omega.{arith}
use borrow.Author.Tests.{lt-ltb, le-ltb, leb-false}
use lib.ListN.{length, take, drop, length-drop, length-take}
use lib.Seq.{get_or-take}
use lib.Dec.{leb}
use Rattle.ftd.specs.Bytes.{be16_of, be32_of}
use Rattle.ftd.specs.Runs.{front, run_of}
use Rattle.ftd.specs.declared.refusal.Refusal.{Refusal}
use Rattle.ftd.proofs.Lists.{byte-append}
use Rattle.ftd.proofs.runs.Joined.{Local}
use Rattle.ftd.proofs.runs.Heads.{be32-drop, front-short, front-whole}
use Rattle.flow.specs.declared.sender.Sender.{Sender}
use Rattle.flow.specs.declared.sender.PublishStep.{PublishStep}
use Rattle.flow.specs.declared.several.PublishedSeveral.TheVariants.{Refused}
use Rattle.flow.specs.Ends.{wrote}
use Rattle.flow.specs.Promises.{Publishes, PublishesSeveral}
use Rattle.flow.specs.Several.{walk_over, publishing}
use Rattle.flow.specs.Several.{record_form, record_missing, publish_record, publish_several_of}
use Rattle.flow.specs.SeveralHelpers.{PublishesRecord}
use Rattle.flow.proofs.log.Heads.{part_end}
use Rattle.flow.proofs.several.Walks.{input-head, turn-stop, turn_on}
use Rattle.std.specs.Prelude.{Ok, Err}

-- ─── The record at a place ───

module _ (l : List ℕ) (at : ℕ) where
  none-stands : length l - at < 10 + be32_of l (at + 6) → 0 ≡ front record_form (drop at l)
  unfolding record_form
  none-stands h = sym (front-short record_form (drop at l) (rw (length-drop, be32-drop) h))

  one-stands : 10 + be32_of l (at + 6) ≤ length l - at → 10 + be32_of l (at + 6) ≡ front record_form (drop at l)
  unfolding record_form
  one-stands h = sym (front-whole record_form (drop at l) (rw (length-drop, be32-drop) h) ∙ rw be32-drop)

  -- By what the code has read of it.
  pub record-cut : length l - at < 10 → 0 ≡ front record_form (drop at l)
  record-cut h = none-stands (omega arith)

  module _ (b : ℕ) (x : b ≡ be32_of l (at + 6)) (n : ℕ) (y : n ≡ b) (ten : 10 ≤ length l - at) where
    pub record-short : length l - at - 10 < n → 0 ≡ front record_form (drop at l)
    record-short h = none-stands (omega arith)

    pub record-whole : n ≤ length l - at - 10 → 10 + n ≡ front record_form (drop at l)
    record-whole h = rw (y, x) (one-stands (omega arith))

-- None stands at the front: what is missing of it.
module _ (x : List ℕ) where
  pub head-missing : length x < 10 → 10 - length x ≡ record_missing x
  unfolding record_missing
  head-missing h = rw (lt-ltb (length x) 10 h)

  module _ (b : ℕ) (p : b ≡ be32_of x 6) (n : ℕ) (q : n ≡ b) where
    pub rest-long : front record_form x ≡ 0 → length x ≤ 10 + n
    unfolding front record_form
    rest-long z = go (leb (10 + be32_of x 6) (length x)) refl z
      where
        go : (t : Bool) → leb (10 + be32_of x 6) (length x) ≡ t → cond t (10 + be32_of x 6) 0 ≡ 0 → length x ≤ 10 + n
        go true h k = absurd (omega arith)
        go false h k = omega (arith, leb-false (10 + be32_of x 6) (length x) h)

    pub rest-missing : 10 ≤ length x → 10 + n - length x ≡ record_missing x
    unfolding record_missing
    rest-missing h = rw (le-ltb (length x) 10 h, q, p)

-- Publish of what stands in a record.
pub record-published : (e : Sender) (x log : List ℕ) (r : PublishStep) (after : List ℕ) (s t : ℕ) → s ≡ be16_of x 0
    → t ≡ be32_of x 2 → Publishes e s t (take (length x - 10) (drop 10 x)) log r after
    → PublishesRecord e x log r after
record-published e x log r after s t p q h = rw (p, q, part_end 10 x) at h

-- ─── The turn ───

pub some-record : 0 < record_form.head
unfolding record_form
some-record = omega arith

-- How many bytes a record takes is said by its first ten.
pub record-local : Local record_form
unfolding record_form be32_of
record-local l r n h k =
    let long : length (take n l) ≡ n = rw length-take (omega arith) in
    rw (
      byte-append (take n l) r 6 (omega arith),
      byte-append (take n l) r 7 (omega arith),
      byte-append (take n l) r 8 (omega arith),
      byte-append (take n l) r 9 (omega arith),
      get_or-take {A = ℕ} n l 6 0 (omega arith),
      get_or-take {A = ℕ} n l 7 0 (omega arith),
      get_or-take {A = ℕ} n l 8 0 (omega arith),
      get_or-take {A = ℕ} n l 9 0 (omega arith),
    )

module _ (e₀ : Sender) (s l₀ : List ℕ) where
  module _ (at n : ℕ) (m : n ≡ front record_form (drop at s)) (e : Sender) (l : List ℕ)
      (inv : walk_over publishing e l at (run_of record_form (drop at s)) ≡ publish_several_of e₀ s l₀) where
    pub none_here : n ≡ 0 → front record_form (take (length s - at) (drop at s)) ≡ 0
    none_here z = rw (part_end at s) (sym m ∙ z)

    module _ (z : n ≡ 0 → ⊥) where
      pub ten-here : 10 ≤ length (take (at + n - at) (drop at s))
      unfolding record_form
      ten-here = input-head publishing some-record s at n m e l _ inv z

      module _ (r : PublishStep) (after : List ℕ) (c : PublishesRecord e (take (at + n - at) (drop at s)) l r after)
        where
          whole : wrote r.end r.answer after ≡ publish_record e (take (at + n - at) (drop at s)) l
          unfolding publish_record
          whole = rw (c.0, c.1.1, c.2)

          pub stop-turn : (x : Refusal) → r.answer ≡ Err x
              → PublishesSeveral e₀ s l₀ (record { end = r.end; answer = Refused x; taken = at + n }) after
          stop-turn x q =
              turn-stop publishing some-record s at n m e l _ inv z (wrote r.end r.answer after) whole
              (Refused x) (rw q)

          pub on-turn : (k : ℕ) → r.answer ≡ Ok k
              → walk_over publishing r.end after (at + n) (run_of record_form (drop (at + n) s))
              ≡ publish_several_of e₀ s l₀
          on-turn k q =
              turn_on publishing some-record s at n m e l _ inv z (wrote r.end r.answer after) whole (rw q)
