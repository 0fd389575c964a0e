-- The tag at a place, and one turn of each loop over the tags, over plain variables. Assumes nothing.
use Prim.Native.Nat.{ℕ, ◌+◌, ◌-◌, ◌<◌, ◌≤◌}
use mathlib.Core.Path.{◌≡◌, sym, ◌∙◌}
use mathlib.Core.List.{List}
use mathlib.Core.Bool.{Bool, true, false, ◌&&◌}
use native.Mathlib.Nat.{add-zero}
use native.Mathlib.Omega.{arith}
use borrow.Author.Tests.{eq-eqb, ne_eqb}
use lib.ListN.{length, get_or, take, drop, length-drop}
use lib.Seq.{get_or-drop}
use lib.Dec.{leb}
use Rattle.ftd.specs.Runs.{front, Run, in_front, run_of, ended}
use Rattle.ftd.specs.Tags.{tag, length_right, all_right, count_kind, times, good_run, tag_in}
use Rattle.ftd.proofs.runs.Laws.{run-over, run-next, entry-head, entry_length}
use Rattle.ftd.proofs.runs.Turns.{and-false, not-ended, is-ended, entry-byte}
use Rattle.ftd.proofs.runs.Heads.{front-short, front-whole}
use Rattle.std.specs.Prelude.{None}
use Rattle.ftd.specs.Types.{MaybeData, some_data}

module _ (l : List ℕ) (at : ℕ) where
  pub tag-short : length l - at < 2 + get_or l (at + 1) 0 → front tag (drop at l) ≡ 0
  unfolding tag
  tag-short h = front-short tag (drop at l) (rw (length-drop, get_or-drop) h)

  pub tag-whole : 2 + get_or l (at + 1) 0 ≤ length l - at → front tag (drop at l) ≡ 2 + get_or l (at + 1) 0
  unfolding tag
  tag-whole h = front-whole tag (drop at l) (rw (length-drop, get_or-drop) h) ∙ rw get_or-drop

pub some-tag : 0 < tag.head
unfolding tag
some-tag = omega arith

-- A tag of the right length is taken off a run.
good-behind : (e : List ℕ) (r : Run) (k m i j kind len : ℕ) (t : Bool) → get_or e 0 0 ≡ kind → get_or e 1 0 ≡ len
    → length_right kind len ≡ true
    → m ≡ count_kind 0x05 kind k → j ≡ count_kind 0x70 kind i → good_run (in_front e r) k i ≡ t → good_run r m j ≡ t
good-behind e r k m i j kind len t p q w c d g =
    let h : (ended r
    && ((length_right (get_or e 0 0) (get_or e 1 0) && all_right r.entries)
    && (leb (times 0x05 r.entries (count_kind 0x05 (get_or e 0 0) k)) 1
    && leb (times 0x70 r.entries (count_kind 0x70 (get_or e 0 0) i)) 1))) ≡ t =
    g in
    rw (c, d) (rw (p, q, w) at h)

module _ (l : List ℕ) (at n : ℕ) (e : n ≡ front tag (drop at l)) where
  -- A tag has its head.
  pub tag-head : (n ≡ 0 → ⊥) → 2 ≤ n
  unfolding tag
  tag-head z = entry-head tag some-tag l at n e z

  pub kind_at : (n ≡ 0 → ⊥) → get_or (take n (drop at l)) 0 0 ≡ get_or l at 0
  kind_at z = entry-byte l at n 0 (omega (arith, tag-head z)) ∙ rw add-zero

  length-at : (n ≡ 0 → ⊥) → get_or (take n (drop at l)) 1 0 ≡ get_or l (at + 1) 0
  length-at z = entry-byte l at n 1 (omega (arith, tag-head z))

  -- k trade dates and i places were seen before.
  module _ (k i : ℕ) (t : Bool) (inv : good_run (run_of tag (drop at l)) k i ≡ t) where
    pub tags-stop : n ≡ 0 → at < length l → false ≡ t
    tags-stop z h = rw (run-over tag some-tag l at n e z, not-ended l at h) at inv

    pub tags-end : n ≡ 0 → length l ≤ at → (leb k 1 && leb i 1) ≡ t
    tags-end z h = rw (run-over tag some-tag l at n e z, is-ended l at h) at inv

    pub tags-wrong : (n ≡ 0 → ⊥) → (r : Bool) → r ≡ length_right (get_or l at 0) (get_or l (at + 1) 0) → r ≡ false
        → false ≡ t
    tags-wrong z r q w =
        sym (and-false (ended (run_of tag (drop (at + n) l))))
        ∙ (rw (run-next tag some-tag l at n e z, kind_at z, length-at z, ← q, w) at inv)

    pub tags-turn : (m j : ℕ) → (n ≡ 0 → ⊥) → (r : Bool) → r ≡ length_right (get_or l at 0) (get_or l (at + 1) 0)
        → r ≡ true → m ≡ count_kind 0x05 (get_or l at 0) k → j ≡ count_kind 0x70 (get_or l at 0) i
        → good_run (run_of tag (drop (at + n) l)) m j ≡ t
    tags-turn m j z r q w d p =
        good-behind (take n (drop at l)) (run_of tag (drop (at + n) l)) k m i j (get_or l at 0) (get_or l (at + 1) 0) t
        (kind_at z) (length-at z) (sym q ∙ w) d p
        (rw (run-next tag some-tag l at n e z) at inv)

  module _ (kind : ℕ) (t : MaybeData) (inv : tag_in at (run_of tag (drop at l)).entries kind ≡ t) where
    pub find-over : n ≡ 0 → None ≡ t
    find-over z = rw (run-over tag some-tag l at n e z) at inv

    pub find-here : (n ≡ 0 → ⊥) → get_or l at 0 ≡ kind → some_data (at + 2) (n - 2) ≡ t
    find-here z h =
        rw (
          run-next tag some-tag l at n e z,
          kind_at z,
          eq-eqb (get_or l at 0) kind h,
          entry_length tag some-tag l at n
              e,
        ) at inv

    pub find-turn : (n ≡ 0 → ⊥) → (get_or l at 0 ≡ kind → ⊥)
        → tag_in (at + n) (run_of tag (drop (at + n) l)).entries kind ≡ t
    find-turn z h =
        rw (
          run-next tag some-tag l at n e z,
          kind_at z,
          ne_eqb (get_or l at 0) kind h,
          entry_length tag some-tag l at n
              e,
        ) at inv
