-- The tags of an extension as the code walks over them, one by one. Assumes nothing.
use Prim.Native.Nat.{ℕ, zero, suc, ◌+◌, ◌-◌, ◌≤◌}
use mathlib.Core.Path.{◌≡◌, refl, ap}
use mathlib.Core.List.{List, [], ◌∷◌}
use mathlib.Core.Bool.{Bool, true, false, cond}
use native.Mathlib.Omega.{arith}
use lib.ListN.{length, get_or, take, drop, length-take, length-drop}
use lib.Dec.{eqb}
use Rattle.std.specs.List.{find}
use Rattle.std.specs.Prelude.{Option, Some, None, MatchOption}
use Rattle.std.specs.Option.{IsSomeAnd}
use Rattle.ftd.specs.Runs.{front, run_of, run_in, cut_off}
use Rattle.ftd.specs.Tags.{tag, tags_of, tag_kind, tag_in, tag_place, TagInside}
use Rattle.ftd.specs.Tags.Helpers.{places, tags_from}
use Rattle.ftd.specs.Types.{MaybeData, some_data}
use Rattle.ftd.specs.declared.packet.Span.{Span}
use Rattle.ftd.specs.declared.tags.TagPlace.{TagPlace}
use Rattle.ftd.proofs.runs.Laws.{run-over, run-next, entry_length, front-inside}
use Rattle.ftd.proofs.tags.Turns.{some-tag, tag-head, kind_at}

module _ (l : List ℕ) (at n : ℕ) (e : n ≡ front tag (drop at l)) where
  pub walk-over : n ≡ 0 → tags_from l at ≡ []
  unfolding tags_from
  walk-over z = rw (run-over tag some-tag l at n e z)

  pub walk-next : (n ≡ 0 → ⊥) → (found : ℕ) → found ≡ get_or l at 0
      → tags_from l at ≡ record { kind = found; start = at + 2; len = n - 2 } ∷ tags_from l (at + n)
  unfolding tags_from
  walk-next z found q =
      rw (
        q,
        run-next tag some-tag l at n e z,
        entry_length tag some-tag l at n e,
        kind_at l at n e z,
      )

abbrev pub has_kind : ℕ → TagPlace → Bool
has_kind kind p = eqb p.kind kind

-- Where the data of a tag lies that was found.
abbrev pub data_of : Option TagPlace → MaybeData
data_of None = None
data_of (Some t) = some_data t.start t.len

pub mapped : {Q : TagPlace → Span → Type 0} (o : Option TagPlace) (r : MaybeData)
    → MatchOption o (r ≡ None) (λ t. IsSomeAnd r (Q t))
    → ((t : TagPlace) (s : Span) → Q t s → s ≡ record { start = t.start; len = t.len })
    → r ≡ data_of o
mapped None r k same = k
mapped (Some t) None k same = absurd k
mapped (Some t) (Some s) k same = ap Some (same t s k)

module _ (kind : ℕ) where
  places-first : (ts : List (List ℕ)) (at : ℕ) → data_of (find (has_kind kind) (places at ts)) ≡ tag_in at ts kind
  places-first [] at = refl
  places-first (t ∷ ts) at = go (eqb (tag_kind t) kind) (places-first ts (at + length t))
    where
      go : (b : Bool)
          → data_of (find (has_kind kind) (places (at + length t) ts)) ≡ tag_in (at + length t) ts kind
          → data_of
          (cond b (Some (record { kind = tag_kind t; start = at + 2; len = length t - 2 }))
          (find (has_kind kind) (places (at + length t) ts)))
          ≡ cond b (some_data (at + 2) (length t - 2)) (tag_in (at + length t) ts kind)
      go true ih = refl
      go false ih = ih

  pub walk-first : (extension : List ℕ)
      → data_of (find (has_kind kind) (tags_from extension 0)) ≡ tag_place extension kind
  unfolding tags_from tag_place
  walk-first extension = places-first (tags_of extension) 0

-- Each lies inside.
abbrev AllInside : ℕ → List TagPlace → Type 0
AllInside n [] = Unit
AllInside n (p ∷ ps) = (p.start + p.len ≤ n) × AllInside n ps

inside-in : (most : ℕ) (l : List ℕ) (at n : ℕ) → at + length l ≤ n → AllInside n (places at (run_in tag most l).entries)
inside-in zero l at n h = tt
inside-in (suc most) l at n h = go (front tag l) refl (λ r b k. inside-in most r b n k)
  where
    go : (w : ℕ) → w ≡ front tag l
        → ((r : List ℕ) (b : ℕ) → b + length r ≤ n → AllInside n (places b (run_in tag most r).entries))
        → AllInside n (places at (cut_off (run_in tag most) l w).entries)
    go zero e more = tt
    go (suc w) e more =
        let head : 2 ≤ suc w = tag-head l 0 (suc w) e (λ z. absurd (omega (arith, z))) in
        let whole : suc w ≤ length l = rw (← e) at (front-inside tag l) in
        let long : length (take (suc w) l) ≡ suc w = rw length-take (omega arith) in
        let left : length (drop (suc w) l) ≡ length l - suc w = length-drop (suc w) l in
        (omega arith, more (drop (suc w) l) (at + length (take (suc w) l)) (omega arith))

find-inside : (extension : List ℕ) (test : TagPlace → Bool) (ps : List TagPlace) → AllInside (length extension) ps
    → TagInside extension (data_of (find test ps))
find-inside extension test [] h = tt
find-inside extension test (p ∷ ps) h = go (test p) (find-inside extension test ps h.1)
  where
    go : (b : Bool) → TagInside extension (data_of (find test ps))
        → TagInside extension (data_of (cond b (Some p) (find test ps)))
    go true k = h.0
    go false k = k

pub walk-inside : (l : List ℕ) (test : TagPlace → Bool) → TagInside l (data_of (find test (tags_from l 0)))
unfolding tags_from run_of
walk-inside l test = find-inside l test (tags_from l 0) (inside-in (length l) l 0 (length l) (omega arith))
