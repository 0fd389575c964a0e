-- What stands under a name after something was kept. Assumes nothing.
use Prim.Native.Nat.{ℕ, suc, ◌+◌, ◌<◌, ◌≤◌}
use native.Mathlib.Omega.{arith}
use mathlib.Core.Path.{◌≡◌, refl, sym, ap, ◌∙◌}
use mathlib.Core.List.{List, [], ◌∷◌, ◌++◌, map}
use mathlib.Core.Bool.{Bool, true, false, cond, ◌||◌}
use borrow.Author.Tests.{eq-eqb, ne_eqb}
use lib.ListN.{length, get_or, take, length-set, length-map}
use lib.Seq.{get_or-set_same, get_or-set_other, length-take-le, take-suc-set}
use lib.Dec.{eqb}
use Rattle.flow.specs.declared.receiver.Kept.{Kept}
use Rattle.flow.specs.declared.checkpoint.Checkpoint.{Checkpoint}
use Rattle.flow.specs.declared.checkpoint.Checkpoints.{Checkpoints}
use Rattle.flow.specs.Ends.{member, index_of, fresh_receiver}
use Rattle.flow.specs.Checkpoints.{name_code, checkpoint, fresh_checkpoints, used_names, is_used, checkpoint_of}
use Rattle.flow.specs.Checkpoints.{with_checkpoint}
use Rattle.flow.proofs.common.Bools.{clash}
use Rattle.flow.proofs.ends.Lookups.{index-inside, index-differs, numbers-set}

-- ─── Numbers in a list ───

pub index-absent : (s : ℕ) (l : List ℕ) → member s l ≡ false → index_of s l ≡ length l
index-absent s [] h = refl
index-absent s (x ∷ l) h = go (eqb x s) h (index-absent s l)
  where
    go : (b : Bool) → (b || member s l) ≡ false → (member s l ≡ false → index_of s l ≡ length l)
        → cond b 0 (suc (index_of s l)) ≡ suc (length l)
    go true h f = clash _ refl h
    go false h f = ap suc (f h)

pub member-last : (s : ℕ) (l : List ℕ) (x : ℕ) → member s (l ++ (x ∷ [])) ≡ member s l || eqb x s
member-last s [] x = go (eqb x s)
  where
    go : (b : Bool) → b || false ≡ b
    go true = refl
    go false = refl
member-last s (y ∷ l) x = go (eqb y s) (member-last s l x)
  where
    go : (b : Bool) → member s (l ++ (x ∷ [])) ≡ member s l || eqb x s
        → b || member s (l ++ (x ∷ [])) ≡ (b || member s l) || eqb x s
    go true e = refl
    go false e = e

pub index-before : (s : ℕ) (l : List ℕ) (x : ℕ) → member s l ≡ true → index_of s (l ++ (x ∷ [])) ≡ index_of s l
index-before s [] x h = clash _ h refl
index-before s (y ∷ l) x h = go (eqb y s) h (index-before s l x)
  where
    go : (b : Bool) → (b || member s l) ≡ true → (member s l ≡ true → index_of s (l ++ (x ∷ [])) ≡ index_of s l)
        → cond b 0 (suc (index_of s (l ++ (x ∷ [])))) ≡ cond b 0 (suc (index_of s l))
    go true h f = refl
    go false h f = ap suc (f h)

pub index-last : (s : ℕ) (l : List ℕ) → member s l ≡ false → index_of s (l ++ (s ∷ [])) ≡ length l
index-last s [] h = rw (eq-eqb s s refl)
index-last s (y ∷ l) h = go (eqb y s) h (index-last s l)
  where
    go : (b : Bool) → (b || member s l) ≡ false → (member s l ≡ false → index_of s (l ++ (s ∷ [])) ≡ length l)
        → cond b 0 (suc (index_of s (l ++ (s ∷ [])))) ≡ suc (length l)
    go true h f = clash _ refl h
    go false h f = ap suc (f h)

map_last : {A : Type 0} (f : A → ℕ) (l : List A) (y : A) → map f (l ++ (y ∷ [])) ≡ map f l ++ (f y ∷ [])
map_last f [] y = refl
map_last f (x ∷ l) y = ap (λ (r : List ℕ). f x ∷ r) (map_last f l y)

-- ─── The checkpoints ───

-- Four places, as in every value of the type, and no more are in use.
pub record Four (c : Checkpoints) : Type 0 where
  pub places : length c.places ≡ 4
  pub few : c.count ≤ 4

pub fresh-four : Four fresh_checkpoints
unfolding fresh_checkpoints
fresh-four = record { places = refl; few = omega arith }

pub fresh-unused : (name : List ℕ) → is_used fresh_checkpoints name ≡ false
unfolding fresh_checkpoints is_used used_names
fresh-unused name = refl

abbrev name_in : Checkpoint → ℕ
name_in x = x.name

pub used-length : (c : Checkpoints) → Four c → length (used_names c) ≡ c.count
unfolding used_names
used-length c h =
    length-map (take c.count c.places) name_in
    ∙ length-take-le c.count c.places (omega (arith, h.few, h.places))

module _ (c : Checkpoints) (h : Four c) (name : List ℕ) (kept : Kept) where
  abbrev after : Checkpoints
  after = with_checkpoint c name kept

  abbrev code : ℕ
  code = name_code name

  -- ─── A name in use ───

  module _ (used : is_used c name ≡ true) where
    pub names-again : used_names after ≡ used_names c
    unfolding with_checkpoint used_names is_used
    names-again = rw used (numbers-set name_in c.count c.places code (checkpoint code kept) refl used)

    inside-again : index_of code (used_names c) < length c.places
    unfolding is_used
    inside-again =
        let a = index-inside code (used_names c) used in
        let b = used-length c h in
        omega (arith, h.few, h.places)

    here-again : checkpoint_of after name ≡ kept
    unfolding checkpoint_of with_checkpoint
    here-again =
        ap (λ (l : List ℕ). (get_or after.places (index_of code l) (checkpoint 0 fresh_receiver.kept)).kept)
        names-again
        ∙ ap (λ (x : Checkpoint). x.kept)
        (get_or-set_same c.places (index_of code (used_names c)) (checkpoint code kept)
        (checkpoint 0 fresh_receiver.kept) inside-again)

    module _ (n : List ℕ) (other : name_code n ≡ code → ⊥) where
      used-again : is_used after n ≡ is_used c n
      unfolding is_used
      used-again = ap (member (name_code n)) names-again

      other-again : checkpoint_of after n ≡ checkpoint_of c n
      unfolding checkpoint_of with_checkpoint is_used
      other-again =
          ap (λ (l : List ℕ). (get_or after.places (index_of (name_code n) l) (checkpoint 0 fresh_receiver.kept)).kept)
          names-again
          ∙ ap (λ (x : Checkpoint). x.kept)
          (get_or-set_other c.places (index_of code (used_names c)) (index_of (name_code n) (used_names c))
          (checkpoint code kept) (checkpoint 0 fresh_receiver.kept)
          (index-differs (name_code n) code (used_names c) used other))

    pub four-again : Four after
    unfolding with_checkpoint
    four-again =
        record {
          places = length-set c.places (index_of code (used_names c)) (checkpoint code kept) ∙ h.places;
          few = rw used h.few;
        }

  -- ─── A new name ───

  module _ (unused : is_used c name ≡ false) (room : c.count < 4) where
    at-end : index_of code (used_names c) ≡ c.count
    unfolding is_used
    at-end = index-absent code (used_names c) unused ∙ used-length c h

    pub names_more : used_names after ≡ used_names c ++ (code ∷ [])
    unfolding with_checkpoint used_names
    names_more =
        let one : c.count + 1 ≡ suc c.count = omega arith in
        rw (unused, at-end, one)
        (ap (map name_in) (take-suc-set c.places c.count (checkpoint code kept) (omega (arith, h.places, room)))
        ∙ map_last name_in (take c.count c.places) (checkpoint code kept))

    here-more : checkpoint_of after name ≡ kept
    unfolding checkpoint_of with_checkpoint is_used
    here-more =
        ap (λ (l : List ℕ). (get_or after.places (index_of code l) (checkpoint 0 fresh_receiver.kept)).kept)
        names_more
        ∙ ap (λ (i : ℕ). (get_or after.places i (checkpoint 0 fresh_receiver.kept)).kept)
        (index-last code (used_names c) unused ∙ sym (index-absent code (used_names c) unused))
        ∙ ap (λ (x : Checkpoint). x.kept)
        (get_or-set_same c.places (index_of code (used_names c)) (checkpoint code kept)
        (checkpoint 0 fresh_receiver.kept) (omega (arith, at-end, h.places, room)))

    module _ (n : List ℕ) (other : name_code n ≡ code → ⊥) where
      used-more : is_used after n ≡ is_used c n
      unfolding is_used
      used-more =
          ap (member (name_code n)) names_more
          ∙ member-last (name_code n) (used_names c) code
          ∙ rw (ne_eqb code (name_code n) (λ e. other (sym e))) (neither (member (name_code n) (used_names c)))
        where
          neither : (b : Bool) → b || false ≡ b
          neither true = refl
          neither false = refl

      other-more : is_used c n ≡ true → checkpoint_of after n ≡ checkpoint_of c n
      unfolding checkpoint_of with_checkpoint is_used
      other-more u =
          ap (λ (l : List ℕ). (get_or after.places (index_of (name_code n) l) (checkpoint 0 fresh_receiver.kept)).kept)
          names_more
          ∙ ap (λ (i : ℕ). (get_or after.places i (checkpoint 0 fresh_receiver.kept)).kept)
          (index-before (name_code n) (used_names c) code u)
          ∙ ap (λ (x : Checkpoint). x.kept)
          (get_or-set_other c.places (index_of code (used_names c)) (index_of (name_code n) (used_names c))
          (checkpoint code kept) (checkpoint 0 fresh_receiver.kept)
          (λ e. let a = index-inside (name_code n) (used_names c) u in
          let b = index-absent code (used_names c) unused in
          omega (arith, e)))

    pub four-more : Four after
    unfolding with_checkpoint
    four-more =
        record {
          places = length-set c.places (index_of code (used_names c)) (checkpoint code kept) ∙ h.places;
          few = rw unused (omega arith);
        }

-- ─── Either ───

-- Room for a name: it is in use, or fewer than four are.
pub record Kept-as (c : Checkpoints) (name : List ℕ) (kept : Kept) (after : Checkpoints) : Type 0 where
  pub four : Four after
  pub here : checkpoint_of after name ≡ kept
  pub used : (n : List ℕ) → (name_code n ≡ name_code name → ⊥) → is_used after n ≡ is_used c n
  pub others : (n : List ℕ) → (name_code n ≡ name_code name → ⊥) → is_used c n ≡ true
      → checkpoint_of after n ≡ checkpoint_of c n

pub with-kept : (c : Checkpoints) → Four c → (name : List ℕ) (kept : Kept) → (is_used c name ≡ false → c.count < 4)
    → Kept-as c name kept (with_checkpoint c name kept)
with-kept c h name kept room = go (is_used c name) refl
  where
    go : (b : Bool) → is_used c name ≡ b → Kept-as c name kept (with_checkpoint c name kept)
    go true q =
        record {
          four = four-again c h name kept q;
          here = here-again c h name kept q;
          used = used-again c h name kept q;
          others = λ n o u. other-again c h name kept q n o;
        }
    go false q =
        record {
          four = four-more c h name kept q (room q);
          here = here-more c h name kept q (room q);
          used = used-more c h name kept q (room q);
          others = other-more c h name kept q (room q);
        }
