-- The letters of a name's number, one behind the other, and how many names are in use, over plain variables. Assumes
-- nothing.
use Prim.Native.Nat.{ℕ, suc, ◌+◌, ◌-◌, ◌/◌, ◌%◌, ◌<◌, ◌≤◌, min}
use mathlib.Core.Path.{◌≡◌, sym, ◌∙◌}
use mathlib.Core.List.{List, [], ◌∷◌}
use native.Mathlib.Omega.{arith}
use borrow.Author.Tests.{eq-eqb, ne_eqb}
use lib.ListN.{length, length-map, length-take, take}
use Rattle.flow.specs.declared.checkpoint.Checkpoint.{Checkpoint}
use Rattle.flow.specs.declared.checkpoint.Checkpoints.{Checkpoints}
use Rattle.flow.specs.Checkpoints.{used_names}
use Rattle.listing.specs.Text.{WroteText}
use Rattle.listing.proofs.Texts.{wrote-both, put-none}
use Rattle.play.specs.State.{letters_in, name_text}

-- ─── Letters ───

-- With the letters that are left behind those that are written, it is the name.
unfoldable pub Left : List ℕ → ℕ → ℕ → List ℕ → ℕ → ℕ → ℕ → Type 0
Left l at name out to rest i =
    (o : List ℕ) (e : ℕ) → WroteText out to (letters_in (8 - i) rest) o e → WroteText l at (name_text name) o e

pub letters-first : (l : List ℕ) (at name : ℕ) → Left l at name l at name 0
unfolding Left
letters-first l at name o e q = q

letter-next : (i rest : ℕ) → i < 8 → (rest % 256 ≡ 0 → ⊥)
    → letters_in (8 - i) rest ≡ (rest % 256 ∷ letters_in (8 - (i + 1)) (rest / 256))
unfolding letters_in
letter-next i rest h n = let e : 8 - i ≡ suc (8 - (i + 1)) = omega arith in rw (e, ne_eqb (rest % 256) 0 n)

letter-zero : (i rest : ℕ) → i < 8 → rest % 256 ≡ 0 → letters_in (8 - i) rest ≡ []
unfolding letters_in
letter-zero i rest h z = let e : 8 - i ≡ suc (8 - (i + 1)) = omega arith in rw (e, eq-eqb (rest % 256) 0 z)

letter-none : (i rest : ℕ) → 8 ≤ i → letters_in (8 - i) rest ≡ []
unfolding letters_in
letter-none i rest h = let e : 8 - i ≡ 0 = omega arith in rw e

module _ (l out : List ℕ) (at to name rest i : ℕ) (inv : Left l at name out to rest i) where
  ended : letters_in (8 - i) rest ≡ [] → WroteText l at (name_text name) out to
  unfolding Left
  ended e = inv out to (rw e (record { bytes = put-none out to; place = omega arith }))

  pub letters-over : 8 ≤ i → WroteText l at (name_text name) out to
  letters-over h = ended (letter-none i rest h)

module _ (l out : List ℕ) (at to name rest i x : ℕ) (e : x ≡ rest % 256) (inv : Left l at name out to rest i) where
  pub letters-turn : (p : List ℕ) (end : ℕ) → WroteText out to (x ∷ []) p end → (x ≡ 0 → ⊥) → i < 8 → to ≤ at + i
      → length out ≡ length l → at + 8 ≤ length l → Left l at name p end (rest / 256) (i + 1)
  unfolding Left
  letters-turn p end more n h g f fits o k q =
      inv o k (rw (letter-next i rest h (λ z. n (e ∙ z)), ← e) (wrote-both (omega arith) more q))

  pub letters-zero : x ≡ 0 → i < 8 → WroteText l at (name_text name) out to
  letters-zero z h = ended l out at to name rest i inv (letter-zero i rest h (sym e ∙ z))

-- ─── Names in use ───

module _ (c : Checkpoints) (h : length c.places ≡ 4) where
  used : length (used_names c) ≡ length (take c.count c.places)
  unfolding used_names
  used = length-map (take c.count c.places) (λ (x : Checkpoint). x.name)

  pub used-least : min c.count 4 ≡ length (used_names c)
  used-least = rw (used, length-take, h)
