-- A name's place among those in use, and what stands there. Assumes nothing.
use Prim.Native.Nat.{ℕ, zero, suc, ◌+◌, ◌*◌, ◌<◌, ◌≤◌, ◌^◌}
use native.Mathlib.Omega.{arith}
use mathlib.Core.Path.{◌≡◌, refl, sym, ap, ◌∙◌}
use mathlib.Core.List.{List, [], ◌∷◌}
use mathlib.Core.Bool.{Bool, true, false}
use borrow.Author.Tests.{ltb-true, ltb-false, le-leb, lt-leb}
use borrow.Author.Rules.{scaled_Fits}
use mir.Val.{Fits}
use mir.Syntax.{w64}
use lib.ListN.{length, get_or}
use lib.Dec.{ltb}
use Rattle.ftd.specs.declared.refusal.Refusal.TheVariants.{WrongName, FifthName, UnknownName}
use Rattle.flow.specs.declared.receiver.Receiver.{Receiver}
use Rattle.flow.specs.declared.checkpoint.Checkpoint.{Checkpoint}
use Rattle.flow.specs.declared.checkpoint.Checkpoints.{Checkpoints}
use Rattle.flow.specs.Types.{NamePlace}
use Rattle.flow.specs.declared.checkpoint.KeepStep.{KeepStep}
use Rattle.flow.specs.Ends.{◌when◌else◌, member, index_of, fresh_receiver}
use Rattle.flow.specs.Checkpoints.{wrong_name, name_code, checkpoint, used_names, is_used, checkpoint_of, with_checkpoint}
use Rattle.flow.specs.Checkpoints.{keep_of, restored, restore_of}
use Rattle.flow.specs.Promises.{Keeps, Restores}
use Rattle.flow.specs.CheckpointHelpers.{FindsName, placed_name, kept_new}
use Rattle.flow.proofs.rewind.Lookups.{index-absent, used-length}
use Rattle.std.specs.Prelude.{Some, None, Ok, Err}

-- The number of a name.
abbrev pub name_in : Checkpoint → ℕ
name_in x = x.name

-- What `find` answered, where it is a place.
pub name-at : (c : Checkpoints) (n : ℕ) (f : NamePlace) (i : ℕ) → FindsName c n f → f ≡ Some i → FindsName c n (Some i)
name-at c n f i g u = rw u at g

pub name-inside : (c : Checkpoints) (n : ℕ) (f : NamePlace) (i : ℕ) → FindsName c n f → f ≡ Some i → i < 4
name-inside c n f i g u = (name-at c n f i g u).2

pub name-scaled : (c : Checkpoints) (n : ℕ) (f : NamePlace) (i size : ℕ) → FindsName c n f → f ≡ Some i
    → 4 * size < 2 ^ 63 → Fits w64 (i * size)
name-scaled c n f i size g u q = scaled_Fits i 4 size (name-inside c n f i g u) q

-- Within a list no default counts.
get_d-inside : {A : Type 0} (l : List A) (i : ℕ) (d e : A) → i < length l → get_or l i d ≡ get_or l i e
get_d-inside [] i d e h = absurd (omega arith)
get_d-inside (x ∷ l) zero d e h = refl
get_d-inside (x ∷ l) (suc i) d e h = get_d-inside l i d e (omega arith)

-- ─── Keeping and return, by what their tests told ───

-- `wrong` is what row 31 told of the name, `code` its number, `f` where it stands.
module _ (c : Checkpoints) (e : Receiver) (name : List ℕ) (wrong : Bool) (w : wrong ≡ wrong_name name) where
  pub keep-wrong : wrong ≡ true → Keeps c e name (record { checkpoints = c; answer = Err WrongName })
  unfolding keep_of
  keep-wrong t =
      let h = sym w ∙ t in
      rw h (refl, (refl, refl))

  pub restore-wrong : wrong ≡ true → Restores c e name (record { end = e; answer = Err WrongName })
  unfolding restore_of
  restore-wrong t =
      let h = sym w ∙ t in
      rw h (refl, (refl, refl))

  module _ (good : wrong ≡ false) (code : ℕ) (n : code ≡ name_code name) (f : NamePlace) (g : FindsName c code f) where
    -- Not in use.
    module _ (u : f ≡ None) where
      unused : is_used c name ≡ false
      unfolding is_used
      unused = ap (λ (k : ℕ). member k (used_names c)) (sym n) ∙ (rw u at g)

      behind : length c.places ≡ 4 → c.count < 4 → index_of (name_code name) (used_names c) ≡ c.count
      unfolding is_used
      behind h few =
          index-absent (name_code name) (used_names c) unused
          ∙ used-length c (record { places = h; few = omega arith })

      new : length c.places ≡ 4 → c.count < 4
          → Keeps c e name
          (record { checkpoints = placed_name c (c.count + 1) c.count code e.kept; answer = (Ok tt) })
      unfolding keep_of with_checkpoint
      new h few = rw (sym w ∙ good, unused, lt-leb 4 c.count few, behind h few, n) (refl, (refl, refl))

      full : 4 ≤ c.count → Keeps c e name (record { checkpoints = c; answer = Err FifthName })
      unfolding keep_of
      full many = rw (sym w ∙ good, unused, le-leb 4 c.count many) (refl, (refl, refl))

      pub keep-unused : length c.places ≡ 4 → (r : KeepStep) → r ≡ kept_new c code e.kept → Keeps c e name r
      keep-unused h r q = rw q (go (ltb c.count 4) refl)
        where
          go : (b : Bool) → ltb c.count 4 ≡ b
              → Keeps c e name
              (record { checkpoints = placed_name c (c.count + 1) c.count code e.kept; answer = (Ok tt) }
              when b else record { checkpoints = c; answer = Err FifthName })
          go true z = new h (ltb-true c.count 4 z)
          go false z = full (ltb-false c.count 4 z)

      pub restore-unused : Restores c e name (record { end = e; answer = Err UnknownName })
      unfolding restore_of
      restore-unused = rw (sym w ∙ good, unused) (refl, (refl, refl))

    -- In use, at a place.
    module _ (i : ℕ) (u : f ≡ Some i) where
      used : is_used c name ≡ true
      unfolding is_used
      used = ap (λ (k : ℕ). member k (used_names c)) (sym n) ∙ (name-at c code f i g u).0

      place : index_of (name_code name) (used_names c) ≡ i
      place = ap (λ (k : ℕ). index_of k (used_names c)) (sym n) ∙ sym (name-at c code f i g u).1

      pub keep-used : (v : Checkpoints) → v ≡ placed_name c c.count i code e.kept
          → Keeps c e name (record { checkpoints = v; answer = (Ok tt) })
      unfolding keep_of with_checkpoint
      keep-used v q = rw (q, sym w ∙ good, used, place, n) (refl, (refl, refl))

      pub restore-used : length c.places ≡ 4 → (d : Checkpoint) (v : Receiver)
          → v ≡ restored e (get_or c.places i d).kept
          → Restores c e name (record { end = v; answer = (Ok tt) })
      unfolding restore_of checkpoint_of
      restore-used h d v q =
          let inside = name-inside c code f i g u in
          let same = get_d-inside c.places i d (checkpoint 0 fresh_receiver.kept) (omega arith) in
          rw (q, same, sym w ∙ good, used, ← place) (refl, (refl, refl))
