-- Content that has shape is whole fields, exactly as many as it has, and what one packet holds is one piece. Assumes
-- nothing.
use Prim.Native.Nat.{ℕ, ◌+◌, ◌≤◌}
use mathlib.Core.Path.{◌≡◌, refl, ◌∙◌}
use mathlib.Core.List.{List, [], ◌∷◌, ◌++◌, append_assoc, append-nil}
use mathlib.Core.Bool.{Bool, true, false, ◌&&◌}
use native.Mathlib.Omega.{arith}
use borrow.Author.Tests.{le-leb, eq-eqb}
use lib.ListN.{length, length-append}
use Rattle.ftd.specs.Bytes.{joined}
use Rattle.ftd.specs.Runs.{run_of, ended}
use Rattle.ftd.specs.Fields.{field, fields_of, exact_run, all_small, shaped}
use Rattle.ftd.specs.Chain.{Piece, no_fields, with_field, pack, pieces_of}
use Rattle.ftd.proofs.runs.Laws.{run-whole}
use Rattle.ftd.proofs.chain.Pieces.{shaped-facts}

pub shaped-ended : (c : List ℕ) (limit : ℕ) → shaped c limit ≡ true → ended (run_of field c) ≡ true
shaped-ended c limit h = go (ended (run_of field c)) (shaped-facts c limit (shaped c limit) refl h).1
  where
    go : (b : Bool) → (b && all_small (fields_of c)) ≡ true → b ≡ true
    go true e = refl
    go false e = e

pub exact-shaped : (c : List ℕ) (limit : ℕ) → shaped c limit ≡ true → exact_run c (length (fields_of c)) ≡ true
unfolding exact_run
exact-shaped c limit h = rw (shaped-ended c limit h, eq-eqb (length (fields_of c)) (length (fields_of c)) refl)

-- Fields that 4,080 bytes hold with the piece that is begun are taken into it.
all_in : (p : Piece) (fs : List (List ℕ)) → length p.bytes + length (joined fs) ≤ 4080
    → pack p fs ≡ record { count = p.count + length fs; bytes = p.bytes ++ joined fs } ∷ []
all_in p [] h =
    let n : p.count + 0 ≡ p.count = omega arith in
    rw (n, append-nil p.bytes)
all_in p (f ∷ fs) h =
    let k0 : length p.bytes + (length f + length (joined fs)) ≤ 4080 = rw length-append at h in
    let a : length p.bytes + length f ≤ 4080 = omega arith in
    let b : length (p.bytes ++ f) + length (joined fs) ≤ 4080 = rw length-append (omega arith) in
    let n : p.count + 1 + length fs ≡ p.count + length (f ∷ fs) = omega arith in
    rw (le-leb (length p.bytes + length f) 4080 a)
    (all_in (with_field p f) fs b ∙ rw (n, append_assoc p.bytes f (joined fs)))

pub one_piece : (c : List ℕ) → shaped c 4080 ≡ true
    → pieces_of c ≡ record { count = length (fields_of c); bytes = c } ∷ []
unfolding pieces_of
one_piece c h =
    let w : joined (fields_of c) ≡ c = run-whole field c (shaped-ended c 4080 h) in
    let n : length no_fields.bytes + length (joined (fields_of c)) ≤ 4080 =
    rw w (omega (arith, (shaped-facts c 4080 (shaped c 4080) refl h).0)) in
    let z : no_fields.count + length (fields_of c) ≡ length (fields_of c) = omega arith in
    all_in no_fields (fields_of c) n ∙ rw (w, z)
