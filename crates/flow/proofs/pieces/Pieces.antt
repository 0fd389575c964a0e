-- The first pieces of a content, and what a packet's letter says of its place. Assumes nothing.
use Prim.Native.Nat.{ℕ, suc, ◌+◌, ◌<◌, ◌≤◌}
use native.Mathlib.Omega.{arith}
use mathlib.Core.Path.{◌≡◌, refl, sym, ap, ◌∙◌}
use mathlib.Core.List.{List, [], ◌∷◌, ◌++◌, map, append-nil}
use mathlib.Core.Bool.{Bool, true, false}
use borrow.Author.Tests.{eqb-true, eqb-false}
use lib.ListN.{length, get_or, take, drop, take-append-drop, length-append, length-map, get_or-map}
use lib.Seq.{take-suc, take_all, take-append_seam}
use lib.Dec.{eqb}
use Rattle.ftd.specs.Bytes.{joined}
use Rattle.ftd.specs.Chain.{Piece, no_fields, pieces_of, chain_at}
use Rattle.ftd.specs.Fields.{shaped}
use Rattle.ftd.specs.Chain.Laws.{piece_at_place}
use Rattle.ftd.proofs.chain.Laws.{chain_laws, joined-append}
use Rattle.ftd.specs.declared.packet.Chain.TheVariants.{Single, First, Middle, Last}

-- ─── The first n pieces ───

abbrev pub first_pieces : List ℕ → ℕ → List ℕ
first_pieces c n = joined (take n (map (λ (p : Piece). p.bytes) (pieces_of c)))

module _ (c : List ℕ) where
  abbrev all : List (List ℕ)
  all = map (λ (p : Piece). p.bytes) (pieces_of c)

  pub first-suc : (j : ℕ) → j < length (pieces_of c) → first_pieces c (suc j) ≡ first_pieces c j ++ (piece_at_place c j).bytes
  first-suc j h =
      ap joined (take-suc all j [] (rw (length-map (pieces_of c) (λ (p : Piece). p.bytes)) h))
      ∙ joined-append (take j all) (get_or all j [] ∷ [])
      ∙ ap (λ (l : List ℕ). first_pieces c j ++ l)
      (append-nil (get_or all j []) ∙ get_or-map (λ (p : Piece). p.bytes) (pieces_of c) j no_fields)

  pub first-all : (limit n : ℕ) → shaped c limit ≡ true → n ≡ length (pieces_of c) → first_pieces c n ≡ c
  first-all limit n h e =
      ap joined (take_all n all (rw (length-map (pieces_of c) (λ (p : Piece). p.bytes)) (omega arith)))
      ∙ chain_laws.pieces-joined c limit h

  first_rest : (limit n : ℕ) → shaped c limit ≡ true → first_pieces c n ++ joined (drop n all) ≡ c
  first_rest limit n h =
      sym (joined-append (take n all) (drop n all)) ∙ ap joined (take-append-drop n all)
      ∙ chain_laws.pieces-joined c limit h

  pub first-inside : (limit n : ℕ) → shaped c limit ≡ true → length (first_pieces c n) ≤ length c
  first-inside limit n h = omega (arith, rw length-append at (ap length (first_rest limit n h)))

  -- Their number of bytes tells which they are.
  pub first-same : (limit n k : ℕ) → shaped c limit ≡ true → length (first_pieces c n) ≡ length (first_pieces c k)
      → first_pieces c n ≡ first_pieces c k
  first-same limit n k h q = sym (front n) ∙ ap (λ (m : ℕ). take m c) q ∙ front k
    where
      front : (m : ℕ) → take (length (first_pieces c m)) c ≡ first_pieces c m
      front m =
          ap (take (length (first_pieces c m))) (sym (first_rest limit m h))
          ∙ take-append_seam (first_pieces c m) (joined (drop m all))

-- ─── Letters ───

by-letter : (a b : Bool) → (chain_at a b ≡ Single → (a ≡ true) × (b ≡ true))
    × (chain_at a b ≡ First → (a ≡ true) × (b ≡ false))
    × (chain_at a b ≡ Middle → (a ≡ false) × (b ≡ false)) × (chain_at a b ≡ Last → (a ≡ false) × (b ≡ true))
by-letter true true = (λ q. (refl, refl), λ q. (cc, cc), λ q. (cc, cc), λ q. (cc, cc))
by-letter true false = (λ q. (cc, cc), λ q. (refl, refl), λ q. (cc, cc), λ q. (cc, cc))
by-letter false true = (λ q. (cc, cc), λ q. (cc, cc), λ q. (cc, cc), λ q. (refl, refl))
by-letter false false = (λ q. (cc, cc), λ q. (cc, cc), λ q. (refl, refl), λ q. (cc, cc))

module _ (j n : ℕ) where
  pub at-single : chain_at (eqb j 0) (eqb (j + 1) n) ≡ Single → (j ≡ 0) × (j + 1 ≡ n)
  at-single q = let x = (by-letter (eqb j 0) (eqb (j + 1) n)).0 q in (eqb-true j 0 x.0, eqb-true (j + 1) n x.1)

  pub at_first : chain_at (eqb j 0) (eqb (j + 1) n) ≡ First → (j ≡ 0) × (j + 1 ≡ n → ⊥)
  at_first q = let x = (by-letter (eqb j 0) (eqb (j + 1) n)).1 q in (eqb-true j 0 x.0, eqb-false (j + 1) n x.1)

  pub at-middle : chain_at (eqb j 0) (eqb (j + 1) n) ≡ Middle → (0 < j) × (j + 1 ≡ n → ⊥)
  at-middle q =
      let x = (by-letter (eqb j 0) (eqb (j + 1) n)).2 q in
      let y = eqb-false j 0 x.0 in
      (omega arith, eqb-false (j + 1) n x.1)

  pub at_last : chain_at (eqb j 0) (eqb (j + 1) n) ≡ Last → (0 < j) × (j + 1 ≡ n)
  at_last q =
      let x = (by-letter (eqb j 0) (eqb (j + 1) n)).3 q in
      let y = eqb-false j 0 x.0 in
      (omega arith, eqb-true (j + 1) n x.1)
