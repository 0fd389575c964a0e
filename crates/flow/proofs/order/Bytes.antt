-- Two entries by TID and content. Over plain variables. Assumes nothing.
use Prim.Native.Nat.{ℕ, ◌-◌}
use mathlib.Core.Path.{◌≡◌, refl, ◌∙◌}
use mathlib.Core.List.{List, [], ◌∷◌}
use mathlib.Core.Bool.{Bool}
use borrow.Author.Tests.{eq-eqb}
use lib.ListN.{length, take, drop}
use lib.Pointwise.{pointwise}
use Rattle.std.specs.Prelude.{nat_eq}
use Rattle.ftd.specs.Bench.{same}
use Rattle.ftd.specs.Bytes.{be32_of}
use Rattle.flow.specs.Order.{message_of, same_message}
use Rattle.flow.proofs.log.Heads.{part_end}

-- The slices' `==`.
same-bytes : (a b : List ℕ) → pointwise nat_eq a b ≡ same a b
same-bytes [] [] = refl
same-bytes [] (y ∷ b) = refl
same-bytes (x ∷ a) [] = refl
same-bytes (x ∷ a) (y ∷ b) = rw (same-bytes a b)

module _ (x y : List ℕ) (v w : ℕ) (a : v ≡ be32_of x 4) (b : w ≡ be32_of y 4) where
  pub same-tid : v ≡ w → (r : Bool)
      → r ≡ pointwise nat_eq (take (length x - 16) (drop 16 x)) (take (length y - 16) (drop 16 y))
      → r ≡ same_message (message_of x) (message_of y)
  same-tid e r q =
      rw (← a, ← b, eq-eqb v w e) ((rw (part_end 16 x, part_end 16 y) at q) ∙ same-bytes (drop 16 x) (drop 16 y))
