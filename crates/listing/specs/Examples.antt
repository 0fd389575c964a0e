-- The paper's example, and no bytes at all (01, Lister).
use Rattle.std.specs.Prelude.{ℕ, ◌≡◌, List, [], ◌∷◌, ◌++◌, false}
use Rattle.listing.specs.Text.{tab, newline, heart, msg, end}
use Rattle.listing.specs.Lines.{listing_of}

unfoldable pub input : List ℕ
input =
    0 ∷ 2 ∷ 0 ∷ 0 ∷ 4 ∷ 0 ∷ 1 ∷ 0 ∷ 0 ∷ 16 ∷ 1 ∷ 0 ∷ 0 ∷ 32 ∷ 4 ∷ 83 ∷ 0 ∷ 1 ∷ 0 ∷ 0 ∷ 0 ∷ 1 ∷ 0 ∷ 0 ∷ 0 ∷ 0 ∷ []

-- 0 heart; 6 msg 00002004 S 1 1 0; 26 end
unfoldable pub output : List ℕ
output =
    (48 ∷ []) ++ tab ++ heart ++ newline
    ++ (54 ∷ []) ++ tab ++ msg ++ tab ++ (48 ∷ 48 ∷ 48 ∷ 48 ∷ 50 ∷ 48 ∷ 48 ∷ 52 ∷ []) ++ tab ++ (83 ∷ []) ++ tab
    ++ (49 ∷ []) ++ tab ++ (49 ∷ []) ++ tab ++ (48 ∷ []) ++ newline
    ++ (50 ∷ 54 ∷ []) ++ tab ++ end ++ newline

pub record Examples : Type 0 where
  pub paper : listing_of input false ≡ output
  -- 0 end
  pub empty : listing_of [] false ≡ (48 ∷ []) ++ tab ++ end ++ newline
