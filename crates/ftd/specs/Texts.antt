-- The value of a String (01, "Typed items"): its bytes without trailing spaces; and the bytes of a value, padded with
-- spaces.
use Rattle.std.specs.Prelude.{ℕ, ◌-◌, List, [], ◌∷◌, ◌++◌, Bool, cond, ◌&&◌, length, replicate, leb, eqb}
use Rattle.ftd.specs.Values.{every, is_text, is_space}
use Rattle.ftd.specs.Types.{Text}
use Rattle.std.specs.Prelude.{Some, None}

abbrev pub trimmed : List ℕ → List ℕ
trimmed [] = []
trimmed (x ∷ xs) = cond (every is_space (x ∷ xs)) [] (x ∷ trimmed xs)

-- The value is the first of the bytes, as many as stand before trailing spaces; none where a byte is none of a String.
unfoldable pub text_value : List ℕ → Text
text_value l = cond (every is_text l) (Some (length (trimmed l))) None

unfoldable pub text_bytes : ℕ → List ℕ → List ℕ
text_bytes width value = value ++ replicate (width - length value) 0x20

-- A value is bytes of a String, does not end with a space, and is no longer than the item.
unfoldable pub text_fits : ℕ → List ℕ → Bool
text_fits width value = leb (length value) width && (every is_text value && eqb (length (trimmed value)) (length value))
