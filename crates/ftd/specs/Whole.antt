-- Values of Char, Word and Int (01, "Typed items"; Table 6): binary, unsigned, high byte first.
use Rattle.std.specs.Prelude.{ℕ, List, Bool, true, false, cond, ◌&&◌, length, get_or, leb, ltb, eqb}
use Rattle.ftd.specs.Bytes.{be16_of, be32_of}
use Rattle.ftd.specs.Table.{char_kind, first_listed, last_listed}
use Rattle.ftd.specs.Values.{is_listed}
use Rattle.ftd.specs.Types.{Whole}
use Rattle.std.specs.Prelude.{Some, None}

-- A byte is a value of a Char: any without an enumeration; with one, those that it lists and 0.
unfoldable pub char_fits : ℕ → ℕ → Bool
char_fits kind b =
    cond (eqb kind char_kind) true
    (cond (ltb kind first_listed) false (cond (leb kind last_listed) (is_listed kind b) false))

unfoldable pub char_value : ℕ → List ℕ → Whole
char_value kind l = cond (eqb (length l) 1 && char_fits kind (get_or l 0 0)) (Some (get_or l 0 0)) None

unfoldable pub word_value : List ℕ → Whole
word_value l = cond (eqb (length l) 2) (Some (be16_of l 0)) None

unfoldable pub int_value : List ℕ → Whole
int_value l = cond (eqb (length l) 4) (Some (be32_of l 0)) None
