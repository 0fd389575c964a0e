-- The call that a word names in a table of words and calls: that of its first row with the word. Assumes nothing.
use Prim.Native.Nat.{ℕ, zero, suc, ◌+◌, ◌<◌, ◌≤◌}
use native.Mathlib.Omega.{arith}
use native.Mathlib.Numerals.{unary_clauses}
use mathlib.Core.Path.{◌≡◌, refl}
use mathlib.Core.List.{List, [], ◌∷◌}
use lib.ListN.{length, get_or, drop}
use Rattle.std.proofs.Common.{Bor}
use Rattle.std.specs.Prelude.{true, false, cond}
use Rattle.play.specs.declared.calls.Verb.{Verb}
use Rattle.play.specs.declared.calls.Verb.TheVariants.{Unknown}
use Rattle.play.specs.Words.{same_word}

abbrev Row : Type 0
Row = Bor (List ℕ) × Verb

unfoldable pub named : List Row → List ℕ → Verb
named [] word = Unknown
named (row ∷ rows) word = cond (same_word word row.0.now) row.1 (named rows word)

pub named-here : (rows : List Row) (i : ℕ) (d : Row) (word : List ℕ) → i < length rows
    → true ≡ same_word word (get_or rows i d).0.now → (get_or rows i d).1 ≡ named (drop i rows) word
unfolding named
named-here [] i d word h e = absurd (omega arith)
named-here (row ∷ rows) zero d word h e = rw (← e) refl
named-here (row ∷ rows) (suc i) d word h e = named-here rows i d word (omega arith) e

behind : (rows : List Row) (i : ℕ) (d : Row) (word : List ℕ) → i < length rows
    → false ≡ same_word word (get_or rows i d).0.now → named (drop (suc i) rows) word ≡ named (drop i rows) word
unfolding named
behind [] i d word h e = absurd (omega arith)
behind (row ∷ rows) zero d word h e = rw (← e) refl
behind (row ∷ rows) (suc i) d word h e = behind rows i d word (omega arith) e

pub named-behind : (rows : List Row) (i : ℕ) (d : Row) (word : List ℕ) → i < length rows
    → false ≡ same_word word (get_or rows i d).0.now → named (drop (i + 1) rows) word ≡ named (drop i rows) word
named-behind rows i d word h e = simp unary_clauses (behind rows i d word h e)

pub named-nowhere : (rows : List Row) (i : ℕ) (word : List ℕ) → length rows ≤ i → Unknown ≡ named (drop i rows) word
unfolding named
named-nowhere [] zero word h = refl
named-nowhere [] (suc i) word h = refl
named-nowhere (row ∷ rows) zero word h = absurd (omega arith)
named-nowhere (row ∷ rows) (suc i) word h = named-nowhere rows i word (omega arith)
