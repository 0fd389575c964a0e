-- Fields as pairs of tag and text (02, No. 12: each field's order and text kept): the pairs of a run, and their bytes.
use Rattle.std.specs.Prelude.{ℕ, zero, suc, ◌+◌, ◌*◌, ◌-◌, ◌/◌, ◌≤◌, ◌≡◌, ◌⊎◌, List, [], ◌∷◌, ◌++◌, true, cond, length, take, drop, ltb, eqb}
use Rattle.std.proofs.Math.Option.{Option, none, some}
use Rattle.ftd.specs.Bytes.{part}
use Rattle.ftd.specs.declared.packet.Span.{Span}
use Rattle.fix.specs.Text.{letter}
use Rattle.fix.specs.Fields.{Given, fields_of, is_whole, place_of, text_of, first_of}
use Rattle.fix.specs.Frame.{frame_of}
use Rattle.fix.specs.Write.{write_answer, write_output}
use Rattle.fix.specs.RoundTrips.{text_at, ReadsAs}
use Rattle.std.specs.Prelude.{Some, None, Ok}
use Rattle.fix.specs.Types.{MaybeFront, some_frame}

pub record Pair : Type 0 where
  pub tag : ℕ
  pub text : List ℕ

abbrev pub pair : ℕ → List ℕ → Pair
pair tag text = record { tag = tag; text = text }

-- The pairs of a run, in order.
abbrev pub pairs_in : List Given → List Pair
pairs_in [] = []
pairs_in (f ∷ fs) = pair f.tag f.text ∷ pairs_in fs

abbrev pub pairs_of : List ℕ → List Pair
pairs_of run = pairs_in (fields_of run)

-- ─── Their bytes ───

-- A number in digits, without zeros in front; it has fewer of them than `most`.
abbrev pub decimal_in : ℕ → ℕ → List ℕ
decimal_in zero n = []
decimal_in (suc most) n = cond (ltb n 10) (letter n ∷ []) (decimal_in most (n / 10) ++ (letter n ∷ []))

unfoldable pub decimal : ℕ → List ℕ
decimal n = decimal_in (suc n) n

-- The tag, `=`, the text, SOH; one pair behind the other.
abbrev pub bytes_of : List Pair → List ℕ
bytes_of [] = []
bytes_of (p ∷ ps) = decimal p.tag ++ (61 ∷ (p.text ++ (1 ∷ bytes_of ps)))

-- ─── Texts that are numbers: 1 to 9 digits; zeros in front are allowed ───

abbrev pub AllDigits : List ℕ → Type 0
AllDigits [] = Unit
AllDigits (c ∷ l) = (48 ≤ c) × (c ≤ 57) × AllDigits l

-- The value of digits behind those of n.
abbrev pub value_from : ℕ → List ℕ → ℕ
value_from n [] = n
value_from n (c ∷ l) = value_from (n * 10 + (c - 48)) l

pub record IsNumber (text : List ℕ) (n : ℕ) : Type 0 where
  pub some : 1 ≤ length text
  pub few : length text ≤ 9
  pub digits : AllDigits text
  pub value : value_from 0 text ≡ n

-- ─── Pairs that can be written ───

-- A length tag and its data tag (002, 5.1.5): Signature, SecureData, RawData, EncodedText.
abbrev pub Measures : ℕ → ℕ → Type 0
Measures by tag =
    ((by ≡ 93) × (tag ≡ 89)) ⊎ (((by ≡ 90) × (tag ≡ 91)) ⊎ (((by ≡ 95) × (tag ≡ 96)) ⊎ ((by ≡ 354) × (tag ≡ 355))))

abbrev pub NoData : ℕ → Type 0
NoData tag = (tag ≡ 89 → ⊥) × (tag ≡ 91 → ⊥) × (tag ≡ 96 → ⊥) × (tag ≡ 355 → ⊥)

abbrev pub NoSoh : List ℕ → Type 0
NoSoh [] = Unit
NoSoh (c ∷ l) = (c ≡ 1 → ⊥) × NoSoh l

-- A text without SOH; or the data of a data tag, of the length that the pair directly before says.
abbrev pub Closes : Pair → Pair → Type 0
Closes before p =
    (NoData p.tag × NoSoh p.text)
    ⊎ (Measures before.tag p.tag × IsNumber before.text (length p.text))

-- A tag of 1 to 9 digits, a text of a byte at least, that closes.
pub record Stands (before p : Pair) : Type 0 where
  pub least : 1 ≤ p.tag
  pub most : p.tag ≤ 999999999
  pub some : 1 ≤ length p.text
  pub closes : Closes before p

-- Each behind the one before it.
abbrev pub CanWrite : Pair → List Pair → Type 0
CanWrite before [] = Unit
CanWrite before (p ∷ ps) = Stands before p × CanWrite p ps

-- None stands before: no tag is 0.
abbrev pub no_pair : Pair
no_pair = pair 0 []

-- ─── Pairs by their place in the order, and by their tag ───

-- Pair i, counted from 0.
abbrev pub pair_at : ℕ → List Pair → Option Pair
pair_at i [] = none
pair_at zero (p ∷ ps) = some p
pair_at (suc i) (p ∷ ps) = pair_at i ps

-- The first pair with a tag.
abbrev pub first_with : ℕ → List Pair → Option Pair
first_with tag [] = none
first_with tag (p ∷ ps) = cond (eqb p.tag tag) (some p) (first_with tag ps)

-- A place in the run: that of the pair's text, with its tag; no field where there is no pair.
abbrev pub IsAt : List ℕ → Option Pair → MaybeFront → Type 0
IsAt run none None = Unit
IsAt run none (Some found) = ⊥
IsAt run (some p) None = ⊥
IsAt run (some p) (Some found) = (found.tag ≡ p.tag) × (part run found.start found.len ≡ p.text)

abbrev pub text_or : Option Pair → List ℕ
text_or none = []
text_or (some p) = p.text

-- ─── The laws ───

-- Some bytes are a frame of this type and these pairs.
pub record HasPairs (b name : List ℕ) (ps : List Pair) : Type 0 where
  pub name_at : Span
  pub fields_at : Span
  pub framed : frame_of b ≡ some_frame name_at fields_at
  pub same_name : text_at b name_at ≡ name
  pub same_pairs : pairs_of (text_at b fields_at) ≡ ps

pub record PairLaws : Type 0 where
  -- A whole run is the bytes of its pairs.
  pub joins : (run : List ℕ) → is_whole run ≡ true → bytes_of (pairs_of run) ≡ run
  -- Pairs that can be written are read back, in order and text; and no others come from a run.
  pub back : (ps : List Pair) → CanWrite no_pair ps → (is_whole (bytes_of ps) ≡ true) × (pairs_of (bytes_of ps) ≡ ps)
  pub only : (run : List ℕ) → CanWrite no_pair (pairs_of run)
  -- The functions that find a field give its pair: field i, its text, and the first with a tag.
  pub field : (run : List ℕ) (i : ℕ) → IsAt run (pair_at i (pairs_of run)) (place_of run i)
  pub text : (run : List ℕ) (i : ℕ) → text_of run i ≡ text_or (pair_at i (pairs_of run))
  pub first : (run : List ℕ) (tag : ℕ) → IsAt run (first_with tag (pairs_of run)) (first_of run tag)
  -- A frame written of such pairs is read back with them; one that is read, written of its pairs, is the same bytes.
  pub written : (name out : List ℕ) (ps : List Pair) (n : ℕ) → CanWrite no_pair ps
      → write_answer name (bytes_of ps) (length out) ≡ Ok n
      → HasPairs (take n (write_output name (bytes_of ps) out)) name ps
  pub again : (b name run out : List ℕ) → ReadsAs b name run → length b ≤ length out
      → write_output name (bytes_of (pairs_of run)) out ≡ b ++ drop (length b) out
