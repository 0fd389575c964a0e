-- Runs of entries: an entry is a head of fixed width, which says how many bytes follow it, and those bytes.
-- An extension is a run of tags (4.1, 01 "Packet"), a content a run of data fields (4.2, 01 "Message packet").
use Rattle.std.specs.Prelude.{ℕ, zero, suc, ◌+◌, List, [], ◌∷◌, Bool, cond, length, take, drop, leb, eqb}

-- The form of an entry: the width of its head, and how many bytes follow, as the head at the front of some bytes says.
pub record Form : Type 0 where
  pub head : ℕ
  pub follow : List ℕ → ℕ

-- How many bytes the entry at the front takes; 0 where none stands there whole.
unfoldable pub front : Form → List ℕ → ℕ
front F l = cond (leb (F.head + F.follow l) (length l)) (F.head + F.follow l) 0

-- Bytes as a run: the entries, each with its head, up to the first place where none stands whole, and what is left
-- there.
pub record Run : Type 0 where
  pub entries : List (List ℕ)
  pub rest : List ℕ

abbrev pub in_front : List ℕ → Run → Run
in_front e r = record { entries = e ∷ r.entries; rest = r.rest }

-- One entry of n bytes is cut off, and `more` goes on; with 0 the run is over.
abbrev pub cut_off : (List ℕ → Run) → List ℕ → ℕ → Run
cut_off more l zero = record { entries = []; rest = l }
cut_off more l (suc k) = in_front (take (suc k) l) (more (drop (suc k) l))

-- At most `most` entries.
abbrev pub run_in : Form → ℕ → List ℕ → Run
run_in F zero l = record { entries = []; rest = l }
run_in F (suc most) l = cut_off (run_in F most) l (front F l)

-- An entry has a byte at least, so there are no more of them than bytes.
unfoldable pub run_of : Form → List ℕ → Run
run_of F l = run_in F (length l) l

-- Nothing is left behind the entries.
abbrev pub ended : Run → Bool
ended r = eqb (length r.rest) 0
