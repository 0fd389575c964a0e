-- Named places of a receiving end to come back to (02, No. 13), and the two calls on them: a row of tests in the
-- request's order and then what the call does. The checkpoints are a value of their own beside the receiving end: no
-- other call reads or changes them.
--
-- Every value counts, also one that no call has made: a count above 4 is 4; where a name stands twice, its first place
-- counts; a checkpoint may be of any end, and brings back what it has of the series that are open now. In the values
-- that the calls make, the count is at most 4 and the names differ.
use Rattle.std.specs.Prelude.{ℕ, ◌+◌, ◌*◌, List, [], ◌∷◌, map, Bool, true, cond, not, ◌&&◌, ◌||◌, length, get_or, take, set, replicate, ltb, leb, eqb}
use Rattle.ftd.specs.declared.refusal.Refusal.TheVariants.{WrongName, FifthName, UnknownName}
use Rattle.flow.specs.declared.receiver.KeptSeries.{KeptSeries}
use Rattle.flow.specs.declared.receiver.Kept.{Kept}
use Rattle.flow.specs.declared.receiver.Receiver.{Receiver}
use Rattle.flow.specs.declared.checkpoint.Checkpoint.{Checkpoint}
use Rattle.flow.specs.declared.checkpoint.Checkpoints.{Checkpoints}
use Rattle.flow.specs.Types.{Saved}
use Rattle.flow.specs.Types.{Restored}
use Rattle.flow.specs.Ends.{◌when◌else◌, Left, left, member, index_of, most_series, no_live, receiver, day_of, last_of}
use Rattle.flow.specs.Ends.{fresh_receiver}
use Rattle.std.specs.Prelude.{Ok, Err}

-- ─── Names ───

abbrev pub most_names : ℕ
most_names = 4

abbrev pub most_letters : ℕ
most_letters = 8

-- A to Z.
abbrev pub all_letters : List ℕ → Bool
all_letters [] = true
all_letters (x ∷ l) = leb 65 x && leb x 90 && all_letters l

-- 31: not 1 to 8 letters A to Z.
unfoldable pub wrong_name : List ℕ → Bool
wrong_name name = eqb (length name) 0 || ltb most_letters (length name) || not (all_letters name)

-- As one number: the first letter in the lowest byte. Different names have different ones (`same_code`).
abbrev pub name_code : List ℕ → ℕ
name_code [] = 0
name_code (x ∷ l) = x + 256 * name_code l

-- ─── What is kept ───

abbrev pub checkpoint : ℕ → Kept → Checkpoint
checkpoint name kept = record { name = name; kept = kept }

unfoldable pub fresh_checkpoints : Checkpoints
fresh_checkpoints = record { count = 0; places = replicate most_names (checkpoint 0 fresh_receiver.kept) }

-- The names in use, in the order in which they came first.
unfoldable pub used_names : Checkpoints → List ℕ
used_names c = map (λ (x : Checkpoint). x.name) (take c.count c.places)

unfoldable pub is_used : Checkpoints → List ℕ → Bool
is_used c name = member (name_code name) (used_names c)

unfoldable pub checkpoint_of : Checkpoints → List ℕ → Kept
checkpoint_of c name =
    (get_or c.places (index_of (name_code name) (used_names c)) (checkpoint 0 fresh_receiver.kept)).kept

-- In the place of its name; a new name's is behind the others.
unfoldable pub with_checkpoint : Checkpoints → List ℕ → Kept → Checkpoints
with_checkpoint c name kept =
    record {
      count = cond (is_used c name) c.count (c.count + 1);
      places = set c.places (index_of (name_code name) (used_names c)) (checkpoint (name_code name) kept);
    }

-- ─── Keeping: a name; the receiving end is read ───

unfoldable pub keep_of : Checkpoints → Receiver → List ℕ → Left Checkpoints Saved
keep_of c e name =
    left c (Err WrongName) when wrong_name name else
    left c (Err FifthName) when not (is_used c name) && leb most_names c.count else
    left (with_checkpoint c name e.kept) (Ok tt)

-- ─── Return: a name; the checkpoints are read ───

-- A receiving end that has kept this and is on no connection.
abbrev pub resting_of : Kept → Receiver
resting_of kept = record { kept = kept; live = record { series = replicate most_series no_live } }

-- A series with the trade date and last number that were kept of it: none and 0 where the end was kept before its
-- opening.
abbrev pub brought_back : Kept → KeptSeries → KeptSeries
brought_back kept x =
    record {
      series = x.series;
      date = day_of (resting_of kept) x.series;
      last = last_of (resting_of kept) x.series;
    }

-- The open series stay those of now; login and chain of all are cleared.
unfoldable pub restored : Receiver → Kept → Receiver
restored e kept =
    receiver e.kept.count (map (brought_back kept) e.kept.series) (replicate most_series no_live)

unfoldable pub restore_of : Checkpoints → Receiver → List ℕ → Left Receiver Restored
restore_of c e name =
    left e (Err WrongName) when wrong_name name else
    left e (Err UnknownName) when not (is_used c name) else
    left (restored e (checkpoint_of c name)) (Ok tt)
