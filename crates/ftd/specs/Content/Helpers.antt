-- A content that lies in three parts, of which the first two are whole fields; only private contracts use it.
use Rattle.std.specs.Prelude.{ℕ, ◌+◌, ◌≤◌, ◌≡◌, List, ◌++◌, true, length}
use Rattle.ftd.specs.Runs.{run_of, ended}
use Rattle.ftd.specs.Fields.{field}

-- WholeFields fields, and nothing else.
abbrev pub WholeFields : List ℕ → Type 0
WholeFields l = ended (run_of field l) ≡ true

-- One behind the other.
abbrev pub three : List ℕ → List ℕ → List ℕ → List ℕ
three first across last = first ++ (across ++ last)

-- All of it is within the limit.
abbrev pub Within : List ℕ → List ℕ → List ℕ → ℕ → Type 0
Within first across last limit = length first + (length across + length last) ≤ limit
