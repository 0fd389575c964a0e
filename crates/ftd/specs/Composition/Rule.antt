-- The rule of Appendix E's table: one test over the whole table, and what it says of each line.
use Rattle.std.specs.Prelude.{ℕ, ◌<◌, ◌≡◌, Bool, true, false, ◌&&◌, eqb}
use Rattle.ftd.specs.Table.{known}
use Rattle.ftd.specs.Values.{among}
use Rattle.ftd.specs.Mode.{listed_tids}
use Rattle.ftd.specs.Composition.{CompositionLine, line_at}

-- Two lines list the same field for the same message.
abbrev pub again : CompositionLine → CompositionLine → Bool
again r s = eqb r.tid s.tid && (eqb r.direction s.direction && eqb r.fid s.fid)

-- A line's field is in Appendix D and its TID in Appendix A.
abbrev pub line_right : CompositionLine → Bool
line_right r = known r.fid && among r.tid listed_tids

-- The rule at each line.
pub record CompositionRule : Type 0 where
  pub each : (i : ℕ) → i < 82 → line_right (line_at i) ≡ true
  pub once : (i j : ℕ) → i < j → j < 82 → again (line_at i) (line_at j) ≡ false
