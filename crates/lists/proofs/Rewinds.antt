-- The line test, computed. Assumes nothing.
use mathlib.Core.List.{List, [], ◌∷◌}
use mathlib.Core.Bool.{Bool}
use lib.Dec.{T, eqb, leb, eqb→eq, leb→le}
use lib.ListN.{length}
use Rattle.flow.specs.Agreement.{published_on, reported}
use Rattle.flow.specs.Checkpoints.{wrong_name, fresh_checkpoints, used_names, is_used, checkpoint_of, with_checkpoint, keep_of}
use Rattle.flow.specs.Checkpoints.{restored, restore_of}
use Rattle.flow.specs.Rewind.{rewind_start}
use Rattle.flow.proofs.bench.Tests.{hold_all, each, is_caught_up, caught-up}
use Rattle.lists.specs.Examples.{a1, shows, last_answer}
use Rattle.lists.specs.Rewinds.{line_test, tested, back, stale_login, stale_end, asked_again, fresh_login, fresh_end}
use Rattle.lists.specs.Rewinds.{Rewinds}
use Rattle.lists.proofs.Opened.{opened}

abbrev tests : List Bool
tests =
    shows tested.now 1 7 (a1 ∷ []) (a1 ∷ []) (0 ∷ 1 ∷ [])
    ∷ shows back.now 1 7 (a1 ∷ []) [] []
    ∷ leb 2 back.asked
    ∷ is_caught_up back.now stale_login.now stale_end.now 1 7 last_answer []
    ∷ eqb (reported stale_end.now 1 7) 0
    ∷ eqb (length (published_on stale_end.now 1 7)) 1
    ∷ leb asked_again.asked 2
    ∷ is_caught_up asked_again.now fresh_login.now fresh_end.now 1 7 last_answer []
    ∷ eqb (reported fresh_end.now 1 7) 1
    ∷ eqb (length (published_on fresh_end.now 1 7)) 1
    ∷ []

tests-hold : T (hold_all tests)
unfolding opened wrong_name fresh_checkpoints used_names is_used checkpoint_of with_checkpoint keep_of restored restore_of
    rewind_start line_test tested back stale_login stale_end asked_again fresh_login fresh_end
tests-hold = tt

pub rewinds : Rewinds
rewinds =
    let h = each tests tests-hold in
    record {
      before = h.0;
      behind = h.1.0;
      stale = leb→le _ _ h.1.1.0;
      stale-caught-up = caught-up _ _ _ _ _ _ _ h.1.1.1.0;
      stale-short = (eqb→eq _ _ h.1.1.1.1.0, eqb→eq _ _ h.1.1.1.1.1.0);
      fresh = leb→le _ _ h.1.1.1.1.1.1.0;
      fresh-caught-up = caught-up _ _ _ _ _ _ _ h.1.1.1.1.1.1.1.0;
      fresh-all = (eqb→eq _ _ h.1.1.1.1.1.1.1.1.0, eqb→eq _ _ h.1.1.1.1.1.1.1.1.1.0);
    }
