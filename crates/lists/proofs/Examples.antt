-- The examples, computed. Assumes nothing.
use mathlib.Core.List.{List, [], ◌∷◌}
use mathlib.Core.Bool.{Bool}
use lib.Dec.{T, eqb, eqb→eq}
use lib.ListN.{length}
use Rattle.ftd.specs.Bench.{same}
use Rattle.flow.specs.Agreement.{published_on, reported}
use Rattle.flow.proofs.bench.Tests.{hold_all, each, is_caught_up, caught-up}
use Rattle.lists.specs.Examples.{refusals, two_days, two_days_start, two_days_end, two_days_refusals, two_days_shown}
use Rattle.lists.specs.Examples.{two_logins, two_logins_start, before_one, behind_one, before_three, behind_three}
use Rattle.lists.specs.Examples.{two_logins_end, two_logins_refusals, two_logins_shown, last_answer, chain_dropped}
use Rattle.lists.specs.Examples.{one_packet, one_packet_start, before_within, behind_within, one_packet_end}
use Rattle.lists.specs.Examples.{one_packet_refusals, one_packet_shown, Examples}
use Rattle.lists.proofs.Opened.{opened}

refused-are : T (same (refusals two_days_start two_days) two_days_refusals)
unfolding opened
refused-are = tt

shown-is : T (two_days_shown two_days_end)
unfolding opened
shown-is = tt

refused-again-are : T (same (refusals two_logins_start two_logins) two_logins_refusals)
unfolding opened
refused-again-are = tt

-- What is said of the second list's worlds is computed at once: they are the same in each test.
abbrev again : List Bool
again =
    two_logins_shown two_logins_end
    ∷ is_caught_up before_one behind_one two_logins_end 1 7 last_answer []
    ∷ is_caught_up before_three behind_three two_logins_end 3 7 last_answer []
    ∷ eqb (reported two_logins_end 1 7) 3
    ∷ eqb (length (published_on two_logins_end 1 7)) 3
    ∷ eqb (reported two_logins_end 3 7) 3
    ∷ eqb (length (published_on two_logins_end 3 7)) 3
    ∷ []

again-is : T (hold_all again)
unfolding opened
again-is = tt

refused-singly-are : T (same (refusals one_packet_start one_packet) one_packet_refusals)
unfolding opened
refused-singly-are = tt

abbrev singly-tests : List Bool
singly-tests =
    one_packet_shown one_packet_end
    ∷ is_caught_up before_within behind_within one_packet_end 1 7 last_answer []
    ∷ eqb (reported one_packet_end 1 7) 4
    ∷ eqb (length (published_on one_packet_end 1 7)) 4
    ∷ []

singly-is : T (hold_all singly-tests)
unfolding opened
singly-is = tt

dropped-is : T chain_dropped
unfolding opened
dropped-is = tt

pub examples : Examples
examples =
    let h = each again again-is in
    let k = each singly-tests singly-is in
    record {
      refused = refused-are;
      shown = shown-is;
      refused-again = refused-again-are;
      shown-again = h.0;
      one-caught-up = caught-up _ _ _ _ _ _ _ h.1.0;
      three-caught-up = caught-up _ _ _ _ _ _ _ h.1.1.0;
      one-counted = (eqb→eq _ _ h.1.1.1.0, eqb→eq _ _ h.1.1.1.1.0);
      three-counted = (eqb→eq _ _ h.1.1.1.1.1.0, eqb→eq _ _ h.1.1.1.1.1.1.0);
      refused-singly = refused-singly-are;
      shown-singly = k.0;
      singly-caught-up = caught-up _ _ _ _ _ _ _ k.1.0;
      singly-counted = (eqb→eq _ _ k.1.1.0, eqb→eq _ _ k.1.1.1.0);
      dropped = dropped-is;
    }
