-- All that a computed list of calls goes through: `unfolding opened` opens the whole list.
use Rattle.flow.proofs.bench.Opened
use Rattle.lists.specs.Examples.{a1, a2, a3, b1, b2, c1, c2, d1, two_days, two_days_start, two_days_end}
use Rattle.lists.specs.Examples.{two_days_refusals, early, last_of_one, between, last_of_three, late, two_logins_start}
use Rattle.lists.specs.Examples.{before_one, behind_one, before_three, behind_three, two_logins_end, two_logins_refusals}
use Rattle.lists.specs.Examples.{singly, last_within, anew, one_packet_start, before_within, behind_within, one_packet_end}
use Rattle.lists.specs.Examples.{one_packet_refusals, behind_first, behind_middle, behind_last}
use Rattle.flow.proofs.bench.Tests.{is_caught_up}

unfoldable pub opened : Unit {0}
unfolding Opened.opened a1 a2 a3 b1 b2 c1 c2 d1 two_days two_days_start two_days_end two_days_refusals early last_of_one between
    last_of_three late two_logins_start before_one behind_one before_three behind_three two_logins_end two_logins_refusals
    singly last_within anew one_packet_start before_within behind_within one_packet_end one_packet_refusals behind_first behind_middle
    behind_last is_caught_up
opened = tt
