use Rattle.std.proofs.Common.{rules}
use Rattle.ftd.proofs.chain.Rest.{last-small, last-put, more-small, more-put}
use Rattle.ftd.proofs.chain.+put_rest.Goals as goal

pub returns-then-out-next : goal.returns-then-out-next
returns-then-out-next t c = search (rules, last-small)

pub returns-then-c-content : goal.returns-then-c-content
returns-then-c-content t c = search (rules, last-put)

pub returns-then-out-reach : goal.returns-then-out-reach
returns-then-out-reach t c = search (rules, more-small)

pub returns : goal.returns
returns t c = search (rules, more-put)
