use borrow.Author.Rules.{rules}
use Rattle.flow.proofs.receiver.Asking.{request-written}
use Rattle.flow.proofs.receiver.Receiver.write_request.Goals as goal

pub returns : goal.returns
returns c = search (rules, request-written)
