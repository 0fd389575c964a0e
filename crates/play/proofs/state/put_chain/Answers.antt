use borrow.Author.Rules.{rules}
use Rattle.play.proofs.state.Turns.{chain_held, chain-none}
use Rattle.play.proofs.state.put_chain.Goals as goal

pub returns-then-chain : goal.returns-then-chain
returns-then-chain c = (search (rules, chain_held), search rules)

pub returns : goal.returns
returns c = (search (rules, chain-none), search rules)
