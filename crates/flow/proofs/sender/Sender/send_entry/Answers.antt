use Rattle.flow.proofs.sender.Sends.{entry-sent, entry-small}
use Rattle.flow.proofs.sender.Sender.send_entry.Goals as goal

pub returns : goal.returns
returns c =
    entry-sent _ _ _ _ _ c.requires _ c.message_of-m.ensures _ _ _ c.write_chain.ensures.answer
    c.write_chain.ensures.output _ _ c.in-Ok.is c.with_place.ensures

pub returns-in_default : goal.returns-in_default
returns-in_default c =
    entry-small _ _ _ _ _ c.requires _ c.message_of-m.ensures _ _ _ c.write_chain.ensures.answer
    c.write_chain.ensures.output c.in_default.not-Ok
