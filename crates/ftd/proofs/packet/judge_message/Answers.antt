use Rattle.ftd.proofs.packet.Verdicts.{version-wrong, letter-wrong, length-wrong, fields-wrong, message-tagged}
use Rattle.ftd.proofs.packet.Ways.{refused-bare}
use borrow.Author.Rules.{rules}
use Rattle.ftd.proofs.packet.judge_message.Goals as goal

pub returns-then-p-at-ne1 : goal.returns-then-p-at-ne1
returns-then-p-at-ne1 c = refused-bare _ _ _ _ _ c.bare.ensures (search (rules, version-wrong))

pub returns-then-size16-body : goal.returns-then-size16-body
returns-then-size16-body c = refused-bare _ _ _ _ _ c.bare-then-size16-body.ensures (search (rules, length-wrong))

pub returns-then-exact_run : goal.returns-then-exact_run
returns-then-exact_run c = search (rules, message-tagged)

pub returns-then-is_letter : goal.returns-then-is_letter
returns-then-is_letter c = refused-bare _ _ _ _ _ c.bare-then-is_letter.ensures (search (rules, fields-wrong))

pub returns : goal.returns
returns c = refused-bare _ _ _ _ _ c.bare-2.ensures (search (rules, letter-wrong))
