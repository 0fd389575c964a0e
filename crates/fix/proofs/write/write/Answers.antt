use borrow.Author.Rules.{rules}
use Rattle.ftd.specs.declared.refusal.Refusal.TheVariants.{NotOneFrame, RequiredTag, TooSmall}
use Rattle.fix.specs.Frame.{body_length}
use Rattle.fix.proofs.write.Answers.{kept, no_name, long-name, long-run, long-body, not-whole, odd-numbers, no_room}
use Rattle.fix.proofs.write.Answers.{odd-tags, all_right, all-put}
use Rattle.fix.proofs.write.write.Goals as goal
use Rattle.fix.proofs.write.write.Goals.{then-not-is_name-via-then-not-is_name}
use Rattle.fix.proofs.write.write.Goals.{then-not-is_name-via-else-not-is_name+then-name-gt-MOST_BODY}
use Rattle.fix.proofs.write.write.Goals.{then-not-is_name-via-else-not-is_name+else-name-gt-MOST_BODY+then-run-gt-MOST_BODY}
use Rattle.fix.proofs.write.write.Goals.{then-not-w-via-then-not-w, then-not-w-via-else-not-w+then-numbers_wrong}

pub returns-then-not-is_name : goal.returns-then-not-is_name
returns-then-not-is_name c =
    elim c.then-not-is_name.branch [
      | then-not-is_name-via-then-not-is_name w ↦
          record { answer = search (rules, no_name); output = kept _ _ _ NotOneFrame (search (rules, no_name)) }
      | then-not-is_name-via-else-not-is_name+then-name-gt-MOST_BODY w ↦
          record { answer = search (rules, long-name); output = kept _ _ _ NotOneFrame (search (rules, long-name)) }
      | then-not-is_name-via-else-not-is_name+else-name-gt-MOST_BODY+then-run-gt-MOST_BODY w ↦
          record { answer = search (rules, long-run); output = kept _ _ _ NotOneFrame (search (rules, long-run)) }
    ]

pub returns-then-size-gt-MOST_BODY : goal.returns-then-size-gt-MOST_BODY
returns-then-size-gt-MOST_BODY c = record { answer = search (rules, long-body); output = kept _ _ _ NotOneFrame (search (rules, long-body)) }

pub returns-then-not-w : goal.returns-then-not-w
returns-then-not-w c =
    elim c.then-not-w.branch [
      | then-not-w-via-then-not-w w ↦
          record { answer = search (rules, not-whole); output = kept _ _ _ NotOneFrame (search (rules, not-whole)) }
      | then-not-w-via-else-not-w+then-numbers_wrong w ↦
          record { answer = search (rules, odd-numbers); output = kept _ _ _ NotOneFrame (search (rules, odd-numbers)) }
    ]

pub returns-then-out-n : goal.returns-then-out-n
returns-then-out-n c = record { answer = search (rules, no_room); output = kept _ _ _ TooSmall (search (rules, no_room)) }

pub returns-then-tags_wrong : goal.returns-then-tags_wrong
returns-then-tags_wrong c = record { answer = search (rules, odd-tags); output = kept _ _ _ RequiredTag (search (rules, odd-tags)) }

pub put_frame-requires : goal.put_frame-requires
unfolding body_length
put_frame-requires c = search rules

pub returns : goal.returns
returns c = record { answer = search (rules, all_right); output = search (rules, all-put) }
