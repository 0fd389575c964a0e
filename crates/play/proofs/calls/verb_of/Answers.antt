use borrow.Author.Rules.{rules}
use mathlib.Core.Path.{refl, ◌∙◌}
use Rattle.std.proofs.Common.{[]}
use Rattle.play.specs.declared.calls.Verb.TheVariants.{Unknown}
use Rattle.play.specs.Calls.{verb_of, end_verb_of, trading_verb_of, several_verb_of, book_verb_of}
use Rattle.play.proofs.calls.Verbs.{named, named-here, named-behind, named-nowhere}
use Rattle.play.proofs.calls.verb_of.Goals as goal

pub loop-name-init : goal.loop-name-init
unfolding named verb_of end_verb_of trading_verb_of several_verb_of book_verb_of
loop-name-init c = refl

pub returns-then-is_word : goal.returns-then-is_word
returns-then-is_word c =
    named-here _ c.loop-name.name-index _ c.args.word.now (search rules) (search rules) ∙ c.loop-name.invariant

pub loop-name-preserved : goal.loop-name-preserved
loop-name-preserved c =
    named-behind _ c.loop-name.name-index (record { ref_ptr = (0, 0); now = [] }, Unknown) c.args.word.now (search rules) (search rules) ∙ c.loop-name.invariant

pub returns : goal.returns
returns c = named-nowhere _ c.loop-name.name-index c.args.word.now (search rules) ∙ c.loop-name.invariant
