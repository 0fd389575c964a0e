use borrow.Author.Rules.{rules}
use Rattle.play.proofs.words.Parts.{taken, taken_back, digits-fit}
use Rattle.play.proofs.serving.Shown.{login-played}
use Rattle.play.proofs.serving.play_login.Goals as goal

pub slice_bounds-login-end : goal.slice_bounds-login-end
slice_bounds-login-end c = taken _ _ (search rules)

pub slice_bounds-login-end-4 : goal.slice_bounds-login-end-4
slice_bounds-login-end-4 c = taken _ _ (search rules)

pub login-requires : goal.login-requires
login-requires c = search (rules, digits-fit)

pub returns : goal.returns
returns c =
    login-played _ _ _ _ _ _ _ _ _ _ _ _ c.login.ensures (taken_back _ _ c.requires.1) c.put_two-two.ensures.1
    c.put_two-two.ensures.2
