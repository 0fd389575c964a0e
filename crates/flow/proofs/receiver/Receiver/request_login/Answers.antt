use borrow.Author.Rules.{rules}
use Rattle.std.proofs.lemmas.Result.{err_from_is_err_and}
use Rattle.flow.proofs.receiver.Lookups.{found_inside}
use Rattle.flow.proofs.receiver.Asking.{ask-content, content-whole, ask-started, ask-unknown, ask-found}
use Rattle.flow.proofs.receiver.Receiver.request_login.Goals as goal

pub returns-in_err-check_content : goal.returns-in_err-check_content
returns-in_err-check_content c =
    let p = err_from_is_err_and c.from_residual.result c.from_residual.ensures.1 in
    rw (p.1, p.2) (ask-content _ _ _ _ _ c.check_content.ensures _ c.in_err-check_content.was)

pub returns-then-count_field-gt0 : goal.returns-then-count_field-gt0
returns-then-count_field-gt0 c =
    ask-started _ _ _ _ _ c.check_content.ensures c.in_ok-check_content.was _ c.count_field.ensures
    c.if-count_field-gt0.true

pub write_request-requires : goal.write_request-requires
write_request-requires c = search (rules, found_inside, content-whole)

pub returns-in_default : goal.returns-in_default
returns-in_default c =
    ask-unknown _ _ _ _ _ c.check_content.ensures c.in_ok-check_content.was _ c.count_field.ensures
    c.if-count_field-gt0.false _ c.find.ensures c.in_default.is

pub returns : goal.returns
returns c =
    ask-found _ _ _ _ _ c.check_content.ensures c.in_ok-check_content.was _ c.count_field.ensures
    c.if-count_field-gt0.false _ c.find.ensures _ c.in-Some.is _ _ c.write_request.ensures
