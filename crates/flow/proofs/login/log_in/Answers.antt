use borrow.Author.Rules.{rules}
use Rattle.flow.proofs.sender.Lookups.{found_inside}
use Rattle.flow.proofs.login.Rows.{contents-whole, login-contents, login-unknown, login-line, login-answer}
use Rattle.flow.proofs.login.log_in.Goals as goal

pub answer_login-requires : goal.answer_login-requires
answer_login-requires c = search (rules, found_inside, contents-whole)

pub returns-in-Err : goal.returns-in-Err
returns-in-Err c = search (rules, login-contents)

pub returns-in_default-find : goal.returns-in_default-find
returns-in_default-find c = search (rules, login-unknown)

pub returns-in-Err-check_line : goal.returns-in-Err-check_line
returns-in-Err-check_line c = search (rules, login-line)

pub returns : goal.returns
returns c = search (rules, login-answer)
