use Rattle.ftd.proofs.login.Laws.{login-laws}
use Rattle.ftd.proofs.login.keeps_login_laws.Goals as goal

pub returns : goal.returns
returns c = login-laws
