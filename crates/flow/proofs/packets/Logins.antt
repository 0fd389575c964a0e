-- A login packet or its answer that was written: Login and Answer go on with header, trade date and content. Assumes
-- nothing.
use Prim.Native.Nat.{ℕ}
use mathlib.Core.Path.{◌≡◌}
use mathlib.Core.List.{List}
use mathlib.Core.Bool.{true}
use Rattle.ftd.specs.Fields.{shaped}
use Rattle.ftd.specs.Login.{login_header, login_bytes}
use Rattle.ftd.proofs.login.Laws.{login-back, login-one, login-message, login-content}
use Rattle.ftd.specs.Types.{TradeDate}
use Rattle.flow.specs.declared.sender.Sender.{Sender}
use Rattle.flow.specs.declared.receiver.Receiver.{Receiver}
use Rattle.flow.specs.Serving.{login_with, login_of}
use Rattle.flow.specs.Receiving.{confirm_with, confirm_login_of}

module _ (d : TradeDate) (c : List ℕ) (h : shaped c 4080 ≡ true) where
  pub login-given : (e : Sender) (t : ℕ) (content out : List ℕ)
      → login_of e t (login_bytes d c) content out ≡ login_with e t (login_header c) d c content out
  unfolding login_of
  login-given e t content out = rw (login-one d c h, login-message d c h, login-back d c h, login-content d c)

  pub confirm-given : (r : Receiver) (t : ℕ) → confirm_login_of r t (login_bytes d c) ≡ confirm_with r t (login_header c) d c
  unfolding confirm_login_of
  confirm-given r t = rw (login-one d c h, login-message d c h, login-back d c h, login-content d c)
