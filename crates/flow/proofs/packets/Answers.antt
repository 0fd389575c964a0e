-- An answer that Login wrote, as Answer reads it: only the series and the trade date are left to refuse. Assumes
-- nothing.
use Prim.Native.Nat.{ℕ}
use mathlib.Core.Path.{◌≡◌, ◌∙◌}
use mathlib.Core.List.{List, [], ◌∷◌}
use mathlib.Core.Bool.{true, false, not, ◌||◌}
use borrow.Author.Tests.{not-false}
use lib.ListN.{length, drop}
use lib.Seq.{take-append_seam}
use lib.Dec.{T, ltb}
use Rattle.ftd.specs.Resume.{resume_fid}
use Rattle.ftd.specs.Login.{login_tid, login_header, login_bytes}
use Rattle.ftd.specs.Fields.{shaped, count_of}
use Rattle.ftd.specs.Items.{wrong_width, wrong_item}
use Rattle.ftd.specs.Composition.{composed}
use Rattle.ftd.specs.declared.refusal.Refusal.TheVariants.{UnknownSeries, OtherDay}
use Rattle.ftd.specs.declared.composition.Direction.TheVariants.{Up, Down}
use Rattle.ftd.specs.Types.{TradeDate}
use Rattle.ftd.specs.declared.packet.Header.{Header}
use Rattle.flow.specs.declared.sender.Sender.{Sender}
use Rattle.flow.specs.Types.{LoggedIn}
use Rattle.flow.specs.declared.receiver.Receiver.{Receiver}
use Rattle.flow.specs.Types.{Confirmed}
use Rattle.flow.specs.Ends.{◌when◌else◌, Left, Wrote, left, is_open, with_series, logged_in}
use Rattle.flow.specs.Answers.{is_taken, written, login_said}
use Rattle.flow.specs.Serving.{no_login, login_of}
use Rattle.flow.specs.Receiving.{wrong_day, last_after, confirm_with, confirm_login_of}
use Rattle.flow.proofs.common.Bools.{or-neither}
use Rattle.flow.proofs.packets.Logins.{confirm-given}
use Rattle.flow.proofs.calls.Serving.{LoginTests, LoginDone, login-refused, login-taken, login-cases}
use Rattle.std.specs.Prelude.{Ok, Err}

-- ─── Content that Login takes for its answer: rows 7 to 10 ───

pub record Answering (content : List ℕ) : Type 0 where
  pub shape : shaped content 4080 ≡ true
  pub widths : wrong_width content ≡ false
  pub items : wrong_item content ≡ false
  pub composes : composed login_tid Down content ≡ true

-- ─── What Answer makes of it: 13, 15, or taken ───

unfoldable pub confirm_by_login : Receiver → ℕ → TradeDate → Left Receiver Confirmed
confirm_by_login r s date =
    left r (Err UnknownSeries) when not (is_open r s) else
    left r (Err OtherDay) when wrong_day r s date else
    left (with_series r s date (last_after r s date) logged_in) (Ok (last_after r s date))

pub confirm-by-login : (date : TradeDate) (content : List ℕ) → Answering content → (r : Receiver) (s : ℕ)
    → confirm_login_of r s (login_bytes date content) ≡ confirm_by_login r s date
unfolding confirm_with login_header confirm_by_login
confirm-by-login date content a r s = confirm-given date content a.shape r s ∙ rw (a.widths, a.items, a.composes)

-- ─── An answer that Login wrote ───

pub tests-content : (e : Sender) (s : ℕ) (h : Header) (date : TradeDate) (asked content out : List ℕ)
    → LoginTests e s h date asked content out → Answering content
tests-content e s h date asked content out t =
    record {
      shape = t.run;
      widths = (or-neither (wrong_width asked) (wrong_width content) t.widths).1;
      items = (or-neither (wrong_item asked) (wrong_item content) t.items).1;
      composes =
          not-false _
          (or-neither (no_login h || not (composed login_tid Up asked) || ltb 1 (count_of resume_fid asked))
          (not (composed login_tid Down content)) t.counts).1;
    }

module _ (e : Sender) (t : ℕ) (content out : List ℕ) where
  abbrev answer : List ℕ
  answer = login_bytes e.day.date content

  taken-answer : (p : List ℕ) (r : Wrote Sender LoggedIn) → LoginDone e t p content out r
      → T (is_taken (login_said r.answer))
      → Answering content × (written r.bytes (login_said r.answer) ≡ answer ∷ [])
  taken-answer p r (login-refused x) k = absurd k
  taken-answer p r (login-taken h x c a b g z) k =
      (tests-content e t h _ _ content out z, rw (take-append_seam answer (drop (length answer) out)))

  -- Taken, the bytes written are the answer, and every receiving end reads them as meant.
  pub login-written : (p : List ℕ) → T (is_taken (login_said (login_of e t p content out).answer))
      → written (login_of e t p content out).bytes (login_said (login_of e t p content out).answer) ≡ login_bytes
      e.day.date content ∷ []
  login-written p k = (taken-answer p (login_of e t p content out) (login-cases e t p content out) k).1

  pub login-confirmed : (p : List ℕ) → T (is_taken (login_said (login_of e t p content out).answer))
      → (r : Receiver) (s : ℕ)
      → confirm_login_of r s (login_bytes e.day.date content) ≡ confirm_by_login r s e.day.date
  login-confirmed p k r s =
      confirm-by-login e.day.date content
      (taken-answer p (login_of e t p content out) (login-cases e t p content out) k).0 r s
