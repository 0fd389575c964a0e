-- Definitions of private contracts of Login: the parts that the code has. No call's promise names them.
use Rattle.std.specs.Prelude.{ℕ, ◌+◌, List, Bool, not, ◌||◌, length, get_or, ltb, eqb}
use Rattle.ftd.specs.Items.{wrong_width, wrong_item}
use Rattle.ftd.specs.Composition.{composed}
use Rattle.ftd.specs.Fields.{count_of, packet_content}
use Rattle.ftd.specs.Resume.{resume_fid}
use Rattle.ftd.specs.Login.{login_tid, login_bytes}
use Rattle.ftd.specs.declared.refusal.Refusal.TheVariants.{FieldRun, FieldLength, Item, Composition, UnknownSeries}
use Rattle.ftd.specs.declared.refusal.Refusal.TheVariants.{OtherDay, OutOfLine, TooSmall, WrongStart}
use Rattle.ftd.specs.declared.composition.Direction.TheVariants.{Up, Down}
use Rattle.ftd.specs.Types.{Checked}
use Rattle.ftd.specs.Types.{TradeDate}
use Rattle.ftd.specs.declared.packet.Header.{Header}
use Rattle.ftd.specs.declared.resume.Resume.{Resume}
use Rattle.flow.specs.declared.sender.Sender.{Sender}
use Rattle.flow.specs.Types.{LoggedIn}
use Rattle.flow.specs.Ends.{◌when◌else◌, Wrote, wrote, over, before, no_series}
use Rattle.flow.specs.Serving.{wrong_run, no_login, not_zero, start_elsewhere}
use Rattle.flow.specs.Helpers.{placed_at}
use Rattle.std.specs.Prelude.{Ok, Err}

-- 10, of the packet and of the answer's content.
unfoldable pub wrong_login : Header → List ℕ → List ℕ → Bool
wrong_login h asked content =
    no_login h || not (composed login_tid Up asked) || ltb 1 (count_of resume_fid asked) || not
    (composed login_tid Down content)

-- Rows 7 to 10.
unfoldable pub login_contents : Header → List ℕ → List ℕ → Checked
login_contents h asked content =
    Err FieldRun when wrong_run content packet_content else
    Err FieldLength when wrong_width asked || wrong_width content else
    Err Item when wrong_item asked || wrong_item content else
    Err Composition when wrong_login h asked content else
    (Ok tt)

-- 13 of the start field, 15 and 16: the end's trade date, the series, the packet's header and trade date.
unfoldable pub login_line : TradeDate → ℕ → Header → TradeDate → Resume → Checked
login_line day s h date start =
    Err UnknownSeries when start_elsewhere s start else
    Err OtherDay when before day date else
    Err OutOfLine when not_zero h else
    (Ok tt)

-- 19, by the count of published messages.
abbrev pub start_outside : ℕ → ℕ → Bool
start_outside published next = eqb next 0 || ltb (published + 1) next

-- 18 and 19, and the answer: for the series at place i.
unfoldable pub login_answer : Sender → ℕ → ℕ → List ℕ → List ℕ → Wrote Sender LoggedIn
login_answer e i next content out =
    let answer = login_bytes e.day.date content in
    wrote e (Err TooSmall) out when ltb (length out) (length answer) else
    wrote e (Err WrongStart) out when start_outside (get_or e.day.series i no_series).published next else
    wrote (placed_at e i next 0) (Ok (length answer)) (over answer out)
