-- Definitions of private contracts of Ask and Answer: the parts that the code has. No call's promise names them.
use Rattle.std.specs.Prelude.{ℕ, List, ◌++◌, Bool, true, not, ◌||◌, length, get_or, ltb}
use Rattle.ftd.specs.Items.{wrong_width, wrong_item}
use Rattle.ftd.specs.Composition.{composed}
use Rattle.ftd.specs.Login.{login_tid, login_bytes}
use Rattle.ftd.specs.Resume.{resume_bytes}
use Rattle.ftd.specs.declared.refusal.Refusal.TheVariants.{FieldLength, Item, Composition, OtherDay, OutOfLine}
use Rattle.ftd.specs.declared.refusal.Refusal.TheVariants.{TooSmall}
use Rattle.ftd.specs.declared.composition.Direction.TheVariants.{Down}
use Rattle.ftd.specs.Types.{Checked}
use Rattle.ftd.specs.Types.{TradeDate}
use Rattle.ftd.specs.declared.packet.Header.{Header}
use Rattle.flow.specs.declared.receiver.KeptSeries.{KeptSeries}
use Rattle.flow.specs.declared.receiver.Receiver.{Receiver}
use Rattle.flow.specs.Types.{Requested}
use Rattle.flow.specs.Types.{Confirmed}
use Rattle.flow.specs.Ends.{◌when◌else◌, Left, left, Wrote, wrote, over, before, differs, new_kept, logged_in}
use Rattle.flow.specs.Serving.{no_login, not_zero}
use Rattle.flow.specs.Receiving.{next_wanted}
use Rattle.flow.specs.Helpers.{series_at}
use Rattle.std.specs.Prelude.{Some, None, Ok, Err}

-- ─── Ask ───

-- The request for a series, by what is kept of it.
unfoldable pub request_for : KeptSeries → ℕ → List ℕ → List ℕ
request_for one s content = login_bytes one.date (content ++ resume_bytes s (next_wanted one.last))

-- 18, and the request: for the series at place i.
unfoldable pub request_at : Receiver → ℕ → ℕ → List ℕ → List ℕ → Wrote Receiver Requested
request_at e i s content out =
    let bytes = request_for (get_or e.kept.series i (new_kept 0)) s content in
    wrote e (Err TooSmall) out when ltb (length out) (length bytes) else
    wrote e (Ok (length bytes)) (over bytes out)

-- ─── Answer ───

-- Rows 8 to 10.
unfoldable pub answer_content : Header → List ℕ → Checked
answer_content h content =
    Err FieldLength when wrong_width content else
    Err Item when wrong_item content else
    Err Composition when no_login h || not (composed login_tid Down content) else
    (Ok tt)

-- 15, by the trade date kept: absent, or lower.
abbrev pub wrong_date : TradeDate → TradeDate → Bool
wrong_date own None = true
wrong_date own (Some d) = before (Some d) own

-- The last number on a trade date, by what is kept.
abbrev pub last_on : TradeDate → ℕ → TradeDate → ℕ
last_on own last date = 0 when differs date own else last

-- 15 and 16, and the login: for the series at place i.
unfoldable pub confirm_at : Receiver → ℕ → ℕ → Header → TradeDate → Left Receiver Confirmed
confirm_at e i s h date =
    let one = get_or e.kept.series i (new_kept 0) in
    let last = last_on one.date one.last date in
    left e (Err OtherDay) when wrong_date one.date date else
    left e (Err OutOfLine) when not_zero h else
    left (series_at e i (record { series = s; date = date; last = last }) logged_in) (Ok last)
