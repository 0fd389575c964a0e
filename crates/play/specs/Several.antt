-- What the player prints of a bufferful (02, No. 8): the line of each single answer up to the one that the call stops
-- at, then a line with the bytes taken.
use Rattle.std.specs.Prelude.{ℕ, ◌+◌, ◌≤◌, List, [], ◌∷◌, ◌++◌, length}
use Rattle.ftd.specs.Runs.{Run, run_of}
use Rattle.ftd.specs.Refusal.{number_of}
use Rattle.flow.specs.declared.sender.Sender.{Sender}
use Rattle.flow.specs.Types.{Published}
use Rattle.flow.specs.declared.receiver.Receiver.{Receiver}
use Rattle.flow.specs.declared.several.ReceivedSeveral.{ReceivedSeveral}
use Rattle.flow.specs.declared.several.ReceivedSeveral.TheVariants.{End, Short, Complete as StopComplete}
use Rattle.flow.specs.declared.several.ReceivedSeveral.TheVariants.{Refused as StopRefused}
use Rattle.flow.specs.declared.several.PublishedSeveral.{PublishedSeveral}
use Rattle.flow.specs.declared.several.PublishedSeveral.TheVariants.{End as PublishedEnd, Short as PublishedShort}
use Rattle.flow.specs.declared.several.PublishedSeveral.TheVariants.{Refused as PublishedRefused}
use Rattle.flow.specs.Promises.{LeavesSeveral}
use Rattle.flow.specs.Several.{Repeated, stop_or, receiving, receive_several_of, publishing, publish_several_of}
use Rattle.listing.specs.Text.{WroteText, end, short, refused}
use Rattle.play.specs.declared.several.ReceivedAll.{ReceivedAll}
use Rattle.play.specs.declared.several.PublishedAll.{PublishedAll}
use Rattle.play.specs.Lines.{gap, word_line, numbered, message, published_line, received_line}

-- ─── The single answers ───

-- From a place on, input after input: the line of an input's answer, with the lent bytes as its call left them; none
-- behind the one that the walk stops at.
abbrev pub lines_from : {E A B : Type 0} → Repeated E A B → (List ℕ → List ℕ → A → List ℕ) → E → List ℕ → ℕ
    → List (List ℕ) → List ℕ
lines_from R line e l at [] = []
lines_from R line e l at (x ∷ xs) =
    let r = R.call e x l in
    line x r.bytes r.answer
    ++ stop_or (R.stops at r.answer) (λ b. []) (lines_from R line r.end r.bytes (at + length x) xs)

abbrev pub lines_over : {E A B : Type 0} → Repeated E A B → (List ℕ → List ℕ → A → List ℕ) → E → List ℕ → ℕ → Run
    → List ℕ
lines_over R line e l at run = lines_from R line e l at run.entries

unfoldable pub several_lines : {E A B : Type 0} → Repeated E A B → (List ℕ → List ℕ → A → List ℕ) → E → List ℕ
    → List ℕ → List ℕ
several_lines R line e bytes l = lines_over R line e l 0 (run_of R.form bytes)

abbrev pub received_lines : Receiver → List ℕ → List ℕ → List ℕ
received_lines e packets buffer = several_lines receiving received_line e packets buffer

abbrev pub record_line : List ℕ → List ℕ → Published → List ℕ
record_line x log answer = published_line answer

abbrev pub published_lines : Sender → List ℕ → List ℕ → List ℕ
published_lines e records log = several_lines publishing record_line e records log

-- ─── `taken`, the number of bytes taken, and why the call stopped ───

abbrev pub taken : List ℕ
taken = 116 ∷ 97 ∷ 107 ∷ 101 ∷ 110 ∷ []

unfoldable pub taken_line : ℕ → List ℕ → List ℕ
taken_line n why = word_line (numbered taken n ++ gap ++ why)

-- `end`, `short` and the bytes missing, `message`, or `refused` and the number.
abbrev pub received_why : ReceivedSeveral → List ℕ
received_why End = end
received_why (Short n) = numbered short n
received_why (StopComplete last tid origin at) = message
received_why (StopRefused r) = numbered refused (number_of r)

abbrev pub published_why : PublishedSeveral → List ℕ
published_why PublishedEnd = end
published_why (PublishedShort n) = numbered short n
published_why (PublishedRefused r) = numbered refused (number_of r)

-- ─── What a walk leaves ───

-- The end, its answer, the bytes taken and the lent bytes of the call for several; and the text begins with the lines.
abbrev pub PrintsReceived : Receiver → List ℕ → List ℕ → List ℕ → ReceivedAll → List ℕ → List ℕ → Type 0
PrintsReceived e packets buffer buffer' r before after =
    LeavesSeveral receiving (receive_several_of e packets buffer) packets r.end r.answer r.taken buffer'
    × WroteText before 0 (received_lines e packets buffer) after r.len
    × (r.len ≤ length before)
    × (r.len ≤ length after)

abbrev pub PrintsPublished : Sender → List ℕ → List ℕ → List ℕ → PublishedAll → List ℕ → List ℕ → Type 0
PrintsPublished e records log log' r before after =
    LeavesSeveral publishing (publish_several_of e records log) records r.end r.answer r.taken log'
    × WroteText before 0 (published_lines e records log) after r.len
    × (r.len ≤ length before)
    × (r.len ≤ length after)
