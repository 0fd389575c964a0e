-- Layer "the source": what was published under a day, series and number is one message for ever, and every packet that
-- a Send writes is that message's packet by place, whoever sends and however often. Stated over the calls of a serving
-- end in any state that they keep (`Source`), of any packet and any bytes; nothing is said of a line or of who
-- receives.
pub mod Logs
pub mod Moves
pub mod Growth
pub mod Histories
pub mod Served
pub mod Published
pub mod Kept
pub mod Entries
pub mod Goings
pub mod Messages
pub mod Sends
pub mod Days
pub mod Answers
pub mod Sources
use Prim.Native.Nat.{ℕ, ◌<◌, ◌≤◌}
use mathlib.Core.Path.{◌≡◌}
use mathlib.Core.Logic.{◌↔◌}
use mathlib.Core.List.{List}
use mathlib.Core.Option.{some}
use lib.ListN.{length, get_elem?}
use Rattle.ftd.specs.declared.refusal.Refusal.TheVariants.{DamagedLog}
use Rattle.flow.specs.Ends.{published_of, place_of}
use Rattle.flow.specs.Answers.{Message}
use Rattle.flow.specs.Serving.{open_day_of, publish_of, login_of, send_of, send_packet_of}
use Rattle.flow.specs.World.{SenderSide, after_open, after_publish, after_login, after_send, after_send_packet}
use Rattle.flow.specs.Agreement.{of}
use Rattle.flow.proofs.common.Days.{Upto}
use Rattle.flow.proofs.calls.Serving.{Seated}
use Rattle.flow.proofs.packets.Genuine.{AllGenuine, AllBegun, AllOnLine}
use Rattle.flow.proofs.common.Transmissions.{Onward}
use Rattle.flow.proofs.source.Goings.{Unfinished}
use Rattle.flow.proofs.source.Moves.{Move, open-move, publish-move, login-move, send-move, packet-move}
use Rattle.flow.proofs.source.Growth.{move-grows, move-onward}
use Rattle.flow.proofs.source.Days.{message-stays, day-rises, Over, move-over, move-closed}
use Rattle.flow.proofs.source.Entries.{NextEntry, next-entry}
use Rattle.flow.proofs.source.Sends.{send-undamaged, drained-exactly}
use Rattle.flow.proofs.source.Answers.{GenuineAnswers}
use Rattle.flow.proofs.source.Sources.{Source, move-source, fresh_side, fresh-source}
use Rattle.std.specs.Prelude.{Some, None, Ok, Err}

pub record SourceLaws : Type 0 where
  -- Each call is a move: nothing, or what the call does that was taken (`Move`). In any state, of any arguments.
  pub open-moves : (v : SenderSide) (date : ℕ) (ss rs : List ℕ)
      → Move v (after_open v date (open_day_of v.end date ss rs v.log))
  pub publish-moves : (v : SenderSide) (s tid : ℕ) (content : List ℕ)
      → Move v (after_publish v s tid content (publish_of v.end s tid content v.log))
  pub login-moves : (v : SenderSide) (s : ℕ) (p content out : List ℕ)
      → Move v (after_login v s (login_of v.end s p content out))
  pub send-moves : (v : SenderSide) (s : ℕ) (out : List ℕ) → Move v (after_send v s (send_of v.end s v.log out))
  pub packet-moves : (v : SenderSide) (s : ℕ) (out : List ℕ)
      → Move v (after_send_packet v s (send_packet_of v.end s v.log out))
  -- A fresh end is a source, with any log; every move keeps it one. Its log is sound, its counts are those of the
  -- publications.
  pub fresh : (log : List ℕ) → Source (fresh_side log)
  pub kept : (v u : SenderSide) → Move v u → Source v → Source u
  -- Number i + 1 of a day and series is one message for ever.
  pub for-ever : (v u : SenderSide) → Move v u → (s d i : ℕ) (x : Message) → get_elem? (of s d v.published) i ≡ some x
      → get_elem? (of s d u.published) i ≡ some x
  -- Days only rise; a day that is over stays over and gets nothing more.
  pub rises : (v u : SenderSide) → Move v u → Source v → Upto v.day u.day
  pub over : (d : ℕ) (v u : SenderSide) → Move v u → Source v → Over d v → Over d u
  pub closed : (d s : ℕ) (v u : SenderSide) → Move v u → Over d v → of s d u.published ≡ of s d v.published
  -- Each message that was sent is the packets of a published one, by day and number, and stands on the line whole; each
  -- transmission is the first packets of one, all of them where it is whole; each answer is of a day up to the present
  -- one.
  pub genuine : (v : SenderSide) → Source v → AllGenuine v
  pub begun : (v : SenderSide) → Source v → AllBegun v
  pub on_line : (v : SenderSide) → Source v → AllOnLine v
  pub answers : (v : SenderSide) → Source v → GenuineAnswers v
  -- A transmission stays in its place and only grows; a whole one stays as it is.
  pub onward : (v u : SenderSide) → Move v u → Onward v.transmissions u.transmissions
  -- Of each series at most one is unfinished. Of a series that is logged in, the line has as many packets of the message
  -- that is next as the end's place says, its first ones (`Going`); so the world, which goes by calls and answers, and the
  -- end agree on what is unfinished.
  pub unfinished : (v : SenderSide) → Source v → Unfinished v
  -- Send finds in the log what was published; it never answers 20, and none exactly if all published ones have been
  -- stepped over.
  pub finds : (v : SenderSide) → Source v → (s : ℕ) → Seated v.end s
      → (place_of v.end s).next ≤ published_of v.end s → NextEntry v.end v.log v.day v.published s
  pub undamaged : (v : SenderSide) → Source v → (s : ℕ) (out : List ℕ)
      → (send_of v.end s v.log out).answer ≡ Err DamagedLog → ⊥
  pub drained : (v : SenderSide) → Source v → (s : ℕ) (out : List ℕ) (d : ℕ) → v.day ≡ Some d
      → ((send_of v.end s v.log out).answer ≡ (Ok None))
      ↔ (Seated v.end s × (length (of s d v.published) < (place_of v.end s).next))

pub source-laws : SourceLaws
source-laws =
    record {
      open-moves = open-move;
      publish-moves = publish-move;
      login-moves = login-move;
      send-moves = send-move;
      packet-moves = packet-move;
      fresh = fresh-source;
      kept = move-source;
      for-ever = λ v u m. message-stays v u (move-grows v u m);
      rises = λ v u m h. day-rises v u m h.served;
      over = λ d v u m h. move-over d v u m h.served;
      closed = move-closed;
      genuine = λ v h. h.genuine;
      begun = λ v h. h.begun;
      on_line = λ v h. h.on_line;
      onward = move-onward;
      unfinished = λ v h. h.unfinished;
      answers = λ v h. h.answers;
      finds = λ v h. next-entry v.end v.log v.day v.published h.served;
      undamaged = λ v h. send-undamaged v h.served;
      drained = λ v h. drained-exactly v h.served;
    }
