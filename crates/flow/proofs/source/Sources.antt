-- The source: a serving end that is right, with all that it put on the line genuine. Every call keeps it so, of any
-- packet and any bytes. Assumes nothing.
use mathlib.Core.List.{List, []}
use Prim.Native.Nat.{ℕ}
use native.Mathlib.Omega.{arith}
use mathlib.Core.Path.{refl}
use mathlib.Core.Bool.{false}
use Rattle.flow.specs.Ends.{fresh_sender, is_served, day_series}
use Rattle.flow.specs.World.{Event, SenderSide, start, run}
use Rattle.flow.proofs.common.Extends.{none-some}
use Rattle.flow.proofs.packets.Genuine.{AllGenuine, AllBegun, AllOnLine}
use Rattle.flow.proofs.common.Bools.{not-both}
use Rattle.flow.proofs.source.Moves.{Move, run-keeps}
use Rattle.flow.proofs.source.Served.{ServedSide, served-fresh}
use Rattle.flow.proofs.source.Kept.{move-served}
use Rattle.flow.proofs.source.Goings.{Unfinished, move-unfinished}
use Rattle.flow.proofs.source.Messages.{move-genuine, move-begun, move-on-line}
use Rattle.flow.proofs.source.Answers.{GenuineAnswers, move-answers}
use Rattle.std.specs.Prelude.{None}

pub record Source (v : SenderSide) : Type 0 where
  pub served : ServedSide v
  pub unfinished : Unfinished v
  pub genuine : AllGenuine v
  pub begun : AllBegun v
  pub on_line : AllOnLine v
  pub answers : GenuineAnswers v

pub move-source : (v u : SenderSide) → Move v u → Source v → Source u
move-source v u m z =
    record {
      served = move-served v u m z.served;
      unfinished = move-unfinished v u m z.served z.unfinished;
      genuine = move-genuine v u m z.served z.unfinished z.genuine;
      begun = move-begun v u m z.served z.unfinished z.begun;
      on_line = move-on-line v u m z.on_line;
      answers = move-answers v u m z.served z.answers;
    }

-- A fresh end, with a log of any length and content.
abbrev pub fresh_side : List ℕ → SenderSide
fresh_side log =
    record {
      end = fresh_sender;
      log = log;
      day = None;
      openings = 0;
      published = [];
      answers = [];
      transmissions = [];
      messages = [];
    }

fresh-unfinished : (log : List ℕ) → Unfinished (fresh_side log)
unfolding fresh_sender is_served day_series
fresh-unfinished log =
    record { alone = λ s. omega arith; going = λ s r. absurd (not-both false r.served refl) }

pub fresh-source : (log : List ℕ) → Source (fresh_side log)
fresh-source log =
    record {
      served = served-fresh log;
      unfinished = fresh-unfinished log;
      begun = tt;
      on_line = tt;
      genuine = λ i m q. absurd (none-some m q);
      answers = λ i m q. absurd
          (none-some m q);
    }

-- ─── Over the world ───

pub start-source : (log buffer : List ℕ) → Source (start log buffer).serving
unfolding start
start-source log buffer = fresh-source log

pub run-source : (log buffer : List ℕ) (es : List Event) → Source (run (start log buffer) es).serving
run-source log buffer es = run-keeps Source move-source (start log buffer) es (start-source log buffer)
