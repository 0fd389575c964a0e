-- The player's lines as the definitions mean them, over plain variables. Assumes nothing.
use Prim.Native.Nat.{ℕ}
use mathlib.Core.Path.{◌≡◌}
use mathlib.Core.Bool.{false}
use mathlib.Core.List.{List, [], ◌∷◌}
use Rattle.flow.specs.declared.sender.Sender.{Sender}
use Rattle.flow.specs.declared.receiver.Receiver.{Receiver}
use Rattle.flow.specs.declared.checkpoint.Checkpoints.{Checkpoints}
use Rattle.flow.specs.Checkpoints.{fresh_checkpoints}
use Rattle.flow.specs.Ends.{fresh_sender, fresh_receiver}
use Rattle.calendar.specs.declared.trading.Calendar.{Calendar}
use Rattle.calendar.specs.Calendar.{fresh_calendar}
use Rattle.book.specs.declared.calls.Book.{Book}
use Rattle.book.specs.Calls.{fresh_book}
use Rattle.listing.specs.Text.{WroteText}
use Rattle.play.specs.declared.player.Player.{Player}
use Rattle.play.specs.Lines.{word_line, numbered}
use Rattle.play.specs.Played.{fresh_player, bad_line}

pub fresh-is : (e : Sender) (f : Receiver) (k : Checkpoints) (c : Calendar) (b : Book) → e ≡ fresh_sender
    → f ≡ fresh_receiver → k ≡ fresh_checkpoints → c ≡ fresh_calendar → b ≡ fresh_book → ◌≡◌ {A = Player} (record {
      lines = 0;
      ready = false;
      log = 0;
      chain = 0;
      sender = e;
      receiver = f;
      checkpoints = k;
      calendar = c;
      book = b;
    }) fresh_player
fresh-is e f k c b q p m o n = rw (q, p, m, o, n)

pub bad-is : {l t : List ℕ} {to : ℕ} (n : ℕ)
    → WroteText l 0 (word_line (numbered (98 ∷ 97 ∷ 100 ∷ 32 ∷ 108 ∷ 105 ∷ 110 ∷ 101 ∷ []) n)) t to
    → WroteText l 0 (bad_line n) t to
unfolding bad_line
bad-is n q = q
