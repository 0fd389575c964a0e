-- What a line leaves, case by case, over plain variables. Assumes nothing.
use Prim.Native.Nat.{ℕ, ◌+◌, ◌*◌, ◌<◌, ◌≤◌}
use mathlib.Core.Path.{◌≡◌, refl}
use mathlib.Core.List.{List, [], ◌∷◌, ◌++◌}
use mathlib.Core.Bool.{Bool, true, false, cond}
use native.Mathlib.Omega.{arith}
use borrow.Author.Tests.{lt-ltb, le-ltb}
use lib.ListN.{length, take, drop, replicate}
use lib.Seq.{length-take-le}
use types.Run.{OneOf, miss}
use denote.Enum.Declared.{tag_of}
use Rattle.listing.specs.Text.{WroteText}
use Rattle.listing.proofs.Texts.{put-none}
use Rattle.play.specs.declared.player.Player.{Player}
use Rattle.play.specs.declared.player.Played.{Played}
use Rattle.play.specs.declared.calls.Call.{Call}
use Rattle.play.specs.declared.calls.Call.TheVariants.{Bad, Buffers, OpenDay, Publish, Login, Send, OpenEnd}
use Rattle.play.specs.declared.calls.Call.TheVariants.{Connect, Ask, Answer, Receive, State}
use Rattle.play.specs.declared.calls.Call.TheVariants.{SetCalendar, AskTime, MarkDate, ReceiveAll, PublishAll}
use Rattle.play.specs.declared.calls.Call.TheVariants.{StartBook, TakeMessage, ShowLevel, ShowMean, Keep, Return}
use Rattle.play.specs.contracts.calls.Call.{the_type}
use Rattle.play.specs.Words.{argument, said_bytes, series_from, words_from, name_in}
use Rattle.play.specs.Calls.{call_of}
use Rattle.play.specs.Lines.{word_line}
use Rattle.play.specs.Played.{Turn, Shows, Plays, bad_line, ok_line, laid_out, counted_player, bad_turn, layout_turn}
use Rattle.play.specs.Played.{ready_turn, start_turn, call_turn, lacks_room, play_turn, PlaysOpenDay, ShowsOpenEnd}
use Rattle.play.specs.Played.{ShowsConnect, ShowsAnswer, ShowsState, PlaysPublish, PlaysLogin, PlaysSend, PlaysAsk}
use Rattle.play.specs.Played.{PlaysReceive, ShowsCalendar, ShowsTime, ShowsDate, ShowsStart, ShowsTake}
use Rattle.play.specs.Played.{ShowsLevel, ShowsMean, PlaysReceiveAll, PlaysPublishAll, ShowsKeep, ShowsReturn}

-- A turn that is another.
is-turn : {u t : Turn} {r : Played} {b a log chain : List ℕ} → t ≡ u → Plays u r b a log chain → Plays t r b a log chain
is-turn e h = rw e h

chosen : (b : Bool) (x y : Turn) → b ≡ true → cond b x y ≡ x
chosen b x y e = rw e

left_out : (b : Bool) (x y : Turn) → b ≡ false → cond b x y ≡ y
left_out b x y e = rw e

-- ─── The buffers are laid out ───

module _ (p : Player) (size part : ℕ) (log chain : List ℕ) (t t' : List ℕ) where
  pub no-log : (r : Played) → length log < size → Shows p (bad_line p.lines) r t t'
      → Plays (layout_turn p size part log chain) r t t' log chain
  unfolding layout_turn
  no-log r h s = rw (lt-ltb (length log) size h) (s, refl, refl)

  module _ (g : size ≤ length log) where
    pub no-chain : (r : Played) → length chain < part → Shows p (bad_line p.lines) r t t'
        → Plays (layout_turn p size part log chain) r t t' log chain
    unfolding layout_turn
    no-chain r h s = rw (le-ltb (length log) size g, lt-ltb (length chain) part h) (s, refl, refl)

    pub laid_out-plays : part ≤ length chain → (lo ch : List ℕ) (n : ℕ) → lo ≡ replicate (length (take size log)) 0
        → ch ≡ replicate (length (take part chain)) 0 → WroteText t 0 (word_line (111 ∷ 107 ∷ [])) t' n → n ≤ length t'
        → Plays (layout_turn p size part log chain) (record { player = laid_out p size part; len = n }) t t'
        (lo ++ drop size log) (ch ++ drop part chain)
    unfolding layout_turn ok_line
    laid_out-plays h lo ch n x y w m =
        rw (le-ltb (length log) size g, le-ltb (length chain) part h) (
          (refl, w, m),
          rw (x, length-take-le size log g),
          rw (y, length-take-le part chain h),
        )

-- ─── A call ───

module _ (p : Player) (line log chain : List ℕ) (call : Call) (r : Played) (t t' : List ℕ) where
  pub ready-bad : call ≡ Bad → Shows p (bad_line p.lines) r t t'
      → Plays (ready_turn p line log chain call) r t t' log chain
  ready-bad e h = rw e (h, refl, refl)

  pub ready-buffers : (n m : ℕ) → call ≡ Buffers n m → Shows p (bad_line p.lines) r t t'
      → Plays (ready_turn p line log chain call) r t t' log chain
  ready-buffers n m e h = rw e (h, refl, refl)

  pub ready-day : (date n : ℕ) → call ≡ OpenDay date n → PlaysOpenDay p line date n log r t t'
      → Plays (ready_turn p line log chain call) r t t' log chain
  ready-day date n e h = rw e (h, refl, refl)

  pub ready-publish : (s tid : ℕ) (log' : List ℕ) → call ≡ Publish s tid
      → PlaysPublish p s tid (said_bytes (argument line 2)) log log' r t t'
      → Plays (ready_turn p line log chain call) r t t' log' chain
  ready-publish s tid log' e h = rw e (h.0, h.1, refl)

  pub ready-login : (s n : ℕ) → call ≡ Login s n
      → PlaysLogin p s (said_bytes (argument line 2)) (said_bytes (argument line 3)) n r t t'
      → Plays (ready_turn p line log chain call) r t t' log chain
  ready-login s n e h = rw e (h, refl, refl)

  pub ready-send : (s n : ℕ) (single : Bool) → call ≡ Send s n single → PlaysSend p s log n single r t t'
      → Plays (ready_turn p line log chain call) r t t' log chain
  ready-send s n true e h = rw e (h, refl, refl)
  ready-send s n false e h = rw e (h, refl, refl)

  pub ready-end : (n : ℕ) → call ≡ OpenEnd n → ShowsOpenEnd p (series_from line 0 n) r t t'
      → Plays (ready_turn p line log chain call) r t t' log chain
  ready-end n e h = rw e (h, refl, refl)

  pub ready-connect : call ≡ Connect → ShowsConnect p r t t' → Plays (ready_turn p line log chain call) r t t' log chain
  ready-connect e h = rw e (h, refl, refl)

  pub ready-ask : (s n : ℕ) → call ≡ Ask s n → PlaysAsk p s (said_bytes (argument line 2)) n r t t'
      → Plays (ready_turn p line log chain call) r t t' log chain
  ready-ask s n e h = rw e (h, refl, refl)

  pub ready-answer : (s : ℕ) → call ≡ Answer s → ShowsAnswer p s (said_bytes (argument line 1)) r t t'
      → Plays (ready_turn p line log chain call) r t t' log chain
  ready-answer s e h = rw e (h, refl, refl)

  pub ready-receive : (chain' : List ℕ) → call ≡ Receive
      → PlaysReceive p (said_bytes (argument line 0)) chain chain' r t t'
      → Plays (ready_turn p line log chain call) r t t' log chain'
  ready-receive chain' e h = rw e (h.0, refl, h.1)

  pub ready-state : call ≡ State → ShowsState p r t t' → Plays (ready_turn p line log chain call) r t t' log chain
  ready-state e h = rw e (h, refl, refl)

  pub ready-calendar : (n k : ℕ) → call ≡ SetCalendar n k
      → ShowsCalendar p (words_from line 1 (3 * n)) (words_from line (1 + 3 * n) k) r t t'
      → Plays (ready_turn p line log chain call) r t t' log chain
  ready-calendar n k e h = rw e (h, refl, refl)

  pub ready-time : (s : ℕ) → call ≡ AskTime s → ShowsTime p s r t t' → Plays (ready_turn p line log chain call) r t t' log chain
  ready-time s e h = rw e (h, refl, refl)

  pub ready-date : (m : ℕ) → call ≡ MarkDate m → ShowsDate p m r t t' → Plays (ready_turn p line log chain call) r t t' log chain
  ready-date m e h = rw e (h, refl, refl)

  pub ready-book : call ≡ StartBook → ShowsStart p (said_bytes (argument line 0)) r t t'
      → Plays (ready_turn p line log chain call) r t t' log chain
  ready-book e h = rw e (h, refl, refl)

  pub ready-take : (tid : ℕ) → call ≡ TakeMessage tid → ShowsTake p tid (said_bytes (argument line 1)) r t t'
      → Plays (ready_turn p line log chain call) r t t' log chain
  ready-take tid e h = rw e (h, refl, refl)

  pub ready-level : (buying : Bool) (i : ℕ) → call ≡ ShowLevel buying i → ShowsLevel p buying i r t t'
      → Plays (ready_turn p line log chain call) r t t' log chain
  ready-level buying i e h = rw e (h, refl, refl)

  pub ready-mean : call ≡ ShowMean → ShowsMean p r t t' → Plays (ready_turn p line log chain call) r t t' log chain
  ready-mean e h = rw e (h, refl, refl)

  pub ready-receive-all : (chain' : List ℕ) → call ≡ ReceiveAll
      → PlaysReceiveAll p (said_bytes (argument line 0)) chain chain' r t t'
      → Plays (ready_turn p line log chain call) r t t' log chain'
  ready-receive-all chain' e h = rw e (h.0, refl, h.1)

  pub ready-publish-all : (log' : List ℕ) → call ≡ PublishAll
      → PlaysPublishAll p (said_bytes (argument line 0)) log log' r t t'
      → Plays (ready_turn p line log chain call) r t t' log' chain
  ready-publish-all log' e h = rw e (h.0, h.1, refl)

  pub ready-keep : call ≡ Keep → ShowsKeep p (name_in (argument line 0)) r t t'
      → Plays (ready_turn p line log chain call) r t t' log chain
  ready-keep e h = rw e (h, refl, refl)

  pub ready-return : call ≡ Return → ShowsReturn p (name_in (argument line 0)) r t t'
      → Plays (ready_turn p line log chain call) r t t' log chain
  ready-return e h = rw e (h, refl, refl)

  others : (c : Call) → OneOf (0 ∷ 2 ∷ 3 ∷ 4 ∷ 5 ∷ 6 ∷ 7 ∷ 8 ∷ 9 ∷ 10 ∷ 11 ∷ 12 ∷ 13 ∷ 14 ∷ 15 ∷ 16 ∷ 17 ∷ 18 ∷ 19 ∷ 20 ∷ 21 ∷ 22 ∷ []) (tag_of the_type c)
      → start_turn p log chain c ≡ bad_turn p log chain
  others Bad k = refl
  others (Buffers n m) k = absurd (miss (0 ∷ 2 ∷ 3 ∷ 4 ∷ 5 ∷ 6 ∷ 7 ∷ 8 ∷ 9 ∷ 10 ∷ 11 ∷ 12 ∷ 13 ∷ 14 ∷ 15 ∷ 16 ∷ 17 ∷ 18 ∷ 19 ∷ 20 ∷ 21 ∷ 22 ∷ []) 1 tt k)
  others (OpenDay date n) k = refl
  others (Publish s tid) k = refl
  others (Login s n) k = refl
  others (Send s n single) k = refl
  others (OpenEnd n) k = refl
  others Connect k = refl
  others (Ask s n) k = refl
  others (Answer s) k = refl
  others Receive k = refl
  others State k = refl
  others (SetCalendar n m) k = refl
  others (AskTime s) k = refl
  others (MarkDate m) k = refl
  others StartBook k = refl
  others (TakeMessage tid) k = refl
  others (ShowLevel buying i) k = refl
  others ShowMean k = refl
  others ReceiveAll k = refl
  others PublishAll k = refl
  others Keep k = refl
  others Return k = refl

  pub start-other : OneOf (0 ∷ 2 ∷ 3 ∷ 4 ∷ 5 ∷ 6 ∷ 7 ∷ 8 ∷ 9 ∷ 10 ∷ 11 ∷ 12 ∷ 13 ∷ 14 ∷ 15 ∷ 16 ∷ 17 ∷ 18 ∷ 19 ∷ 20 ∷ 21 ∷ 22 ∷ []) (tag_of the_type call)
      → Shows p (bad_line p.lines) r t t' → Plays (start_turn p log chain call) r t t' log chain
  start-other k h = is-turn (others call k) (h, refl, refl)

  module _ (log' chain' : List ℕ) where
    pub start-buffers : (n m : ℕ) → call ≡ Buffers n m → Plays (layout_turn p n m log chain) r t t' log' chain'
        → Plays (start_turn p log chain call) r t t' log' chain'
    start-buffers n m e h = rw e h

    pub call-ready : p.ready ≡ true → Plays (ready_turn p line log chain call) r t t' log' chain'
        → Plays (call_turn p line log chain call) r t t' log' chain'
    unfolding call_turn
    call-ready e h = is-turn (chosen p.ready (ready_turn p line log chain call) (start_turn p log chain call) e) h

    pub call-start : p.ready ≡ false → Plays (start_turn p log chain call) r t t' log' chain'
        → Plays (call_turn p line log chain call) r t t' log' chain'
    unfolding call_turn
    call-start e h = is-turn (left_out p.ready (ready_turn p line log chain call) (start_turn p log chain call) e) h

-- ─── A line ───

module _ (p : Player) (line : List ℕ) (len : ℕ) (log chain : List ℕ) (bytes out : ℕ) (t : List ℕ) (b : Bool)
    (h : b ≡ lacks_room p (length line) (length log) (length chain) bytes out (length t)) where
  pub play-none : b ≡ true
      → Plays (play_turn p line len log chain bytes out (length t)) (record { player = p; len = 0 }) t t log chain
  unfolding play_turn
  play-none e =
      rw (← h, e) ((refl, record { bytes = put-none t 0; place = omega arith }, omega arith), refl, refl)

  module _ (f : b ≡ false) (q : Player) (g : q ≡ counted_player p) (r : Played) (t' : List ℕ) where
    pub play-long : length line < len → Shows q (bad_line q.lines) r t t'
        → Plays (play_turn p line len log chain bytes out (length t)) r t t' log chain
    unfolding play_turn
    play-long w s = rw (← h, f, lt-ltb (length line) len w, ← g) (s, refl, refl)

    pub play-said : len ≤ length line → (c : Call) (log' chain' : List ℕ)
        → Plays (call_turn q (take len line) log chain c) r t t' log' chain' → c ≡ call_of (take len line)
        → Plays (play_turn p line len log chain bytes out (length t)) r t t' log' chain'
    unfolding play_turn
    play-said w c log' chain' s e = rw (← h, f, le-ltb (length line) len w, ← g, ← e) s
