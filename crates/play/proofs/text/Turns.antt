-- The turns of the loop that writes bytes as pairs of digits, and the line of each answer, over plain variables.
-- Assumes nothing.
use Prim.Native.Nat.{ℕ, zero, suc, ◌+◌, ◌-◌, ◌*◌, ◌<◌, ◌≤◌}
use mathlib.Core.Path.{◌≡◌, refl, sym}
use mathlib.Core.List.{List, [], ◌∷◌, ◌++◌, append-nil, append_assoc}
use mathlib.Core.Bool.{Bool, true, false}
use native.Mathlib.Numerals.{add-one}
use native.Mathlib.Omega.{arith}
use native.Mathlib.Nat.{add-sub_cancel_left}
use lib.ListN.{length, get_or, take, drop, drop_of_length-le, length-append, length-drop, length-take}
use lib.Seq.{take-suc, take_all, length-take-le}
use Rattle.listing.specs.Text.{WroteText, hex_of, decimal_of, refused}
use Rattle.listing.proofs.Numbers.{digits-most}
use Rattle.listing.proofs.Texts.{wrote-both}
use Rattle.ftd.specs.Refusal.{number_of}
use Rattle.ftd.specs.declared.refusal.Refusal.{Refusal}
use Rattle.book.specs.Types.{Outcome}
use Rattle.flow.specs.Types.{Published}
use Rattle.flow.specs.Types.{LoggedIn}
use Rattle.flow.specs.Types.{Requested}
use Rattle.flow.specs.Types.{Confirmed}
use Rattle.flow.specs.declared.receiver.Origin.{Origin}
use Rattle.flow.specs.declared.receiver.Origin.TheVariants.{Packet, Buffer}
use Rattle.flow.specs.declared.receiver.Received.{Received}
use Rattle.flow.specs.declared.receiver.Received.TheVariants.{Idle, Duplicate, Partial, Complete}
use Rattle.flow.specs.declared.receiver.Received.TheVariants.{Refused as NotTaken}
use Rattle.calendar.specs.Types.{TradeTime}
use Rattle.ftd.specs.Bytes.{part}
use Rattle.ftd.specs.declared.packet.Span.{Span}
use Rattle.flow.specs.Answers.{content_in}
use Rattle.play.specs.Lines.{hex_bytes, gap, word_line, numbered, bytes_line, refused_line, outcome_line}
use Rattle.play.specs.Lines.{published_line, login_answer_line, sent_line, packet_line, sent_packet_line, published, login}
use Rattle.play.specs.Lines.{sent, packet, last_gap, more_gap, none, requested_line, confirmed_line, message_line, received_line, asked}
use Rattle.play.specs.Lines.{answered, idle, again, Passing, held, inside, outside, date, time_line, date_line}
use Rattle.std.specs.Prelude.{Some, None, Ok, Err}
use Rattle.flow.specs.Types.{SendAnswer, message_sent, PacketSent, packet_sent}

pub hex-append : (l m : List ℕ) → hex_bytes (l ++ m) ≡ hex_bytes l ++ hex_bytes m
unfolding hex_bytes
hex-append [] m = refl
hex-append (x ∷ l) m = rw (hex-append l m) (sym (append_assoc (hex_of 2 x) (hex_bytes l) (hex_bytes m)))

hex-one : (x : ℕ) → hex_bytes (x ∷ []) ≡ hex_of 2 x
unfolding hex_bytes
hex-one x = append-nil (hex_of 2 x)

pub pairs-turn : {l o p : List ℕ} {at to end : ℕ} (b : List ℕ) (i x : ℕ) → at ≤ length l → i < length b
    → WroteText l at (hex_bytes (take i b)) o to → x ≡ get_or b i 0 → WroteText o to (hex_of 2 x) p end
    → WroteText l at (hex_bytes (take (i + 1) b)) p end
pairs-turn b i x fits h inv q more =
    rw (add-one i, take-suc b i 0 h, hex-append (take i b) (get_or b i 0 ∷ []), hex-one (get_or b i 0), ← q)
    (wrote-both fits inv more)

pub pairs-over : {l o : List ℕ} {at to : ℕ} (b : List ℕ) (i : ℕ) → length b ≤ i
    → WroteText l at (hex_bytes (take i b)) o to → WroteText l at (hex_bytes b) o to
pairs-over b i h inv = rw (take_all i b h) at inv

-- ─── Parts ───

take_none : (n : ℕ) → ◌≡◌ {A = List ℕ} [] (take n [])
take_none zero = refl
take_none (suc n) = refl

module _ (b : List ℕ) (start len : ℕ) where
  pub part-behind : length b < start → [] ≡ part b start len
  part-behind h = rw (drop_of_length-le b {i = start} (omega arith)) (take_none len)

  pub part-rest : start ≤ length b → length b - start < len → take (length b - start) (drop start b) ≡ part b start len
  part-rest g h =
      let e : length (drop start b) ≡ length b - start = length-drop start b in
      rw (take_all (length b - start) (drop start b) (omega arith), take_all len (drop start b) (omega arith))

  pub part_room : (w : List ℕ) (m : ℕ) → w ≡ part b start len → 64 + 2 * length b ≤ m → 64 + 2 * length w ≤ m
  part_room w m e h = rw (e, length-take, length-drop) (omega arith)

  pub part-whole : take ((start + len) - start) (drop start b) ≡ part b start len
  part-whole = rw add-sub_cancel_left

-- ─── Lines ───

pub front-room : (b : List ℕ) (n m : ℕ) → n < length b → 64 + 2 * length b ≤ m → 64 + 2 * length (take n b) ≤ m
front-room b n m h r = rw (length-take-le n b (omega arith)) (omega arith)

-- A word and a number of four bytes make a short line.
number_short : (w : List ℕ) (x : ℕ) (l o : List ℕ) (to : ℕ) → WroteText l 0 (word_line (numbered w x)) o to
    → x < 4294967296 → to ≤ length w + 12
unfolding word_line numbered
number_short w x l o to q h =
    let e : length (w ++ (32 ∷ []) ++ decimal_of x ++ (10 ∷ [])) ≡ length w + 1 + length (decimal_of x) + 1 =
    rw (length-append, length-append, length-append) in
    omega (arith, q.place, e, digits-most 9 x (omega arith))

module _ (x : ℕ) (l o : List ℕ) (to : ℕ) where
  pub again-short : WroteText l 0 (word_line (numbered again x)) o to → x < 4294967296 → to ≤ 28
  again-short q h = let k : to ≤ 17 = number_short again x l o to q h in omega arith

  pub held-short : WroteText l 0 (word_line (numbered held x)) o to → x < 4294967296 → to ≤ 28
  held-short q h = let k : to ≤ 16 = number_short held x l o to q h in omega arith

  pub published-short : WroteText l 0 (word_line (numbered published x)) o to → x < 4294967296 → to ≤ 28
  published-short q h = let k : to ≤ 21 = number_short published x l o to q h in omega arith

  pub refused-short : WroteText l 0 (word_line (numbered refused x)) o to → x < 256 → to ≤ 28
  refused-short q h = let k : to ≤ 19 = number_short refused x l o to q (omega arith) in omega arith

-- Where a bufferful goes on, the line is short.
module _ (a : Received) (at to : ℕ) where
  pub passes-idle : a ≡ Idle → to ≤ at + 28 → Passing a at to
  passes-idle e h = rw e h

  pub passes-again : (k : ℕ) → a ≡ Duplicate k → to ≤ at + 28 → Passing a at to
  passes-again k e h = rw e h

  pub passes-held : (k : ℕ) → a ≡ Partial k → to ≤ at + 28 → Passing a at to
  passes-held k e h = rw e h

  pub stops-message : (last tid : ℕ) (origin : Origin) (c : Span) → a ≡ Complete last tid origin c → Passing a at to
  stops-message last tid origin c e = rw e tt

  pub stops-refused : (r : Refusal) → a ≡ NotTaken r → Passing a at to
  stops-refused r e = rw e tt

module _ {l o : List ℕ} {to : ℕ} where
  pub front-all : (w g b : List ℕ) (n : ℕ) → length b ≤ n → WroteText l 0 (bytes_line w g b) o to
      → WroteText l 0 (bytes_line w g (take n b)) o to
  front-all w g b n h q = rw (take_all n b h) q

  pub refused-is : (x n : ℕ) (r : Refusal) → x ≡ n → n ≡ number_of r → WroteText l 0 (word_line (numbered refused x)) o to
      → WroteText l 0 (refused_line r) o to
  unfolding refused_line
  refused-is x n r e f q = rw (← f, ← e) q

  module _ (w : List ℕ) (a : Outcome) where
    pub outcome-done : a ≡ (Ok tt) → WroteText l 0 (word_line w) o to → WroteText l 0 (outcome_line w a) o to
    outcome-done e q = rw e q

    pub outcome-not : (r : Refusal) → a ≡ Err r → WroteText l 0 (refused_line r) o to
        → WroteText l 0 (outcome_line w a) o to
    outcome-not r e q = rw e q

  pub published-as : (a : Published) (k x : ℕ) → a ≡ Ok k → x ≡ k
      → WroteText l 0 (word_line (numbered published x)) o to
      → WroteText l 0 (published_line a) o to
  published-as a k x e f q = rw (e, ← f) q

  pub published-not : (a : Published) (r : Refusal) → a ≡ Err r → WroteText l 0 (refused_line r) o to
      → WroteText l 0 (published_line a) o to
  published-not a r e q = rw e q

  pub login-as : (a : LoggedIn) (b : List ℕ) (n : ℕ) → a ≡ Ok n → WroteText l 0 (bytes_line login gap (take n b)) o to
      → WroteText l 0 (login_answer_line b a) o to
  login-as a b n e q = rw e q

  pub login-not : (a : LoggedIn) (b : List ℕ) (r : Refusal) → a ≡ Err r → WroteText l 0 (refused_line r) o to
      → WroteText l 0 (login_answer_line b a) o to
  login-not a b r e q = rw e q

  pub sent-none : (a : SendAnswer) (b : List ℕ) → a ≡ (Ok None) → WroteText l 0 (word_line none) o to
      → WroteText l 0 (sent_line b a) o to
  sent-none a b e q = rw e q

  pub sent-as : (a : SendAnswer) (b : List ℕ) (k n : ℕ) → a ≡ message_sent k n → WroteText l 0 (bytes_line sent gap (take n b)) o to
      → WroteText l 0 (sent_line b a) o to
  sent-as a b k n e q = rw e q

  pub sent-not : (a : SendAnswer) (b : List ℕ) (r : Refusal) → a ≡ Err r → WroteText l 0 (refused_line r) o to
      → WroteText l 0 (sent_line b a) o to
  sent-not a b r e q = rw e q

  pub packet-last : (b : Bool) (x : List ℕ) → b ≡ true → WroteText l 0 (bytes_line packet last_gap x) o to
      → WroteText l 0 (packet_line b x) o to
  unfolding packet_line
  packet-last b x e q = rw e q

  pub packet-more : (b : Bool) (x : List ℕ) → b ≡ false → WroteText l 0 (bytes_line packet more_gap x) o to
      → WroteText l 0 (packet_line b x) o to
  unfolding packet_line
  packet-more b x e q = rw e q

  module _ (a : PacketSent) (b : List ℕ) where
    pub one_none : a ≡ (Ok None) → WroteText l 0 (word_line none) o to → WroteText l 0 (sent_packet_line b a) o to
    one_none e q = rw e q

    pub one-as : (k n : ℕ) (is_last : Bool) → a ≡ packet_sent k n is_last
        → WroteText l 0 (packet_line is_last (take n b)) o to → WroteText l 0 (sent_packet_line b a) o to
    one-as k n is_last e q = rw e q

    pub one-not : (r : Refusal) → a ≡ Err r → WroteText l 0 (refused_line r) o to
        → WroteText l 0 (sent_packet_line b a) o to
    one-not r e q = rw e q

  pub requested-as : (a : Requested) (b : List ℕ) (n : ℕ) → a ≡ Ok n → WroteText l 0 (bytes_line asked gap (take n b)) o to
      → WroteText l 0 (requested_line b a) o to
  requested-as a b n e q = rw e q

  pub requested-not : (a : Requested) (b : List ℕ) (r : Refusal) → a ≡ Err r → WroteText l 0 (refused_line r) o to
      → WroteText l 0 (requested_line b a) o to
  requested-not a b r e q = rw e q

  pub confirmed-as : (a : Confirmed) (k x : ℕ) → a ≡ Ok k → x ≡ k
      → WroteText l 0 (word_line (numbered answered x)) o to
      → WroteText l 0 (confirmed_line a) o to
  confirmed-as a k x e f q = rw (e, ← f) q

  pub confirmed-not : (a : Confirmed) (r : Refusal) → a ≡ Err r → WroteText l 0 (refused_line r) o to
      → WroteText l 0 (confirmed_line a) o to
  confirmed-not a r e q = rw e q

  module _ (last tid : ℕ) (p b : List ℕ) (origin : Origin) (at : Span) (c : List ℕ)
      (q : WroteText l 0 (message_line last tid c) o to) where
    pub from-packet : origin ≡ Packet → c ≡ part p at.start at.len
        → WroteText l 0 (message_line last tid (content_in p b origin at)) o to
    from-packet e f = rw (e, ← f) q

    pub from-buffer : origin ≡ Buffer → c ≡ part b at.start at.len
        → WroteText l 0 (message_line last tid (content_in p b origin at)) o to
    from-buffer e f = rw (e, ← f) q

  module _ (a : Received) (p b : List ℕ) where
    pub received-idle : a ≡ Idle → WroteText l 0 (word_line idle) o to → WroteText l 0 (received_line p b a) o to
    received-idle e q = rw e q

    pub received-again : (k x : ℕ) → a ≡ Duplicate k → x ≡ k → WroteText l 0 (word_line (numbered again x)) o to
        → WroteText l 0 (received_line p b a) o to
    received-again k x e f q = rw (e, ← f) q

    pub received-held : (k x : ℕ) → a ≡ Partial k → x ≡ k → WroteText l 0 (word_line (numbered held x)) o to
        → WroteText l 0 (received_line p b a) o to
    received-held k x e f q = rw (e, ← f) q

    pub received-message : (last tid : ℕ) (origin : Origin) (at : Span) → a ≡ Complete last tid origin at
        → WroteText l 0 (message_line last tid (content_in p b origin at)) o to
        → WroteText l 0 (received_line p b a) o to
    received-message last tid origin at e q = rw e q

    pub received-not : (r : Refusal) → a ≡ NotTaken r → WroteText l 0 (refused_line r) o to
        → WroteText l 0 (received_line p b a) o to
    received-not r e q = rw e q

  pub time-outside : (a : TradeTime) → a ≡ None → WroteText l 0 (word_line outside) o to
      → WroteText l 0 (time_line a) o to
  time-outside a e q = rw e q

  pub time-inside : (a : TradeTime) (d x : ℕ) → a ≡ Some d → x ≡ d → WroteText l 0 (word_line (numbered inside x)) o to
      → WroteText l 0 (time_line a) o to
  time-inside a d x e f q = rw (e, ← f) q

  pub date-is : (d x : ℕ) → x ≡ d → WroteText l 0 (word_line (numbered date x)) o to → WroteText l 0 (date_line d) o to
  date-is d x f q = rw (← f) q
