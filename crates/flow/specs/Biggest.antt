-- The biggest message there is (02, No. 5, with the tags of No. 10): what the packets of a message take at most, one
-- message that takes as much, and an output that is never too small for Send.
use Rattle.std.specs.Prelude.{ℕ, ◌≤◌, ◌<◌, ◌≡◌, List, [], ◌∷◌, ◌++◌, Bool, true, ◌&&◌, length, get_or, replicate, T, eqb}
use Rattle.ftd.specs.Bytes.{joined}
use Rattle.ftd.specs.Chain.{packets_of, most_packets, most_packet, most_output}
use Rattle.ftd.specs.Bench.{same}
use Rattle.ftd.specs.declared.chain.Message.{Message}
use Rattle.ftd.specs.declared.refusal.Refusal.TheVariants.{TooSmall}
use Rattle.flow.specs.declared.limits.Most.{Most}
use Rattle.flow.specs.declared.sender.Sender.{Sender}
use Rattle.flow.specs.Ends.{fresh_sender}
use Rattle.flow.specs.Answers.{published, published_said}
use Rattle.flow.specs.Serving.{open_day_of, publish_of, send_of, send_packet_of}
use Rattle.flow.specs.Bench.{numbers, note, space, tid}
use Rattle.std.specs.Prelude.{Some, Ok, Err}

-- For the constants of the serving end's type.
abbrev pub sender_most : Most
sender_most = record { packets = most_packets; packet = most_packet; output = most_output }

-- ─── One message that takes the most ───

-- Eight times a field of no bytes and one of 4,069, then one of 114: 32,768 bytes with FIDs and lengths, each field a
-- packet of its own.
unfoldable pub biggest_content : List ℕ
biggest_content = joined (replicate 8 (note 0 0 ++ note 0 4069)) ++ note 0 114

abbrev pub biggest_message : Message
biggest_message = record { date = Some 7; tid = tid; series = 1; number = 1; counted = true }

-- Publish takes it, as number 1 of series 1, and it needs so many packets and bytes.
abbrev pub reaches : ℕ → ℕ → Bool
reaches packets bytes =
    same
    (numbers
    (published_said (publish_of (open_day_of fresh_sender 7 (1 ∷ []) (0 ∷ []) []).end 1 tid biggest_content (space 32784)).answer))
    (numbers (published 1))
    && eqb (length (packets_of biggest_message biggest_content)) packets
    && eqb (length (joined (packets_of biggest_message biggest_content))) bytes

-- ─── The statement ───

pub record Biggest : Type 0 where
  -- In numbers.
  pub in-numbers : (most_packets ≡ 17) × (most_packet ≡ 4110) × (most_output ≡ 33278)
  -- Content that Publish takes needs at most so many packets, each of at most so many bytes, and so many bytes in all,
  -- whatever the packets bear.
  pub packets : (e : Sender) (s t : ℕ) (content log : List ℕ) (k : ℕ) → (publish_of e s t content log).answer ≡ Ok k
      → (m : Message) → length (packets_of m content) ≤ most_packets
  pub packet : (e : Sender) (s t : ℕ) (content log : List ℕ) (k : ℕ) → (publish_of e s t content log).answer ≡ Ok k
      → (m : Message) (i : ℕ) → i < length (packets_of m content) → length (get_or (packets_of m content) i []) ≤ most_packet
  pub bytes : (e : Sender) (s t : ℕ) (content log : List ℕ) (k : ℕ) → (publish_of e s t content log).answer ≡ Ok k
      → (m : Message) → length (joined (packets_of m content)) ≤ most_output
  -- One message takes as many.
  pub reached : T (reaches 17 33278)
  -- An output of as many bytes is never too small for Send, whatever the log holds.
  pub enough : (e : Sender) (s : ℕ) (log out : List ℕ) → most_output ≤ length out
      → (send_of e s log out).answer ≡ Err TooSmall → ⊥
  -- Nor is one of as many bytes as one packet takes at most for Send of one packet (02, No. 4).
  pub enough-packet : (e : Sender) (s : ℕ) (log out : List ℕ) → most_packet ≤ length out
      → (send_packet_of e s log out).answer ≡ Err TooSmall → ⊥
