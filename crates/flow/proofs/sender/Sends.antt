-- Both forms of Send, row by row, by the place of a series in the arrays: what the code did is what `send_of` and
-- `send_packet_of` say. Over plain variables. Assumes nothing.
use Prim.Native.Nat.{ℕ, suc, ◌+◌, ◌-◌, ◌%◌, ◌<◌, ◌≤◌}
use native.Mathlib.Omega.{arith}
use mathlib.Core.Path.{◌≡◌, refl, sym, ap, ◌∙◌}
use mathlib.Core.List.{List, []}
use mathlib.Core.Bool.{Bool, true, false, cond}
use mathlib.Core.Option.{none, some}
use borrow.Author.Tests.{ltb-true, ltb-false, lt-ltb, le-ltb, le-leb, lt-leb}
use lib.ListN.{length, get_or, take, drop, length-take, length-drop}
use lib.Dec.{ltb, eqb}
use Rattle.ftd.specs.Bytes.{joined}
use Rattle.ftd.specs.Chain.{packets_of, chain_verdict, packet_answer, output_left, packet_output}
use Rattle.ftd.specs.Fields.{most_content}
use Rattle.ftd.specs.Write.{fine, written_answer, written_output}
use Rattle.ftd.proofs.chain.Laws.{chain_laws}
use Rattle.ftd.proofs.chain.Pieces.{shaped-facts}
use Rattle.ftd.specs.declared.chain.Message.{Message}
use Rattle.ftd.specs.declared.refusal.Refusal.{Refusal}
use Rattle.ftd.specs.declared.refusal.Refusal.TheVariants.{UnknownSeries, NotLoggedIn, TooSmall, DamagedLog}
use Rattle.ftd.specs.Types.{Written}
use Rattle.flow.specs.declared.sender.Place.{Place}
use Rattle.flow.specs.declared.sender.Sender.{Sender}
use Rattle.flow.specs.Answers.{Said}
use Rattle.flow.specs.Ends.{Wrote, wrote, over, no_series, no_place, is_served, published_of, place_of}
use Rattle.flow.specs.Ends.{with_place}
use Rattle.flow.specs.Log.{entry_of}
use Rattle.flow.specs.Serving.{is_none_left, send_packets, send_bytes, send_entry, send_of, next_packet, no_packet}
use Rattle.flow.specs.Serving.{last_packet, after_packet, send_packet_entry, send_packet_of}
use Rattle.flow.specs.Promises.{Answers}
use Rattle.flow.specs.Helpers.{Finds, EntryIn, placed_at}
use Rattle.flow.specs.SendHelpers.{Leaves, BothAre, EntryNext, FindsNext, headed, stepped_at}
use Rattle.flow.proofs.common.Writers.{fine-answer, fine-output, Otherwise, not-bytes}
use Rattle.flow.proofs.log.Heads.{part-size, part_end}
use Rattle.flow.proofs.sender.Lookups.{published-at, place_at, placed-at}
use Rattle.std.specs.Prelude.{Some, None, Ok, Err}
use Rattle.ftd.specs.Types.{PacketAnswer, some_packet}
use Rattle.flow.specs.Types.{SendAnswer, message_sent, packet_sent}
use Rattle.ftd.specs.declared.write.WriteError.TheVariants.{Refused}
use Rattle.flow.specs.Types.{some_place, NextFound, next_message}

-- ─── The rows before the packets, of both forms ───

module _ (e : Sender) (s : ℕ) (log : List ℕ) where
  -- 13.
  pub next-unknown : is_served e s ≡ false → FindsNext e s log (Err UnknownSeries)
  unfolding send_of send_packet_of
  next-unknown h out = rw h (refl, refl)

  module _ (i : ℕ) (f : Finds e s (Some i)) where
    -- 14.
    pub next-outside : (get_or e.seat.places i no_place).login ≡ false → FindsNext e s log (Err NotLoggedIn)
    unfolding send_of send_packet_of
    next-outside h out =
        let g : (place_of e s).login ≡ false = rw (place_at e s i f.1) at h in
        rw (f.0, g) (refl, refl)

    module _ (login : (get_or e.seat.places i no_place).login ≡ true) where
      seated : (place_of e s).login ≡ true
      seated = rw (place_at e s i f.1) at login

      -- None left.
      pub next-none : (get_or e.day.series i no_series).published < (get_or e.seat.places i no_place).next
          → FindsNext e s log (Ok None)
      unfolding send_of send_packet_of is_none_left
      next-none h out =
          let g : published_of e s < (place_of e s).next = rw (published-at e s i f.1, place_at e s i f.1) at h in
          rw (f.0, seated, lt-ltb (published_of e s) (place_of e s).next g) (refl, refl)

      module _ (left : (get_or e.seat.places i no_place).next ≤ (get_or e.day.series i no_series).published)
          (small : (get_or e.day.series i no_series).published < 4294967296) where
        some_left : (place_of e s).next ≤ published_of e s
        some_left = rw (published-at e s i f.1, place_at e s i f.1) at left

        -- The number that is next has four bytes.
        number-next : (get_or e.seat.places i no_place).next % 4294967296 ≡ (place_of e s).next
        number-next = rw (← place_at e s i f.1) (omega arith)

        goes_on : BothAre e s log
            (λ out. send_entry e s out (entry_of e log s ((get_or e.seat.places i no_place).next % 4294967296)))
            (λ out. send_packet_entry e s out (entry_of e log s ((get_or e.seat.places i no_place).next % 4294967296)))
        unfolding send_of send_packet_of is_none_left
        goes_on out =
            rw (f.0, seated, le-ltb (published_of e s) (place_of e s).next some_left, number-next) (refl, refl)

        -- 20.
        pub next-damaged : entry_of e log s ((get_or e.seat.places i no_place).next % 4294967296) ≡ none
            → FindsNext e s log (Err DamagedLog)
        next-damaged h out = rw h at (goes_on out)

        pub next-found : (start size : ℕ)
            → EntryIn (entry_of e log s ((get_or e.seat.places i no_place).next % 4294967296)) log (some_place start size)
            → FindsNext e s log (next_message i ((get_or e.seat.places i no_place).next % 4294967296) start size)
        next-found start size h =
            let fits = h.2 in (
              (
                f.1,
                f.2,
                number-next,
                simp (length-take, length-drop) (let k = h.1 in omega arith),
                h.3,
              ),
              h.2,
              λ out. rw h.0 at (goes_on out),
            )

-- What was found: none left, a refusal, or an entry, which is lent as a part of the log.
module _ (e : Sender) (s : ℕ) (log : List ℕ) (f : NextFound) (h : FindsNext e s log f) where
  pub found_none : f ≡ (Ok None) → FindsNext e s log (Ok None)
  found_none is = rw is at h

  pub found-refused : (r : Refusal) → f ≡ Err r → FindsNext e s log (Err r)
  found-refused r is = rw is at h

  module _ (i number start size : ℕ) (is : f ≡ next_message i number start size) where
    abbrev lent : List ℕ
    lent = take (start + size - start) (drop start log)

    pub entry-inside : start + size ≤ length log
    entry-inside = (rw is at h).1

    pub entry-lent : EntryNext e s i number lent
    entry-lent = rw (part-size start size) (rw is at h).0

    pub entry-comes : BothAre e s log (λ out. send_entry e s out (some lent)) (λ out. send_packet_entry e s out (some lent))
    entry-comes = rw (part-size start size) (rw is at h).2

-- What was found comes to what is meant.
pub comes-to : {A : Type 0} (said : A → Said) (given meant : Wrote Sender A) (end : Sender) (answer : A)
    (after : List ℕ) → given ≡ meant → Leaves meant end answer after
    → (end ≡ given.end) × Answers said answer given.answer × (after ≡ given.bytes)
comes-to said given meant end answer after q h = rw q (h.0, (ap said h.1, h.1), h.2)

-- ─── The entry as packets ───

-- What the whole form does with the writer's answer and output.
module _ (e : Sender) (s : ℕ) (x out : List ℕ) where
  abbrev bytes : List ℕ
  bytes = send_bytes e s x

  abbrev full : Bool → Wrote Sender SendAnswer
  full b =
      cond b (wrote e (Err TooSmall) out)
      (wrote (with_place e s (suc (place_of e s).next) 0) (message_sent (place_of e s).next (length bytes))
      (over bytes out))

  wrote-all : (b : Bool) (after : List ℕ) (n number : ℕ) (next : Sender)
      → ◌≡◌ {A = Written} (Ok n) (cond b (Err (Refused TooSmall)) (Ok (length bytes)))
      → after ≡ cond b out (over bytes out) → number ≡ (place_of e s).next → next ≡ with_place e s (suc (place_of e s).next) 0
      → Leaves (full b) next (message_sent number n) after
  wrote-all true after n number next a o k m = let z : ◌≡◌ {A = ℕ} 0 1 = cc in absurd (omega arith)
  wrote-all false after n number next a o k m = let q : n ≡ length bytes = cc in (m, rw (q, k), o)

  wrote_none : (b : Bool) (after : List ℕ) (w : Written) → Otherwise w
      → w ≡ cond b (Err (Refused TooSmall)) (Ok (length bytes))
      → after ≡ cond b out (over bytes out) → Leaves (full b) e (Err TooSmall) after
  wrote_none true after w h a o = (refl, refl, o)
  wrote_none false after w h a o = absurd (not-bytes (length bytes) (rw a at h))

  -- What the form of one packet does with them; and there are few packets before that one.
  abbrev Comes : PacketAnswer → List ℕ → Type 0
  Comes (Ok (Some found)) after =
      (send_packet_entry e s out (some x) ≡ wrote (after_packet e s found.last) (packet_sent (place_of e s).next found.len found.last) after)
      × ((place_of e s).piece < 17)
  Comes (Ok None) after = send_packet_entry e s out (some x) ≡ wrote e (Err DamagedLog) after
  Comes (Err r) after = send_packet_entry e s out (some x) ≡ wrote e (Err TooSmall) after

  abbrev all : ℕ
  all = length (send_packets e s x)

  abbrev packet : List ℕ
  packet = get_or (send_packets e s x) (place_of e s).piece []

  abbrev one : Bool → Bool → PacketAnswer
  one there small =
      cond there (cond small (Err TooSmall) (some_packet (length packet) (eqb ((place_of e s).piece + 1) all)))
      (Ok None)

  one-comes : (there small : Bool) → ltb (place_of e s).piece all ≡ there → ltb (length out) (length packet) ≡ small
      → all ≤ 17
      → Comes (one there small) (output_left (one there small) packet out)
  unfolding next_packet no_packet last_packet
  one-comes true true q r few = rw (lt-leb all (place_of e s).piece (ltb-true (place_of e s).piece all q), r)
  one-comes true false q r few = (
    rw (lt-leb all (place_of e s).piece (ltb-true (place_of e s).piece all q), r),
    let k = ltb-true (place_of e s).piece all q in omega arith,
  )
  one-comes false small q r few = rw (le-leb all (place_of e s).piece (ltb-false (place_of e s).piece all q))

module _ (e : Sender) (s i number : ℕ) (x : List ℕ) (h : EntryNext e s i number x) (m : Message)
    (is : m ≡ headed e s number x) (out after : List ℕ) where
  same-packets : packets_of m (drop 16 x) ≡ send_packets e s x
  same-packets = rw (is, h.2)

  passes : chain_verdict (drop 16 x) ≡ fine
  unfolding chain_verdict
  passes = rw h.4

  abbrev content : List ℕ
  content = take (length x - 16) (drop 16 x)

  -- The whole form.
  module _ (w : Written) (a : w ≡ written_answer (chain_verdict content) (joined (packets_of m content)) out)
      (o : after ≡ written_output (chain_verdict content) (joined (packets_of m content)) out) where
    packets : joined (packets_of m (drop 16 x)) ≡ send_bytes e s x
    unfolding send_bytes
    packets = ap joined same-packets

    answered : w
        ≡ cond (ltb (length out) (length (send_bytes e s x))) (Err (Refused TooSmall)) (Ok (length (send_bytes e s x)))
    answered = (rw (part_end 16 x, packets) at a) ∙ fine-answer (chain_verdict (drop 16 x)) passes (send_bytes e s x) out

    put-out : after ≡ cond (ltb (length out) (length (send_bytes e s x))) out (over (send_bytes e s x) out)
    put-out = (rw (part_end 16 x, packets) at o) ∙ fine-output (chain_verdict (drop 16 x)) passes (send_bytes e s x) out

    pub entry-sent : (n : ℕ) (next : Sender) → w ≡ Ok n → next ≡ placed_at e i (number + 1) 0
        → Leaves (send_entry e s out (some x)) next (message_sent number n) after
    entry-sent n next q g =
        let z : number + 1 ≡ suc (place_of e s).next = let k = h.2 in omega arith in
        wrote-all e s x out (ltb (length out) (length (send_bytes e s x))) after n number next (rw q at answered)
        put-out h.2 ((rw z at g) ∙ placed-at e s i h.0 (suc (place_of e s).next) 0)

    pub entry-small : Otherwise w → Leaves (send_entry e s out (some x)) e (Err TooSmall) after
    entry-small q = wrote_none e s x out (ltb (length out) (length (send_bytes e s x))) after w q answered put-out

  -- One packet.
  module _ (piece : ℕ) (p : piece ≡ (get_or e.seat.places i no_place).piece) (w : PacketAnswer)
      (a : w ≡ packet_answer m content piece out) (o : after ≡ packet_output m content piece out) where
    same-piece : piece ≡ (place_of e s).piece
    same-piece = p ∙ ap (λ (x : Place). x.piece) (place_at e s i h.0)

    few-packets : length (send_packets e s x) ≤ 17
    few-packets =
        let n = chain_laws.few (drop 16 x) (shaped-facts (drop 16 x) most_content true (sym h.4) refl).0 in
        let k = (chain_laws.as_many m (drop 16 x)).0 in
        rw same-packets at (rw (← k) at n)

    comes : Comes e s x out w after
    unfolding packet_answer packet_output
    comes =
        rw (a, o, part_end 16 x, same-packets, same-piece, h.4)
        (one-comes e s x out (ltb (place_of e s).piece (all e s x out))
        (ltb (length out) (length (packet e s x out))) refl refl few-packets)

    stepped : (last : Bool) (next : Sender) → next ≡ stepped_at e i number piece last → next ≡ after_packet e s last
    unfolding after_packet
    stepped true next q =
        let z : number + 1 ≡ suc (place_of e s).next = let k = h.2 in omega arith in
        (rw z at q) ∙ placed-at e s i h.0 (suc (place_of e s).next) 0
    stepped false next q =
        (rw (h.2, same-piece) at q) ∙ placed-at e s i h.0 (place_of e s).next ((place_of e s).piece + 1)

    pub piece-few : (n : ℕ) (last : Bool) → w ≡ some_packet n last → piece < 17
    piece-few n last q = rw same-piece (rw q at comes).1

    pub piece_sent : (n : ℕ) (last : Bool) (next : Sender) → w ≡ some_packet n last
        → next ≡ stepped_at e i number piece last
        → Leaves (send_packet_entry e s out (some x)) next (packet_sent number n last) after
    piece_sent n last next q g =
        rw (rw q at comes).0 (stepped last next g, rw h.2, refl)

    pub piece-none : w ≡ (Ok None) → Leaves (send_packet_entry e s out (some x)) e (Err DamagedLog) after
    piece-none q = rw (rw q at comes) (refl, refl, refl)

    pub piece-small : (r : Refusal) → w ≡ Err r
        → Leaves (send_packet_entry e s out (some x)) e (Err TooSmall) after
    piece-small r q = rw (rw q at comes) (refl, refl, refl)
