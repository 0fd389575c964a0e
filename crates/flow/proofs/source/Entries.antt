-- Send finds in the log what was published: the message with the number that is next. Assumes nothing.
use Prim.Native.Nat.{ℕ, zero, suc, ◌≤◌}
use native.Mathlib.Omega.{arith}
use mathlib.Core.Path.{◌≡◌, refl, ap, ◌∙◌}
use mathlib.Core.List.{List, []}
use mathlib.Core.Bool.{true}
use mathlib.Core.Option.{some}
use lib.ListN.{length, get_elem?}
use Rattle.ftd.specs.Runs.{Run}
use Rattle.ftd.specs.Chain.{packets_of}
use Rattle.ftd.specs.Fields.{shaped, most_content}
use Rattle.ftd.proofs.chain.Laws.{chain_laws}
use Rattle.ftd.specs.Types.{TradeDate}
use Rattle.flow.specs.declared.sender.Sender.{Sender}
use Rattle.flow.specs.Ends.{member, day_series, is_served, published_of, place_of}
use Rattle.flow.specs.Log.{entry_bytes, entry_tid, entry_content, entry_of}
use Rattle.flow.specs.Serving.{send_packets, send_bytes}
use Rattle.flow.specs.Answers.{Message}
use Rattle.flow.specs.World.{Dated, packets_in}
use Rattle.flow.specs.Agreement.{of}
use Rattle.flow.proofs.common.Extends.{place-there}
use Rattle.flow.proofs.source.Logs.{Holds, entry-is, tid-back, content-back}
use Rattle.flow.proofs.source.Histories.{on_day, on_date, messages_of, of_is, place-shaped, found-is}
use Rattle.flow.proofs.calls.Serving.{Seated}
use Rattle.flow.proofs.source.Served.{Served}
use Rattle.flow.proofs.common.Bools.{not-both}
use Rattle.std.specs.Prelude.{Some, None}

-- The message that is next: its day, its place there from 0 (its number less 1), and its entry.
pub record NextEntry (e : Sender) (log : List ℕ) (day : TradeDate) (history : List (Dated Message)) (s : ℕ) : Type 0
  where
    pub date : ℕ
    pub place : ℕ
    pub message : Message
    pub same-day : day ≡ Some date
    pub number : (place_of e s).next ≡ suc place
    pub published : get_elem? (of s date history) place ≡ some message
    pub entry : entry_of e log s (place_of e s).next ≡ some
        (entry_bytes s message.tid (place_of e s).next message.content)
    pub shape : shaped message.content most_content ≡ true

module _ (e : Sender) (log : List ℕ) (day : TradeDate) (history : List (Dated Message)) (h : Served e log day history)
    (s : ℕ) where
  -- Where a series is open there is a day.
  pub served-day : is_served e s ≡ true → (d : ℕ) × (day ≡ Some d)
  unfolding is_served
  served-day q = go day refl
    where
      go : (t : TradeDate) → day ≡ t → (d : ℕ) × (day ≡ Some d)
      go None a = absurd (not-both (member s (day_series e)) q (ap (member s) (h.unopened a).0))
      go (Some d) a = (d, a)

  module _ (d : ℕ) (same : day ≡ Some d) (served : is_served e s ≡ true) where
    counted-day : published_of e s ≡ length (messages_of s (on_day d history))
    counted-day = h.counted s served ∙ ap (λ (t : TradeDate). length (messages_of s (on_date t history))) same

    holds-day : Holds e log (on_day d history)
    holds-day = rw same at h.holds

    entry_at : (i : ℕ) → (place_of e s).next ≡ suc i → (place_of e s).next ≤ published_of e s → NextEntry e log day history s
    entry_at i n q =
        let c = counted-day in
        let x = place-there (messages_of s (on_day d history)) i (omega arith) in
        record {
          date = d;
          place = i;
          message = x.0;
          same-day = same;
          number = n;
          published = rw (of_is s d history) x.1;
          entry =
              entry-is e log (on_day d history) s (place_of e s).next holds-day
              ∙ found-is s (place_of e s).next [] (on_day d history) i x.0 (omega arith) x.1;
          shape = place-shaped e s (on_day d history) holds-day.sound i x.0 x.1;
        }

  pub next-entry : Seated e s → (place_of e s).next ≤ published_of e s → NextEntry e log day history s
  next-entry r q =
      let d = served-day r.served in
      let low = (h.placed s r.served r.login).0 in
      go d.0 d.1 (place_of e s).next refl low
    where
      go : (d : ℕ) → day ≡ Some d → (n : ℕ) → (place_of e s).next ≡ n → 1 ≤ (place_of e s).next
          → NextEntry e log day history s
      go d a zero n low = absurd (omega arith)
      go d a (suc i) n low = entry_at d a r.served i n q

-- ─── What is sent of it ───

pub packets-sent : (e : Sender) (s tid number : ℕ) (content : List ℕ) →
    send_packets e s (entry_bytes s tid number content)
    ≡ packets_of (record { date = e.day.date; tid = tid; series = s; number = (place_of e s).next; counted = true }) content
packets-sent e s tid number content = rw (tid-back s tid number content, content-back s tid number content)

pub cut-sent : (e : Sender) (s tid number : ℕ) (content : List ℕ) →
    packets_in (send_bytes e s (entry_bytes s tid number content))
    ≡ packets_of (record { date = e.day.date; tid = tid; series = s; number = (place_of e s).next; counted = true }) content
unfolding send_bytes
cut-sent e s tid number content =
    rw (tid-back s tid number content, content-back s tid number content)
    (ap (λ (r : Run). r.entries)
    (chain_laws.cut-back (record { date = e.day.date; tid = tid; series = s; number = (place_of e s).next; counted = true }) content))

-- The bytes of any entry cut into its packets.
pub cut-packets : (e : Sender) (s : ℕ) (x : List ℕ) → packets_in (send_bytes e s x) ≡ send_packets e s x
unfolding send_bytes
cut-packets e s x =
    ap (λ (r : Run). r.entries)
    (chain_laws.cut-back
    (record { date = e.day.date; tid = entry_tid x; series = s; number = (place_of e s).next; counted = true }) (entry_content x))
