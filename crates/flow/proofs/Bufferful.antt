-- A bufferful is so many single calls. Assumes nothing.
use Prim.Native.Nat.{ℕ}
use mathlib.Core.Path.{◌≡◌, refl, ap, sym}
use mathlib.Core.List.{List, []}
use native.Mathlib.Omega.{arith}
use lib.ListN.{length, take, drop, length-take}
use Rattle.ftd.specs.Bytes.{be16_of, be32_of}
use Rattle.ftd.specs.Runs.{front, run_of}
use Rattle.ftd.specs.Packet.{missing_of, said_length, not_one_packet, read_of, with_tags, dated_of, wrong_body}
use Rattle.ftd.specs.Chain.Laws.{packet_form}
use Rattle.ftd.proofs.Lists.{part-part}
use Rattle.ftd.specs.declared.packet.Span.{Span}
use Rattle.flow.specs.Types.{Published}
use Rattle.flow.specs.declared.receiver.Origin.{Origin}
use Rattle.flow.specs.declared.receiver.Origin.TheVariants.{Packet, Buffer}
use Rattle.flow.specs.declared.receiver.Received.{Received}
use Rattle.flow.specs.declared.receiver.Received.TheVariants.{Idle, Duplicate, Partial, Complete}
use Rattle.flow.specs.declared.receiver.Received.TheVariants.{Refused as NotTaken}
use Rattle.flow.specs.Answers.{handed_on, content_in, received_said, published_said}
use Rattle.flow.specs.Receiving.{receive_of}
use Rattle.flow.specs.Several.{stopped, placed_from, received_stops, receiving, record_form, record_missing}
use Rattle.flow.specs.Several.{publish_record, published_stops, publishing, several_of}
use Rattle.flow.specs.SeveralHelpers.{LiesIn, AnswerIn}
use Rattle.flow.specs.World.{Event, start, run}
use Rattle.flow.specs.Agreement.{of, latest, reported}
use Rattle.flow.specs.Bufferful.{heard, Bufferful}
use Rattle.flow.proofs.first.Half.{start-safe}
use Rattle.flow.proofs.source.Sources.{start-source}
use Rattle.flow.proofs.several.OneByOne.{StopFits, Fits, one_by_one}
use Rattle.flow.proofs.several.Received.{some-packet, packet-local, received-inside}
use Rattle.flow.proofs.several.Published.{some-record, record-local}
use Rattle.flow.proofs.several.Heard.{heard-run}
use Rattle.std.specs.Prelude.{Ok, Err}

-- ─── Packets ───

module _ (s after : List ℕ) (at n : ℕ) where
  abbrev x : List ℕ
  x = take n (drop at s)

  -- The content of a message is the same bytes, in the packet and at its place in the bytes of the call.
  same-content : (o : Origin) (c : Span) → LiesIn (length x) o c
      → content_in s after o (placed_from at o c) ≡ content_in x after o c
  same-content Packet c h =
      sym (part-part s at n c.start c.len (omega (arith, h, length-take n (drop at s))))
  same-content Buffer c h = refl

  pub received-fits : (a : Received) → AnswerIn (length x) a
      → StopFits receiving s after (received_said x after a) (received_stops at a)
  received-fits Idle h = refl
  received-fits (Duplicate k) h = refl
  received-fits (Partial k) h = refl
  received-fits (Complete k tid o c) h = (
    refl,
    ap (λ (l : List ℕ). stopped (handed_on k (record { tid = tid; content = l }))) (same-content o c h),
  )
  received-fits (NotTaken r) h = (refl, refl)

packets-fit : Fits receiving
packets-fit =
    record {
      some-head = some-packet;
      stop =
          λ e s l at n.
          let r = receive_of e (take n (drop at s)) l in
          received-fits s r.bytes at n r.answer (received-inside e (take n (drop at s)) l);
      ended = λ s l. refl;
      cut = λ s l n. refl;
      local = packet-local;
    }

-- ─── Records ───

published-fits : (s log : List ℕ) (at : ℕ) (a : Published)
    → StopFits publishing s log (published_said a) (published_stops at a)
published-fits s log at (Ok k) = refl
published-fits s log at (Err r) = (refl, refl)

records-fit : Fits publishing
records-fit =
    record {
      some-head = some-record;
      stop =
          λ e s l at n.
          let r = publish_record e (take n (drop at s)) l in
          published-fits s r.bytes at r.answer;
      ended = λ s l. refl;
      cut = λ s l n. refl;
      local = record-local;
    }

-- ─── All of it ───

heads : (receiving.form.head ≡ 4) × (publishing.form.head ≡ 10)
unfolding packet_form record_form
heads = (refl, refl)

same-n : (log buffer : List ℕ) (es : List Event) (s d : ℕ)
    → latest 0 (of s d (heard (start log buffer) es)) ≡ reported (run (start log buffer) es) s d
unfolding start
same-n log buffer es s d =
    heard-run s d (start log buffer) (start-source log buffer) (start-safe log buffer) [] refl es

pub bufferful : Bufferful
unfolding several_of run_of front packet_form record_form missing_of record_missing
    said_length be16_of be32_of receive_of not_one_packet dated_of with_tags read_of wrong_body
bufferful =
    record {
      packets = one_by_one receiving packets-fit;
      records = one_by_one publishing records-fit;
      heads = heads;
      long-extension = λ e l. (refl, refl);
      wrong-body = λ e l. (refl, refl);
      nothing = λ e l. refl;
      one_byte = λ e l. refl;
      no_record = λ e l. refl;
      nine-bytes = λ e l. refl;
      same-n = same-n;
    }
