-- A packet of one series leaves every other series as it is: its trade date and last, its login and chain, its part of
-- the buffer. Assumes nothing.
use Prim.Native.Nat.{ℕ, ◌≤◌}
use mathlib.Core.Path.{◌≡◌, refl}
use mathlib.Core.List.{List}
use mathlib.Core.Bool.{true}
use Rattle.ftd.specs.Fields.{most_content}
use Rattle.ftd.specs.Bytes.{part}
use Rattle.ftd.specs.Types.{TradeDate}
use Rattle.ftd.specs.Types.{PacketPlace}
use Rattle.ftd.specs.declared.packet.Span.{Span}
use Rattle.ftd.specs.declared.packet.Header.{Header}
use Rattle.flow.specs.declared.receiver.LiveSeries.{LiveSeries}
use Rattle.flow.specs.declared.receiver.Receiver.{Receiver}
use Rattle.flow.specs.declared.receiver.Received.{Received}
use Rattle.flow.specs.Ends.{Wrote, is_open, kept_of, live_of, logged_in, holding, with_series, part_start}
use Rattle.flow.proofs.ends.ReceiverLookups.{Eight, with-changed}
use Rattle.flow.proofs.calls.Receive.{Took, unknown, not_in, refuses, repeats, hands-single, holds-first}
use Rattle.flow.proofs.calls.Receive.{holds-middle, hands-last}
use Rattle.flow.proofs.pieces.Buffers.{part-untouched}

-- Of series u nothing changed.
pub record Elsewhere (e : Receiver) (buffer : List ℕ) (after : Receiver) (bytes : List ℕ) (u : ℕ) : Type 0 where
  pub opens : is_open after u ≡ is_open e u
  pub kept : kept_of after u ≡ kept_of e u
  pub live : live_of after u ≡ live_of e u
  pub stays : (n : ℕ) → n ≤ most_content → part bytes (part_start after u) n ≡ part buffer (part_start e u) n

module _ (e : Receiver) (eight : Eight e) (t : ℕ) (o : is_open e t ≡ true) (date : TradeDate) (last : ℕ)
    (live : LiveSeries) (u : ℕ) (n : u ≡ t → ⊥) (buffer : List ℕ) where
  -- Where another series is changed, with the buffer or a part of it written that is not u's.
  pub with-elsewhere : (bytes : List ℕ)
      → ((n : ℕ) → n ≤ most_content → part bytes (part_start e u) n ≡ part buffer (part_start e u) n)
      → Elsewhere e buffer (with_series e t date last live) bytes u
  with-elsewhere bytes f =
      let c = with-changed e eight t o date last live in
      record {
        opens = c.opens u;
        kept = c.others-kept u n;
        live = c.others-live u n;
        stays = λ k l. rw (c.parts u)
            (f k l);
      }

module _ (e : Receiver) (eight : Eight e) (h : Header) (date : TradeDate) (place : PacketPlace) (at : Span) (content buffer : List ℕ) where
  pub took-elsewhere : (r : Wrote Receiver Received) → Took e h date place at content buffer r → (u : ℕ) → (u ≡ h.series → ⊥)
      → Elsewhere e buffer r.end r.bytes u
  took-elsewhere r (unknown q) u n = record { opens = refl; kept = refl; live = refl; stays = λ k l. refl }
  took-elsewhere r (not_in q) u n = record { opens = refl; kept = refl; live = refl; stays = λ k l. refl }
  took-elsewhere r (refuses f q x) u n =
      with-elsewhere e eight h.series x.open-series _ _ logged_in u n buffer buffer (λ k l. refl)
  took-elsewhere r (repeats x q l) u n =
      with-elsewhere e eight h.series x.open-series _ _ logged_in u n buffer buffer (λ k l. refl)
  took-elsewhere r (hands-single x q y) u n =
      with-elsewhere e eight h.series x.reached.open-series _ _ logged_in u n buffer buffer (λ k l. refl)
  took-elsewhere r (holds-first x q y room) u n =
      with-elsewhere e eight h.series x.reached.open-series _ _ (holding _ _ _) u n buffer _
      λ k l. part-untouched e eight u h.series x.reached.open-series n buffer content _ k room l
  took-elsewhere r (holds-middle x q g room) u n =
      with-elsewhere e eight h.series x.reached.open-series _ _ (holding _ _ _) u n buffer _
      λ k l. part-untouched e eight u h.series x.reached.open-series n buffer content _ k room l
  took-elsewhere r (hands-last x q g room) u n =
      with-elsewhere e eight h.series x.reached.open-series _ _ logged_in u n buffer _
      λ k l. part-untouched e eight u h.series x.reached.open-series n buffer content _ k room l
