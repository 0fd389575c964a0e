-- The messages from a number on were sent in a series, one after the other: kept by each call of the serving end but
-- another login there and another day. Assumes nothing.
use Prim.Native.Nat.{ℕ, suc, ◌+◌, ◌≤◌, ◌<◌}
use native.Mathlib.Omega.{arith}
use mathlib.Core.Path.{◌≡◌, ap, ◌∙◌, sym}
use mathlib.Core.List.{List, [], ◌∷◌, ◌++◌}
use mathlib.Core.Bool.{true}
use mathlib.Core.Option.{some}
use lib.ListN.{length, get_elem?, length-append}
use Rattle.ftd.specs.Types.{TradeDate}
use Rattle.flow.specs.declared.sender.Place.{Place}
use Rattle.flow.specs.Ends.{is_served, published_of, place_of}
use Rattle.flow.specs.Log.{entry_of}
use Rattle.flow.specs.Serving.{send_packets, send_bytes, next_packet, last_packet}
use Rattle.flow.specs.World.{so_far, packets_in, SenderSide}
use Rattle.flow.specs.Agreement.{since, in_that}
use Rattle.flow.proofs.common.Extends.{extends-append, place-last-at}
use Rattle.flow.proofs.ends.SenderLookups.{served-entry, place-entry}
use Rattle.flow.proofs.calls.Serving.{Seated}
use Rattle.flow.proofs.source.Moves.{published_side}
use Rattle.flow.proofs.source.Goings.{Unfinished}
use Rattle.flow.proofs.source.Served.{ServedSide}
use Rattle.flow.proofs.source.Entries.{next-entry}
use Rattle.flow.proofs.source.Messages.{sent-genuine, packet-begun, packet-genuine}
use Rattle.flow.proofs.packets.Genuine.{Genuine, genuine-grows, begun-whole}
use Rattle.std.specs.Prelude.{Some}

-- On the line in a series since then.
abbrev pub sent_in : SenderSide → SenderSide → ℕ → List (List (List ℕ))
sent_in v u s = in_that s (since v.messages u.messages)

abbrev pub answered_in : SenderSide → SenderSide → ℕ → List (List ℕ)
answered_in v u s = in_that s (since v.answers u.answers)

-- The message with number n of day d.
abbrev pub SentAs : SenderSide → ℕ → ℕ → ℕ → List (List ℕ) → Type 0
SentAs u s d n ps = (g : Genuine u.published s ps) × (g.day ≡ d) × (suc g.place ≡ n)

-- Since v the messages from number k on were sent in series s on day d; next is the one behind them.
pub record SentFrom (v u : SenderSide) (s d k : ℕ) : Type 0 where
  pub day : u.day ≡ Some d
  pub served : is_served u.end s ≡ true
  pub login : (place_of u.end s).login ≡ true
  pub next : (place_of u.end s).next ≡ k + length (sent_in v u s)
  pub each : (j : ℕ) (ps : List (List ℕ)) → get_elem? (sent_in v u s) j ≡ some ps → SentAs u s d (k + j) ps

-- ─── Each call ───

module _ (v u : SenderSide) (h : ServedSide u) (s d k : ℕ) (z : SentFrom v u s d k) where
  pub from-published : (t tid : ℕ) (content : List ℕ) → is_served u.end t ≡ true
      → SentFrom v (published_side u t tid content) s d k
  unfolding genuine-grows
  from-published t tid content o =
      let p = place-entry u.end t o (16 + length content) s in
      record {
        day = z.day;
        served = served-entry u.end t o (16 + length content) s ∙ z.served;
        login = ap (λ (x : Place). x.login) p ∙ z.login;
        next = ap (λ (x : Place). x.next) p ∙ z.next;
        each = λ j ps q.
            let x = z.each j ps q in (
              genuine-grows u.published (published_side u t tid content).published s ps
                  (extends-append u.published _) x.0,
              x.1,
              x.2,
            );
      }

  -- A call that leaves the series' number next and sends no message there.
  pub from-same : (w : SenderSide) → w.day ≡ u.day → w.published ≡ u.published
      → is_served w.end s ≡ is_served u.end s
      → ((place_of w.end s).login ≡ true) × ((place_of w.end s).next ≡ (place_of u.end s).next)
      → sent_in v w s ≡ sent_in v u s → SentFrom v w s d k
  from-same w day published served place e = record {
    day = day ∙ z.day;
    served = served ∙ z.served;
    login = place.0;
    next = place.1 ∙ z.next ∙ ap (λ (l : List (List (List ℕ))). k + length l) (sym e);
    each = λ j ps q.
        rw published (z.each j ps (ap (λ (l : List (List (List ℕ))). get_elem? l j) (sym e) ∙ q));
  }

  -- The next message is sent there.
  pub from_more : (w : SenderSide) (m : List (List ℕ)) → w.day ≡ u.day → w.published ≡ u.published
      → is_served w.end s ≡ is_served u.end s
      → ((place_of w.end s).login ≡ true) × ((place_of w.end s).next ≡ suc (place_of u.end s).next)
      → sent_in v w s ≡ sent_in v u s ++ (m ∷ []) → SentAs u s d (place_of u.end s).next m → SentFrom v w s d k
  from_more w m day published served place e x =
      let long : length (sent_in v w s) ≡ length (sent_in v u s) + 1 = ap length e ∙ length-append (sent_in v u s) _ in
      let n = z.next in
      let o = place.1 in
      record {
        day = day ∙ z.day;
        served = served ∙ z.served;
        login = place.0;
        next = omega arith;
        each = λ j ps q.
            rw published
            (place-last-at (λ (i : ℕ). SentAs u s d (k + i)) (sent_in v u s) m z.each (rw n at x) j ps
            (ap (λ (l : List (List (List ℕ))). get_elem? l j) (sym e) ∙ q));
      }

  same-day : (t : TradeDate) (a b : ℕ) → t ≡ Some a → t ≡ Some b → a ≡ b
  same-day t a b p q = cc

  -- What is sent is the message that is next: whole, or with its last packet.
  pub sent-numbered : (x : List ℕ) → Seated u.end s → (place_of u.end s).next ≤ published_of u.end s →
      entry_of u.end u.log s (place_of u.end s).next ≡ some x
      → SentAs u s d (place_of u.end s).next (packets_in (send_bytes u.end s x))
  unfolding sent-genuine
  sent-numbered x a b c =
      let n = next-entry u.end u.log u.day u.published h s a b in
      (sent-genuine u h s x a b c, same-day u.day n.date d n.same-day z.day, sym n.number)

  pub finished-numbered : (y : Unfinished u) (x : List ℕ) → Seated u.end s
      → (place_of u.end s).next ≤ published_of u.end s →
      entry_of u.end u.log s (place_of u.end s).next ≡ some x
      → (place_of u.end s).piece < length (send_packets u.end s x) → last_packet u.end s x ≡ true
      → SentAs u s d (place_of u.end s).next (so_far s u.transmissions ++ (next_packet u.end s x ∷ []))
  unfolding packet-genuine packet-begun begun-whole
  finished-numbered y x a b c p e =
      let n = next-entry u.end u.log u.day u.published h s a b in
      (packet-genuine u h y s x a b c p e, same-day u.day n.date d n.same-day z.day, sym n.number)
