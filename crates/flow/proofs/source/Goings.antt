-- The unfinished messages of a serving end: of each series that is logged in, the line has as many packets of the
-- message that is next as the end's place says, its first ones. So the packet that is written next goes on with them.
-- Assumes nothing.
use Prim.Native.Nat.{ℕ, zero, suc, ◌+◌, ◌≤◌, ◌<◌}
use native.Mathlib.Omega.{arith}
use mathlib.Core.Path.{◌≡◌, refl, sym, ap, ◌∙◌}
use mathlib.Core.List.{List, [], ◌∷◌, ◌++◌}
use mathlib.Core.Bool.{Bool, true, false, cond}
use mathlib.Core.Option.{some}
use borrow.Author.Tests.{eqb-true, eqb-false, leb-true, leb-false}
use lib.ListN.{length, take, get_or, get_elem?}
use lib.Seq.{take-suc}
use lib.Dec.{eqb, leb}
use Rattle.ftd.specs.Chain.{packets_of}
use Rattle.ftd.proofs.chain.Laws.{chain_laws}
use Rattle.ftd.specs.Types.{TradeDate}
use Rattle.flow.specs.declared.sender.Place.{Place}
use Rattle.flow.specs.declared.sender.Sender.{Sender}
use Rattle.flow.specs.Ends.{is_served, published_of, place_of, with_entry, with_place}
use Rattle.flow.specs.Log.{entry_bytes, entry_of}
use Rattle.flow.specs.Serving.{send_packets, send_bytes, next_packet, last_packet, after_packet}
use Rattle.flow.specs.Answers.{Message}
use Rattle.flow.specs.World.{Dated, dated, Transmission, ended_in, so_far, with_packet, SenderSide, packets_in}
use Rattle.flow.specs.Agreement.{of}
use Rattle.flow.proofs.common.Bools.{not-both}
use Rattle.flow.proofs.common.Extends.{same_some, place-append, place-there}
use Rattle.flow.proofs.common.Histories.{of-append}
use Rattle.flow.proofs.ends.SenderLookups.{served-entry, published-entry, published-other, place-entry, served-next}
use Rattle.flow.proofs.ends.SenderLookups.{published-next, place-next, place_other}
use Rattle.flow.proofs.ends.SenderOpened.{opened_sender, opened-place}
use Rattle.flow.proofs.calls.Serving.{Seated}
use Rattle.flow.proofs.packets.Genuine.{headed}
use Rattle.flow.proofs.common.Transmissions.{goings, none_going, ended_here, ended-all, ended-goings, ended-far}
use Rattle.flow.proofs.common.Transmissions.{whole-goings, whole-far, last-here, more-goings, more-far}
use Rattle.flow.proofs.common.Transmissions.{packet-goings, packet-far}
use Rattle.flow.proofs.source.Moves.{Move, stays, opens, publishes, logs-in, sends, sends-packet, sent_side}
use Rattle.flow.proofs.source.Served.{ServedSide}
use Rattle.flow.proofs.source.Kept.{published-count}
use Rattle.flow.proofs.source.Entries.{NextEntry, next-entry, packets-sent}
use Rattle.std.specs.Prelude.{Some}

-- ─── The entry that is next, as packets ───

module _ (v : SenderSide) (h : ServedSide v) (s : ℕ) (x : List ℕ) (r : Seated v.end s)
    (q : (place_of v.end s).next ≤ published_of v.end s)
    (c : entry_of v.end v.log s (place_of v.end s).next ≡ some x)
  where
    abbrev pub next_one : NextEntry v.end v.log v.day v.published s
    next_one = next-entry v.end v.log v.day v.published h s r q

    abbrev pub next_packets : List (List ℕ)
    next_packets =
        packets_of (headed s next_one.message.tid (suc next_one.place) next_one.date) next_one.message.content

    pub entry-packets : send_packets v.end s x ≡ next_packets
    entry-packets =
        let n = next_one in
        let y : Message = n.message in
        let k = (place_of v.end s).next in
        ap (λ (l : List ℕ). send_packets v.end s l)
        (same_some (entry_of v.end v.log s k) x (entry_bytes s y.tid k y.content) c n.entry)
        ∙ packets-sent v.end s y.tid k y.content
        ∙ ap (λ (t : TradeDate). packets_of (record { date = t; tid = y.tid; series = s; number = k; counted = true }) y.content)
        (h.same-day ∙ n.same-day)
        ∙ ap (λ (j : ℕ). packets_of (record { date = Some n.date; tid = y.tid; series = s; number = j; counted = true })
        y.content) n.number

-- ─── The invariant ───

-- Of a series with its place in it, the count of its publications, and the packets on the line so far.
pub record Going (s : ℕ) (place : Place) (count : ℕ) (day : TradeDate) (P : List (Dated Message))
    (far : List (List ℕ)) : Type 0 where
  pub none : place.piece ≡ 0 → far ≡ []
  pub left : 0 < place.piece → place.next ≤ count
  pub first : (d i : ℕ) (x : Message) → day ≡ Some d → place.next ≡ suc i → get_elem? (of s d P) i ≡ some x →
      (far ≡ take place.piece (packets_of (headed s x.tid (suc i) d) x.content))
      × (place.piece < length (packets_of (headed s x.tid (suc i) d) x.content))

abbrev pub GoingIn : Sender → TradeDate → List (Dated Message) → List Transmission → ℕ → Type 0
GoingIn e day P ts s = Going s (place_of e s) (published_of e s) day P (so_far s ts)

pub record Unfinished (v : SenderSide) : Type 0 where
  -- At most one of a series is unfinished.
  pub alone : (s : ℕ) → goings s v.transmissions ≤ 1
  pub going : (s : ℕ) → Seated v.end s → GoingIn v.end v.day v.published v.transmissions s

-- Nothing is unfinished.
going-none : (s : ℕ) (place : Place) (count : ℕ) (day : TradeDate) (P : List (Dated Message)) (far : List (List ℕ))
    → place.piece ≡ 0 → far ≡ [] → Going s place count day P far
going-none s place count day P far z f =
    record {
      none = λ q. f;
      left = λ l. absurd (omega arith);
      first = λ d i x a b c. rw z (f, (chain_laws.as_many (headed s x.tid (suc i) d) x.content).1);
    }

-- More is published: the message that is next stays, if there was one.
going-grows : (s : ℕ) (place : Place) (count more : ℕ) (day : TradeDate) (P Q : List (Dated Message))
    (far : List (List ℕ)) → count ≤ more → ((d : ℕ) → day ≡ Some d → count ≡ length (of s d P))
    → Going s place count day P far → Going s place more day (P ++ Q) far
going-grows s place count more day P Q far l c g =
    record { none = g.none; left = λ p. let a = g.left p in omega arith; first = first_then }
  where
    first_then : (d i : ℕ) (x : Message) → day ≡ Some d → place.next ≡ suc i → get_elem? (of s d (P ++ Q)) i ≡ some x →
        (far ≡ take place.piece (packets_of (headed s x.tid (suc i) d) x.content))
        × (place.piece < length (packets_of (headed s x.tid (suc i) d) x.content))
    first_then d i x a b q = go (leb (suc i) (length (of s d P))) refl
      where
        go : (y : Bool) → leb (suc i) (length (of s d P)) ≡ y →
            (far ≡ take place.piece (packets_of (headed s x.tid (suc i) d) x.content))
            × (place.piece < length (packets_of (headed s x.tid (suc i) d) x.content))
        go true e =
            let was = place-there (of s d P) i (leb-true (suc i) (length (of s d P)) e) in
            let there : get_elem? (of s d (P ++ Q)) i ≡ some was.0 =
            rw (of-append s d P Q) (place-append (of s d P) (of s d Q) i was.0 was.1) in
            let same = same_some (get_elem? (of s d (P ++ Q)) i) was.0 x there q in
            g.first d i x a b (was.1 ∙ ap some same)
        go false e =
            let m = leb-false (suc i) (length (of s d P)) e in
            let n = c d a in
            zero-piece place.piece refl n m
          where
            zero-piece : (k : ℕ) → place.piece ≡ k → count ≡ length (of s d P) → length (of s d P) < suc i →
                (far ≡ take place.piece (packets_of (headed s x.tid (suc i) d) x.content))
                × (place.piece < length (packets_of (headed s x.tid (suc i) d) x.content))
            zero-piece zero z n m =
                rw z (g.none z, (chain_laws.as_many (headed s x.tid (suc i) d) x.content).1)
            zero-piece (suc k) z n m = absurd (let p = g.left (omega arith) in omega arith)

-- ─── One place is changed ───

module _ (v : SenderSide) (h : ServedSide v) (z : Unfinished v) (t next piece : ℕ)
    (o : is_served v.end t ≡ true) (ts : List Transmission)
    (others : (u : ℕ) → (u ≡ t → ⊥) → so_far u ts ≡ so_far u v.transmissions)
    (here : Going t (record { login = true; next = next; piece = piece }) (published_of v.end t) v.day
    v.published (so_far t ts))
  where
    placed-going : (s : ℕ) → Seated (with_place v.end t next piece) s
        → GoingIn (with_place v.end t next piece) v.day v.published ts s
    placed-going s r = go (eqb s t) refl
      where
        go : (b : Bool) → eqb s t ≡ b → GoingIn (with_place v.end t next piece) v.day v.published ts s
        go true q =
            rw (eqb-true s t q)
            (rw (place-next v.end t o h.eight next piece, published-next v.end t o next piece t) here)
        go false q =
            let n = eqb-false s t q in
            let p = place_other v.end t o next piece s n in
            let was : Seated v.end s = record {
              served = sym (served-next v.end t o next piece s) ∙ r.served;
              login = ap (λ (x : Place). x.login) (sym p) ∙ r.login;
            } in
            rw (p, published-next v.end t o next piece s, others s n) (z.going s was)

-- ─── Every call keeps it ───

module _ (v : SenderSide) (h : ServedSide v) (z : Unfinished v) where
  published-unfinished : (t tid : ℕ) (content : List ℕ) → is_served v.end t ≡ true → (s : ℕ)
      → Seated (with_entry v.end t (16 + length content)) s
      → GoingIn (with_entry v.end t (16 + length content)) v.day
      (v.published ++ (dated t v.day (record { tid = tid; content = content }) ∷ [])) v.transmissions s
  published-unfinished t tid content o s r =
      let size = 16 + length content in
      let p = place-entry v.end t o size s in
      let was : Seated v.end s = record {
        served = sym (served-entry v.end t o size s) ∙ r.served;
        login = ap (λ (x : Place). x.login) (sym p) ∙ r.login;
      } in
      rw p
      (going-grows s (place_of v.end s) (published_of v.end s)
      (published_of (with_entry v.end t size) s) v.day v.published
      (dated t v.day (record { tid = tid; content = content }) ∷ []) (so_far s v.transmissions) (more (eqb s t) refl)
      (λ d q. published-count v h s d q was.served) (z.going s was))
    where
      more : (b : Bool) → eqb s t ≡ b
          → published_of v.end s ≤ published_of (with_entry v.end t (16 + length content)) s
      more true q =
          let k = published-entry v.end t o (16 + length content) in rw (eqb-true s t q) (omega arith)
      more false q =
          let k = published-other v.end t o (16 + length content) s (eqb-false s t q) in omega arith

  ended-alone : (t u : ℕ) → goings u (ended_in t v.transmissions) ≤ 1
  ended-alone t u = go (eqb u t) refl
    where
      go : (b : Bool) → eqb u t ≡ b → goings u (ended_in t v.transmissions) ≤ 1
      go true q =
          let e = ended_here t v.transmissions in rw (eqb-true u t q) (omega arith)
      go false q =
          let e = ended-goings t v.transmissions u (eqb-false u t q) in let a = z.alone u in omega arith

  -- The packet that is written, behind those so far.
  module _ (s : ℕ) (x : List ℕ) (r : Seated v.end s)
      (q : (place_of v.end s).next ≤ published_of v.end s)
      (c : entry_of v.end v.log s (place_of v.end s).next ≡ some x)
      (d : (place_of v.end s).piece < length (send_packets v.end s x))
    where
      abbrev piece : ℕ
      piece = (place_of v.end s).piece

      abbrev ps : List (List ℕ)
      ps = next_packets v h s x r q c

      is-next : next_packet v.end s x ≡ get_or ps piece []
      unfolding next_packet
      is-next = ap (λ (l : List (List ℕ)). get_or l piece []) (entry-packets v h s x r q c)

      pub piece_inside : piece < length ps
      piece_inside = rw (entry-packets v h s x r q c) at d

      pub far-more : so_far s v.transmissions ++ (next_packet v.end s x ∷ []) ≡ take (piece + 1) ps
      far-more =
          let n = next_one v h s x r q c in
          let f = ((z.going s r).first n.date n.place n.message n.same-day n.number n.published).0 in
          let more : piece + 1 ≡ suc piece = omega arith in
          rw (more, f, is-next) (sym (take-suc ps piece [] piece_inside))

      pub is_last : last_packet v.end s x ≡ true → piece + 1 ≡ length ps
      unfolding last_packet
      is_last e = eqb-true (piece + 1) (length (send_packets v.end s x)) e ∙ ap length (entry-packets v h s x r q c)

      pub not_last : last_packet v.end s x ≡ false → piece + 1 < length ps
      unfolding last_packet
      not_last e =
          let a = eqb-false (piece + 1) (length (send_packets v.end s x)) e in
          let b = ap length (entry-packets v h s x r q c) in
          let i = piece_inside in
          omega (arith, a)

      packet-alone : (last : Bool) (u : ℕ)
          → goings u (with_packet s last (next_packet v.end s x) v.transmissions) ≤ 1
      packet-alone last u = go (eqb u s) refl last
        where
          go : (b : Bool) → eqb u s ≡ b → (last : Bool)
              → goings u (with_packet s last (next_packet v.end s x) v.transmissions) ≤ 1
          go true e true =
              let a = last-here s (next_packet v.end s x) v.transmissions (z.alone s) in
              rw (eqb-true u s e) (omega arith)
          go true e false =
              rw (eqb-true u s e) (more-goings s (next_packet v.end s x) v.transmissions (z.alone s))
          go false e last =
              let a =
              packet-goings s (next_packet v.end s x) last u (eqb-false u s e) v.transmissions in
              let b = z.alone u in
              omega arith

      packet-going : (last : Bool) → last_packet v.end s x ≡ last → (u : ℕ)
          → Seated
          (cond last (with_place v.end s (suc (place_of v.end s).next) 0)
          (with_place v.end s (place_of v.end s).next (piece + 1))) u
          → GoingIn
          (cond last (with_place v.end s (suc (place_of v.end s).next) 0)
          (with_place v.end s (place_of v.end s).next (piece + 1))) v.day v.published
          (with_packet s last (next_packet v.end s x) v.transmissions) u
      packet-going true e =
          placed-going v h z s (suc (place_of v.end s).next) 0 r.served
          (with_packet s true (next_packet v.end s x) v.transmissions)
          (λ u n. packet-far s (next_packet v.end s x) true u n v.transmissions)
          (going-none s _ _ _ _ _ refl
          (none_going s (with_packet s true (next_packet v.end s x) v.transmissions)
          (last-here s (next_packet v.end s x) v.transmissions (z.alone s))))
      packet-going false e =
          placed-going v h z s (place_of v.end s).next (piece + 1) r.served
          (with_packet s false (next_packet v.end s x) v.transmissions)
          (λ u n. packet-far s (next_packet v.end s x) false u n v.transmissions)
          (record {
            none = λ k. absurd (omega arith);
            left = λ k. q;
            first = λ d i y a b g.
                let n = next_one v h s x r q c in
                let day : n.date ≡ d = same_at v.day n.date d n.same-day a in
                let at : n.place ≡ i = next-at (place_of v.end s).next n.place i n.number b in
                let there : get_elem? (of s d v.published) i ≡ some n.message = rw (day, at) at n.published in
                let same : n.message ≡ y = same_some _ n.message y there g in
                let f : so_far s (with_packet s false (next_packet v.end s x) v.transmissions) ≡ take (piece + 1) ps =
                more-far s (next_packet v.end s x) v.transmissions ∙ far-more in
                rw (← same, ← day, ← at) (f, not_last e);
          })
        where
          same_at : (t : TradeDate) (a b : ℕ) → t ≡ Some a → t ≡ Some b → a ≡ b
          same_at t a b p q = cc

          next-at : (n a b : ℕ) → n ≡ suc a → n ≡ suc b → a ≡ b
          next-at n a b p q = omega arith

pub move-unfinished : (v u : SenderSide) → Move v u → ServedSide v → Unfinished v → Unfinished u
unfolding after_packet
move-unfinished v u stays h z = z
move-unfinished v u (opens date ss rs a b) h z =
    record {
      alone = λ s. let e = ended-all s v.transmissions in omega arith;
      going = λ s r.
          absurd
          (not-both (place_of (opened_sender date ss rs) s).login r.login
          (ap (λ (p : Place). p.login) (opened-place date ss rs s)));
    }
move-unfinished v u (publishes t tid content p) h z =
    record { alone = z.alone; going = published-unfinished v h z t tid content p.served }
move-unfinished v u (logs-in t p content out x y c g q) h z =
    record {
      alone = ended-alone v h z t;
      going =
          placed-going v h z t _ 0 q.served (ended_in t v.transmissions) (ended-far t v.transmissions)
          (going-none t _ _ _ _ _ refl
          (none_going t (ended_in t v.transmissions) (ended_here t v.transmissions)));
    }
move-unfinished v u (sends t x a b c) h z =
    record {
      alone = λ s.
          let e = whole-goings t s (packets_in (send_bytes v.end t x)) (ended_in t v.transmissions) in
          let f = ended-alone v h z t s in
          omega arith;
      going =
          placed-going v h z t _ 0 a.served (sent_side v t x).transmissions
          (λ s n. whole-far t s (packets_in (send_bytes v.end t x)) (ended_in t v.transmissions)
          ∙ ended-far t v.transmissions s n)
          (going-none t _ _ _ _ _ refl
          (whole-far t t (packets_in (send_bytes v.end t x)) (ended_in t v.transmissions)
          ∙ none_going t (ended_in t v.transmissions) (ended_here t v.transmissions)));
    }
move-unfinished v u (sends-packet t x a b c d) h z =
    record {
      alone = packet-alone v h z t x a b c d (last_packet v.end t x);
      going = packet-going v h z t x a b c d (last_packet v.end t x) refl;
    }
