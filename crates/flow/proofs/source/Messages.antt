-- Each message on the line is one that was published, under its day and number: whole, or its start. Assumes nothing.
use Prim.Native.Nat.{ℕ, ◌+◌, ◌≤◌, ◌<◌}
use native.Mathlib.Omega.{arith}
use mathlib.Core.Path.{◌≡◌, refl, sym, ap, ◌∙◌}
use mathlib.Core.List.{List, [], ◌∷◌, ◌++◌, append-nil}
use mathlib.Core.Bool.{Bool, true, false}
use mathlib.Core.Option.{some}
use lib.ListN.{length, take, drop, get_elem?, take-append-drop}
use lib.Seq.{take_all, length-take-le}
use lib.Dec.{eqb}
use Rattle.ftd.specs.Chain.{packets_of}
use Rattle.ftd.specs.Types.{TradeDate}
use Rattle.flow.specs.Ends.{most_messages, published_of, place_of}
use Rattle.flow.specs.Log.{entry_bytes, entry_of}
use Rattle.flow.specs.Serving.{send_bytes, send_packets, next_packet, last_packet}
use Rattle.flow.specs.Answers.{Message}
use Rattle.flow.specs.World.{InSeries, in_series, Dated, only, whole, is_going, Transmission, goes_on, broken_off}
use Rattle.flow.specs.World.{ended_in, so_far, standing, with_packet, packets_in, SenderSide}
use Rattle.flow.specs.Agreement.{of}
use Rattle.flow.proofs.common.Extends.{same_some, place_inside, place-last, extends-append}
use Rattle.flow.proofs.source.Histories.{of_is}
use Rattle.flow.proofs.calls.Serving.{Seated}
use Rattle.flow.proofs.source.Moves.{Move, stays, opens, publishes, logs-in, sends, sends-packet, published_side}
use Rattle.flow.proofs.source.Moves.{sent_side}
use Rattle.flow.proofs.source.Growth.{move-onward}
use Rattle.flow.proofs.common.Transmissions.{every-changed, every-packet, packet-there, Onward, onward-whole}
use Rattle.flow.proofs.common.Transmissions.{place_end}
use Rattle.flow.proofs.source.Goings.{Unfinished, next_one, next_packets, far-more, piece_inside, is_last}
use Rattle.flow.proofs.source.Goings.{not_last}
use Rattle.flow.proofs.common.Bools.{and_both, not-both}
use Rattle.flow.proofs.common.Lists.{Every, every_append, every_map}
use Rattle.flow.proofs.source.Served.{ServedSide}
use Rattle.flow.proofs.source.Entries.{next-entry, cut-sent}
use Rattle.flow.proofs.packets.Genuine.{Genuine, genuine-grows, AllGenuine, Begun, begun-whole, begun-grows}
use Rattle.flow.proofs.packets.Genuine.{genuine-begun, BegunIn, AllBegun, OnLine, AllOnLine}
use Rattle.std.specs.Prelude.{Some}

-- ─── What Send puts on the line is one ───

unfoldable pub sent-genuine : (v : SenderSide) → ServedSide v → (s : ℕ) (x : List ℕ) → Seated v.end s
    → (place_of v.end s).next ≤ published_of v.end s →
    entry_of v.end v.log s (place_of v.end s).next ≡ some x
    → Genuine v.published s (packets_in (send_bytes v.end s x))
sent-genuine v h s x r q c =
    let n = next-entry v.end v.log v.day v.published h s r q in
    let y : Message = n.message in
    let k = (place_of v.end s).next in
    let same : x ≡ entry_bytes s y.tid k y.content =
    same_some (entry_of v.end v.log s k) x (entry_bytes s y.tid k y.content) c n.entry in
    let inside = place_inside (of s n.date v.published) n.place y n.published in
    let most : length (of s n.date v.published) ≤ most_messages =
    rw (of_is s n.date v.published) (h.few s n.date) in
    record {
      day = n.date;
      place = n.place;
      what = y;
      packets =
          ap (λ (l : List ℕ). packets_in (send_bytes v.end s l)) same
          ∙ cut-sent v.end s y.tid k y.content
          ∙ ap (λ (t : TradeDate). packets_of (record { date = t; tid = y.tid; series = s; number = k; counted = true })
          y.content)
          (h.same-day ∙ n.same-day)
          ∙ ap (λ (j : ℕ). packets_of (record { date = Some n.date; tid = y.tid; series = s; number = j; counted = true })
          y.content) n.number;
      placed = n.published;
      good = n.shape;
      few = omega arith;
    }

-- ─── What the packet form puts on the line is the start of one ───

module _ (v : SenderSide) (h : ServedSide v) (z : Unfinished v) (s : ℕ) (x : List ℕ) (r : Seated v.end s)
    (q : (place_of v.end s).next ≤ published_of v.end s)
    (c : entry_of v.end v.log s (place_of v.end s).next ≡ some x)
    (d : (place_of v.end s).piece < length (send_packets v.end s x))
  where
    abbrev piece : ℕ
    piece = (place_of v.end s).piece

    abbrev ps : List (List ℕ)
    ps = next_packets v h s x r q c

    abbrev far : List (List ℕ)
    far = so_far s v.transmissions ++ (next_packet v.end s x ∷ [])

    abbrev last : Bool
    last = last_packet v.end s x

    pub far-is : far ≡ take (piece + 1) ps
    far-is = far-more v h z s x r q c d

    pub far-long : length far ≡ piece + 1
    far-long =
        ap length far-is
        ∙ length-take-le (piece + 1) ps (let i = piece_inside v h z s x r q c d in omega arith)

    pub far-all : last ≡ true → far ≡ ps
    far-all e =
        let n = is_last v h z s x r q c d e in
        far-is ∙ take_all (piece + 1) ps (omega arith)

    pub standing-whole : (b : Bool) → standing b ≡ whole → b ≡ true
    standing-whole true e = refl
    standing-whole false e = absurd (let y : ◌≡◌ {A = ℕ} 0 1 = cc in omega arith)

    pub standing-not : (b : Bool) → (standing b ≡ whole → ⊥) → b ≡ false
    standing-not true f = absurd (f refl)
    standing-not false f = refl

    unfoldable pub packet-begun : Begun v.published s far (standing last)
    packet-begun =
        let n = next_one v h s x r q c in
        let inside = place_inside (of s n.date v.published) n.place n.message n.published in
        let most : length (of s n.date v.published) ≤ most_messages =
        rw (of_is s n.date v.published) (h.few s n.date) in
        record {
          day = n.date;
          place = n.place;
          what = n.message;
          placed = n.published;
          packets = (
            drop (piece + 1) ps,
            sym (take-append-drop (piece + 1) ps)
                ∙ ap (λ (l : List (List ℕ)). l ++ drop (piece + 1) ps) (sym far-is),
          );
          one = let k = far-long in omega arith;
          all = λ e. far-all (standing-whole last e);
          fewer = λ f.
              let k = far-long in
              let m = not_last v h z s x r q c d (standing-not last f) in
              omega arith;
          good = n.shape;
          few = omega arith;
        }

    -- The last one finishes a message.
    unfoldable pub packet-genuine : last ≡ true → Genuine v.published s far
    packet-genuine e = begun-whole v.published s far (standing last) packet-begun (ap standing e)

-- ─── After every list of events ───

pub move-genuine : (v u : SenderSide) → Move v u → ServedSide v → Unfinished v → AllGenuine v → AllGenuine u
move-genuine v u stays h z g = g
move-genuine v u (opens date ss rs a b) h z g = g
move-genuine v u (publishes s tid content t) h z g =
    λ i m q. genuine-grows v.published _ m.series m.what (extends-append v.published _) (g i m q)
move-genuine v u (logs-in s p content out x y c e t) h z g = g
move-genuine v u (sends s x a b c) h z g =
    place-last (λ (m : InSeries (List (List ℕ))). Genuine v.published m.series m.what) v.messages _ g
    (sent-genuine v h s x a b c)
move-genuine v u (sends-packet s x a b c d) h z g = go (last_packet v.end s x) refl
  where
    go : (last : Bool) → last_packet v.end s x ≡ last → (i : ℕ) (m : InSeries (List (List ℕ)))
        → get_elem?
        (v.messages ++ only last (in_series s (so_far s v.transmissions ++ (next_packet v.end s x ∷ [])))) i
        ≡ some m → Genuine v.published m.series m.what
    go true e =
        place-last (λ (m : InSeries (List (List ℕ))). Genuine v.published m.series m.what) v.messages _ g
        (packet-genuine v h z s x a b c d e)
    go false e = λ i m q.
        g i m (ap (λ (l : List (InSeries (List (List ℕ)))). get_elem? l i) (sym (append-nil v.messages)) ∙ q)

-- What is on the line is the start of one, and what is whole is all of it.
ended-begun : (P : List (Dated Message)) (b : Bool) (t : Transmission) → (b ≡ true → is_going t.stands ≡ true)
    → BegunIn P t → BegunIn P (broken_off b t)
ended-begun P true t f g =
    record {
      day = g.day;
      place = g.place;
      what = g.what;
      placed = g.placed;
      packets = g.packets;
      one = g.one;
      all = λ e. absurd (let y : ◌≡◌ {A = ℕ} 0 1 = cc in omega arith);
      fewer = λ e. g.fewer (λ q. not-both (is_going t.stands) (f refl) (ap is_going q));
      good = g.good;
      few = g.few;
    }
ended-begun P false t f g = g

ended-series : (P : List (Dated Message)) (s : ℕ) (ts : List Transmission) → Every (BegunIn P) ts
    → Every (BegunIn P) (ended_in s ts)
ended-series P s =
    every-changed (BegunIn P) (BegunIn P) (λ (t : Transmission). broken_off (goes_on s t) t) λ t.
    ended-begun P (goes_on s t) t λ q. (and_both (eqb t.series s) (is_going t.stands) q).1

pub move-begun : (v u : SenderSide) → Move v u → ServedSide v → Unfinished v → AllBegun v → AllBegun u
move-begun v u stays h z g = g
move-begun v u (opens date ss rs a b) h z g =
    every-changed (BegunIn v.published) (BegunIn v.published)
    (λ (t : Transmission). broken_off (is_going t.stands) t)
    (λ t. ended-begun v.published (is_going t.stands) t λ q. q) v.transmissions g
move-begun v u (publishes s tid content t) h z g =
    every_map (BegunIn v.published) (BegunIn (published_side v s tid content).published)
    (λ t. begun-grows v.published _ t.series t.packets t.stands (extends-append v.published _))
    v.transmissions g
move-begun v u (logs-in s p content out x y c e t) h z g = ended-series v.published s v.transmissions g
move-begun v u (sends s x a b c) h z g =
    every_append (BegunIn v.published) (ended_in s v.transmissions) _
    (ended-series v.published s v.transmissions g)
    (genuine-begun v.published s _ (sent-genuine v h s x a b c), tt)
move-begun v u (sends-packet s x a b c d) h z g =
    every-packet s (next_packet v.end s x) (BegunIn v.published) (last_packet v.end s x) v.transmissions g
    (packet-begun v h z s x a b c d)

-- Each message sent is on the line.
line_stays : (ts us : List Transmission) → Onward ts us → (m : InSeries (List (List ℕ))) → OnLine ts m → OnLine us m
line_stays ts us o m x = (x.0, onward-whole ts us o x.0 m.series m.what x.1)

pub move-on-line : (v u : SenderSide) → Move v u → AllOnLine v → AllOnLine u
move-on-line v u m g = go v u m (still v u m g)
  where
    still : (v u : SenderSide) → Move v u → AllOnLine v → Every (OnLine u.transmissions) v.messages
    still v u m g =
        every_map (OnLine v.transmissions) (OnLine u.transmissions)
        (line_stays v.transmissions u.transmissions (move-onward v u m)) v.messages g

    go : (v u : SenderSide) → Move v u → Every (OnLine u.transmissions) v.messages → AllOnLine u
    go v u stays f = f
    go v u (opens date ss rs a b) f = f
    go v u (publishes s tid content t) f = f
    go v u (logs-in s p content out x y c e t) f = f
    go v u (sends s x a b c) f =
        every_append (OnLine (sent_side v s x).transmissions) v.messages _ f
        ((length (ended_in s v.transmissions), place_end (ended_in s v.transmissions) _), tt)
    go v u (sends-packet s x a b c d) f = finishes (last_packet v.end s x) refl f
      where
        finishes : (last : Bool) → last_packet v.end s x ≡ last
            → Every (OnLine (with_packet s last (next_packet v.end s x) v.transmissions)) v.messages
            → Every (OnLine (with_packet s last (next_packet v.end s x) v.transmissions))
            (v.messages ++ only last (in_series s (so_far s v.transmissions ++ (next_packet v.end s x ∷ []))))
        finishes true e f =
            every_append _ v.messages _ f
            (packet-there s (next_packet v.end s x) true v.transmissions, tt)
        finishes false e f = rw (append-nil v.messages) f
