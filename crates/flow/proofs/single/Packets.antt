-- One packet a call (02, No. 4), of any end: what the packet form does with the next packet to come; Publish whoever is
-- logged in; where a login starts. Assumes nothing.
use Prim.Native.Nat.{ℕ, zero, suc, ◌+◌, ◌≤◌, ◌<◌}
use native.Mathlib.Omega.{arith}
use mathlib.Core.Path.{◌≡◌, refl, sym, ap, ◌∙◌}
use mathlib.Core.List.{List, [], ◌∷◌}
use mathlib.Core.Bool.{Bool, true, false, not, ◌&&◌, ◌||◌}
use mathlib.Core.Option.{Option, none, some}
use borrow.Author.Tests.{ltb-true, lt-ltb, le-ltb, le-leb, lt-leb, eq-eqb, not-true, ne_eqb}
use lib.ListN.{length, drop, get_or}
use lib.Seq.{get_or-set_same}
use lib.Dec.{ltb, leb, eqb}
use Rattle.ftd.specs.Bytes.{part}
use Rattle.ftd.specs.Packet.{dated_of}
use Rattle.ftd.specs.Resume.{resume_of}
use Rattle.ftd.specs.Fields.{most_content}
use Rattle.ftd.specs.Items.{wrong_width, wrong_item}
use Rattle.ftd.specs.Composition.{composed}
use Rattle.ftd.specs.declared.composition.Direction.TheVariants.{Down}
use Rattle.ftd.specs.declared.refusal.Refusal.{Refusal}
use Rattle.ftd.specs.declared.refusal.Refusal.TheVariants.{FieldRun, FieldLength, Item, Composition}
use Rattle.ftd.specs.declared.refusal.Refusal.TheVariants.{UnknownSeries, TooSmall, DamagedLog, DayFull}
use Rattle.ftd.specs.declared.packet.Header.{Header}
use Rattle.ftd.specs.declared.packet.Span.{Span}
use Rattle.ftd.specs.declared.packet.Packet.TheVariants.{Message as Packet-read}
use Rattle.flow.specs.declared.sender.Place.{Place}
use Rattle.flow.specs.declared.sender.Day.{Day}
use Rattle.flow.specs.declared.sender.Seat.{Seat}
use Rattle.flow.specs.declared.sender.Sender.{Sender}
use Rattle.flow.specs.Types.{Published}
use Rattle.flow.specs.Types.{LoggedIn}
use Rattle.flow.specs.Ends.{◌when◌else◌, Wrote, wrote, over, most_messages, most_series, index_of, no_place, day_series, is_served}
use Rattle.flow.specs.Ends.{published_of, reserve_of, used_of, place_of, with_entry, shares_of, with_place}
use Rattle.flow.specs.Log.{entry_series, entries_of, log_short, entry_fits, strange_series, nonzero}
use Rattle.flow.specs.Log.{misnumbered, misshapen, is_wanted, walk, entry_of}
use Rattle.flow.specs.Serving.{wrong_run, over_shares, start_of, is_none_left, send_packets, next_packet, no_packet, last_packet}
use Rattle.flow.specs.Serving.{after_packet, send_packet_entry, send_packet_of, publish_of, login_of}
use Rattle.flow.specs.PacketByPacket.{has_left, rest_of, to_come, none_behind, OnePacket, SamePublished, all_packets}
use Rattle.flow.proofs.common.Bools.{and_both}
use Rattle.flow.proofs.ends.SenderLookups.{served-next, published-next, place-next}
use Rattle.flow.proofs.calls.Serving.{LoginDone, login-refused, login-taken, login-cases}
use Rattle.std.specs.Prelude.{Ok, Err}
use Rattle.flow.specs.Types.{PacketSent, packet_sent}

-- ─── Lists ───

record Behind {A : Type 0} (n : ℕ) (l : List A) (p : A) (rest : List A) (d : A) : Type 0 where
  head : get_or l n d ≡ p
  tail : drop (suc n) l ≡ rest
  long : length l ≡ n + suc (length rest)

behind : {A : Type 0} (n : ℕ) (l : List A) (p : A) (rest : List A) (d : A) → drop n l ≡ p ∷ rest → Behind n l p rest d
behind zero [] p rest d h = absurd (let z : ◌≡◌ {A = ℕ} 0 1 = cc in omega arith)
behind zero (x ∷ l) p rest d h =
    let t : l ≡ rest = cc in record { head = cc; tail = t; long = let i = ap length t in omega arith }
behind (suc n) [] p rest d h = absurd (let z : ◌≡◌ {A = ℕ} 0 1 = cc in omega arith)
behind (suc n) (x ∷ l) p rest d h =
    let k = behind n l p rest d h in
    record { head = k.head; tail = k.tail; long = let i = k.long in omega arith }

few : {A : Type 0} (n : ℕ) (l : List A) → drop n l ≡ [] → length l ≤ n
few zero [] h = omega arith
few zero (x ∷ l) h = absurd (let z : ◌≡◌ {A = ℕ} 0 1 = cc in omega arith)
few (suc n) [] h = omega arith
few (suc n) (x ∷ l) h = let k = few n l h in omega arith

-- A place that is logged in is one of the list's.
place_inside : (l : List Place) (i : ℕ) → (get_or l i no_place).login ≡ true → i < length l
place_inside [] i h = absurd (let z : ◌≡◌ {A = ℕ} 0 1 = cc in omega arith)
place_inside (x ∷ l) zero h = omega arith
place_inside (x ∷ l) (suc i) h = let k = place_inside l i h in omega arith

-- ─── A place changed ───

module _ (e : Sender) (t next piece : ℕ) where
  walk-next : (s k : ℕ) (earlier : List ℕ) (xs : List (List ℕ))
      → walk (with_place e t next piece) s k earlier xs ≡ walk e s k earlier xs
  unfolding is_served with_place day_series
  walk-next s k earlier [] = refl
  walk-next s k earlier (x ∷ xs) =
      ap
      (λ (r : Option (List ℕ)). none when strange_series e x else
      none when nonzero x else
      none when misnumbered earlier x else
      none when misshapen x else
      some x when is_wanted s k x else
      r) (walk-next s k (entry_series x ∷ earlier) xs)

  entry_next : (log : List ℕ) (s k : ℕ) → entry_of (with_place e t next piece) log s k ≡ entry_of e log s k
  unfolding entry_of entries_of log_short with_place
  entry_next log s k =
      ap (λ (r : Option (List ℕ)). none when log_short e log else r) (walk-next s k [] (entries_of e log))

  come-at : (log x : List ℕ) → place_of (with_place e t next piece) t
      ≡ record { login = true; next = next; piece = piece } → entry_of e log t next ≡ some x
      → to_come (with_place e t next piece) t log ≡ drop piece (all_packets e t next x)
  unfolding with_place
  come-at log x pl en = rw (pl, entry_next log t next, en) (rw pl refl)

-- ─── The packet form ───

module _ (e : Sender) (s : ℕ) (log out : List ℕ) (l : has_left e s ≡ true) where
  left-parts : (is_served e s ≡ true) × (((place_of e s).login ≡ true) × (is_none_left e s ≡ false))
  left-parts =
      let a = and_both (is_served e s && (place_of e s).login) (not (is_none_left e s)) l in
      let b = and_both (is_served e s) (place_of e s).login a.0 in
      (b.0, (b.1, not-true _ a.1))

  passes : send_packet_of e s log out ≡ send_packet_entry e s out (entry_of e log s (place_of e s).next)
  unfolding send_packet_of
  passes = let h = left-parts in rw (h.0, h.1.0, h.1.1) refl

  no-entry : (o : Option (List ℕ)) → rest_of e s o ≡ [] → send_packet_entry e s out o ≡ wrote e (Err DamagedLog) out
  unfolding no_packet
  no-entry none q = refl
  no-entry (some x) q =
      rw (le-leb (length (send_packets e s x)) (place_of e s).piece (few (place_of e s).piece (send_packets e s x) q))

pub no-packet : (e : Sender) (s : ℕ) (log out : List ℕ) → has_left e s ≡ true → to_come e s log ≡ []
    → send_packet_of e s log out ≡ wrote e (Err DamagedLog) out
no-packet e s log out l q = passes e s log out l ∙ no-entry e s log out l (entry_of e log s (place_of e s).next) q

module _ (e : Sender) (s : ℕ) (log out p : List ℕ) (rest : List (List ℕ)) (l : has_left e s ≡ true) where
  record Found (o : Option (List ℕ)) : Type 0 where
    x : List ℕ
    is : o ≡ some x
    here : Behind (place_of e s).piece (send_packets e s x) p rest []

  find : (o : Option (List ℕ)) → rest_of e s o ≡ p ∷ rest → Found o
  find none q = absurd (let z : ◌≡◌ {A = ℕ} 0 1 = cc in omega arith)
  find (some x) q =
      record { x = x; is = refl; here = behind (place_of e s).piece (send_packets e s x) p rest [] q }

  last-is : (n long : ℕ) (r : List (List ℕ)) → long ≡ n + suc (length r) → eqb (n + 1) long ≡ none_behind r
  last-is n long [] h = eq-eqb (n + 1) long (omega arith)
  last-is n long (x ∷ r) h = ne_eqb (n + 1) long λ z. omega arith

  abbrev answers : Bool → Wrote Sender PacketSent
  answers b =
      wrote e (Err TooSmall) out when b else
      wrote (after_packet e s (none_behind rest)) (packet_sent (place_of e s).next (length p) (none_behind rest))
      (over p out)

  module _ (q : to_come e s log ≡ p ∷ rest) where
    found : Found (entry_of e log s (place_of e s).next)
    found = find (entry_of e log s (place_of e s).next) q

    sends : send_packet_of e s log out ≡ answers (ltb (length out) (length p))
    unfolding next_packet no_packet last_packet
    sends =
        let f = found in
        let x : List ℕ = f.x in
        let there : leb (length (send_packets e s x)) (place_of e s).piece ≡ false =
        lt-leb (length (send_packets e s x)) (place_of e s).piece (let i = f.here.long in omega arith) in
        let last : eqb ((place_of e s).piece + 1) (length (send_packets e s x)) ≡ none_behind rest =
        last-is (place_of e s).piece (length (send_packets e s x)) rest f.here.long in
        passes e s log out l ∙ rw (f.is, there, f.here.head, last) refl

    small-answer : length out < length p → send_packet_of e s log out ≡ wrote e (Err TooSmall) out
    small-answer h = sends ∙ ap answers (lt-ltb (length out) (length p) h)

    big-answer : length p ≤ length out → send_packet_of e s log out ≡ answers false
    big-answer h = sends ∙ ap answers (le-ltb (length out) (length p) h)

    told-small : (b : Bool) → ltb (length out) (length p) ≡ b → (answers b).answer ≡ Err TooSmall
        → length out < length p
    told-small true b h = ltb-true (length out) (length p) b
    told-small false b h = absurd (let z : ◌≡◌ {A = ℕ} 0 1 = cc in omega arith)

    parts : (is_served e s ≡ true) × (((place_of e s).login ≡ true) × (is_none_left e s ≡ false))
    parts = left-parts e s log out l

    place-then : (next piece : ℕ)
        → place_of (with_place e s next piece) s ≡ record { login = true; next = next; piece = piece }
    unfolding place_of with_place day_series
    place-then next piece =
        get_or-set_same e.seat.places (index_of s (day_series e)) (record { login = true; next = next; piece = piece })
        no_place (place_inside e.seat.places (index_of s (day_series e)) parts.1.0)

    after_more : none_behind rest ≡ false
        → after_packet e s (none_behind rest) ≡ with_place e s (place_of e s).next ((place_of e s).piece + 1)
    unfolding after_packet
    after_more h = rw h refl

    after_last : none_behind rest ≡ true
        → after_packet e s (none_behind rest) ≡ with_place e s (suc (place_of e s).next) 0
    unfolding after_packet
    after_last h = rw h refl

    still-left : (piece : ℕ) → has_left (with_place e s (place_of e s).next piece) s ≡ true
    unfolding is_none_left
    still-left piece =
        let pl = place-then (place_of e s).next piece in
        let a = served-next e s parts.0 (place_of e s).next piece s in
        let b = published-next e s parts.0 (place_of e s).next piece s in
        let c : ltb (published_of e s) (place_of e s).next ≡ false = parts.1.1 in
        rw (a, b, pl, parts.0, c) refl

    still-come : to_come (with_place e s (place_of e s).next ((place_of e s).piece + 1)) s log ≡ rest
    still-come =
        come-at e s (place_of e s).next ((place_of e s).piece + 1) log found.x
        (place-then (place_of e s).next ((place_of e s).piece + 1)) found.is
        ∙ ap (λ (n : ℕ). drop n (send_packets e s found.x)) (one_more (place_of e s).piece)
        ∙ found.here.tail
      where
        one_more : (n : ℕ) → n + 1 ≡ suc n
        one_more n = omega arith

pub one-packet : (e : Sender) (s : ℕ) (log out p : List ℕ) (rest : List (List ℕ)) → has_left e s ≡ true
    → to_come e s log ≡ p ∷ rest → OnePacket e s log out p rest
one-packet e s log out p rest l q =
    record {
      small = (
        λ h. told-small e s log out p rest l q (ltb (length out) (length p)) refl
            (sym (ap (λ (r : Wrote Sender PacketSent). r.answer) (sends e s log out p rest l q)) ∙ h),
        λ h. ap (λ (r : Wrote Sender PacketSent). r.answer) (small-answer e s log out p rest l q h),
      );
      kept = small-answer e s log out p rest l q;
      told = λ h. ap (λ (r : Wrote Sender PacketSent). r.answer) (big-answer e s log out p rest l q h);
      written = λ h. ap (λ (r : Wrote Sender PacketSent). r.bytes) (big-answer e s log out p rest l q h);
      others = λ h m.
          let is : (send_packet_of e s log out).end ≡ with_place e s (place_of e s).next ((place_of e s).piece + 1) =
          ap (λ (r : Wrote Sender PacketSent). r.end) (big-answer e s log out p rest l q h)
          ∙ after_more e s log out p rest l q m in (
            ap (λ (f : Sender). has_left f s) is ∙ still-left e s log out p rest l q ((place_of e s).piece + 1),
            ap (λ (f : Sender). to_come f s log) is ∙ still-come e s log out p rest l q,
          );
      stepped = λ h m.
          let is : (send_packet_of e s log out).end ≡ with_place e s (suc (place_of e s).next) 0 =
          ap (λ (r : Wrote Sender PacketSent). r.end) (big-answer e s log out p rest l q h)
          ∙ after_last e s log out p rest l q m in
          ap (λ (f : Sender). place_of f s) is ∙ place-then e s log out p rest l q (suc (place_of e s).next) 0;
    }

-- ─── Publish, whoever is logged in ───

module _ (d : Day) (a b : Seat) (t tid : ℕ) (content log : List ℕ) where
  abbrev e : Sender
  e = record { day = d; seat = a }

  abbrev f : Sender
  f = record { day = d; seat = b }

  both : (a : Bool) {x y v w : Wrote Sender Published} → SamePublished x v → SamePublished y w
      → SamePublished (x when a else y) (v when a else w)
  both true p q = p
  both false p q = q

  refuses : (r : Refusal) → SamePublished (wrote e (Err r) log) (wrote f (Err r) log)
  refuses r = record { answer = refl; bytes = refl; day = refl }

  publish-either : SamePublished (publish_of e t tid content log) (publish_of f t tid content log)
  unfolding publish_of is_served published_of reserve_of used_of day_series log_short entry_fits shares_of with_entry
  publish-either =
      both (wrong_run content most_content) (refuses FieldRun)
      (both (wrong_width content) (refuses FieldLength)
      (both (wrong_item content) (refuses Item)
      (both (not (composed tid Down content)) (refuses Composition)
      (both (not (is_served e t)) (refuses UnknownSeries)
      (both (log_short e log) (refuses DamagedLog)
      (both (not (entry_fits e log content) || over_shares e t log content) (refuses TooSmall)
      (both (leb most_messages (published_of e t)) (refuses DayFull)
      (record { answer = refl; bytes = refl; day = refl }))))))))

pub publishing-allowed : (e f : Sender) (t tid : ℕ) (content log : List ℕ) → e.day ≡ f.day
    → SamePublished (publish_of e t tid content log) (publish_of f t tid content log)
publishing-allowed e f t tid content log same =
    let is : record { day = f.day; seat = e.seat } ≡ e =
    ap (λ (d : Day). record { day = d; seat = e.seat }) (sym same) in
    rw is at (publish-either f.day e.seat f.seat t tid content log)

-- ─── Where a login starts ───

pub from_first : (e : Sender) (s : ℕ) (p content out log : List ℕ) (n : ℕ) (h : Header) (extension c : Span) →
    let k = start_of e (dated_of p).date (resume_of (part p c.start c.len)) in
    let f = (login_of e s p content out).end in
    length e.day.series ≡ most_series → length e.seat.places ≡ most_series
    → (login_of e s p content out).answer ≡ Ok n → (dated_of p).packet ≡ Packet-read h extension c
    → (place_of f s ≡ record { login = true; next = k; piece = 0 })
    × ((x : List ℕ) → entry_of e log s k ≡ some x → to_come f s log ≡ all_packets e s k x)
from_first e s p content out log n h extension c a b q is =
    go (login_of e s p content out) (login-cases e s p content out) q
  where
    go : (r : Wrote Sender LoggedIn) → LoginDone e s p content out r → r.answer ≡ Ok n →
        let k = start_of e (dated_of p).date (resume_of (part p c.start c.len)) in
        (place_of r.end s ≡ record { login = true; next = k; piece = 0 })
        × ((x : List ℕ) → entry_of e log s k ≡ some x → to_come r.end s log ≡ all_packets e s k x)
    go r (login-refused x) z = absurd (let z : ◌≡◌ {A = ℕ} 0 1 = cc in omega arith)
    go r (login-taken h2 x2 c2 one msg is2 t) z =
        let same : c2 ≡ c = cc in
        let k = start_of e (dated_of p).date (resume_of (part p c.start c.len)) in
        let pl : place_of (with_place e s k 0) s ≡ record { login = true; next = k; piece = 0 } =
        place-next e s t.served (record { series = a; places = b }) k 0 in
        rw same (pl, λ y en. come-at e s k 0 log y pl en)
