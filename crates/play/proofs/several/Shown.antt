-- A text written into a part of a buffer, and what a bufferful shows, over plain variables. Assumes nothing.
use Prim.Native.Nat.{ℕ, ◌+◌, ◌-◌, ◌*◌, ◌/◌, ◌≤◌}
use mathlib.Core.Path.{◌≡◌, sym, ap, ◌∙◌}
use mathlib.Core.List.{List, [], ◌++◌, append_assoc, append-nil}
use native.Mathlib.Omega.{arith}
use lib.ListN.{length, take, drop, length-append, length-take, length-drop, drop_of_length-le, take-append-drop}
use lib.Seq.{take_all, drop-drop, length-take-le}
use Rattle.ftd.specs.Bytes.{put}
use Rattle.ftd.proofs.Lists.{drop-part}
use Rattle.ftd.proofs.bytes.Put.{put-zero}
use Rattle.ftd.specs.Refusal.{number_of}
use Rattle.ftd.specs.declared.refusal.Refusal.{Refusal}
use Rattle.ftd.specs.declared.packet.Span.{Span}
use Rattle.flow.specs.declared.receiver.Origin.{Origin}
use Rattle.flow.specs.declared.receiver.Received.{Received}
use Rattle.flow.specs.declared.receiver.Received.TheVariants.{Idle, Duplicate, Partial, Complete}
use Rattle.flow.specs.declared.receiver.Received.TheVariants.{Refused as NotTaken}
use Rattle.flow.specs.declared.several.ReceivedSeveral.{ReceivedSeveral}
use Rattle.flow.specs.declared.several.ReceivedSeveral.TheVariants.{End, Short, Complete as StopComplete}
use Rattle.flow.specs.declared.several.ReceivedSeveral.TheVariants.{Refused as StopRefused}
use Rattle.flow.specs.declared.several.PublishedSeveral.{PublishedSeveral}
use Rattle.flow.specs.declared.several.PublishedSeveral.TheVariants.{End as PublishedEnd, Short as PublishedShort}
use Rattle.flow.specs.declared.several.PublishedSeveral.TheVariants.{Refused as PublishedRefused}
use Rattle.listing.specs.Text.{WroteText, end, short, refused}
use Rattle.listing.proofs.Texts.{wrote-both}
use Rattle.play.specs.declared.player.Player.{Player}
use Rattle.play.specs.declared.player.Played.{Played}
use Rattle.play.specs.declared.several.ReceivedAll.{ReceivedAll}
use Rattle.play.specs.declared.several.PublishedAll.{PublishedAll}
use Rattle.play.specs.Words.{argument}
use Rattle.play.specs.Lines.{numbered, message, Passing}
use Rattle.play.specs.Several.{taken_line, received_why, published_why, PrintsReceived, PrintsPublished}
use Rattle.play.specs.Several.{received_lines, published_lines}
use Rattle.play.specs.Played.{with_receiver, with_sender, ShowsReceiveAll, ShowsPublishAll}
use Rattle.play.specs.Played.{PlaysReceiveAll, PlaysPublishAll}
use Rattle.play.proofs.words.Arguments.{argument-short}

-- ─── A text in a part ───

-- From a place on.
pub behind-wrote : (l part words : List ℕ) (at n : ℕ) → WroteText (take (length l - at) (drop at l)) 0 words part n
    → WroteText l at words (take at l ++ (part ++ drop (length l - at) (drop at l))) (at + n)
unfolding put
behind-wrote l part words at n w =
    let rest : List ℕ = drop at l in
    let all : take (length l - at) rest ≡ rest = take_all (length l - at) rest (rw length-drop (omega arith)) in
    let gone : drop (length l - at) rest ≡ [] =
    drop_of_length-le rest {i = length l - at} (rw length-drop (omega arith)) in
    let b : part ≡ words ++ drop (length words) rest = rw all at w.bytes ∙ put-zero rest words in
    record {
      bytes =
          rw (gone, append-nil, b, drop-drop (length words) at l)
          (sym (append_assoc (take at l) words (drop (at + length words) l)));
      place = omega (arith, w.place);
    }

pub behind-inside : (l part : List ℕ) (at n k : ℕ) → at + k ≤ length l → n ≤ length part
    → at + n ≤ length (take at l ++ (part ++ drop (length l - at) (drop at l)))
behind-inside l part at n k h g =
    let f : length (take at l) ≡ at = length-take-le at l (omega arith) in
    rw (length-append, length-append, f) (omega arith)

-- Behind a place an answer's line is as short as at the start.
pub passing-behind : (a : Received) (at n : ℕ) → Passing a 0 n → Passing a at (at + n)
passing-behind Idle at n h = omega (arith, h)
passing-behind (Duplicate k) at n h = omega (arith, h)
passing-behind (Partial k) at n h = omega (arith, h)
passing-behind (Complete last tid origin c) at n h = tt
passing-behind (NotTaken r) at n h = tt

-- Up to a place.
pub front-wrote : (l part words : List ℕ) (m n : ℕ) → WroteText (take m l) 0 words part n → n ≤ m
    → WroteText l 0 words (part ++ drop m l) n
front-wrote l part words m n w h =
    let k : ℕ = length words in
    let e : k + (m - k) ≡ m = omega (arith, w.place) in
    let b : part ≡ words ++ drop k (take m l) = w.bytes ∙ put-zero (take m l) words in
    let r : drop k (take m l) ++ drop m l ≡ drop k l =
    ap (λ (x : List ℕ). x ++ drop m l) (drop-part k m l)
    ∙ ap (λ (x : List ℕ). take (m - k) (drop k l) ++ x)
    (sym (drop-drop (m - k) k l ∙ ap (λ (x : ℕ). drop x l) e))
    ∙ take-append-drop (m - k) (drop k l) in
    record {
      bytes = rw (b, put-zero l words) (append_assoc words (drop k (take m l)) (drop m l) ∙ ap (λ (x : List ℕ). words ++ x) r);
      place = w.place;
    }

-- ─── Why a bufferful stopped ───

module _ {l o : List ℕ} {at to : ℕ} where
  module _ (a : ReceivedSeveral) where
    pub why-end : a ≡ End → WroteText l at end o to → WroteText l at (received_why a) o to
    why-end e q = rw e q

    pub why-short : (n : ℕ) → a ≡ Short n → WroteText l at (numbered short n) o to → WroteText l at (received_why a) o to
    why-short n e q = rw e q

    pub why-message : (last tid : ℕ) (origin : Origin) (c : Span) → a ≡ StopComplete last tid origin c
        → WroteText l at message o to → WroteText l at (received_why a) o to
    why-message last tid origin c e q = rw e q

    pub why-refused : (r : Refusal) (x n : ℕ) → a ≡ StopRefused r → x ≡ n → n ≡ number_of r
        → WroteText l at (numbered refused x) o to → WroteText l at (received_why a) o to
    why-refused r x n e f g q = rw (e, ← g, ← f) q

  module _ (a : PublishedSeveral) where
    pub why-all : a ≡ PublishedEnd → WroteText l at end o to → WroteText l at (published_why a) o to
    why-all e q = rw e q

    pub why-cut : (n : ℕ) → a ≡ PublishedShort n → WroteText l at (numbered short n) o to
        → WroteText l at (published_why a) o to
    why-cut n e q = rw e q

    pub why-not : (r : Refusal) (x n : ℕ) → a ≡ PublishedRefused r → x ≡ n → n ≡ number_of r
        → WroteText l at (numbered refused x) o to → WroteText l at (published_why a) o to
    why-not r x n e f g q = rw (e, ← g, ← f) q

-- ─── What a bufferful shows ───

inside : (t : List ℕ) (m n : ℕ) → n ≤ length (take m t) → n ≤ m
inside t m n h = let k : length (take m t) ≤ m = rw length-take (omega arith) in omega arith

module _ (p pl : Player) (b b' t part t' : List ℕ) (m to : ℕ) (s : List ℕ) where
  pub received-shown : (r : ReceivedAll) → PrintsReceived p.receiver s b b' r (take m t) part
      → WroteText (part ++ drop m t) r.len (taken_line r.taken (received_why r.answer)) t' to → to ≤ length t'
      → pl ≡ with_receiver p r.end → ShowsReceiveAll p s b b' (record { player = pl; len = to }) t t'
  received-shown r h w g q =
      let c = h.0 in
      let f : r.len ≤ m = inside t m r.len h.2 in
      let lines = received_lines p.receiver s b in
      let all : WroteText t 0 (lines ++ taken_line r.taken (received_why r.answer)) t' to =
      wrote-both (omega arith) (front-wrote t part lines m r.len h.1 f) w in
      ((rw (← c.0) q, rw (← c.2, ← c.3) all, g), c.4)

  pub published-shown : (r : PublishedAll) → PrintsPublished p.sender s b b' r (take m t) part
      → WroteText (part ++ drop m t) r.len (taken_line r.taken (published_why r.answer)) t' to → to ≤ length t'
      → pl ≡ with_sender p r.end → ShowsPublishAll p s b b' (record { player = pl; len = to }) t t'
  published-shown r h w g q =
      let c = h.0 in
      let f : r.len ≤ m = inside t m r.len h.2 in
      let lines = published_lines p.sender s b in
      let all : WroteText t 0 (lines ++ taken_line r.taken (published_why r.answer)) t' to =
      wrote-both (omega arith) (front-wrote t part lines m r.len h.1 f) w in
      ((rw (← c.0) q, rw (← c.2, ← c.3) all, g), c.4)

-- The walk's part of the text, and the room left behind it.
module _ (t : List ℕ) (m : ℕ) (e : m ≡ length t - 96) where
  front_long : (n : ℕ) → 96 + n ≤ length t → n ≤ length (take m t)
  front_long n h = rw (length-take, e) (omega arith)

  back_long : (part : List ℕ) (n : ℕ) → 96 ≤ length t → n ≤ length part → n + 96 ≤ length (part ++ drop m t)
  back_long part n h g = rw (length-append, length-drop, e) (omega arith)

  pub packets-front : (s b : List ℕ) → 160 + 7 * length s + 2 * length b ≤ length t
      → 64 + 7 * length s + 2 * length b ≤ length (take m t)
  packets-front s b h = front_long _ (omega arith)

  pub packets-back : (s b part : List ℕ) (n : ℕ) → 160 + 7 * length s + 2 * length b ≤ length t → n ≤ length part
      → n + 96 ≤ length (part ++ drop m t)
  packets-back s b part n h g = back_long part n (omega arith) g

  pub records-front : (s : List ℕ) → 160 + 7 * length s ≤ length t → 64 + 7 * length s ≤ length (take m t)
  records-front s h = front_long _ (omega arith)

  pub records-back : (s part : List ℕ) (n : ℕ) → 160 + 7 * length s ≤ length t → n ≤ length part
      → n + 96 ≤ length (part ++ drop m t)
  records-back s part n h g = back_long part n (omega arith) g

-- ─── The call of a line ───

-- Two digits a byte: the text has room for the lines of all that a line says.
module _ (line : List ℕ) (i : ℕ) (w : List ℕ) (e : w ≡ argument line i) (o : List ℕ) (n k : ℕ) (h : n ≤ length o)
    (z : n ≡ length w / 2) where
  pub packets-room : (c : ℕ) (chain : List ℕ) → c ≤ length chain → 160 + 7 * (length line / 2) + 2 * c ≤ k
      → 160 + 7 * length (take n o) + 2 * length (take c chain) ≤ k
  packets-room c chain f g =
      let s : length w ≤ length line = rw e (argument-short line i) in
      rw (length-take-le n o h, length-take-le c chain f) (omega arith)

  pub records-room : 160 + 7 * (length line / 2) ≤ k → 160 + 7 * length (take n o) ≤ k
  records-room g =
      let s : length w ≤ length line = rw e (argument-short line i) in
      rw (length-take-le n o h) (omega arith)

module _ (p : Player) (r : Played) (t t' : List ℕ) where
  pub receive-all-played : (packets said chain part : List ℕ)
      → ShowsReceiveAll p packets (take p.chain chain) part r t t' → packets ≡ said
      → PlaysReceiveAll p said chain (part ++ drop p.chain chain) r t t'
  receive-all-played packets said chain part h e =
      (rw e at h.0, rw e at (ap (λ (l : List ℕ). l ++ drop p.chain chain) h.1))

  pub publish-all-played : (records said log part : List ℕ)
      → ShowsPublishAll p records (take p.log log) part r t t' → records ≡ said
      → PlaysPublishAll p said log (part ++ drop p.log log) r t t'
  publish-all-played records said log part h e =
      (rw e at h.0, rw e at (ap (λ (l : List ℕ). l ++ drop p.log log) h.1))
