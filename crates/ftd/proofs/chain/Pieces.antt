-- The pieces of a content and the packets of a message, one at a time. Assumes nothing.
use Prim.Native.Nat.{ℕ, zero, suc, ◌+◌, ◌-◌, ◌<◌, ◌≤◌}
use mathlib.Core.Path.{◌≡◌, refl, sym, ap, ◌∙◌}
use mathlib.Core.List.{List, [], ◌∷◌, ◌++◌}
use mathlib.Core.Bool.{Bool, true, false, cond, ◌&&◌}
use native.Mathlib.Omega.{arith}
use borrow.Author.Tests.{leb-true, le-leb, lt-leb, eqb-true, eqb-false, eq-eqb, ne_eqb}
use lib.ListN.{length, get_or, drop, length-drop, length-take, length-append, drop_of_length-le}
use lib.Seq.{drop-drop}
use lib.Dec.{leb, eqb}
use Rattle.ftd.specs.Bytes.{part, joined}
use Rattle.ftd.specs.Runs.{run_of}
use Rattle.ftd.specs.Fields.{field, fields_of, shapely, shaped}
use Rattle.ftd.specs.Chain.{Piece, no_fields, with_field, pack, pieces_of, chain_at, packet_for, is_nil, framed, tags_at}
use Rattle.ftd.specs.Chain.{packets_of, size_answer}
use Rattle.ftd.specs.Chain.Helpers.{others_of, piece_at, NextPiece, size_of, measure_of}
use Rattle.ftd.specs.Tags.{tags_for, place_tag, extension_bytes}
use Rattle.ftd.specs.Types.{TradeDate}
use Rattle.ftd.specs.declared.refusal.Refusal.TheVariants.{FieldRun}
use Rattle.ftd.specs.declared.packet.Chain.{Chain}
use Rattle.ftd.specs.declared.chain.Cut.{Cut}
use Rattle.ftd.specs.declared.chain.Message.{Message}
use Rattle.ftd.proofs.runs.Laws.{run-whole}
use Rattle.ftd.proofs.packet.Laws.{by-test}
use Rattle.ftd.proofs.write.Puts.{length-message}
use Rattle.std.specs.Prelude.{Some, None, Err}

-- There is always a piece.
packs-some : (p : Piece) (fs : List (List ℕ)) → is_nil (pack p fs) ≡ false
packs-some p [] = refl
packs-some p (f ∷ fs) =
    by-test (λ (ps : List Piece). is_nil ps ≡ false) (leb (length p.bytes + length f) 4080)
    (λ b. packs-some (with_field p f) fs) (λ b. refl)

pub pieces-some : (l : List ℕ) → is_nil (pieces_of l) ≡ false
unfolding pieces_of
pieces-some l = packs-some no_fields (fields_of l)

and_left : (a b : Bool) → (a && b) ≡ true → a ≡ true
and_left true b e = refl
and_left false b e = e

-- A test has one outcome.
pub both : {A : Type 0} (b : Bool) → b ≡ true → b ≡ false → A
both b t f = let y : ◌≡◌ {A = ℕ} 0 1 = cc in absurd (omega arith)

pub below : (a b : ℕ) → a ≤ b → (a ≡ b → ⊥) → a < b
below a b h k = omega arith

-- The pieces behind a piece: those of what is left, or none at the end.
module _ (l : List ℕ) (end : ℕ) (s : shapely (run_of field (drop end l)) ≡ true) where
  whole-left : joined (fields_of (drop end l)) ≡ drop end l
  whole-left = run-whole field (drop end l) (and_left _ _ s)

  pub others-more : end < length l → others_of (fields_of (drop end l)) ≡ pieces_of (drop end l)
  unfolding pieces_of
  others-more h = go (fields_of (drop end l)) (ap length whole-left)
    where
      go : (fs : List (List ℕ)) → length (joined fs) ≡ length (drop end l) → others_of fs ≡ pack no_fields fs
      go [] e = absurd (omega (arith, rw length-drop at e))
      go (f ∷ fs) e = refl

  pub others-none : length l ≤ end → others_of (fields_of (drop end l)) ≡ []
  unfolding run_of
  others-none h = rw (drop_of_length-le l h)

-- Nothing is wrong where nothing is left.
shapely-end : (l : List ℕ) (at : ℕ) → length l ≤ at → shapely (run_of field (drop at l)) ≡ true
unfolding run_of
shapely-end l at h = rw (drop_of_length-le l h)

-- The first piece of what is left, and what follows it.
module _ (l : List ℕ) (at : ℕ) (c : Cut) (next : NextPiece l at c) where
  pub piece-length : length (part l at (c.end - at)) ≡ c.end - at
  piece-length = simp (length-take, length-drop) (omega (arith, next.low, next.high))

  pub piece-packet : (m : Message) (j : ℕ) (x : Chain) (to : ℕ)
      → to + length
      (packet_for m j x (piece_at l at c)) ≡ to + (4 + length (extension_bytes (tags_at m j)) + (16 + (c.end - at)))
  unfolding packet_for
  piece-packet m j x to = rw (length-message, piece-length)

  -- A piece that goes to the end.
  pub whole-last : c.end ≡ length l → shapely (run_of field (drop at l)) ≡ true
  whole-last h = sym next.left ∙ shapely-end l c.end (omega arith)

  -- No piece before the end: a field is broken or too long.
  pub broken-here : c.end ≡ at → (c.end ≡ length l → ⊥) → shapely (run_of field (drop at l)) ≡ false
  broken-here e h = next.stuck e (below c.end (length l) next.high h)

  module _ (s : shapely (run_of field (drop at l)) ≡ true) where
    -- Before the end a piece has a field.
    pub piece-moves : (c.end ≡ length l → ⊥) → at < c.end
    piece-moves h = below at c.end next.low (λ e. both _ s (broken-here (sym e) h))

    more : c.end < length l → pieces_of (drop at l) ≡ piece_at l at c ∷ pieces_of (drop c.end l)
    more h = next.pieces s ∙ ap (λ (ps : List Piece). piece_at l at c ∷ ps) (others-more l c.end (next.left ∙ s) h)

    last : c.end ≡ length l → pieces_of (drop at l) ≡ piece_at l at c ∷ []
    last h =
        next.pieces s ∙ ap (λ (ps : List Piece). piece_at l at c ∷ ps)
        (others-none l c.end (next.left ∙ s) (omega arith))

    pub count-more : c.end < length l → length (pieces_of (drop at l)) ≡ 1 + length (pieces_of (drop c.end l))
    count-more h = rw (more h) (omega arith)

    pub count-last : c.end ≡ length l → length (pieces_of (drop at l)) ≡ 1
    count-last h = rw (last h)

    pub size-more : (ext : ℕ) → c.end < length l
        → size_of ext (pieces_of (drop at l)) ≡ 4 + ext + (16 + (c.end - at)) + size_of ext (pieces_of (drop c.end l))
    size-more ext h = rw (more h, piece-length)

    pub size-last : (ext : ℕ) → c.end ≡ length l → size_of ext (pieces_of (drop at l)) ≡ 4 + ext + (16 + (c.end - at))
    size-last ext h = rw (last h, piece-length) (omega arith)

    module _ (m : Message) (j : ℕ) where
      pub frame-more : c.end < length l
          → framed m j (pieces_of (drop at l)) ≡ packet_for m j (chain_at (eqb j 0) false) (piece_at l at c)
          ∷ framed m (suc j) (pieces_of (drop c.end l))
      frame-more h = rw (more h, pieces-some (drop c.end l))

      pub frame-last : c.end ≡ length l → framed m j (pieces_of (drop at l)) ≡ packet_for m j (chain_at (eqb j 0) true)
          (piece_at l at c) ∷ []
      frame-last h = rw (last h)

-- The packets of pieces: as many, and of the size counted.
pub framed-count : (m : Message) (j : ℕ) (ps : List Piece) → length (framed m j ps) ≡ length ps
framed-count m j [] = refl
framed-count m j (p ∷ ps) = ap suc (framed-count m (suc j) ps)

-- At every place the tags take as many bytes.
pub tags-long : (m : Message) (j : ℕ) → length (extension_bytes (tags_at m j)) ≡ length (extension_bytes (tags_at m 0))
tags-long m j = go m.date m.counted
  where
    go : (d : TradeDate) (b : Bool)
        → length (extension_bytes (tags_for d ++ cond b (place_tag j ∷ []) []))
        ≡ length (extension_bytes (tags_for d ++ cond b (place_tag 0 ∷ []) []))
    go None true = refl
    go None false = refl
    go (Some d) true = refl
    go (Some d) false = refl

pub framed-size : (m : Message) (j : ℕ) (ps : List Piece)
    → length (joined (framed m j ps)) ≡ size_of (length (extension_bytes (tags_at m 0))) ps
unfolding packet_for
framed-size m j [] = refl
framed-size m j (p ∷ ps) = rw (length-append, length-message, framed-size m (suc j) ps, tags-long m j)

-- ─── What the public functions decide ───

pub shaped-facts : (content : List ℕ) (limit : ℕ) (r : Bool) → r ≡ shaped content limit → r ≡ true
    → (length content ≤ limit) × (shapely (run_of field content) ≡ true)
unfolding shaped
shaped-facts content limit r e t = go (leb (length content) limit) refl (sym e ∙ t)
  where
    go : (b : Bool) → leb (length content) limit ≡ b → (b && shapely (run_of field content)) ≡ true
        → (length content ≤ limit) × (shapely (run_of field content) ≡ true)
    go true p q = (leb-true (length content) limit p, q)
    go false p q = let y : ◌≡◌ {A = ℕ} 0 1 = cc in absurd (omega arith)

pub size-over : (m : Message) (content : List ℕ) → 32768 < length content → Err FieldRun ≡ size_answer m content
unfolding size_answer shaped
size-over m content h = rw (lt-leb (length content) 32768 h)

module _ (m : Message) (content : List ℕ) (tags : ℕ) (e : tags ≡ length (extension_bytes (tags_at m 0))) where
  pub size_is : length content ≤ 32768 → measure_of tags content ≡ size_answer m content
  unfolding measure_of size_answer shaped packets_of
  size_is h =
      rw (
        le-leb (length content) 32768 h,
        framed-count m 0 (pieces_of content),
        framed-size m 0
            (pieces_of content),
        ← e,
      )

-- ─── A piece and a packet by place ───

module _ (content : List ℕ) (i at left : ℕ) (c : Cut) (next : NextPiece content at c)
    (s : shapely (run_of field (drop at content)) ≡ true) (few : left ≤ i)
    (inv : drop (i - left) (pieces_of content) ≡ pieces_of (drop at content)) where
  pub piece-here : left ≡ 0 → drop i (pieces_of content) ≡ pieces_of (drop at content)
  piece-here z =
      let e : i - left ≡ i = omega arith in
      rw e at inv

  pub piece-none : (left ≡ 0 → ⊥) → c.end ≡ length content → length (pieces_of content) ≤ i
  piece-none z h =
      let k : length (pieces_of content) - (i - left) ≡ 1 =
      sym (length-drop (i - left) (pieces_of content)) ∙ ap length inv ∙ count-last content at c next s h in
      omega (arith, positive left z)
    where
      positive : (n : ℕ) → (n ≡ 0 → ⊥) → 0 < n
      positive n z = omega arith

  pub piece-turn : (left ≡ 0 → ⊥) → (c.end ≡ length content → ⊥)
      → drop (i - (left - 1)) (pieces_of content) ≡ pieces_of (drop c.end content)
  piece-turn z h =
      let e : i - (left - 1) ≡ i - left + 1 = omega arith in
      ap (λ (n : ℕ). drop n (pieces_of content)) e
      ∙ sym (drop-drop 1 (i - left) (pieces_of content))
      ∙ ap (drop 1) (inv ∙ more content at c next s (omega (arith, next.high)))

framed-drop : (m : Message) (i j : ℕ) (ps : List Piece)
    → drop i (framed m j ps) ≡ framed m (i + j) (drop i ps)
framed-drop m zero j ps = let e : 0 + j ≡ j = omega arith in rw e
framed-drop m (suc i) j [] = refl
framed-drop m (suc i) j (p ∷ ps) =
    let e : i + suc j ≡ suc i + j = omega arith in
    framed-drop m i (suc j) ps ∙ ap (λ (n : ℕ). framed m n (drop i ps)) e

head_of : (ls : List (List ℕ)) (i : ℕ) (x : List ℕ) (xs : List (List ℕ)) → drop i ls ≡ x ∷ xs
    → (get_or ls i [] ≡ x) × (length ls ≡ i + 1 + length xs)
head_of [] zero x xs e = let y = ap length e in absurd (omega arith)
head_of [] (suc i) x xs e = let y = ap length e in absurd (omega arith)
head_of (l ∷ ls) zero x xs e = let y = ap length e in (cc, omega arith)
head_of (l ∷ ls) (suc i) x xs e = let h = head_of ls i x xs e in (h.0, omega (arith, h.1))

pub some-length : (ps : List Piece) → is_nil ps ≡ false → 0 < length ps
some-length [] e = let y : ◌≡◌ {A = ℕ} 0 1 = cc in absurd (omega arith)
some-length (p ∷ ps) e = omega arith

-- Packet i of a message, from piece i of its content: its bytes, that there is one, and whether it is the last.
pub packet-here : (m : Message) (content : List ℕ) (i at : ℕ) (c : Cut) → NextPiece content at c
    → shapely (run_of field (drop at content)) ≡ true → drop i (pieces_of content) ≡ pieces_of (drop at content)
    → (get_or (packets_of m content) i [] ≡ packet_for m i (chain_at (eqb i 0) (eqb c.end (length content)))
    (piece_at content at c)) × (i < length (packets_of m content))
    × (eqb (i + 1) (length (packets_of m content)) ≡ eqb c.end (length content))
unfolding packets_of
packet-here m content i at c next s e = go (eqb c.end (length content)) refl
  where
    all : List (List ℕ)
    all = framed m 0 (pieces_of content)

    from : drop i all ≡ framed m i (pieces_of (drop at content))
    from =
        let z : i + 0 ≡ i = omega arith in
        framed-drop m i 0 (pieces_of content)
        ∙ ap (λ (n : ℕ). framed m n (drop i (pieces_of content))) z ∙ ap (framed m i) e

    go : (b : Bool) → eqb c.end (length content) ≡ b
        → (get_or all i [] ≡ packet_for m i (chain_at (eqb i 0) b) (piece_at content at c)) × (i < length all)
        × (eqb (i + 1) (length all) ≡ b)
    go true q =
        let h =
        head_of all i _ _ (from ∙ frame-last content at c next s m i
        (eqb-true c.end (length content) q)) in
        (h.0, omega (arith, h.1), eq-eqb (i + 1) (length all) (omega (arith, h.1)))
    go false q =
        let more : c.end < length content =
        below c.end (length content) next.high (eqb-false c.end (length content) q) in
        let h = head_of all i _ _ (from ∙ frame-more content at c next s m i more) in
        let k : 0 < length (framed m (suc i) (pieces_of (drop c.end content))) =
        rw framed-count (some-length (pieces_of (drop c.end content)) (pieces-some (drop c.end content))) in
        (h.0, omega (arith, h.1), ne_eqb (i + 1) (length all) (λ x. omega (arith, h.1)))

pub packet-none : (m : Message) (content : List ℕ) (i : ℕ) → length (pieces_of content) ≤ i
    → length (packets_of m content) ≤ i
unfolding packets_of
packet-none m content i h = rw (framed-count m 0 (pieces_of content)) h

pub packet-size : (m : Message) (content : List ℕ) (i at : ℕ) (c : Cut) → NextPiece content at c
    → shapely (run_of field (drop at content)) ≡ true → drop i (pieces_of content) ≡ pieces_of (drop at content)
    → (tags : ℕ) → tags ≡ length (extension_bytes (tags_at m i))
    → length (get_or (packets_of m content) i []) ≡ 4 + tags + (16 + (c.end - at))
packet-size m content i at c next s e tags t =
    rw ((packet-here m content i at c next s e).0, t)
    (omega (arith, piece-packet content at c next m i (chain_at (eqb i 0) (eqb c.end (length content))) 0))
