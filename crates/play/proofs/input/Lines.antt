-- Lines taken from the pieces of an input are its lines. Assumes nothing.
use Prim.Native.Nat.{ℕ, zero, suc, ◌+◌, ◌<◌, ◌≤◌}
use native.Mathlib.Omega.{arith}
use mathlib.Core.Path.{◌≡◌, refl, ap, sym, ◌∙◌}
use mathlib.Core.List.{List, [], ◌∷◌, ◌++◌, map, append-nil, append_assoc, map-append}
use mathlib.Core.Bool.{Bool, true, false, cond, ◌||◌}
use mathlib.Core.Option.{Option, none, some}
use borrow.Author.Tests.{ltb-true, ltb-false, eqb-true, lt-ltb, le-ltb}
use lib.ListN.{length, take, drop, set, length-append, length-set, length-drop, drop_of_length-le}
use lib.Seq.{take-suc-set, drop-drop, append_snoc}
use lib.Dec.{ltb, eqb}
use Rattle.ftd.specs.Bytes.{joined}
use Rattle.play.specs.Input.{LineTaken, line_taken, with_byte, with_one, take_from, take_line_of, Lined, lined, ahead}
use Rattle.play.specs.Input.{lines_from, lines_of, ended, has_end, no_ends, shown_of, in_buffer, Reached, reached}
use Rattle.play.specs.Input.{onward, over_piece, over_pieces, LineLaws}

-- ─── What a buffer has of a line ───

-- All its bytes, where it holds them; otherwise that it is too long.
record Held (line : List ℕ) (have : ℕ) (l : List ℕ) : Type 0 where
  fits : length l ≤ length line → (have ≡ length l) × (take have line ≡ l)
  long : length line < length l → have ≡ length line + 1

held_none : (line : List ℕ) → Held line 0 []
held_none line = record { fits = λ h. (refl, refl); long = λ h. absurd (omega arith) }

module _ (line : List ℕ) (n : ℕ) (l : List ℕ) (h : Held line n l) where
  -- There is room: the line is held whole.
  held-room : n < length line → length l ≤ length line
  held-room r = go (ltb (length line) (length l)) refl
    where
      go : (b : Bool) → ltb (length line) (length l) ≡ b → length l ≤ length line
      go true q = let z = h.long (ltb-true (length line) (length l) q) in absurd (omega arith)
      go false q = ltb-false (length line) (length l) q

  held-byte : (x : ℕ) → Held (with_byte line n x) (with_one line n) (l ++ (x ∷ []))
  held-byte x = go (ltb n (length line)) refl
    where
      go : (b : Bool) → ltb n (length line) ≡ b
          → Held (cond b (set line n x) line) (cond b (n + 1) (length line + 1)) (l ++ (x ∷ []))
      go true q =
          let r = ltb-true n (length line) q in
          let f = h.fits (held-room r) in
          let f0 = f.0 in
          let a = length-append l (x ∷ []) in
          let s = length-set line n x in
          let e : n + 1 ≡ suc n = omega arith in
          record {
            fits = λ g. (
              omega (arith, f0, a),
              ap (λ (k : ℕ). take k (set line n x)) e
                  ∙ (take-suc-set line n x r ∙ ap (λ (k : List ℕ). k ++ (x ∷ [])) f.1),
            );
            long = λ g. absurd (omega (arith, f0, a, s, r, g));
          }
      go false q =
          let r = ltb-false n (length line) q in
          let a = length-append l (x ∷ []) in
          record {
            fits = λ g.
                let f = (h.fits (omega (arith, a, g))).0 in
                absurd (omega (arith, f, a, g, r));
            long = λ g. refl;
          }

  held-shown : in_buffer line n ≡ shown_of (length line) l
  held-shown = go (ltb (length line) (length l)) refl
    where
      go : (b : Bool) → ltb (length line) (length l) ≡ b → in_buffer line n ≡ cond b none (some l)
      go true q =
          let z = h.long (ltb-true (length line) (length l) q) in
          rw (lt-ltb (length line) n (omega (arith, z))) refl
      go false q =
          let f = h.fits (ltb-false (length line) (length l) q) in
          let g = ltb-false (length line) (length l) q in
          let f0 = f.0 in
          rw (le-ltb (length line) n (omega (arith, f0, g))) (ap some f.1)

-- ─── One call ───

-- The input ended within the line; or the line ended behind k bytes.
data TakenAs (begun : List ℕ) (at size : ℕ) (l : List ℕ) : LineTaken → Type 0 where
  within : (to have : ℕ) (line : List ℕ) → to ≡ at + length l → length line ≡ size → (lines_from begun l).lines ≡ []
      → Held line have (lines_from begun l).rest → TakenAs begun at size l (line_taken to have false line)
  ends_at : (k to have : ℕ) (line w : List ℕ) → k < length l → to ≡ at + suc k → length line ≡ size
      → lines_from begun l ≡ ahead w (lines_from [] (drop (suc k) l)) → Held line have w
      → TakenAs begun at size l (line_taken to have true line)

byte-length : (line : List ℕ) (n x : ℕ) → length (with_byte line n x) ≡ length line
byte-length line n x = go (ltb n (length line))
  where
    go : (b : Bool) → length (cond b (set line n x) line) ≡ length line
    go true = length-set line n x
    go false = refl

one_on : (begun : List ℕ) (at x : ℕ) (l line : List ℕ) (n : ℕ) (r : LineTaken) → eqb x 10 ≡ false
    → TakenAs (begun ++ (x ∷ [])) (at + 1) (length (with_byte line n x)) l r → TakenAs begun at (length line) (x ∷ l) r
one_on begun at x l line n r q (within to have later e s g h) =
    within to have later (omega (arith, e)) (s ∙ byte-length line n x) (rw q g) (rw q h)
one_on begun at x l line n r q (ends_at k to have later w i e s g h) =
    ends_at (suc k) to have later w (omega (arith, i)) (omega (arith, e)) (s ∙ byte-length line n x) (rw q g) h

take-as : (l : List ℕ) (at n : ℕ) (line begun : List ℕ) → Held line n begun
    → TakenAs begun at (length line) l (take_from at line n l)
take-as [] at n line begun h = within at n line (omega arith) refl refl h
take-as (x ∷ l) at n line begun h =
    go (eqb x 10) refl
    (take-as l (at + 1) (with_one line n) (with_byte line n x) (begun ++ (x ∷ [])) (held-byte line n begun h x))
  where
    go : (b : Bool) → eqb x 10 ≡ b
        → TakenAs (begun ++ (x ∷ [])) (at + 1) (length (with_byte line n x)) l
        (take_from (at + 1) (with_byte line n x) (with_one line n) l)
        → TakenAs begun at (length line) (x ∷ l)
        (cond b (line_taken (at + 1) n true line) (take_from (at + 1) (with_byte line n x) (with_one line n) l))
    go true q t = ends_at 0 (at + 1) n line begun (omega arith) (omega arith) refl (rw q refl) h
    go false q t = one_on begun at x l line n _ q t

take-line-as : (input : List ℕ) (at n : ℕ) (line begun : List ℕ) → Held line n begun
    → TakenAs begun at (length line) (drop at input) (take_line_of input at line n)
unfolding take_line_of
take-line-as input at n line begun h = take-as (drop at input) at n line begun h

-- ─── One piece ───

-- The lines of some bytes behind what was begun, and what is left of them in the buffer.
record Over (begun l : List ℕ) (size : ℕ) (r : Reached) : Type 0 where
  lines : r.lines ≡ map (shown_of size) (lines_from begun l).lines
  held : Held r.line r.have (lines_from begun l).rest
  same : length r.line ≡ size

nothing-over : (begun line : List ℕ) (n : ℕ) → Held line n begun → Over begun [] (length line) (reached [] line n)
nothing-over begun line n h = record { lines = refl; held = h; same = refl }

module _ (piece : List ℕ) (at size : ℕ) (begun : List ℕ) (more : ℕ → List ℕ → ℕ → Reached)
    (go_on : (to have : ℕ) (line b : List ℕ) → at < to → length line ≡ size → Held line have b
    → Over b (drop to piece) size (more to line have)) where
  -- A call and what goes on behind it.
  onward-over : at < length piece → (t : LineTaken) → TakenAs begun at size (drop at piece) t
      → Over begun (drop at piece) size (onward more t)
  onward-over i t (within to have line e s g h) =
      let d = length-drop at piece in
      let z : drop to piece ≡ [] = drop_of_length-le piece {i = to} (omega (arith, d, e, i)) in
      let o = go_on to have line (lines_from begun (drop at piece)).rest (omega (arith, d, e, i)) s h in
      let p = rw z at o in
      record { lines = rw g p.lines; held = p.held; same = p.same }
  onward-over i t (ends_at k to have line w j e s g h) =
      let z : drop to piece ≡ drop (suc k) (drop at piece) =
      ap (λ (m : ℕ). drop m piece) e ∙ sym (drop-drop (suc k) at piece) in
      let o = go_on to 0 line [] (omega (arith, e)) s (held_none line) in
      let p = rw z at o in
      record {
        lines =
            rw g (ap (λ (m : Option (List ℕ)). m ∷ (more to line 0).lines) (held-shown line have w h ∙ rw s)
            ∙ ap (λ (m : List (Option (List ℕ))). shown_of size w ∷ m) p.lines);
        held = rw g p.held;
        same = p.same;
      }

over-piece : (most : ℕ) (piece : List ℕ) (at n : ℕ) (line begun : List ℕ) → length piece ≤ at + most → Held line n begun
    → Over begun (drop at piece) (length line) (over_piece most piece at line n)
over-piece zero piece at n line begun i h =
    rw (drop_of_length-le piece {i = at} (omega (arith, i))) (nothing-over begun line n h)
over-piece (suc most) piece at n line begun i h =
    go (ltb at (length piece)) refl
    (λ to m later b j s g. rw s at (over-piece most piece to m later b (omega (arith, i, j)) g))
  where
    go : (b : Bool) → ltb at (length piece) ≡ b
        → ((to have : ℕ) (later b : List ℕ) → at < to → length later ≡ length line → Held later have b
        → Over b (drop to piece) (length line) (over_piece most piece to later have))
        → Over begun (drop at piece) (length line)
        (cond b (onward (over_piece most piece) (take_line_of piece at line n)) (reached [] line n))
    go true q ih =
        onward-over piece at (length line) begun (over_piece most piece) ih (ltb-true at (length piece) q)
        (take_line_of piece at line n) (take-line-as piece at n line begun h)
    go false q ih =
        rw (drop_of_length-le piece {i = at} (ltb-false at (length piece) q)) (nothing-over begun line n h)

-- ─── All pieces ───

-- What some bytes begin, with others behind them.
abbrev two : List ℕ → Lined → Lined
two q r = lined (r.lines ++ (lines_from r.rest q).lines) (lines_from r.rest q).rest

lines-append : (p q begun : List ℕ) → lines_from begun (p ++ q) ≡ two q (lines_from begun p)
lines-append [] q begun = refl
lines-append (x ∷ p) q begun = go (eqb x 10) (lines-append p q []) (lines-append p q (begun ++ (x ∷ [])))
  where
    go : (b : Bool) → lines_from [] (p ++ q) ≡ two q (lines_from [] p)
        → lines_from (begun ++ (x ∷ [])) (p ++ q) ≡ two q (lines_from (begun ++ (x ∷ [])) p)
        → cond b (ahead begun (lines_from [] (p ++ q))) (lines_from (begun ++ (x ∷ [])) (p ++ q))
        ≡ two q (cond b (ahead begun (lines_from [] p)) (lines_from (begun ++ (x ∷ [])) p))
    go true e f = ap (ahead begun) e
    go false e f = f

over-pieces : (ps : List (List ℕ)) (line : List ℕ) (n : ℕ) (begun : List ℕ) → Held line n begun
    → Over begun (joined ps) (length line) (over_pieces line n ps)
over-pieces [] line n begun h = nothing-over begun line n h
over-pieces (p ∷ ps) line n begun h =
    let r = over_piece (length p) p 0 line n in
    let o : Over begun p (length line) r = over-piece (length p) p 0 n line begun (omega arith) h in
    let m = rw o.same at (over-pieces ps r.line r.have (lines_from begun p).rest o.held) in
    let e = lines-append p (joined ps) begun in
    record {
      lines =
          ap (λ (a : List (Option (List ℕ))). a ++ (over_pieces r.line r.have ps).lines) o.lines
          ∙ (ap (λ (a : List (Option (List ℕ))). map (shown_of (length line)) (lines_from begun p).lines ++ a) m.lines
          ∙ (sym (map-append (shown_of (length line)) (lines_from begun p).lines
          (lines_from (lines_from begun p).rest (joined ps)).lines)
          ∙ ap (λ (z : Lined). map (shown_of (length line)) z.lines) (sym e)));
      held = rw e m.held;
      same = m.same;
    }

-- ─── The lines of an input ───

from-whole : (l begun : List ℕ) → ended (lines_from begun l).lines ++ (lines_from begun l).rest ≡ begun ++ l
from-whole [] begun = sym (append-nil begun)
from-whole (x ∷ l) begun = go (eqb x 10) refl (from-whole l []) (from-whole l (begun ++ (x ∷ [])))
  where
    go : (b : Bool) → eqb x 10 ≡ b → ended (lines_from [] l).lines ++ (lines_from [] l).rest ≡ l
        → ended (lines_from (begun ++ (x ∷ [])) l).lines ++ (lines_from (begun ++ (x ∷ [])) l).rest ≡ begun ++ (x ∷ []) ++ l
        → let r = cond b (ahead begun (lines_from [] l)) (lines_from (begun ++ (x ∷ [])) l) in
        ended r.lines ++ r.rest ≡ begun ++ (x ∷ l)
    go true q e f =
        append_assoc (begun ++ (10 ∷ [])) (ended (lines_from [] l).lines) (lines_from [] l).rest
        ∙ (ap (λ (k : List ℕ). begun ++ (10 ∷ []) ++ k) e
        ∙ (append_snoc begun 10 l ∙ ap (λ (y : ℕ). begun ++ (y ∷ l)) (sym (eqb-true x 10 q))))
    go false q e f = f ∙ append_snoc begun x l

end_snoc : (b : List ℕ) (x : ℕ) → has_end b ≡ false → eqb x 10 ≡ false → has_end (b ++ (x ∷ [])) ≡ false
end_snoc [] x h q = rw q refl
end_snoc (y ∷ b) x h q = go (eqb y 10) h (λ g. end_snoc b x g q)
  where
    go : (c : Bool) → (c || has_end b) ≡ false → (has_end b ≡ false → has_end (b ++ (x ∷ [])) ≡ false)
        → (c || has_end (b ++ (x ∷ []))) ≡ false
    go true h ih = h
    go false h ih = ih h

from-ends : (l begun : List ℕ) → has_end begun ≡ false
    → (no_ends (lines_from begun l).lines ≡ true) × (has_end (lines_from begun l).rest ≡ false)
from-ends [] begun h = (refl, h)
from-ends (x ∷ l) begun h =
    go (eqb x 10) refl (from-ends l [] refl) (λ g. from-ends l (begun ++ (x ∷ [])) g)
  where
    go : (b : Bool) → eqb x 10 ≡ b
        → (no_ends (lines_from [] l).lines ≡ true) × (has_end (lines_from [] l).rest ≡ false)
        → (has_end (begun ++ (x ∷ [])) ≡ false
        → (no_ends (lines_from (begun ++ (x ∷ [])) l).lines ≡ true)
        × (has_end (lines_from (begun ++ (x ∷ [])) l).rest ≡ false))
        → let r = cond b (ahead begun (lines_from [] l)) (lines_from (begun ++ (x ∷ [])) l) in
        (no_ends r.lines ≡ true) × (has_end r.rest ≡ false)
    go true q e f = (rw h e.0, e.1)
    go false q e f = f (end_snoc begun x h q)

-- ─── How far a call takes the input ───

range : (l : List ℕ) (at n : ℕ) (line : List ℕ)
    → (at ≤ (take_from at line n l).at) × ((take_from at line n l).at ≤ at + length l)
range [] at n line = (omega arith, omega arith)
range (x ∷ l) at n line = go (eqb x 10) (range l (at + 1) (with_one line n) (with_byte line n x))
  where
    go : (b : Bool) →
        let r = take_from (at + 1) (with_byte line n x) (with_one line n) l in
        (at + 1 ≤ r.at) × (r.at ≤ at + 1 + length l) →
        let c = cond b (line_taken (at + 1) n true line) r in
        (at ≤ c.at) × (c.at ≤ at + suc (length l))
    go true e = (omega arith, omega arith)
    go false e = let f = e.0 in let g = e.1 in (omega (arith, f), omega (arith, g))

progress : (l : List ℕ) (at n : ℕ) (line : List ℕ) → 0 < length l → at < (take_from at line n l).at
progress [] at n line h = absurd (omega (arith, h))
progress (x ∷ l) at n line h = go (eqb x 10) (range l (at + 1) (with_one line n) (with_byte line n x)).0
  where
    go : (b : Bool) → at + 1 ≤ (take_from (at + 1) (with_byte line n x) (with_one line n) l).at
        → at < (cond b (line_taken (at + 1) n true line) (take_from (at + 1) (with_byte line n x) (with_one line n) l)).at
    go true e = omega arith
    go false e = omega (arith, e)

takes-some : (input line : List ℕ) (at n : ℕ) → at < length input
    → (at < (take_line_of input at line n).at) × ((take_line_of input at line n).at ≤ length input)
unfolding take_line_of
takes-some input line at n h =
    let d = length-drop at input in
    let g = (range (drop at input) at n line).1 in
    (progress (drop at input) at n line (omega (arith, d, h)), omega (arith, d, g, h))

-- ─── The record ───

pub line-laws : LineLaws
unfolding lines_of
line-laws =
    record {
      whole = λ l. from-whole l [];
      ends = λ l. from-ends l [] refl;
      lines = λ line pieces. (over-pieces pieces line 0 [] (held_none line)).lines;
      rest = λ line pieces.
          let r = over_pieces line 0 pieces in
          let o = over-pieces pieces line 0 [] (held_none line) in
          held-shown r.line r.have (lines_from [] (joined pieces)).rest o.held
          ∙ ap (λ (k : ℕ). shown_of k (lines_from [] (joined pieces)).rest) o.same;
      same-buffer = λ line pieces. (over-pieces pieces line 0 [] (held_none line)).same;
      takes = takes-some;
    }
