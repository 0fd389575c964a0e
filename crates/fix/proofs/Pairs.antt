-- The pairs of a run, and a run of pairs. Assumes nothing.
use Prim.Native.Nat.{ℕ, zero, suc, ◌+◌, ◌<◌, ◌≤◌}
use mathlib.Core.Path.{◌≡◌, refl, sym, ap, ◌∙◌}
use mathlib.Core.Logic.{inl, inr}
use mathlib.Core.List.{List, [], ◌∷◌, ◌++◌, append-nil, append_assoc}
use mathlib.Core.Bool.{Bool, true, false, cond}
use mathlib.Core.Option.{Option, none, some}
use native.Mathlib.Omega.{arith}
use borrow.Author.Tests.{lt-ltb, ltb-true, eq-eqb, ne_eqb, eqb-true, eqb-false}
use lib.ListN.{length, get_or, take, drop, length-append, length-drop}
use lib.Seq.{drop-drop, drop-append-add, get_or-append_seam, get_or-drop, length-take-le, split_at}
use lib.Seq.{take-append_seam}
use lib.Dec.{ltb, eqb}
use Rattle.ftd.specs.Bytes.{part}
use Rattle.fix.specs.Types.{Number}
use Rattle.fix.specs.declared.fields.Last.{Last}
use Rattle.fix.specs.Text.{soh, equals, until, number_in, plain_in, or_else}
use Rattle.fix.specs.Fields.{length_tag, last_of, no_last, text_length, closed, tagged, front_of, cut_off, cut_in}
use Rattle.fix.specs.Fields.{Given, size_of, cut_from, fields_of, is_whole, place_in, place_of, part_at, text_of}
use Rattle.fix.specs.Fields.{first_in, first_of}
use Rattle.fix.specs.FieldPlaces.{FrontInside}
use Rattle.fix.specs.Write.{write_answer, write_output}
use Rattle.fix.specs.RoundTrips.{ReadsAs}
use Rattle.fix.specs.Pairs.{Pair, pair, pairs_in, pairs_of, decimal, bytes_of, IsNumber, Measures, NoData, NoSoh}
use Rattle.fix.specs.Pairs.{Closes, Stands, CanWrite, no_pair, pair_at, first_with, IsAt, text_or, HasPairs, PairLaws}
use Rattle.fix.proofs.fields.Fronts.{front-inside}
use Rattle.fix.proofs.fields.Cuts.{cut_step}
use Rattle.fix.proofs.fields.Turns.{LaidFrom, laid}
use Rattle.fix.proofs.frame.Words.{first_taken, other-taken, until-seam, until-there}
use Rattle.fix.proofs.frame.Outlines.{whole}
use Rattle.fix.proofs.Numerals.{number_is, is_number, plain-is, decimal-plain, decimal-until}
use Rattle.fix.proofs.RoundTrips.{round-trips}
use Rattle.std.specs.Prelude.{Some, None, Ok}
use Rattle.fix.specs.Types.{MaybeFront, some_front}
use Rattle.fix.proofs.Options.{same-front}

-- ─── A field that is found ───

never-field : (tag start n : ℕ) → None ≡ some_front tag start n → ⊥
never-field tag start n e = let z : ◌≡◌ {A = ℕ} 0 1 = cc in omega arith

-- Its tag in digits, `=`, its text and SOH; and how long the text is.
record Found (last : Last) (l : List ℕ) (tag start n : ℕ) : Type 0 where
  least : 1 ≤ tag
  most : tag ≤ 999999999
  some : 1 ≤ n
  counted : length (part l start n) ≡ n
  measured : text_length last tag (drop start l) ≡ n
  joined : l ≡ decimal tag ++ (61 ∷ (part l start n ++ (1 ∷ drop (start + n + 1) l)))

module _ (tag start n : ℕ) where
  no : None ≡ some_front tag start n → ⊥
  no = never-field tag start n

  closed_is : (t s k : ℕ) (l : List ℕ) → closed t s k l ≡ some_front tag start n
      → (t ≡ tag) × (s ≡ start) × (k ≡ n) × (1 ≤ k) × (get_or l (s + k) 0 ≡ 1)
  unfolding closed
  closed_is t s k l e =
      let x = other-taken None (cond (eqb (get_or l (s + k) 0) soh) (some_front t s k) None) (some_front tag start n) (eqb k 0)
      no e in
      let y = first_taken (some_front t s k) None (some_front tag start n) (eqb (get_or l (s + k) 0) soh) no x.1 in
      let g : some_front t s k ≡ some_front tag start n = y.1 in
      let z = eqb-false k 0 x.0 in
      let f = same-front _ _ _ _ _ _ g in
      (f.0, f.1, f.2, omega (arith, z), eqb-true (get_or l (s + k) 0) 1 y.0)

  text-joined : (l : List ℕ) → start + n < length l → get_or l (start + n) 0 ≡ 1
      → drop start l ≡ part l start n ++ (1 ∷ drop (start + n + 1) l)
  text-joined l h c =
      let k : start + suc n ≡ start + n + 1 = omega arith in
      let m = length-drop start l in
      let e : drop (suc n) (drop start l) ≡ drop (start + n + 1) l = drop-drop (suc n) start l ∙ ap (λ i. drop i l) k in
      let d : get_or (drop start l) n 0 ≡ 1 = get_or-drop start l n 0 ∙ c in
      rw (d, e) at (split_at (drop start l) n 0 (omega (arith, m, h)))

  found : (last : Last) (l : List ℕ) → front_of last l ≡ some_front tag start n → Found last l tag start n
  unfolding front_of
  found last l e =
      let x = first_taken (tagged last l (until equals l) (plain_in (take (until equals l) l))) None
      (some_front tag start n) (ltb (until equals l) (length l)) no e in
      let i : FrontInside (length l) (some_front tag start n) = rw e at (front-inside last l) in
      go (plain_in (take (until equals l) l)) refl x.1
      (until-there equals l (ltb-true (until equals l) (length l) x.0)) i.2
    where
      go : (a : Number) → plain_in (take (until equals l) l) ≡ a
          → tagged last l (until equals l) a ≡ some_front tag start n
          → l ≡ take (until equals l) l ++ (61 ∷ drop (suc (until equals l)) l) → start + n < length l
          → Found last l tag start n
      go None p e j h = absurd (no e)
      go (Some t) p e j h =
          let u = until equals l in
          let c = closed_is t (u + 1) (text_length last t (drop (u + 1) l)) l e in
          let a : t ≡ tag = c.0 in
          let b : u + 1 ≡ start = c.1 in
          let k : text_length last t (drop (u + 1) l) ≡ n = c.2 in
          let s : 1 ≤ text_length last t (drop (u + 1) l) = c.3 in
          let y : get_or l (u + 1 + text_length last t (drop (u + 1) l)) 0 ≡ 1 = c.4 in
          let q = plain-is (take u l) t p in
          let v : suc u ≡ start = omega (arith, b) in
          let m = length-drop start l in
          let w : l ≡ decimal tag ++ (61 ∷ drop start l) = rw (q.0, a, v) at j in
          record {
            least = rw a at q.1;
            most = rw a at q.2;
            some = rw k at s;
            counted = length-take-le n (drop start l) (omega (arith, m, h));
            measured = rw (a, b) at k;
            joined = w ∙ ap (λ (r : List ℕ). decimal tag ++ (61 ∷ r)) (text-joined l h (rw (k, b) at y));
          }

-- ─── A run is the bytes of its pairs ───

one_more : (d t x r : List ℕ) → (d ++ (61 ∷ (t ++ (1 ∷ x)))) ++ r ≡ d ++ (61 ∷ (t ++ (1 ∷ (x ++ r))))
one_more d t x r =
    append_assoc d (61 ∷ (t ++ (1 ∷ x))) r ∙ ap (λ (y : List ℕ). d ++ (61 ∷ y)) (append_assoc t (1 ∷ x) r)

joined_in : (most : ℕ) (last : Last) (l : List ℕ)
    → bytes_of (pairs_in (cut_in most last l).fields) ++ (cut_in most last l).rest ≡ l
joined_in zero last l = refl
joined_in (suc most) last l = go (front_of last l) refl (joined_in most)
  where
    go : (f : MaybeFront) → front_of last l ≡ f
        → ((a : Last) (r : List ℕ) → bytes_of (pairs_in (cut_in most a r).fields) ++ (cut_in most a r).rest ≡ r)
        → bytes_of (pairs_in (cut_off (cut_in most) l f).fields) ++ (cut_off (cut_in most) l f).rest ≡ l
    go None e ih = refl
    go (Some found1) e ih =
        let a = last_of found1.tag (part l found1.start found1.len) in
        let r : List ℕ = drop (found1.start + found1.len + 1) l in
        one_more (decimal found1.tag) (part l found1.start found1.len) (bytes_of (pairs_in (cut_in most a r).fields)) (cut_in most a r).rest
        ∙ ap (λ (y : List ℕ). decimal found1.tag ++ (61 ∷ (part l found1.start found1.len ++ (1 ∷ y)))) (ih a r)
        ∙ sym (found found1.tag found1.start found1.len last l e).joined

no_bytes : (l : List ℕ) → eqb (length l) 0 ≡ true → l ≡ []
no_bytes [] e = refl
no_bytes (x ∷ l) e = absurd (let z = eqb-true (suc (length l)) 0 e in omega (arith, z))

pub joins : (run : List ℕ) → is_whole run ≡ true → bytes_of (pairs_of run) ≡ run
unfolding is_whole cut_from
joins run e =
    sym (append-nil (bytes_of (pairs_of run)))
    ∙ (rw (no_bytes (cut_in (length run) no_last run).rest e) at (joined_in (length run) no_last run))

-- ─── The length tags ───

abbrev length_by : Bool → Bool → Bool → Bool → ℕ
length_by a b c d = cond a 93 (cond b 90 (cond c 95 (cond d 354 0)))

measures : (by tag : ℕ) → length_tag tag ≡ by → (by ≡ 0 → ⊥) → Measures by tag
unfolding length_tag
measures by tag e z = go (eqb tag 89) refl (eqb tag 91) refl (eqb tag 96) refl (eqb tag 355) refl e
  where
    go : (a : Bool) → eqb tag 89 ≡ a → (b : Bool) → eqb tag 91 ≡ b → (c : Bool) → eqb tag 96 ≡ c
        → (d : Bool) → eqb tag 355 ≡ d → length_by a b c d ≡ by → Measures by tag
    go true p b q c r d s e = inl (sym e, eqb-true tag 89 p)
    go false p true q c r d s e = inr (inl (sym e, eqb-true tag 91 q))
    go false p false q true r d s e = inr (inr (inl (sym e, eqb-true tag 96 r)))
    go false p false q false r true s e = inr (inr (inr (sym e, eqb-true tag 355 s)))
    go false p false q false r false s e = absurd (z (sym e))

no-data : (tag : ℕ) → length_tag tag ≡ 0 → NoData tag
unfolding length_tag
no-data tag e =
    let n : (k m : ℕ) → length_tag k ≡ m → (m ≡ 0 → ⊥) → tag ≡ k → ⊥ =
    λ k m f z q. z (sym f ∙ ap length_tag (sym q) ∙ e) in (
      n 89 93 refl (λ z. omega (arith, z)),
      n 91 90 refl (λ z. omega (arith, z)),
      n 96 95 refl (λ z. omega (arith, z)),
      n 355 354 refl (λ z. omega (arith, z)),
    )

length_none : (tag : ℕ) → NoData tag → length_tag tag ≡ 0
unfolding length_tag
length_none tag d = rw (ne_eqb tag 89 d.0, ne_eqb tag 91 d.1, ne_eqb tag 96 d.2, ne_eqb tag 355 d.3)

length_some : (by tag : ℕ) → Measures by tag → (length_tag tag ≡ by) × (by ≡ 0 → ⊥)
unfolding length_tag
length_some by tag (inl (p, q)) = (rw (p, q), λ z. omega (arith, p, z))
length_some by tag (inr (inl (p, q))) = (rw (p, q), λ z. omega (arith, p, z))
length_some by tag (inr (inr (inl (p, q)))) = (rw (p, q), λ z. omega (arith, p, z))
length_some by tag (inr (inr (inr (p, q)))) = (rw (p, q), λ z. omega (arith, p, z))

-- ─── The pairs of a run can be written ───

no-soh : (l : List ℕ) → NoSoh (take (until soh l) l)
no-soh [] = tt
no-soh (c ∷ l) = go (eqb c 1) refl (no-soh l)
  where
    go : (b : Bool) → eqb c 1 ≡ b → NoSoh (take (until soh l) l) → NoSoh (take (cond b 0 (suc (until soh l))) (c ∷ l))
    go true e ih = tt
    go false e ih = (eqb-false c 1 e, ih)

size_number : (x : Number) (n : ℕ) → or_else 0 x ≡ n → 1 ≤ n → x ≡ Some n
size_number None n e h = absurd (omega (arith, e, h))
size_number (Some k) n e h = ap Some e

closes : (before : Pair) (l : List ℕ) (tag start n : ℕ) → Found (last_of before.tag before.text) l tag start n
    → Closes before (pair tag (part l start n))
unfolding text_length
closes before l tag start n f =
    go (eqb (length_tag tag) 0) refl (eqb (length_tag tag) before.tag) refl f.measured
  where
    go : (a : Bool) → eqb (length_tag tag) 0 ≡ a → (b : Bool) → eqb (length_tag tag) before.tag ≡ b
        → cond a (until soh (drop start l)) (cond b (or_else 0 (number_in before.text)) 0) ≡ n
        → Closes before (pair tag (part l start n))
    go true p b q e =
        inl (no-data tag (eqb-true (length_tag tag) 0 p), rw e at (no-soh (drop start l)))
    go false p true q e =
        let k : length_tag tag ≡ before.tag = eqb-true (length_tag tag) before.tag q in
        let z = eqb-false (length_tag tag) 0 p in
        let i : IsNumber before.text n =
        number_is before.text n (size_number (number_in before.text) n e f.some) in
        inr (measures before.tag tag k (λ y. z (k ∙ y)), rw f.counted i)
    go false p false q e = absurd (let s = f.some in omega (arith, s, e))

can-in : (most : ℕ) (before : Pair) (last : Last) → last ≡ last_of before.tag before.text → (l : List ℕ)
    → CanWrite before (pairs_in (cut_in most last l).fields)
can-in zero before last q l = tt
can-in (suc most) before last q l = go (front_of last l) refl (can-in most)
  where
    go : (f : MaybeFront) → front_of last l ≡ f
        → ((p : Pair) (a : Last) → a ≡ last_of p.tag p.text → (r : List ℕ)
        → CanWrite p (pairs_in (cut_in most a r).fields))
        → CanWrite before (pairs_in (cut_off (cut_in most) l f).fields)
    go None e ih = tt
    go (Some found1) e ih =
        let f : Found (last_of before.tag before.text) l found1.tag found1.start found1.len = found found1.tag found1.start found1.len _ l (rw q at e) in
        let s = f.some in
        let c = f.counted in (
          record { least = f.least; most = f.most; some = omega (arith, s, c); closes = closes before l found1.tag found1.start found1.len f },
          ih (pair found1.tag (part l found1.start found1.len)) (last_of found1.tag (part l found1.start found1.len)) refl (drop (found1.start + found1.len + 1) l),
        )

pub can_write : (run : List ℕ) → CanWrite no_pair (pairs_of run)
unfolding cut_from number_in
can_write run = can-in (length run) no_pair no_last refl run

-- ─── Pairs that can be written are read back ───

pub until_none : (l : List ℕ) → NoSoh l → until soh l ≡ length l
until_none [] d = refl
until_none (c ∷ l) d = rw (ne_eqb c 1 d.0) (ap suc (until_none l d.1))

text-measured : (before p : Pair) (r : List ℕ) → Closes before p
    → text_length (last_of before.tag before.text) p.tag (p.text ++ (1 ∷ r)) ≡ length p.text
unfolding text_length
text-measured before p r (inl (d, s)) =
    rw (length_none p.tag d) (until-seam soh p.text r (until_none p.text s))
text-measured before p r (inr (m, i)) =
    let y = length_some before.tag p.tag m in
    rw (
      y.0,
      ne_eqb before.tag 0 y.1,
      eq-eqb before.tag before.tag refl,
      is_number before.text (length p.text) i,
    )

module _ (d t r : List ℕ) where
  abbrev line : List ℕ
  line = d ++ (61 ∷ (t ++ (1 ∷ r)))

  line-text : drop (length d + 1) line ≡ t ++ (1 ∷ r)
  line-text = drop-append-add d (61 ∷ (t ++ (1 ∷ r))) 1

  line-part : part line (length d + 1) (length t) ≡ t
  line-part = rw line-text (take-append_seam t (1 ∷ r))

  line-rest : drop (length d + 1 + length t + 1) line ≡ r
  line-rest =
      let k : length d + 1 + (length t + 1) ≡ length d + 1 + length t + 1 = omega arith in
      rw (← k, ← drop-drop (length t + 1) (length d + 1) line, line-text) (drop-append-add t (1 ∷ r) 1)

  line-closed : get_or line (length d + 1 + length t) 0 ≡ 1
  line-closed =
      rw (← get_or-drop (length d + 1) line (length t) 0, line-text) (get_or-append_seam t 1 r 0)

  line-long : length d < length line
  line-long = let e = length-append d (61 ∷ (t ++ (1 ∷ r))) in omega (arith, e)

front-back : (before p : Pair) (r : List ℕ) → Stands before p
    → front_of (last_of before.tag before.text) (line (decimal p.tag) p.text r)
    ≡ some_front p.tag (length (decimal p.tag) + 1) (length p.text)
unfolding front_of closed
front-back before p r s =
    let d = decimal p.tag in
    let t = p.text in
    let o = s.some in
    rw (
      until-seam equals d (t ++ (1 ∷ r)) (decimal-until p.tag),
      lt-ltb (length d) (length (line d t r)) (line-long d t r),
      take-append_seam d (61 ∷ (t ++ (1 ∷ r))),
      decimal-plain p.tag s.least s.most,
      line-text d t r,
      text-measured before p r s.closes,
      ne_eqb (length t) 0 (λ z. omega (arith, o, z)),
      line-closed d t r,
    )

read_back : (before : Pair) (last : Last) → last ≡ last_of before.tag before.text → (ps : List Pair)
    → CanWrite before ps → (pairs_in (cut_from last (bytes_of ps)).fields ≡ ps) × ((cut_from last (bytes_of ps)).rest ≡ [])
unfolding cut_from
read_back before last q [] c = (refl, refl)
read_back before last q (p ∷ ps) c =
    let d = decimal p.tag in
    let t = p.text in
    let r : List ℕ = bytes_of ps in
    let f : front_of last (line d t r) ≡ some_front p.tag (length d + 1) (length t) = rw q (front-back before p r c.0) in
    let ih = read_back p (last_of p.tag p.text) refl ps c.1 in
    let e = cut_step last (line d t r) in
    rw (e, f, line-part d t r, line-rest d t r, ih.0, ih.1) (refl, refl)

back : (ps : List Pair) → CanWrite no_pair ps → (is_whole (bytes_of ps) ≡ true) × (pairs_of (bytes_of ps) ≡ ps)
unfolding is_whole number_in
back ps c =
    let y = read_back no_pair no_last refl ps c in
    (rw y.1 refl, y.0)

-- ─── Fields that are found ───

place_is : (run : List ℕ) (at : ℕ) (fs : List Given) → LaidFrom run at fs → (i : ℕ)
    → IsAt run (pair_at i (pairs_in fs)) (place_in at fs i)
place_is run at [] h i = tt
place_is run at (f ∷ fs) h zero = (refl, h.0)
place_is run at (f ∷ fs) h (suc i) = place_is run (at + size_of f) fs h.2 i

field : (run : List ℕ) (i : ℕ) → IsAt run (pair_at i (pairs_of run)) (place_of run i)
unfolding place_of
field run i = place_is run 0 (fields_of run) (laid run) i

text : (run : List ℕ) (i : ℕ) → text_of run i ≡ text_or (pair_at i (pairs_of run))
unfolding text_of
text run i = go (pair_at i (pairs_of run)) (place_of run i) (field run i)
  where
    go : (p : Option Pair) (f : MaybeFront) → IsAt run p f → part_at run f ≡ text_or p
    go none None h = refl
    go none (Some found) h = absurd h
    go (some p) None h = absurd h
    go (some p) (Some found) h = h.1

first-is : (run : List ℕ) (tag at : ℕ) (fs : List Given) → LaidFrom run at fs
    → IsAt run (first_with tag (pairs_in fs)) (first_in at fs tag)
first-is run tag at [] h = tt
first-is run tag at (f ∷ fs) h = go (eqb f.tag tag) (first-is run tag (at + size_of f) fs h.2)
  where
    go : (b : Bool) → IsAt run (first_with tag (pairs_in fs)) (first_in (at + size_of f) fs tag)
        → IsAt run (cond b (some (pair f.tag f.text)) (first_with tag (pairs_in fs)))
        (cond b (some_front f.tag (at + f.head) (length f.text)) (first_in (at + size_of f) fs tag))
    go true ih = (refl, h.0)
    go false ih = ih

first : (run : List ℕ) (tag : ℕ) → IsAt run (first_with tag (pairs_of run)) (first_of run tag)
unfolding first_of
first run tag = first-is run tag 0 (fields_of run) (laid run)

-- ─── As the statement asks for it ───

written : (name out : List ℕ) (ps : List Pair) (n : ℕ) → CanWrite no_pair ps
    → write_answer name (bytes_of ps) (length out) ≡ Ok n
    → HasPairs (take n (write_output name (bytes_of ps) out)) name ps
written name out ps n c e =
    let r = round-trips.back name (bytes_of ps) out n e in
    record {
      name_at = r.name_at;
      fields_at = r.fields_at;
      framed = r.framed;
      same_name = r.same_name;
      same_pairs = rw r.same_fields (back ps c).1;
    }

again : (b name run out : List ℕ) → ReadsAs b name run → length b ≤ length out
    → write_output name (bytes_of (pairs_of run)) out ≡ b ++ drop (length b) out
again b name run out r h =
    let w : is_whole run ≡ true = rw r.same_fields at (whole b r.name_at r.fields_at r.framed).cut in
    rw (joins run w) (round-trips.again b name run out r h).1

pub pair-laws : PairLaws
pair-laws =
    record {
      joins = joins;
      back = back;
      only = can_write;
      field = field;
      text = text;
      first = first;
      written = written;
      again = again;
    }
