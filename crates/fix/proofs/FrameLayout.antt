-- The frame as pairs. Assumes nothing.
use Prim.Native.Nat.{ℕ, suc, ◌+◌, ◌*◌, ◌-◌, ◌/◌, ◌%◌, ◌<◌, ◌≤◌}
use mathlib.Core.Path.{◌≡◌, refl, sym, ap, subst, ◌∙◌}
use mathlib.Core.List.{List, [], ◌∷◌, ◌++◌, append_assoc}
use mathlib.Core.Bool.{Bool, true, false, cond}
use native.Mathlib.Omega.{arith}
use borrow.Author.Tests.{le-ltb, ltb-true, ltb-false, eq-eqb, ne_eqb, eqb-false}
use lib.ListN.{length, drop, length-append}
use lib.Dec.{ltb, eqb}
use Rattle.ftd.specs.Packet.{span}
use Rattle.fix.specs.Text.{soh, until, total, sum_of, letter, length_text, sum_text}
use Rattle.fix.specs.Fields.{is_whole}
use Rattle.fix.specs.Frame.{body_length, body_bytes, summed, trailer, frame_bytes, is_name, is_framed}
use Rattle.fix.specs.Write.{write_answer, write_output}
use Rattle.fix.specs.RoundTrips.{text_at}
use Rattle.fix.specs.Pairs.{decimal, bytes_of, pair, NoSoh}
use Rattle.fix.specs.Rows.{Framing}
use Rattle.fix.specs.FrameLayout.{body_of, before_sum, three_digits, laid_out, Fits, FrameLayout}
use Rattle.fix.proofs.frame.Outlines.{frame_same}
use Rattle.fix.proofs.frame.Laid.{digits_of, length-frame, name-part, fields-part, frame_found}
use Rattle.fix.proofs.Numerals.{decimal-one, decimal_step}
use Rattle.fix.proofs.Pairs.{until_none}
use Rattle.fix.proofs.RoundTrips.{cut_of, tests-of, type-right, passed, Named, named, framed-parts}
use Rattle.std.specs.Prelude.{Ok}

-- ─── Digits ───

next-digit : (n : ℕ) → 10 ≤ n → decimal n ≡ decimal (n / 10) ++ (letter n ∷ [])
next-digit n h =
    let e : n / 10 * 10 + n % 10 ≡ n = omega arith in
    rw e at (decimal_step (n / 10) (n % 10) (omega arith) (omega arith))

one-digit : (n : ℕ) → n < 10 → decimal n ≡ letter n ∷ []
one-digit n h = let e : n % 10 ≡ n = omega arith in decimal-one n (omega arith) ∙ rw e

length-decimal : (n : ℕ) → n < 10000 → length_text n ≡ decimal n
unfolding length_text
length-decimal n h = go (ltb n 10) refl (ltb n 100) refl (ltb n 1000) refl
  where
    go : (a : Bool) → ltb n 10 ≡ a → (b : Bool) → ltb n 100 ≡ b → (c : Bool) → ltb n 1000 ≡ c
        → cond a (letter n ∷ [])
        (cond b (letter (n / 10) ∷ letter n ∷ [])
        (cond c (letter (n / 100) ∷ letter (n / 10) ∷ letter n ∷ [])
        (letter (n / 1000) ∷ letter (n / 100) ∷ letter (n / 10) ∷ letter n ∷ []))) ≡ decimal n
    go true p b q c r = sym (one-digit n (ltb-true n 10 p))
    go false p true q c r =
        let x = ltb-false n 10 p in
        let y = ltb-true n 100 q in
        rw (next-digit n x, one-digit (n / 10) (omega (arith, y)))
    go false p false q true r =
        let x = ltb-false n 100 q in
        let y = ltb-true n 1000 r in
        let e : n / 10 / 10 ≡ n / 100 = omega arith in
        rw (
          next-digit n (omega (arith, x)),
          next-digit (n / 10) (omega (arith, x)),
          e,
          one-digit (n / 100) (omega (arith, y)),
        )
    go false p false q false r =
        let x = ltb-false n 1000 r in
        let e : n / 10 / 10 ≡ n / 100 = omega arith in
        let f : n / 100 / 10 ≡ n / 1000 = omega arith in
        rw (
          next-digit n (omega (arith, x)),
          next-digit (n / 10) (omega (arith, x)),
          e,
          next-digit (n / 100) (omega (arith, x)),
          f,
          one-digit (n / 1000) (omega (arith, h)),
        )

sum-digits : (n : ℕ) → n < 256 → sum_text n ≡ three_digits n
unfolding sum_text
sum-digits n h = let e : n / 100 % 10 ≡ n / 100 = omega arith in rw e

-- ─── The frame ───

eight : decimal 8 ≡ 56 ∷ []
eight = decimal-one 8 (omega arith)

nine : decimal 9 ≡ 57 ∷ []
nine = decimal-one 9 (omega arith)

thirty-five : decimal 35 ≡ 51 ∷ 53 ∷ []
thirty-five = next-digit 35 (omega arith) ∙ rw (one-digit 3 (omega arith))

ten : decimal 10 ≡ 49 ∷ 48 ∷ []
ten = next-digit 10 (omega arith) ∙ rw (one-digit 1 (omega arith))

module _ (name run : List ℕ) where
  body_is : body_of name run ≡ 51 ∷ 53 ∷ 61 ∷ (name ++ (1 ∷ run))
  body_is =
      rw thirty-five (ap (λ (y : List ℕ). 51 ∷ 53 ∷ 61 ∷ y) (append_assoc name (1 ∷ []) run))

  body-long : length (body_of name run) ≡ body_length name run
  unfolding body_length
  body-long = rw (body_is, length-append name (1 ∷ run)) (omega arith)

  module _ (h : body_length name run < 10000) where
    before-is : before_sum name run ≡ summed name run
    unfolding summed body_bytes
    before-is =
        let d = length_text (body_length name run) in
        let e : decimal (length (body_of name run)) ≡ d = rw body-long (sym (length-decimal (body_length name run) h)) in
        rw (e, body_is, eight, nine)
        (ap (λ (y : List ℕ). 56 ∷ 61 ∷ 70 ∷ 73 ∷ 88 ∷ 46 ∷ 52 ∷ 46 ∷ 50 ∷ 1 ∷ 57 ∷ 61 ∷ y)
        (append_assoc d (1 ∷ []) (51 ∷ 53 ∷ 61 ∷ (name ++ (1 ∷ run)))))

    layout : laid_out name run ≡ frame_bytes name run
    unfolding frame_bytes trailer sum_of
    layout =
        let s = total (summed name run) % 256 in
        rw (before-is, ten, sum-digits s (omega arith))

-- The body of what is short enough has at most four digits.
short-body : (name run : List ℕ) → length (frame_bytes name run) ≤ 4096 → body_length name run < 10000
short-body name run h = let e = length-frame name run in omega (arith, e, h)

short-laid : (name run : List ℕ) → length (laid_out name run) ≤ 4096 → body_length name run < 10000
short-laid name run h =
    let sum = bytes_of (pair 10 (three_digits (total (before_sum name run) % 256)) ∷ []) in
    let head =
    bytes_of (pair 8 (70 ∷ 73 ∷ 88 ∷ 46 ∷ 52 ∷ 46 ∷ 50 ∷ []) ∷ pair 9 (decimal (length (body_of name run))) ∷ []) in
    let a = length-append (before_sum name run) sum in
    let b = length-append head (body_of name run) in
    let c = body-long name run in
    omega (arith, a, b, c, h)

-- ─── As the statement asks for it ───

soh-none : (l : List ℕ) → until soh l ≡ length l → NoSoh l
soh-none [] e = tt
soh-none (c ∷ l) e = go (eqb c 1) refl (soh-none l) e
  where
    go : (b : Bool) → eqb c 1 ≡ b → (until soh l ≡ length l → NoSoh l) → cond b 0 (suc (until soh l)) ≡ suc (length l)
        → (c ≡ 1 → ⊥) × NoSoh l
    go true p ih e = absurd (omega (arith, e))
    go false p ih e = (eqb-false c 1 p, ih (omega (arith, e)))

fits-so : (name run : List ℕ) → Named name → is_whole run ≡ true → length (frame_bytes name run) ≤ 4096 → Fits name run
fits-so name run m w h =
    let s = m.some in
    record {
      some = go (length name) s;
      plain = soh-none name m.plain;
      cut = w;
      most = rw (layout name run (short-body name run h)) h;
    }
  where
    go : (n : ℕ) → (n ≡ 0 → ⊥) → 1 ≤ n
    go n z = omega (arith, z)

module _ (name run : List ℕ) (f : Fits name run) where
  same_bytes : laid_out name run ≡ frame_bytes name run
  same_bytes = layout name run (short-laid name run f.most)

  not-empty : length name ≡ 0 → ⊥
  not-empty z = let s = f.some in omega (arith, s, z)

  no-soh : until soh name ≡ length name
  no-soh = until_none name f.plain

  fits : is_framed name run ≡ true
  unfolding is_framed is_name
  fits =
      let h : length (frame_bytes name run) ≤ 4096 = rw same_bytes at f.most in
      rw (
        ne_eqb (length name) 0 not-empty,
        eq-eqb (until soh name) (length name) no-soh,
        f.cut,
        le-ltb 4096 (length (frame_bytes name run)) h,
      )

  found : (g : Framing (laid_out name run)) × (text_at (laid_out name run) g.name ≡ name)
      × (text_at (laid_out name run) g.fields ≡ run)
  found =
      let b : List ℕ = laid_out name run in
      let d = length (digits_of name run) in
      let s = body_length name run in (
        record {
          name = span (13 + d + 3) (length name);
          fields = span (13 + d + 4 + length name) (s - (4 + length name));
          framed = frame_found b name run same_bytes d refl s refl f.most not-empty no-soh f.cut;
        },
        name-part b name run same_bytes d refl s refl,
        fields-part b name run same_bytes d refl s refl,
      )

fitted : (name run : List ℕ) → is_framed name run ≡ true → Fits name run
fitted name run e =
    let x = framed-parts name run e in
    fits-so name run x.0 x.1 x.2

read : (b : List ℕ) (f : Framing b) → (b ≡ laid_out (text_at b f.name) (text_at b f.fields))
    × Fits (text_at b f.name) (text_at b f.fields)
read b f =
    let name = text_at b f.name in
    let run = text_at b f.fields in
    let t = tests-of b f.name f.fields f.framed in
    let s : b ≡ frame_bytes name run = frame_same b f.name f.fields t in
    let h : length (frame_bytes name run) ≤ 4096 = subst (λ (x : List ℕ). length x ≤ 4096) s t.most in (
      s ∙ sym (layout name run (short-body name run h)),
      fits-so name run (named name (type-right b f.name f.fields f.framed))
          (cut_of b f.name f.fields f.framed).cut h,
    )

written : (name run out : List ℕ) (n : ℕ) → write_answer name run (length out) ≡ Ok n
    → (n ≡ length (laid_out name run)) × (write_output name run out ≡ laid_out name run ++ drop n out)
unfolding write_output
written name run out n e =
    let p = passed name run (length out) n e in
    let f : Fits name run = fitted name run p.framed in
    let s = same_bytes name run f in
    (rw s p.counted, rw (e, s))

pub frame-layout : FrameLayout
frame-layout = record { read = read; found = found; written = written; fits = fits; fitted = fitted }
