-- What the reader's tests say of bytes that are a frame: they are the frame of their type and fields. Assumes nothing.
use Prim.Native.Nat.{ℕ, suc, ◌+◌, ◌-◌, ◌<◌, ◌≤◌}
use mathlib.Core.Path.{◌≡◌, refl, sym, ap, ◌∙◌}
use mathlib.Core.List.{List, [], ◌∷◌, ◌++◌, append_assoc, append-nil}
use mathlib.Core.Bool.{true, cond}
use native.Mathlib.Omega.{arith}
use borrow.Author.Tests.{ltb-false, eqb-false}
use lib.ListN.{length, take, drop, length-append, length-drop, take-append-drop, drop_of_length-le}
use lib.Seq.{take_at, drop_at, drop-drop, length-take-le}
use lib.Dec.{ltb, eqb}
use Rattle.ftd.specs.Bytes.{part}
use Rattle.ftd.specs.Packet.{span}
use Rattle.ftd.specs.declared.packet.Span.{Span}
use Rattle.fix.specs.Text.{soh, until, stands_at, sum_of, length_text}
use Rattle.fix.specs.Fields.{is_whole}
use Rattle.fix.specs.Frame.{begin_text, type_text, body_length, body_bytes, summed, trailer, frame_bytes}
use Rattle.fix.specs.Frame.{type_at, body_at, length_at, outline_of, if_whole, frame_of}
use Rattle.fix.proofs.frame.Puts.{length-trailer, length-summed}
use Rattle.fix.proofs.frame.Words.{first_taken, other-taken, begins-with, until-seam, until-there, digits-plain}
use Rattle.std.specs.Prelude.{Some, None}
use Rattle.fix.specs.Types.{MaybeFrame, some_frame}
use Rattle.fix.proofs.Options.{same-frame}
use mathlib.Core.Path.{sym}

pub never-framed : (name fields : Span) → None ≡ some_frame name fields → ⊥
never-framed name fields e = let z : ◌≡◌ {A = ℕ} 0 1 = cc in omega arith

-- ─── The tests, one by one ───

-- How many digits the length has; the body's bytes; the type's.
abbrev pub digits : List ℕ → ℕ
digits b = until soh (drop 12 b)

abbrev pub size : List ℕ → ℕ
size b = length b - (20 + digits b)

abbrev pub type_bytes : List ℕ → ℕ
type_bytes b = until soh (drop (16 + digits b) b)

pub record Outlined (b : List ℕ) (name fields : Span) : Type 0 where
  pub most : length b ≤ 4096
  pub begin : stands_at b 0 begin_text ≡ true
  pub room : 24 + digits b ≤ length b
  pub sized : stands_at b 12 (length_text (size b) ++ type_text) ≡ true
  pub closed : stands_at b (13 + digits b + size b) (trailer (sum_of (take (13 + digits b + size b) b))) ≡ true
  pub some : type_bytes b ≡ 0 → ⊥
  pub fits : 4 + type_bytes b ≤ size b
  pub name_is : name ≡ span (13 + digits b + 3) (type_bytes b)
  pub fields_is : fields ≡ span (13 + digits b + 4 + type_bytes b) (size b - (4 + type_bytes b))

module _ (name fields : Span) where
  no : None ≡ some_frame name fields → ⊥
  no = never-framed name fields

  abbrev r : MaybeFrame
  r = some_frame name fields

  type-tests : (b : List ℕ) (start n t : ℕ) → type_at b start n t ≡ some_frame name fields
      → (t ≡ 0 → ⊥) × (4 + t ≤ n) × (name ≡ span (start + 3) t) × (fields ≡ span (start + 4 + t) (n - (4 + t)))
  unfolding type_at
  type-tests b start n t e =
      let f = some_frame (span (start + 3) t) (span (start + 4 + t) (n - (4 + t))) in
      let x = other-taken None (cond (ltb n (4 + t)) None f) r (eqb t 0) no e in
      let y = other-taken None f r (ltb n (4 + t)) no x.1 in
      let g : f ≡ some_frame name fields = y.1 in
      let w = same-frame _ _ _ _ g in
      (eqb-false t 0 x.0, ltb-false n (4 + t) y.0, sym w.0, sym w.1)

  pub outlined : (b : List ℕ) → outline_of b ≡ some_frame name fields → Outlined b name fields
  unfolding outline_of length_at body_at
  outlined b e =
      let n = digits b in
      let end = 13 + n + size b in
      let typed = type_at b (13 + n) (size b) (type_bytes b) in
      let more = cond (stands_at b end (trailer (sum_of (take end b)))) typed None in
      let body = cond (stands_at b 12 (length_text (size b) ++ type_text)) more None in
      let long = cond (ltb (length b) (24 + n)) None body in
      let x = other-taken None (cond (stands_at b 0 begin_text) long None) r (ltb 4096 (length b)) no e in
      let y = first_taken long None r (stands_at b 0 begin_text) no x.1 in
      let z = other-taken None body r (ltb (length b) (24 + n)) no y.1 in
      let u = first_taken more None r (stands_at b 12 (length_text (size b) ++ type_text)) no z.1 in
      let v = first_taken typed None r (stands_at b end (trailer (sum_of (take end b)))) no u.1 in
      let w = type-tests b (13 + n) (size b) (type_bytes b) v.1 in
      record {
        most = ltb-false 4096 (length b) x.0;
        begin = y.0;
        room = ltb-false (length b) (24 + n) z.0;
        sized = u.0;
        closed = v.0;
        some = w.0;
        fits = w.1;
        name_is = w.2;
        fields_is = w.3;
      }

-- The fields of a frame have a cut.
pub record Whole (b : List ℕ) (name fields : Span) : Type 0 where
  pub outline : outline_of b ≡ some_frame name fields
  pub cut : is_whole (part b fields.start fields.len) ≡ true

pub whole : (b : List ℕ) (name fields : Span) → frame_of b ≡ some_frame name fields → Whole b name fields
unfolding frame_of
whole b name fields e = go (outline_of b) refl e
  where
    go : (f : MaybeFrame) → outline_of b ≡ f → if_whole b f ≡ some_frame name fields → Whole b name fields
    go None o e = absurd (never-framed name fields e)
    go (Some found) o e =
        let x = first_taken (some_frame found.name found.fields) None (some_frame name fields) (is_whole (part b found.fields.start found.fields.len))
        (never-framed name fields) e in
        let g : some_frame found.name found.fields ≡ some_frame name fields = x.1 in
        let k : found.fields ≡ fields = cc in
        record { outline = o ∙ g; cut = rw k at x.0 }

-- ─── The bytes, part after part ───

-- The two texts that a frame has: where they stand.
pub name-there : (b : List ℕ) (n t : ℕ) → part b (13 + n + 3) t ≡ take t (drop (16 + n) b)
name-there b n t = let e : 13 + n + 3 ≡ 16 + n = omega arith in rw e

pub fields-there : (b : List ℕ) (n t left : ℕ)
    → part b (13 + n + 4 + t) left ≡ take left (drop (suc t) (drop (16 + n) b))
fields-there b n t left =
    let e : 13 + n + 4 + t ≡ 16 + n + suc t = omega arith in
    rw (drop-drop (suc t) (16 + n) b, e)

-- Behind a front: the type up to its SOH, the fields, and the trailer.
pub parts-joined : (b front digit x : List ℕ) (t left : ℕ) → b ≡ front ++ (digit ++ (type_text ++ x)) → t ≡ until soh x
    → t < length x
    → b ≡ (front ++ (digit ++ body_bytes (take t x) (take left (drop (suc t) x)))) ++ drop left (drop (suc t) x)
unfolding body_bytes
parts-joined b front digit x t left e u h =
    let c : x ≡ take t x ++ (soh ∷ drop (suc t) x) = rw (← u) at (until-there soh x (rw u at h)) in
    let d : drop (suc t) x ≡ take left (drop (suc t) x) ++ drop left (drop (suc t) x) =
    sym (take-append-drop left (drop (suc t) x)) in
    e ∙ ap (λ (y : List ℕ). front ++ (digit ++ (type_text ++ y))) (c ∙ ap (λ (y : List ℕ). take t x ++ (soh ∷ y)) d)
    ∙ simp append_assoc

-- The trailer of what stands before it, and nothing behind it.
pub closed-by : (b s rest : List ℕ) (at : ℕ) → b ≡ s ++ rest → at ≡ length s → length b ≡ at + 7
    → stands_at b at (trailer (sum_of (take at b))) ≡ true → b ≡ s ++ trailer (sum_of s)
unfolding stands_at
closed-by b s rest at e a n h =
    let p : take at b ≡ s = rw e (take_at s rest at (sym a)) in
    let q : drop at b ≡ rest = rw e (drop_at s rest at (sym a)) in
    let k : length rest ≡ 7 =
    (let z : length b ≡ length s + length rest = rw e (length-append s rest) in omega (arith, z)) in
    let y : rest ≡ trailer (sum_of s) ++ drop (length (trailer (sum_of s))) rest =
    begins-with rest (trailer (sum_of s)) (rw (p, q) at h) in
    let o : drop (length (trailer (sum_of s))) rest ≡ [] =
    drop_of_length-le rest {i = length (trailer (sum_of s))} (rw (length-trailer (sum_of s)) (omega arith)) in
    e ∙ ap (λ (z : List ℕ). s ++ z) (y ∙ rw (o, append-nil (trailer (sum_of s))))

-- Behind the begin text: the digits of the length, as many as stand before the next SOH.
module _ (b digit : List ℕ) (plain : until soh digit ≡ length digit)
    (begin : stands_at b 0 begin_text ≡ true) (sized : stands_at b 12 (digit ++ type_text) ≡ true) where
  behind-begin : drop 12 b ≡ digit ++ (type_text ++ drop (length (digit ++ type_text)) (drop 12 b))
  unfolding stands_at
  behind-begin =
      begins-with (drop 12 b) (digit ++ type_text) sized
      ∙ append_assoc digit type_text (drop (length (digit ++ type_text)) (drop 12 b))

  pub digits_are : digits b ≡ length digit
  digits_are =
      ap (until soh) behind-begin
      ∙ until-seam soh digit (51 ∷ 53 ∷ 61 ∷ drop (length (digit ++ type_text)) (drop 12 b)) plain

  pub behind-type : b ≡ begin_text ++ (digit ++ (type_text ++ drop (16 + digits b) b))
  unfolding stands_at
  behind-type =
      let e : 12 + length (digit ++ type_text) ≡ 16 + digits b =
      rw (length-append digit type_text) (omega (arith, digits_are)) in
      let d : drop (length (digit ++ type_text)) (drop 12 b) ≡ drop (16 + digits b) b =
      drop-drop (length (digit ++ type_text)) 12 b ∙ ap (λ (k : ℕ). drop k b) e in
      begins-with b begin_text begin
      ∙ ap (λ (y : List ℕ). begin_text ++ y) (rw (d) at behind-begin)

-- What is read is the frame of its type and fields.
pub frame_same : (b : List ℕ) (name fields : Span) → Outlined b name fields
    → b ≡ frame_bytes (part b name.start name.len) (part b fields.start fields.len)
unfolding frame_bytes summed body_length
frame_same b name fields o =
    let n = digits b in
    let t = type_bytes b in
    let left = size b - (4 + t) in
    let x = drop (16 + n) b in
    let digit = length_text (size b) in
    let c : List ℕ = take t x in
    let run : List ℕ = take left (drop (suc t) x) in
    let plain = digits-plain (size b) in
    let j = behind-type b digit plain o.begin o.sized in
    let d : n ≡ length digit = digits_are b digit plain o.begin o.sized in
    let m : length x ≡ length b - (16 + n) = length-drop (16 + n) b in
    let h : t < length x = omega (arith, m, o.fits, o.room) in
    let p = parts-joined b begin_text digit x t left j refl h in
    let q : length c ≡ t = length-take-le t x (omega arith) in
    let v : length run ≡ left =
    length-take-le left (drop (suc t) x) (rw (length-drop (suc t) x) (omega (arith, m, o.fits, o.room))) in
    let z : body_length c run ≡ size b = omega (arith, q, v, o.fits) in
    let u : begin_text ++ (digit ++ body_bytes c run) ≡ summed c run = rw z in
    let w : 13 + n + size b ≡ length (summed c run) = rw (length-summed c run, z) (omega (arith, d)) in
    let f : b ≡ summed c run ++ trailer (sum_of (summed c run)) =
    closed-by b (summed c run) (drop left (drop (suc t) x)) (13 + n + size b) (p ∙ ap (λ (y : List ℕ). y ++ drop left (drop (suc t) x)) u) w
    (omega (arith, o.room)) o.closed in
    let nm : part b name.start name.len ≡ c = rw o.name_is (name-there b n t) in
    let fl : part b fields.start fields.len ≡ run = rw o.fields_is (fields-there b n t left) in
    rw (nm, fl) f
