-- The frame put part after part, over plain variables. Assumes nothing.
use Prim.Native.Nat.{ℕ, ◌+◌, ◌≤◌}
use mathlib.Core.Path.{◌≡◌, refl, ap, ◌∙◌}
use mathlib.Core.List.{List, [], ◌∷◌, ◌++◌, append_assoc, append-nil}
use mathlib.Core.Bool.{Bool, true, false}
use native.Mathlib.Omega.{arith}
use borrow.Author.Tests.{le-ltb}
use lib.ListN.{length, take, drop, length-append, drop_of_length-le}
use lib.Seq.{take-append_seam}
use Rattle.ftd.specs.Bytes.{put}
use Rattle.ftd.proofs.bytes.Put.{put-put, put-zero}
use Rattle.fix.specs.Text.{soh, until, stands_at, sum_of, length_text, sum_text}
use Rattle.fix.specs.Frame.{length_at, outline_of}
use Rattle.fix.specs.Frame.{begin_text, type_text, body_length, body_bytes, summed, trailer, frame_bytes}
use Rattle.std.specs.Prelude.{None}
use Rattle.fix.specs.Types.{MaybeFrame}

-- One part behind another.
pub behind : (l m r vs ws : List ℕ) (at next : ℕ) → at ≤ length l → next ≡ at + length vs → m ≡ put l at vs
    → r ≡ put m next ws → r ≡ put l at (vs ++ ws)
behind l m r vs ws at next h n e f = f ∙ rw (e, n) (put-put l at vs ws h)

pub trailer-put : (l a b r : List ℕ) (at sum : ℕ) → at ≤ length l → a ≡ put l at (49 ∷ 48 ∷ 61 ∷ [])
    → b ≡ put a (at + 3) (sum_text sum) → r ≡ put b (at + 6) (soh ∷ []) → r ≡ put l at (trailer sum)
unfolding trailer sum_text
trailer-put l a b r at sum h p q s =
    behind l b r (49 ∷ 48 ∷ 61 ∷ sum_text sum) (soh ∷ []) at (at + 6) h refl
    (behind l a b (49 ∷ 48 ∷ 61 ∷ []) (sum_text sum) at (at + 3) h refl p q) s

pub body-put : (l a b d r name run : List ℕ) (at t : ℕ) → at ≤ length l → t ≡ length name → a ≡ put l at type_text
    → b ≡ put a (at + 4) name → d ≡ put b (at + 4 + t) (soh ∷ []) → r ≡ put d (at + 5 + t) run
    → r ≡ put l at (body_bytes name run)
unfolding body_bytes
body-put l a b d r name run at t h e p q s u =
    let x : b ≡ put l at (type_text ++ name) = behind l a b type_text name at (at + 4) h refl p q in
    let y : d ≡ put l at ((type_text ++ name) ++ (soh ∷ [])) =
    behind l b d (type_text ++ name) (soh ∷ []) at (at + 4 + t) h
    (rw (length-append type_text name) (omega (arith, e))) x s in
    let z : r ≡ put l at (((type_text ++ name) ++ (soh ∷ [])) ++ run) =
    behind l d r ((type_text ++ name) ++ (soh ∷ [])) run at (at + 5 + t) h
    (rw (length-append (type_text ++ name) (soh ∷ []), length-append type_text name) (omega (arith, e))) y u in
    rw (append_assoc (type_text ++ name) (soh ∷ []) run, append_assoc type_text name (soh ∷ run)) at z

pub summed-put : (l a b r name run : List ℕ) (size n : ℕ) → size ≡ body_length name run → n ≡ length (length_text size)
    → a ≡ put l 0 begin_text → b ≡ put a 12 (length_text size) → r ≡ put b (12 + n) (body_bytes name run)
    → r ≡ put l 0 (summed name run)
unfolding summed
summed-put l a b r name run size n e f p q s =
    let x : b ≡ put l 0 (begin_text ++ length_text size) =
    behind l a b begin_text (length_text size) 0 12 (omega arith) refl p q in
    let y : r ≡ put l 0 ((begin_text ++ length_text size) ++ body_bytes name run) =
    behind l b r (begin_text ++ length_text size) (body_bytes name run) 0 (12 + n) (omega arith)
    (rw (length-append begin_text (length_text size)) (omega (arith, f))) x s in
    rw (append_assoc begin_text (length_text size) (body_bytes name run), e) at y

pub length-summed : (name run : List ℕ)
    → length (summed name run) ≡ 13 + length (length_text (body_length name run)) + body_length name run
unfolding summed body_bytes body_length
length-summed name run =
    rw (
      length-append begin_text (length_text (4 + length name + length run) ++ (type_text ++ (name ++ (soh ∷ run)))),
      length-append (length_text (4 + length name + length run)) (type_text ++ (name ++ (soh ∷ run))),
      length-append type_text (name ++ (soh ∷ run)),
      length-append name (soh ∷ run),
    )
    (omega arith)

pub frame-put : (l m r name run : List ℕ) (size n end sum : ℕ) → size ≡ body_length name run
    → n ≡ length (length_text size) → end ≡ 13 + n + size → m ≡ put l 0 (summed name run) → sum ≡ sum_of (take end m)
    → r ≡ put m end (trailer sum) → r ≡ put l 0 (frame_bytes name run)
unfolding frame_bytes
frame-put l m r name run size n end sum e f g p q s =
    let k : end ≡ length (summed name run) = rw (length-summed name run, ← e) (omega (arith, f, g)) in
    let t : take end m ≡ summed name run =
    rw (k, p, put-zero l (summed name run)) (take-append_seam (summed name run) (drop (length (summed name run)) l)) in
    rw (t) at (rw q at
    (behind l m r (summed name run) (trailer sum) 0 end (omega arith) (rw k (omega arith)) p s))

-- ─── What the reader compares with ───

pub length-at : (l a b vs ws : List ℕ) (n : ℕ) → n ≡ length vs → a ≡ put l 0 vs → b ≡ put a n ws
    → take (n + length ws) b ≡ vs ++ ws
length-at l a b vs ws n e p q =
    let x : b ≡ put l 0 (vs ++ ws) = behind l a b vs ws 0 n (omega arith) (omega (arith, e)) p q in
    let y : n + length ws ≡ length (vs ++ ws) = rw (length-append vs ws) (omega (arith, e)) in
    rw (y, x, put-zero l (vs ++ ws)) (take-append_seam (vs ++ ws) (drop (length (vs ++ ws)) l))

pub length-trailer : (sum : ℕ) → length (trailer sum) ≡ 7
unfolding trailer sum_text
length-trailer sum = refl

pub whole-trailer : (l m : List ℕ) (sum : ℕ) → length l ≡ 7 → m ≡ put l 0 (trailer sum) → m ≡ trailer sum
whole-trailer l m sum e p =
    p ∙ put-zero l (trailer sum)
    ∙ rw (length-trailer sum, drop_of_length-le l {i = 7} (omega (arith, e)), append-nil (trailer sum))

pub has-length : (r : Bool) (b l a c : List ℕ) (n size : ℕ) → n ≡ length (length_text size)
    → a ≡ put l 0 (length_text size) → c ≡ put a n type_text → r ≡ stands_at b 12 (take (n + 4) c)
    → r ≡ stands_at b 12 (length_text size ++ type_text)
has-length r b l a c n size e p q f =
    f ∙ ap (λ (w : List ℕ). stands_at b 12 w) (length-at l a c (length_text size) type_text n e p q)

pub has-trailer : (r : Bool) (b l m : List ℕ) (sum at : ℕ) → length l ≡ 7 → sum ≡ sum_of (take at b)
    → m ≡ put l 0 (trailer sum) → r ≡ stands_at b at m → r ≡ stands_at b at (trailer (sum_of (take at b)))
has-trailer r b l m sum at e q p f =
    f ∙ ap (λ (w : List ℕ). stands_at b at w) (whole-trailer l m sum e p ∙ ap trailer q)

-- ─── The reader's tests, by what the comparisons gave ───

module _ (b : List ℕ) (h : length b ≤ 4096) (x : Bool) (e : x ≡ stands_at b 0 begin_text) where
  pub other-begin : x ≡ false → None ≡ outline_of b
  unfolding outline_of
  other-begin f = rw (le-ltb 4096 (length b) h, ← e, f)

  pub right-begin : x ≡ true → (n : ℕ) → n ≡ until soh (drop 12 b) → (r : MaybeFrame) → r ≡ length_at b n → r ≡ outline_of b
  unfolding outline_of
  right-begin f n k r q = rw (le-ltb 4096 (length b) h, ← e, f, ← k) q
