-- What a line that was written answers, and what it leaves in the buffer. Assumes nothing.
use Prim.Native.Nat.{ℕ, ◌+◌, ◌-◌, ◌≤◌, ◌<◌}
use mathlib.Core.Path.{◌≡◌, refl, sym, ap, ◌∙◌}
use mathlib.Core.List.{List}
use mathlib.Core.Bool.{Bool, true, false, not}
use native.Mathlib.Omega.{arith}
use borrow.Author.Tests.{lt-ltb, le-ltb, le-leb, lt-leb}
use lib.ListN.{length, take, drop, length-drop}
use lib.Seq.{take_all}
use Rattle.ftd.specs.Packet.{said_in, read_of}
use Rattle.listing.specs.declared.Line.{Line}
use Rattle.listing.specs.declared.Line.TheVariants.{TooSmall, Last, More}
use Rattle.listing.specs.Text.{WroteText, long, end}
use Rattle.listing.specs.Lines.{packet_text, line_with, line_of, goes_on, is_last, next_of, answer_of, out_of}
use Rattle.ftd.specs.declared.packet.Packet.{Packet}
use Rattle.ftd.proofs.bytes.Put.{put-zero}
use Rattle.listing.proofs.Whole.{There, there}

-- What the function promises of its answer and of the buffer.
abbrev pub Right : List ℕ → Bool → ℕ → List ℕ → Line → List ℕ → Type 0
Right capture more at l answer out = (answer ≡ answer_of capture more at l) × (out ≡ out_of capture more at l)

pub too_small : (capture : List ℕ) (more : Bool) (at : ℕ) (l : List ℕ) → length l < 64
    → Right capture more at l TooSmall l
unfolding answer_of out_of
too_small capture more at l h = rw (lt-ltb (length l) 64 h) (refl, refl)

module _ (capture : List ℕ) (more : Bool) (at : ℕ) (l out : List ℕ) (len : ℕ) (room : 64 ≤ length l)
    (w : WroteText l 0 (line_of capture more at) out len) where
  text_out : out ≡ out_of capture more at l
  unfolding out_of
  text_out = rw (le-ltb (length l) 64 room) (w.bytes ∙ put-zero l (line_of capture more at))

  text-length : len ≡ length (line_of capture more at)
  text-length = omega arith

  pub last_line : is_last capture more at ≡ true → Right capture more at l (Last len) out
  unfolding answer_of
  last_line e = (rw (le-ltb (length l) 64 room, e, text-length), text_out)

  pub more-line : is_last capture more at ≡ false → (next : ℕ) → next ≡ next_of capture at
      → Right capture more at l (More len next) out
  unfolding answer_of
  more-line e next n = (rw (le-ltb (length l) 64 room, e, text-length, n), text_out)

-- The two lines of a word: the input goes on behind the capture, and no bytes are left.
module _ (capture : List ℕ) (at : ℕ) (l out : List ℕ) (len : ℕ) (room : 64 ≤ length l) where
  pub long-line : WroteText l 0 (line_with 0 long) out len → Right capture true at l (Last len) out
  unfolding line_of is_last
  long-line w = last_line capture true at l out len room w refl

  pub end_line : length capture ≤ at → WroteText l 0 (line_with at end) out len → Right capture false at l (Last len) out
  unfolding line_of is_last
  end_line h w =
      let e = le-leb (length capture) at h in
      last_line capture false at l out len room (rw e w) (rw e)

-- The rest of a capture, as a part of a slice is handed over.
rest-is : (l : List ℕ) (at : ℕ) → take (length l - at) (drop at l) ≡ drop at l
rest-is l at = take_all (length l - at) (drop at l) (rw length-drop (omega arith))

-- A place inside a capture: the bytes p from there on, what was read of them, and whether another line follows.
module _ (capture : List ℕ) (at : ℕ) (inside : at < length capture) (found : Packet) (goes : Bool)
    (f : found ≡ read_of (take (length capture - at) (drop at capture))) (g : goes ≡ goes_on found) where
  found-is : found ≡ read_of (drop at capture)
  found-is = f ∙ ap read_of (rest-is capture at)

  -- The next place is no further than the capture's end.
  pub next_fits : goes ≡ true → (n : ℕ) → n ≡ said_in (take (length capture - at) (drop at capture))
      → at + n ≤ length capture
  next_fits e n s =
      let t : There (drop at capture) = there (drop at capture) (ap goes_on (sym found-is) ∙ sym g ∙ e) in
      omega (arith, t.most, s ∙ ap said_in (rest-is capture at), length-drop at capture)

  last-is : is_last capture false at ≡ not goes
  unfolding is_last
  last-is = rw (lt-leb (length capture) at inside, ← found-is, ← g)

  module _ (l out : List ℕ) (len : ℕ) (room : 64 ≤ length l)
      (w : WroteText l 0 (line_with at (packet_text (take (length capture - at) (drop at capture)) found)) out len) where
    line-is : line_with at (packet_text (take (length capture - at) (drop at capture)) found) ≡ line_of capture false at
    unfolding line_of
    line-is = rw (lt-leb (length capture) at inside, rest-is capture at, ← found-is)

    pub inside-last : goes ≡ false → Right capture false at l (Last len) out
    inside-last e = last_line capture false at l out len room (rw line-is at w) (last-is ∙ ap not e)

    pub inside-more : goes ≡ true → (n : ℕ) → n ≡ said_in (take (length capture - at) (drop at capture))
        → Right capture false at l (More len (at + n)) out
    unfolding next_of
    inside-more e n s =
        more-line capture false at l out len room (rw line-is at w) (last-is ∙ ap not e) (at + n)
        (ap (λ (k : ℕ). at + k) (s ∙ ap said_in (rest-is capture at)))
