-- Appendix E, a line at a time, over plain variables. Assumes nothing.
use Prim.Native.Nat.{ℕ, zero, suc, ◌+◌, ◌<◌, ◌≤◌}
use mathlib.Core.Path.{◌≡◌, refl, ◌∙◌}
use mathlib.Core.List.{List}
use mathlib.Core.Bool.{Bool, ◌&&◌}
use native.Mathlib.Numerals.{add-one}
use native.Mathlib.Omega.{arith}
use borrow.Author.Tests.{eq-eqb, ne_eqb}
use lib.ListN.{length, get_or, drop, drop_of_length-le, get_or-map}
use lib.Seq.{drop-cons}
use lib.Dec.{eqb}
use Rattle.std.specs.List.{list_all, range_with_len}
use Rattle.ftd.specs.Composition.{CompositionLine, appendix_e, line_tids, directions, fids, leasts, mosts, line_at}
use Rattle.ftd.specs.Composition.{in_range, line_holds, all_hold}
use Rattle.ftd.specs.Composition.Helpers.{line_of}

abbrev pub no_line : CompositionLine
no_line = record { tid = 0; direction = 0; fid = 0; least = 0; most = 0 }

-- By TID and direction, whether a line is of the message.
module _ (r : CompositionLine) (tid direction x : ℕ) (p : x ≡ r.tid) where
  pub other-tid : (x ≡ tid → ⊥) → eqb x tid ≡ line_of r tid direction
  other-tid n = rw (← p, ne_eqb x tid n)

  pub same-tid : x ≡ tid → eqb r.direction direction ≡ line_of r tid direction
  same-tid e = rw (← p, eq-eqb x tid e)

-- The counts that a line allows.
pub line-range : (r : CompositionLine) (least most n : ℕ) → least ≡ r.least → most ≡ r.most → (b : Bool)
    → b ≡ in_range least most n
    → b ≡ in_range r.least r.most n
line-range r least most n p q b e = e ∙ rw (p, q)

pub lines : length appendix_e ≡ 82
unfolding appendix_e
lines = refl

pub line-is : (i : ℕ) → get_or appendix_e i no_line ≡ line_at i
unfolding line_at line_tids directions fids leasts mosts
line-is i =
    rw (
      get_or-map (λ (r : CompositionLine). r.tid) appendix_e i no_line,
      get_or-map (λ (r : CompositionLine). r.direction) appendix_e i no_line,
      get_or-map (λ (r : CompositionLine). r.fid) appendix_e i no_line,
      get_or-map (λ (r : CompositionLine). r.least) appendix_e i no_line,
      get_or-map (λ (r : CompositionLine). r.most) appendix_e i no_line,
    )

line_step : (i tid direction : ℕ) (content : List ℕ) → i < 82
    → all_hold (drop i appendix_e) tid direction
    content ≡ (line_holds (line_at i) tid direction content && all_hold (drop (i + 1) appendix_e) tid direction content)
line_step i tid direction content h =
    let k : i < length appendix_e = rw lines h in
    rw (← (line-is i), add-one, drop-cons appendix_e i no_line)

-- All lines from line i on hold, where each of them does.
lines-from : (tid direction : ℕ) (content : List ℕ) (n i : ℕ) → i + n ≡ 82
    → list_all (λ (k : ℕ). line_holds (line_at k) tid direction content) (range_with_len i n)
    ≡ all_hold (drop i appendix_e) tid direction content
lines-from tid direction content zero i e =
    let k : length appendix_e ≤ i = rw lines (omega arith) in
    rw (drop_of_length-le appendix_e k)
lines-from tid direction content (suc n) i e =
    rw (line_step i tid direction content (omega arith), lines-from tid direction content n (i + 1) (omega arith))

pub lines-all : (tid direction : ℕ) (content : List ℕ)
    → list_all (λ (k : ℕ). line_holds (line_at k) tid direction content) (range_with_len 0 82)
    ≡ all_hold appendix_e tid direction content
lines-all tid direction content = lines-from tid direction content 82 0 refl
