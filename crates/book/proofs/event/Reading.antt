-- What a field says, read at the places of its items. Assumes nothing.
use Prim.Native.Nat.{ℕ, zero, suc, ◌+◌, ◌≤◌}
use mathlib.Core.Path.{◌≡◌, refl, sym, ap, ◌∙◌}
use mathlib.Core.List.{List, [], ◌∷◌}
use mathlib.Core.Bool.{Bool, true, false, cond}
use native.Mathlib.Omega.{arith}
use borrow.Author.Tests.{ltb-true, le-leb, eq-eqb, ne_eqb}
use lib.ListN.{length, get_or, take, drop, length-drop}
use lib.Seq.{drop-drop}
use native.Mathlib.Nat.{add-zero}
use lib.IntN.{ℤ, pos, neg_ℤ, nat_abs, ◌-ℤ◌}
use lib.Dec.{eqb, ltb}
use mir.Syntax.{w64}
use mir.Val.{to_z, of_z, SFits}
use mir.ValLaws.{to_z-of_z, to_z_pos}
use Rattle.ftd.specs.Bytes.{part, be32_of}
use Rattle.ftd.specs.Signed.{float_value}
use Rattle.ftd.specs.Signed.Write.{number_fits, float_fits}
use Rattle.ftd.proofs.runs.Turns.{entry-byte}
use Rattle.ftd.specs.Table.{string_kind, int_kind, float_kind, bool_flag_kind, width_of}
use Rattle.ftd.specs.Places.{item_of, item_bytes}
use Rattle.ftd.proofs.Opened.{opened}
use Rattle.ftd.proofs.item.Laws.{two}
use Rattle.ftd.proofs.values.Laws.{value-laws}
use Rattle.ftd.proofs.signed.Integers.{below_again, below-fits, fits-above}
use Rattle.book.specs.Event.{same_bytes, price_of, priced, faced, sided, quotation_in, match_in, event_of, Inside, PriceInside}
use Rattle.book.proofs.sums.Limits.{small-fits}
use Rattle.book.specs.declared.levels.Level.{Level}
use Rattle.book.specs.declared.event.Event.{Event}
use Rattle.book.specs.declared.event.Event.TheVariants.{Nothing, Quotation, Match}
use Rattle.book.specs.Types.{Price}
use Rattle.std.specs.Prelude.{Some, None}
use Rattle.std.specs.List.{zip, list_all}
use Rattle.ftd.specs.Types.{some_item, MaybeSigned}
use Rattle.ftd.specs.declared.signed.Signed.{Signed}

-- ─── Prices ───

number_small : (negative : Bool) (units : ℕ) → number_fits 11 negative units ≡ true → units ≤ 99999999999
unfolding number_fits
number_small true units e = omega (arith, ltb-true units 10000000000 (two (ltb 0 units) (ltb units 10000000000) e).1)
number_small false units e = omega (arith, ltb-true units 100000000000 e)

module _ (l : List ℕ) (wide : length l ≡ 12) (v : MaybeSigned) (q : v ≡ float_value 4 l) where
  pub price-none : v ≡ None → (r : Price) → r ≡ None → (r ≡ price_of l) × PriceInside r
  unfolding price_of
  price-none e r f = (rw (f, ← q, e), rw f tt)

  module _ (found : Signed) (e : v ≡ Some found) where
    pub price-small : found.units ≤ 99999999999
    unfolding float_fits
    price-small =
        number_small found.negative found.units (rw wide at (value-laws.float_again 4 l found.negative found.units (sym q ∙ e)).0)

    abbrev pub price : ℤ
    price = to_z w64 found.units

    same : price ≡ pos found.units
    same = to_z_pos w64 found.units (omega (arith, price-small))

    again : to_z w64 (of_z w64 (pos found.units)) ≡ price
    again = to_z-of_z w64 (pos found.units) (fits-above found.units (omega (arith, price-small))) ∙ sym same

    pub cast-fits : SFits w64 (pos found.units)
    cast-fits = fits-above found.units (omega (arith, price-small))

    pub price-fits : SFits w64 (pos 0 -ℤ price)
    price-fits = rw again at (below-fits found.units (omega (arith, price-small)) (pos found.units) refl)

    below : to_z w64 (of_z w64 (pos 0 -ℤ price)) ≡ neg_ℤ (pos found.units)
    below = rw again at (below_again found.units (omega (arith, price-small)) (pos found.units) refl)

    abs-below : (n : ℕ) → nat_abs (neg_ℤ (pos n)) ≡ n
    abs-below zero = refl
    abs-below (suc n) = refl

    pub price-below : found.negative ≡ true
        → (Some (to_z w64 (of_z w64 (pos 0 -ℤ price))) ≡ price_of l)
        × (nat_abs (to_z w64 (of_z w64 (pos 0 -ℤ price))) ≤ 99999999999)
    unfolding price_of
    price-below n = (rw (below, ← q, e, n), rw (below, abs-below found.units) price-small)

    pub price-above : found.negative ≡ false → (Some price ≡ price_of l) × (nat_abs price ≤ 99999999999)
    unfolding price_of
    price-above n = (rw (same, ← q, e, n), rw same price-small)

-- ─── Bytes ───

-- Two lists of one length are the same where each byte is that beside it. (Only the wrong program contract_not_below of
-- tests/wrong cites it.)
pub same-pairs : (a b : List ℕ) → length a ≡ length b → list_all (λ p. eqb p.0 p.1) (zip a b) ≡ same_bytes a b
same-pairs [] [] h = refl
same-pairs [] (y ∷ b) h = absurd (omega arith)
same-pairs (x ∷ a) [] h = absurd (omega arith)
same-pairs (x ∷ a) (y ∷ b) h = grind (arith, same-pairs a b (omega arith))

-- ─── A quotation and a match by their places ───

module _ (bytes : List ℕ) (fid i kind scale start width : ℕ) (p : item_of fid i ≡ some_item kind scale start width) where
  pub item-part : start + width ≤ length bytes → item_bytes bytes fid i ≡ part bytes start width
  unfolding item_bytes
  item-part h = rw (p, le-leb (start + width) (length bytes) h)

-- An item of a field that stands with its FID and length.
module _ (f : List ℕ) (fid i kind scale start width : ℕ) (p : item_of fid i ≡ some_item kind scale start width)
    (h : 6 + (start + width) ≤ length f) where
  field-part : item_bytes (drop 6 f) fid i ≡ part f (6 + start) width
  field-part =
      item-part (drop 6 f) fid i kind scale start width p (rw (length-drop 6 f) (omega arith))
      ∙ ap (λ (l : List ℕ). take width l) (drop-drop start 6 f)

byte-part : (f : List ℕ) (at : ℕ) → get_or (part f at 1) 0 0 ≡ get_or f at 0
byte-part f at = entry-byte f at 1 0 (omega arith) ∙ ap (λ (k : ℕ). get_or f k 0) (add-zero at)

number-part : (f : List ℕ) (at : ℕ) → be32_of (part f at 4) 0 ≡ be32_of f at
unfolding be32_of
number-part f at =
    rw (
      entry-byte f at 4 0 (omega arith),
      entry-byte f at 4 1 (omega arith),
      entry-byte f at 4 2 (omega arith),
      entry-byte f at 4 3 (omega arith),
      add-zero at,
    )

-- Places of the items (Appendix D).
pub quotation-code : item_of 0x000D 0 ≡ some_item string_kind 0 0 10
unfolding opened
quotation-code = refl

pub quotation-kind : item_of 0x000D 2 ≡ some_item bool_flag_kind 0 11 1
unfolding opened
quotation-kind = refl

pub quotation-side : item_of 0x000D 3 ≡ some_item bool_flag_kind 0 12 1
unfolding opened
quotation-side = refl

pub quotation-price : item_of 0x000D 4 ≡ some_item float_kind 4 13 12
unfolding opened
quotation-price = refl

pub quotation-volume : item_of 0x000D 5 ≡ some_item int_kind 0 25 4
unfolding opened
quotation-volume = refl

pub match-code : item_of 0x000A 0 ≡ some_item string_kind 0 0 10
unfolding opened
match-code = refl

pub match-price : item_of 0x000A 3 ≡ some_item float_kind 4 12 12
unfolding opened
match-price = refl

pub match-volume : item_of 0x000A 4 ≡ some_item int_kind 0 24 4
unfolding opened
match-volume = refl

pub quotation-width : width_of 0x000D ≡ 33
unfolding opened
quotation-width = refl

pub match-width : width_of 0x000A ≡ 29
unfolding opened
match-width = refl

pub quotation-at : (code f : List ℕ) → length f ≡ 39 → quotation_in code (drop 6 f)
    ≡ cond (same_bytes (part f 6 10) code)
    (priced (price_of (part f 19 12)) (be32_of f 31) (sided (get_or f 17 0) (get_or f 18 0))) Nothing
unfolding quotation_in
quotation-at code f h =
    rw (
      field-part f 0x000D 0 string_kind 0 0 10 quotation-code (omega arith),
      field-part f 0x000D 2 bool_flag_kind 0 11 1 quotation-kind (omega arith),
      field-part f 0x000D 3 bool_flag_kind 0 12 1 quotation-side (omega arith),
      field-part f 0x000D 4 float_kind 4 13 12 quotation-price (omega arith),
      field-part f 0x000D 5 int_kind 0 25 4 quotation-volume (omega arith),
      byte-part f 17,
      byte-part f 18,
      number-part f 31,
    )

pub match-at : (code f : List ℕ) → length f ≡ 35 → match_in code (drop 6 f)
    ≡ cond (same_bytes (part f 6 10) code) (priced (price_of (part f 18 12)) (be32_of f 30) (λ o. Match o)) Nothing
unfolding match_in
match-at code f h =
    rw (
      field-part f 0x000A 0 string_kind 0 0 10 match-code (omega arith),
      field-part f 0x000A 3 float_kind 4 12 12 match-price (omega arith),
      field-part f 0x000A 4 int_kind 0 24 4 match-volume (omega arith),
      number-part f 30,
    )

-- ─── What the code gives ───

inside-price : (price : Price) (p : ℤ) → price ≡ Some p → PriceInside price → nat_abs p ≤ 99999999999
inside-price price p e i = rw e at i

module _ (price : Price) (p : ℤ) (e : price ≡ Some p) (i : PriceInside price) where
  held-price : to_z w64 (of_z w64 p) ≡ p
  held-price = to_z-of_z w64 p (small-fits p (omega (arith, inside-price price p e i)))

  pub price-inside : nat_abs (to_z w64 (of_z w64 p)) ≤ 99999999999
  price-inside = rw held-price (inside-price price p e i)

  at-price : (make : Level → Event) (v n : ℕ) → n ≡ v
      → make (record { price = to_z w64 (of_z w64 p); quantity = n }) ≡ priced price v make
  at-price make v n q = rw (e, held-price, q)

inside-faced : (absolute : Bool) (d : ℕ) (o : Level) → nat_abs o.price ≤ 99999999999 → Inside (faced absolute d o)
unfolding faced
inside-faced absolute d o h = go (eqb d 0) (eqb d 1)
  where
    go : (a b : Bool) → Inside (cond a (Quotation absolute true o) (cond b (Quotation absolute false o) Nothing))
    go true b = h
    go false true = h
    go false false = tt

inside-sided : (k d : ℕ) (o : Level) → nat_abs o.price ≤ 99999999999 → Inside (sided k d o)
unfolding sided
inside-sided k d o h = go (eqb k 0) (eqb k 1)
  where
    go : (a b : Bool) → Inside (cond a (faced false d o) (cond b (faced true d o) Nothing))
    go true b = inside-faced false d o h
    go false true = inside-faced true d o h
    go false false = tt

module _ (code f : List ℕ) (same : Bool) (e : same ≡ same_bytes (part f 6 10) code) where
  module _ (h : length f ≡ 39) where
    pub quotation-other : same ≡ false → Nothing ≡ quotation_in code (drop 6 f)
    quotation-other t = rw (quotation-at code f h, ← e, t)

    module _ (t : same ≡ true) (price : Price) (q : price ≡ price_of (part f 19 12)) where
      pub quotation-none : price ≡ None → Nothing ≡ quotation_in code (drop 6 f)
      quotation-none z = rw (quotation-at code f h, ← e, t, ← q, z)

      pub quotation-some : (p : ℤ) → price ≡ Some p → PriceInside price → (n : ℕ) → n ≡ be32_of f 31 → (r : Event)
          → r ≡ sided (get_or f 17 0) (get_or f 18 0) (record { price = to_z w64 (of_z w64 p); quantity = n })
          → (r ≡ quotation_in code (drop 6 f)) × Inside r
      quotation-some p z i n d r m = (
        rw (quotation-at code f h, ← e, t, ← q)
            (m ∙ at-price price p z i (sided (get_or f 17 0) (get_or f 18 0)) (be32_of f 31) n d),
        rw m (inside-sided (get_or f 17 0) (get_or f 18 0) _ (price-inside price p z i)),
      )

  module _ (h : length f ≡ 35) where
    pub match-other : same ≡ false → Nothing ≡ match_in code (drop 6 f)
    match-other t = rw (match-at code f h, ← e, t)

    module _ (t : same ≡ true) (price : Price) (q : price ≡ price_of (part f 18 12)) where
      pub match_none : price ≡ None → Nothing ≡ match_in code (drop 6 f)
      match_none z = rw (match-at code f h, ← e, t, ← q, z)

      pub match-some : (p : ℤ) → price ≡ Some p → PriceInside price → (n : ℕ) → n ≡ be32_of f 30
          → (Match (record { price = to_z w64 (of_z w64 p); quantity = n }) ≡ match_in code (drop 6 f))
          × (nat_abs (to_z w64 (of_z w64 p)) ≤ 99999999999)
      match-some p z i n d = (
        rw (match-at code f h, ← e, t, ← q) (at-price price p z i (λ o. Match o) (be32_of f 30) n d),
        price-inside price p z i,
      )

-- ─── A field ───

module _ (code : List ℕ) (tid : ℕ) (f : List ℕ) where
  module _ (t : tid ≡ 0x2001) where
    pub quotation-field : length f ≡ 39 → be32_of f 0 ≡ 0x000D → (r : Event) → r ≡ quotation_in code (drop 6 f)
        → r ≡ event_of code tid f
    unfolding event_of
    quotation-field l d r m = rw (eq-eqb tid 0x2001 t, quotation-width, l, d) m

    pub quotation-long : (length f ≡ 39 → ⊥) → Nothing ≡ event_of code tid f
    unfolding event_of
    quotation-long l = rw (eq-eqb tid 0x2001 t, quotation-width, ne_eqb (length f) 39 l)

  module _ (u : tid ≡ 0x2001 → ⊥) where
    pub other-message : (tid ≡ 0x2002 → ⊥) → Nothing ≡ event_of code tid f
    unfolding event_of
    other-message t = rw (ne_eqb tid 0x2001 u, ne_eqb tid 0x2002 t)

    module _ (t : tid ≡ 0x2002) where
      pub match-field : length f ≡ 35 → be32_of f 0 ≡ 0x000A → (r : Event) → r ≡ match_in code (drop 6 f)
          → r ≡ event_of code tid f
      unfolding event_of
      match-field l d r m = rw (ne_eqb tid 0x2001 u, eq-eqb tid 0x2002 t, match-width, l, d) m

      pub match-long : (length f ≡ 35 → ⊥) → Nothing ≡ event_of code tid f
      unfolding event_of
      match-long l = rw (ne_eqb tid 0x2001 u, eq-eqb tid 0x2002 t, match-width, ne_eqb (length f) 35 l)
