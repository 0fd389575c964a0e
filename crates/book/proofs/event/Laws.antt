-- What a field says to the book, whatever its values. Assumes nothing.
use Prim.Native.Nat.{ℕ, zero, suc, ◌+◌, ◌≤◌}
use mathlib.Core.Path.{◌≡◌, refl, sym, ap, ◌∙◌}
use mathlib.Core.List.{List, [], ◌∷◌, ◌++◌}
use mathlib.Core.Bool.{Bool, true, false, cond, ◌&&◌, false≢true}
use native.Mathlib.Omega.{arith}
use borrow.Author.Tests.{eq-eqb, ne_eqb, eqb-true}
use lib.ListN.{length, get_or, take, drop, length-append}
use lib.Seq.{drop-append-add, take-append_seam}
use lib.Dec.{eqb}
use Rattle.ftd.specs.Bytes.{part, be32_of, bytes32}
use Rattle.ftd.specs.Fields.{field_with, fid_of}
use Rattle.ftd.specs.Table.{string_kind, int_kind, float_kind, bool_flag_kind, width_of}
use Rattle.ftd.specs.Signed.Write.{float_bytes, float_fits}
use Rattle.ftd.specs.Signed.Integer.{signed_units}
use Rattle.ftd.proofs.values.Laws.{value-laws}
use Rattle.ftd.proofs.signed.Stores.{float-length}
use Rattle.ftd.proofs.write.Puts.{length-field}
use Rattle.ftd.proofs.fields.Laws.{fid-back, bytes_back}
use Rattle.ftd.proofs.bytes.Numbers.{back32}
use Rattle.book.specs.declared.levels.Level.{Level}
use Rattle.book.specs.declared.event.Event.TheVariants.{Nothing, Quotation, Match}
use Rattle.book.specs.Event.{same_bytes, price_of, units_of, priced, faced, sided, quotation_in, match_in}
use Rattle.book.specs.Event.{is_field, event_of}
use Rattle.book.specs.Event.Laws.{quotation_with, match_with, EventLaws}
use Rattle.book.proofs.event.Reading.{item-part, quotation-code, quotation-kind, quotation-side, quotation-price}
use Rattle.book.proofs.event.Reading.{quotation-volume, match-code, match-price, match-volume}
use Rattle.book.proofs.event.Reading.{quotation-width, match-width}
use Rattle.std.specs.Prelude.{Some}

-- ─── Bytes ───

same_self : (l : List ℕ) → same_bytes l l ≡ true
same_self [] = refl
same_self (x ∷ l) = rw (eq-eqb x x refl) (same_self l)

same-equal : (a b : List ℕ) → same_bytes a b ≡ true → a ≡ b
same-equal [] [] e = refl
same-equal [] (y ∷ b) e = absurd (false≢true e)
same-equal (x ∷ a) [] e = absurd (false≢true e)
same-equal (x ∷ a) (y ∷ b) e = go (eqb x y) refl (same-equal a b) e
  where
    go : (t : Bool) → eqb x y ≡ t → (same_bytes a b ≡ true → a ≡ b) → cond t (same_bytes a b) false ≡ true → x ∷ a ≡ y ∷ b
    go true q rest f = rw (eqb-true x y q, rest f)
    go false q rest f = absurd (false≢true f)

differs : (a b : List ℕ) → (a ≡ b → ⊥) → same_bytes a b ≡ false
differs a b n = go (same_bytes a b) refl
  where
    go : (t : Bool) → same_bytes a b ≡ t → t ≡ false
    go true e = absurd (n (same-equal a b e))
    go false e = refl

-- Parts of two lists in a row.
front-part : (l r : List ℕ) (n : ℕ) → length l ≡ n → part (l ++ r) 0 n ≡ l
front-part l r n e = ap (λ (k : ℕ). take k (l ++ r)) (sym e) ∙ take-append_seam l r

later-part : (l r : List ℕ) (n k w : ℕ) → length l ≡ n → part (l ++ r) (n + k) w ≡ part r k w
later-part l r n k w e =
    ap (λ (m : ℕ). take w (drop (m + k) (l ++ r))) (sym e) ∙ ap (take w) (drop-append-add l r k)

module _ (negative : Bool) (units : ℕ) (fits : float_fits 4 12 negative units ≡ true) where
  price-back : price_of (float_bytes 4 12 negative units) ≡ Some (signed_units negative units)
  unfolding price_of
  price-back = ap units_of (value-laws.float_back 4 12 negative units fits)

  price-long : length (float_bytes 4 12 negative units) ≡ 12
  price-long = float-length 4 12 negative units (omega arith)

-- ─── A field of its FID and width ───

is_field-with : (fid width : ℕ) (bytes : List ℕ) → width_of fid ≡ width → length bytes ≡ width
    → is_field fid (field_with fid bytes) ≡ true
is_field-with fid width bytes w h =
    rw (length-field fid bytes, w, h, fid-back fid bytes, eq-eqb (6 + width) (6 + width) refl, eq-eqb fid fid refl)

quotation-event : (code bytes : List ℕ) → length bytes ≡ 33
    → event_of code 0x2001 (field_with 0x000D bytes) ≡ quotation_in code bytes
unfolding event_of
quotation-event code bytes h = rw (is_field-with 0x000D 33 bytes quotation-width h, bytes_back 0x000D bytes)

match-event : (code bytes : List ℕ) → length bytes ≡ 29
    → event_of code 0x2002 (field_with 0x000A bytes) ≡ match_in code bytes
unfolding event_of
match-event code bytes h = rw (is_field-with 0x000A 29 bytes match-width h, bytes_back 0x000A bytes)

-- ─── A quotation ───

faced-is : (absolute : Bool) (side : ℕ) (o : Level) → side ≤ 1 → faced absolute side o ≡ Quotation absolute (eqb side 0) o
unfolding faced
faced-is absolute zero o h = refl
faced-is absolute (suc zero) o h = refl
faced-is absolute (suc (suc n)) o h = absurd (omega arith)

sided-is : (kind side : ℕ) (o : Level) → kind ≤ 1 → side ≤ 1 → sided kind side o ≡ Quotation (eqb kind 1) (eqb side 0) o
unfolding sided
sided-is zero side o h k = faced-is false side o k
sided-is (suc zero) side o h k = faced-is true side o k
sided-is (suc (suc n)) side o h k = absurd (omega arith)

module _ (contract rest : List ℕ) (ten : length contract ≡ 10) where
  module _ (long : length rest ≡ 23) where
    whole-quotation : length (contract ++ rest) ≡ 33
    whole-quotation = length-append contract rest ∙ rw (ten, long)

    quotation-parts : (code : List ℕ) → quotation_in code (contract ++ rest)
        ≡ cond (same_bytes contract code)
        (priced (price_of (part rest 3 12)) (be32_of (part rest 15 4) 0)
        (sided (get_or (part rest 1 1) 0 0) (get_or (part rest 2 1) 0 0)))
        Nothing
    unfolding quotation_in
    quotation-parts code =
        let n = whole-quotation in
        rw (
          item-part (contract ++ rest) 0x000D 0 string_kind 0 0 10 quotation-code (omega arith),
          item-part (contract ++ rest) 0x000D 2 bool_flag_kind 0 11 1 quotation-kind (omega arith),
          item-part (contract ++ rest) 0x000D 3 bool_flag_kind 0 12 1 quotation-side (omega arith),
          item-part (contract ++ rest) 0x000D 4 float_kind 4 13 12 quotation-price (omega arith),
          item-part (contract ++ rest) 0x000D 5 int_kind 0 25 4 quotation-volume (omega arith),
          front-part contract rest 10 ten,
          later-part contract rest 10 1 1 ten,
          later-part contract rest 10 2 1 ten,
          later-part contract rest 10 3 12 ten,
          later-part contract rest 10 15 4 ten,
        )

  module _ (long : length rest ≡ 19) where
    whole-match : length (contract ++ rest) ≡ 29
    whole-match = length-append contract rest ∙ rw (ten, long)

    match-parts : (code : List ℕ) → match_in code (contract ++ rest)
        ≡ cond (same_bytes contract code) (priced (price_of (part rest 2 12)) (be32_of (part rest 14 4) 0) (λ o. Match o)) Nothing
    unfolding match_in
    match-parts code =
        let n = whole-match in
        rw (
          item-part (contract ++ rest) 0x000A 0 string_kind 0 0 10 match-code (omega arith),
          item-part (contract ++ rest) 0x000A 3 float_kind 4 12 12 match-price (omega arith),
          item-part (contract ++ rest) 0x000A 4 int_kind 0 24 4 match-volume (omega arith),
          front-part contract rest 10 ten,
          later-part contract rest 10 2 12 ten,
          later-part contract rest 10 14 4 ten,
        )

-- Price and volume behind some bytes.
module _ (negative : Bool) (units v : ℕ) (fits : float_fits 4 12 negative units ≡ true) (rest : List ℕ) where
  price-at : price_of (part (float_bytes 4 12 negative units ++ (bytes32 v ++ rest)) 0 12)
      ≡ Some (signed_units negative units)
  price-at =
      ap price_of (front-part (float_bytes 4 12 negative units) (bytes32 v ++ rest) 12 (price-long negative units fits))
      ∙ price-back negative units fits

  volume-at : be32_of (part (float_bytes 4 12 negative units ++ (bytes32 v ++ rest)) 12 4) 0 ≡ v
  volume-at =
      ap (λ (l : List ℕ). be32_of l 0)
      (later-part (float_bytes 4 12 negative units) (bytes32 v ++ rest) 12 0 4 (price-long negative units fits))
      ∙ back32 v []

  long-at : length (float_bytes 4 12 negative units ++ (bytes32 v ++ rest)) ≡ 16 + length rest
  long-at =
      let a = length-append (float_bytes 4 12 negative units) (bytes32 v ++ rest) in
      let b = price-long negative units fits in
      omega (arith, a, b)

quotation-says : (code : List ℕ) (version kind side : ℕ) (negative : Bool) (units v n : ℕ) → length code ≡ 10
    → kind ≤ 1 → side ≤ 1 → float_fits 4 12 negative units ≡ true
    → event_of code 0x2001 (quotation_with code version kind side negative units v n)
    ≡ Quotation (eqb kind 1) (eqb side 0) (record { price = signed_units negative units; quantity = v })
quotation-says code version kind side negative units v n ten k s fits =
    let rest : List ℕ = version ∷ kind ∷ side ∷ (float_bytes 4 12 negative units ++ (bytes32 v ++ bytes32 n)) in
    let long : length rest ≡ 23 = omega (arith, long-at negative units v fits (bytes32 n)) in
    quotation-event code (code ++ rest) (whole-quotation code rest ten long)
    ∙ (quotation-parts code rest ten long code
    ∙ (rw (same_self code, price-at negative units v fits (bytes32 n), volume-at negative units v fits (bytes32 n))
    (sided-is kind side (record { price = signed_units negative units; quantity = v }) k s)))

match-says : (code : List ℕ) (version kind : ℕ) (negative : Bool) (units v flag : ℕ) → length code ≡ 10
    → float_fits 4 12 negative units ≡ true
    → event_of code 0x2002 (match_with code version kind negative units v flag)
    ≡ Match (record { price = signed_units negative units; quantity = v })
match-says code version kind negative units v flag ten fits =
    let rest : List ℕ = version ∷ kind ∷ (float_bytes 4 12 negative units ++ (bytes32 v ++ (flag ∷ []))) in
    let long : length rest ≡ 19 = omega (arith, long-at negative units v fits (flag ∷ [])) in
    match-event code (code ++ rest) (whole-match code rest ten long)
    ∙ (match-parts code rest ten long code
    ∙ (rw (same_self code, price-at negative units v fits (flag ∷ []), volume-at negative units v fits (flag ∷ []))))

-- ─── What passes ───

other-quotation : (code other rest : List ℕ) → length other ≡ 10 → length rest ≡ 23 → (other ≡ code → ⊥)
    → event_of code 0x2001 (field_with 0x000D (other ++ rest)) ≡ Nothing
other-quotation code other rest ten long n =
    quotation-event code (other ++ rest) (whole-quotation other rest ten long)
    ∙ (quotation-parts other rest ten long code ∙ rw (differs other code n))

other-match : (code other rest : List ℕ) → length other ≡ 10 → length rest ≡ 19 → (other ≡ code → ⊥)
    → event_of code 0x2002 (field_with 0x000A (other ++ rest)) ≡ Nothing
other-match code other rest ten long n =
    match-event code (other ++ rest) (whole-match other rest ten long)
    ∙ (match-parts other rest ten long code ∙ rw (differs other code n))

neither : (b : Bool) → (b && false) ≡ false
neither true = refl
neither false = refl

no_field : (fid : ℕ) (f : List ℕ) → (fid_of f ≡ fid → ⊥) → is_field fid f ≡ false
no_field fid f n = rw (ne_eqb (fid_of f) fid n) (neither (eqb (length f) (6 + width_of fid)))

other-field : (code f : List ℕ) → (fid_of f ≡ 0x000D → ⊥) → event_of code 0x2001 f ≡ Nothing
unfolding event_of
other-field code f n = rw (no_field 0x000D f n)

other-matched : (code f : List ℕ) → (fid_of f ≡ 0x000A → ⊥) → event_of code 0x2002 f ≡ Nothing
unfolding event_of
other-matched code f n = rw (no_field 0x000A f n)

other-message : (code : List ℕ) (tid : ℕ) (f : List ℕ) → (tid ≡ 0x2001 → ⊥) → (tid ≡ 0x2002 → ⊥)
    → event_of code tid f ≡ Nothing
unfolding event_of
other-message code tid f n m = rw (ne_eqb tid 0x2001 n, ne_eqb tid 0x2002 m)

pub event-laws : EventLaws
event-laws = record {
  quotation = quotation-says;
  matched = match-says;
  other_quotation = other-quotation;
  other_match = other-match;
  other_field = other-field;
  other_matched = other-matched;
  other_message = other-message;
}
