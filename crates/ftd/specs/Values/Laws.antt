-- What holds of values (01, "Typed items"): a value written is read back, and bytes that are read are those that its
-- value writes.
use Rattle.std.specs.Prelude.{ℕ, ◌<◌, ◌≡◌, List, [], ◌∷◌, Bool, true, length, take, ℤ}
use Rattle.ftd.specs.Bytes.{Bytes, bytes16, bytes32}
use Rattle.ftd.specs.Values.{is_date}
use Rattle.ftd.specs.Texts.{text_value, text_bytes, text_fits}
use Rattle.ftd.specs.Signed.{number_value, float_value}
use Rattle.ftd.specs.Whole.{char_fits, char_value, word_value, int_value}
use Rattle.ftd.specs.Signed.Write.{number_bytes, number_fits, float_bytes, float_fits}
use Rattle.ftd.specs.Dates.{date_value, date_bytes, date_fits}
use Rattle.ftd.specs.Signed.Integer.{integer_of, from_integer}
use Rattle.ftd.specs.declared.dates.Date.{Date}
use Rattle.std.specs.Prelude.{Some}
use Rattle.ftd.specs.Types.{some_signed}

pub record ValueLaws : Type 0 where
  pub char_back : (kind b : ℕ) → char_fits kind b ≡ true → char_value kind (b ∷ []) ≡ Some b
  pub char_again : (kind : ℕ) (l : List ℕ) (b : ℕ) → char_value kind l ≡ Some b
      → (char_fits kind b ≡ true) × (b ∷ [] ≡ l)
  pub word_back : (x : ℕ) → word_value (bytes16 x) ≡ Some x
  pub word_again : (l : List ℕ) → Bytes l → (x : ℕ) → word_value l ≡ Some x → (x < 65536) × (bytes16 x ≡ l)
  pub int_back : (x : ℕ) → int_value (bytes32 x) ≡ Some x
  pub int_again : (l : List ℕ) → Bytes l → (x : ℕ) → int_value l ≡ Some x → (x < 4294967296) × (bytes32 x ≡ l)
  pub number_back : (width : ℕ) (negative : Bool) (units : ℕ) → number_fits width negative units ≡ true
      → number_value (number_bytes width negative units) ≡ some_signed negative units
  pub number_again : (l : List ℕ) (negative : Bool) (units : ℕ) → number_value l ≡ some_signed negative units
      → (number_fits (length l) negative units ≡ true) × (number_bytes (length l) negative units ≡ l)
  pub float_back : (scale width : ℕ) (negative : Bool) (units : ℕ) → float_fits scale width negative units ≡ true
      → float_value scale (float_bytes scale width negative units) ≡ some_signed negative units
  pub float_again : (scale : ℕ) (l : List ℕ) (negative : Bool) (units : ℕ) → float_value scale l ≡ some_signed negative units
      → (float_fits scale (length l) negative units ≡ true) × (float_bytes scale (length l) negative units ≡ l)
  pub text_back : (width : ℕ) (value : List ℕ) → text_fits width value ≡ true
      → (text_value (text_bytes width value) ≡ Some (length value))
      × (take (length value) (text_bytes width value) ≡ value)
  pub text_again : (l : List ℕ) (len : ℕ) → text_value l ≡ Some len
      → (text_fits (length l) (take len l) ≡ true) × (text_bytes (length l) (take len l) ≡ l)
  pub date_back : (v : Date) → date_fits v ≡ true → date_value (date_bytes v) ≡ v
  pub date_again : (l : List ℕ) → is_date l ≡ true → (date_fits (date_value l) ≡ true) × (date_bytes (date_value l) ≡ l)
  -- Sign and magnitude, and the plain signed number: either gives the other, minus zero aside.
  pub plain_back : (x : ℤ) (negative : Bool) (units : ℕ) → from_integer x ≡ some_signed negative units
      → integer_of (some_signed negative units) ≡ Some x
  pub plain_again : (negative : Bool) (units : ℕ) (x : ℤ) → (negative ≡ true → 0 < units)
      → integer_of (some_signed negative units) ≡ Some x
      → from_integer x ≡ some_signed negative units
