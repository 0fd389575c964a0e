-- What the book refuses (request No. 2: 9 of Start, 22, 23, 24), said over the list of all that was taken since Start.
use Rattle.std.specs.Prelude.{ℕ, ◌<◌, ◌≤◌, ◌≡◌, ◌⊎◌, ◌↔◌, List, [], ◌∷◌, ◌++◌, Bool, true, false, cond, not, ◌&&◌, ◌||◌, length, get_or, ℤ, pos, negsuc, ◌+ℤ◌, ltb, leb}
use Rattle.std.specs.Int.Signed.{lt_z, le_z}
use Rattle.ftd.specs.Bytes.{Bytes}
use Rattle.ftd.specs.Fields.{most_content}
use Rattle.ftd.specs.Content.{content_check}
use Rattle.ftd.specs.declared.composition.Direction.TheVariants.{Down}
use Rattle.ftd.specs.Types.{Checked}
use Rattle.ftd.specs.declared.refusal.Refusal.{Refusal}
use Rattle.ftd.specs.declared.refusal.Refusal.TheVariants.{Item, Quantity, Levels, Volume}
use Rattle.book.specs.declared.event.Event.{Event}
use Rattle.book.specs.declared.event.Event.TheVariants.{Nothing, Quotation, Match}
use Rattle.book.specs.declared.calls.Book.{Book}
use Rattle.book.specs.Types.{Outcome}
use Rattle.book.specs.Levels.{same_price}
use Rattle.book.specs.Quantity.{twos}
use Rattle.book.specs.Calls.{fresh_book, start_of, applied, take_of, events_of}
use Rattle.book.specs.Agreement.{quantity_of, turnover_of, volume_of, Call, world, after}
use Rattle.std.specs.Prelude.{Ok, Err}

-- ─── The prices above zero ───

-- The prices that events name.
abbrev pub named_by : List Event → List ℤ
named_by [] = []
named_by (Nothing ∷ es) = named_by es
named_by (Quotation absolute buying o ∷ es) = o.price ∷ named_by es
named_by (Match o ∷ es) = o.price ∷ named_by es

-- A price is not among others.
abbrev pub is_new : ℤ → List ℤ → Bool
is_new p [] = true
is_new p (r ∷ l) = cond (same_price r p) false (is_new p l)

-- Those of a list that have a property, each once.
abbrev pub each_of : (ℤ → Bool) → List ℤ → List ℤ
each_of f [] = []
each_of f (p ∷ l) = cond (f p && is_new p l) (p ∷ each_of f l) (each_of f l)

-- A side's quantity at a price is above zero.
abbrev pub above_zero : List Event → Bool → ℤ → Bool
above_zero es buying p = lt_z (pos 0) (quantity_of es buying p)

-- The prices of a side that are above zero.
abbrev pub prices_of : List Event → Bool → List ℤ
prices_of es buying = each_of (above_zero es buying) (named_by es)

-- ─── An event ───

-- Below 0, or above 4,294,967,295.
abbrev pub no_quantity : ℤ → Bool
no_quantity z = lt_z z (pos 0) || lt_z (pos 4294967295) z

-- A quotation, by the quantity at its price before and after it, and how many prices of its side are above zero before
-- it. 22: no quantity. 23: it is above zero, was not, and 64 others are.
abbrev pub quotation_verdict : ℤ → ℤ → ℕ → Outcome
quotation_verdict old new n =
    cond (no_quantity new) (Err Quantity)
    (cond (lt_z (pos 0) new && (not (lt_z (pos 0) old) && leb 64 n)) (Err Levels) (Ok tt))

-- A level stands, and has less than a volume.
abbrev pub is_short : ℤ → ℕ → Bool
is_short q v = lt_z (pos 0) q && lt_z q (pos v)

-- Beyond 9,000,000,000,000,000,000 on either side of zero.
abbrev pub too_far : ℤ → Bool
too_far z = lt_z (pos 9000000000000000000) z || lt_z z (negsuc 8999999999999999999)

-- A match, by the quantities at its price on both sides before it, its volume, and the two sums after it. 22: a level
-- is short. 24: the volume is above 1,000,000, or a sum too far.
abbrev pub match_verdict : ℤ → ℤ → ℕ → ℤ → ℤ → Outcome
match_verdict buying selling v turnover volume =
    cond (is_short buying v || is_short selling v) (Err Quantity)
    (cond (ltb 1000000 v || (too_far turnover || too_far volume)) (Err Volume) (Ok tt))

-- One event more behind those taken.
unfoldable pub verdict_of : List Event → Event → Outcome
verdict_of es Nothing = (Ok tt)
verdict_of es (Quotation absolute buying o) =
    quotation_verdict (quantity_of es buying o.price)
    (quantity_of (es ++ (Quotation absolute buying o ∷ [])) buying o.price) (length (prices_of es buying))
verdict_of es (Match o) =
    match_verdict (quantity_of es true o.price) (quantity_of es false o.price) o.quantity
    (turnover_of (es ++ (Match o ∷ []))) (volume_of (es ++ (Match o ∷ [])))

-- ─── A message ───

abbrev pub or_else : Outcome → Outcome → Outcome
or_else (Ok tt) next = next
or_else (Err r) next = Err r

-- Its events in order: the verdict on the first that is refused, those before it taken.
abbrev pub verdicts_of : List Event → List Event → Outcome
verdicts_of es [] = (Ok tt)
verdicts_of es (e ∷ new) = or_else (verdict_of es e) (verdicts_of (es ++ (e ∷ [])) new)

-- An event of a message is refused, and each before it is not, those before that one taken.
pub record FirstRefused (es new : List Event) (r : Refusal) : Type 0 where
  pub before : List Event
  pub event : Event
  pub behind : List Event
  pub whole : new ≡ before ++ (event ∷ behind)
  pub passed : (xs : List Event) (x : Event) (ys : List Event) → before ≡ xs ++ (x ∷ ys) → verdict_of (es ++ xs) x ≡ (Ok tt)
  pub refused : verdict_of (es ++ before) event ≡ Err r

-- 7 to 10 come before.
abbrev pub after_check : Checked → Outcome → Outcome
after_check (Ok tt) verdict = verdict
after_check (Err r) verdict = Err r

-- ─── The theorem ───

abbrev pub Among : ℤ → List ℤ → Type 0
Among p [] = ⊥
Among p (r ∷ l) = (r ≡ p) ⊎ Among p l

-- No price twice.
abbrev pub Differ : List ℤ → Type 0
Differ [] = Unit
Differ (p ∷ l) = (Among p l → ⊥) × Differ l

-- A list has exactly the prices with a property, each once.
pub record Exactly (l : List ℤ) (f : ℤ → Bool) : Type 0 where
  pub differ : Differ l
  pub has : (p : ℤ) → Among p l → f p ≡ true
  pub all : (p : ℤ) → f p ≡ true → Among p l

-- A byte of text: 0x20 to 0xFF but 0x7F.
pub record IsText (b : ℕ) : Type 0 where
  pub from : 0x20 ≤ b
  pub other : b ≡ 0x7F → ⊥

-- A code: ten of them.
pub record IsCode (code : List ℕ) : Type 0 where
  pub ten : length code ≡ 10
  pub text : (i : ℕ) → i < length code → IsText (get_or code i 0)

-- An increment is from -2,147,483,648 to 2,147,483,647, and what its four bytes say or 4,294,967,296 less.
pub record Increment (v : ℕ) (d : ℤ) : Type 0 where
  pub least : le_z (negsuc 2147483647) d ≡ true
  pub most : le_z d (pos 2147483647) ≡ true
  pub same : (d ≡ pos v) ⊎ (d +ℤ pos 4294967296 ≡ pos v)

-- A quotation's quantity is one of four bytes.
abbrev pub Wide : Event → Type 0
Wide Nothing = Unit
Wide (Quotation absolute buying o) = o.quantity ≤ 4294967295
Wide (Match o) = Unit

pub record BookRefusals : Type 0 where
  -- Start takes a code, and it is the book's then; it answers 9 exactly if it is none.
  pub start : (b : Book) (code : List ℕ) → ((start_of b code).answer ≡ (Ok tt)) ↔ IsCode code
  pub no_code : (b : Book) (code : List ℕ) → ((start_of b code).answer ≡ Err Item) ↔ (IsCode code → ⊥)
  pub named : (b : Book) (code : List ℕ) → (start_of b code).answer ≡ (Ok tt) → (start_of b code).book.code ≡ code
  -- What an increment adds.
  pub increment : (v : ℕ) → v ≤ 4294967295 → Increment v (twos v)
  -- What is counted for 23: every price above zero, each once, and no other.
  pub prices : (es : List Event) (buying : Bool) → Exactly (prices_of es buying) (above_zero es buying)
  -- After every list of calls an event is answered by its verdict,
  pub event : (calls : List Call) (e : Event) → Wide e
      → (applied (after (world fresh_book []) calls).book e).answer
      ≡ verdict_of (after (world fresh_book []) calls).taken e
  -- a message is refused exactly if one of its events is, by the first,
  pub first : (es new : List Event) (r : Refusal) → (verdicts_of es new ≡ Err r) ↔ FirstRefused es new r
  -- and answered so, 7 to 10 first.
  pub message : (calls : List Call) (tid : ℕ) (content : List ℕ) → Bytes content
      → (take_of (after (world fresh_book []) calls).book tid content).answer
      ≡ after_check (content_check tid Down content most_content)
      (verdicts_of (after (world fresh_book []) calls).taken
      (events_of (after (world fresh_book []) calls).book.code tid content))
