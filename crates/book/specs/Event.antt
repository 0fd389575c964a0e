-- What a field of a message says to the book of a contract (request No. 2): an order quotation, a match, or nothing.
pub mod Laws
use Rattle.std.specs.Prelude.{ℕ, ◌+◌, ◌≤◌, List, [], ◌∷◌, Bool, true, false, cond, ◌&&◌, length, get_or, ℤ, nat_abs, eqb}
use Rattle.ftd.specs.Bytes.{be32_of}
use Rattle.ftd.specs.Fields.{fid_of, bytes_of}
use Rattle.ftd.specs.Table.{width_of}
use Rattle.ftd.specs.Places.{item_bytes}
use Rattle.ftd.specs.Signed.{float_value}
use Rattle.ftd.specs.Signed.Integer.{signed_units}
use Rattle.book.specs.declared.levels.Level.{Level}
use Rattle.book.specs.declared.event.Event.{Event}
use Rattle.book.specs.declared.event.Event.TheVariants.{Nothing, Quotation, Match}
use Rattle.book.specs.Types.{Price}
use Rattle.std.specs.Prelude.{Some, None}
use Rattle.ftd.specs.Types.{MaybeSigned}

-- ─── What is read (Appendices A and D) ───

-- The messages MarketOrderIncData and MarketMatchIncData, and the field of each that is read: MarketOrderDataField and
-- MarketMatchIncDataField.
abbrev pub quotation_tid : ℕ
quotation_tid = 0x2001

abbrev pub match_tid : ℕ
match_tid = 0x2002

abbrev pub quotation_fid : ℕ
quotation_fid = 0x000D

abbrev pub match_fid : ℕ
match_fid = 0x000A

-- Items of a quotation by number, and bytes of an item: InstrumentId, VolumeType, Direction, Price, Volume.
abbrev pub quoted : List ℕ → ℕ → List ℕ
quoted bytes i = item_bytes bytes quotation_fid i

-- Items of a match: InstrumentId 0, Price 3, Volume 4.
abbrev pub matched : List ℕ → ℕ → List ℕ
matched bytes i = item_bytes bytes match_fid i

abbrev pub same_bytes : List ℕ → List ℕ → Bool
same_bytes [] [] = true
same_bytes [] (y ∷ ys) = false
same_bytes (x ∷ xs) [] = false
same_bytes (x ∷ xs) (y ∷ ys) = cond (eqb x y) (same_bytes xs ys) false

-- ─── Prices ───

-- A price in units of 0.0001: Float 12,4.
abbrev pub units_of : MaybeSigned → Price
units_of None = None
units_of (Some found) = Some (signed_units found.negative found.units)

unfoldable pub price_of : List ℕ → Price
price_of l = units_of (float_value 4 l)

-- An event at a price that was read, with a volume.
abbrev pub priced : Price → ℕ → (Level → Event) → Event
priced None v make = Nothing
priced (Some p) v make = make (record { price = p; quantity = v })

-- ─── Quotations ───

-- Direction 0 is buying, 1 selling; any other is not used, and passes.
unfoldable pub faced : Bool → ℕ → Level → Event
faced absolute direction o =
    cond (eqb direction 0) (Quotation absolute true o) (cond (eqb direction 1) (Quotation absolute false o) Nothing)

-- VolumeType 0 is an increment, 1 absolute; any other is not used, and passes.
unfoldable pub sided : ℕ → ℕ → Level → Event
sided kind direction o =
    cond (eqb kind 0) (faced false direction o) (cond (eqb kind 1) (faced true direction o) Nothing)

-- Of the bytes of a MarketOrderDataField: items 0 InstrumentId, 2 VolumeType, 3 Direction, 4 Price, 5 Volume.
unfoldable pub quotation_in : List ℕ → List ℕ → Event
quotation_in code bytes =
    cond (same_bytes (quoted bytes 0) code)
    (priced (price_of (quoted bytes 4)) (be32_of (quoted bytes 5) 0)
    (sided (get_or (quoted bytes 2) 0 0) (get_or (quoted bytes 3) 0 0)))
    Nothing

-- ─── Matches ───

-- Of the bytes of a MarketMatchIncDataField: items 0 InstrumentId, 3 Price, 4 Volume.
unfoldable pub match_in : List ℕ → List ℕ → Event
match_in code bytes =
    cond (same_bytes (matched bytes 0) code)
    (priced (price_of (matched bytes 3)) (be32_of (matched bytes 4) 0) (λ o. Match o)) Nothing

-- ─── A field ───

-- A field, with its FID and length, is one of that FID, of its width. (Others are refused by 8.)
abbrev pub is_field : ℕ → List ℕ → Bool
is_field fid f = eqb (length f) (6 + width_of fid) && eqb (fid_of f) fid

-- What a field of a message says to the book of a contract: other messages, fields and contracts pass.
unfoldable pub event_of : List ℕ → ℕ → List ℕ → Event
event_of code tid f =
    cond (eqb tid quotation_tid) (cond (is_field quotation_fid f) (quotation_in code (bytes_of f)) Nothing)
    (cond (eqb tid match_tid) (cond (is_field match_fid f) (match_in code (bytes_of f)) Nothing) Nothing)

-- ─── Bounds that a read price keeps, for the code ───

abbrev pub PriceInside : Price → Type 0
PriceInside None = Unit
PriceInside (Some p) = nat_abs p ≤ 99999999999

abbrev pub Inside : Event → Type 0
Inside Nothing = Unit
Inside (Quotation absolute buying o) = nat_abs o.price ≤ 99999999999
Inside (Match o) = nat_abs o.price ≤ 99999999999
