-- What a field says to the book, whatever its values (request No. 2; Appendices A and D).
use Rattle.std.specs.Prelude.{ℕ, ◌≤◌, ◌≡◌, List, [], ◌∷◌, ◌++◌, Bool, true, length, eqb}
use Rattle.ftd.specs.Bytes.{bytes32}
use Rattle.ftd.specs.Fields.{field_with, fid_of}
use Rattle.ftd.specs.Signed.Write.{float_bytes, float_fits}
use Rattle.ftd.specs.Signed.Integer.{signed_units}
use Rattle.book.specs.declared.event.Event.TheVariants.{Nothing, Quotation, Match}
use Rattle.book.specs.Event.{event_of}

-- A MarketOrderDataField by its items: contract, version, VolumeType, Direction, price, volume, sequence number.
abbrev pub quotation_with : List ℕ → ℕ → ℕ → ℕ → Bool → ℕ → ℕ → ℕ → List ℕ
quotation_with contract version kind side negative units v n =
    field_with 0x000D
    (contract ++ (version ∷ kind ∷ side ∷ (float_bytes 4 12 negative units ++ (bytes32 v ++ bytes32 n))))

-- A MarketMatchIncDataField: contract, version, VolumeType, price, volume, MatchFlag.
abbrev pub match_with : List ℕ → ℕ → ℕ → Bool → ℕ → ℕ → ℕ → List ℕ
match_with contract version kind negative units v flag =
    field_with 0x000A (contract ++ (version ∷ kind ∷ (float_bytes 4 12 negative units ++ (bytes32 v ++ (flag ∷ [])))))

pub record EventLaws : Type 0 where
  -- A quotation of the contract: VolumeType 1 is absolute, 0 an increment; Direction 0 is buying, 1 selling.
  pub quotation : (code : List ℕ) (version kind side : ℕ) (negative : Bool) (units v n : ℕ) → length code ≡ 10
      → kind ≤ 1 → side ≤ 1 → float_fits 4 12 negative units ≡ true
      → event_of code 0x2001 (quotation_with code version kind side negative units v n)
      ≡ Quotation (eqb kind 1) (eqb side 0) (record { price = signed_units negative units; quantity = v })
  -- A match of the contract.
  pub matched : (code : List ℕ) (version kind : ℕ) (negative : Bool) (units v flag : ℕ) → length code ≡ 10
      → float_fits 4 12 negative units ≡ true
      → event_of code 0x2002 (match_with code version kind negative units v flag)
      ≡ Match (record { price = signed_units negative units; quantity = v })
  -- One of another contract passes, in whichever of the ten bytes the two differ,
  pub other_quotation : (code other rest : List ℕ) → length other ≡ 10 → length rest ≡ 23 → (other ≡ code → ⊥)
      → event_of code 0x2001 (field_with 0x000D (other ++ rest)) ≡ Nothing
  pub other_match : (code other rest : List ℕ) → length other ≡ 10 → length rest ≡ 19 → (other ≡ code → ⊥)
      → event_of code 0x2002 (field_with 0x000A (other ++ rest)) ≡ Nothing
  -- and so do other fields of the two messages, and every field of others.
  pub other_field : (code f : List ℕ) → (fid_of f ≡ 0x000D → ⊥) → event_of code 0x2001 f ≡ Nothing
  pub other_matched : (code f : List ℕ) → (fid_of f ≡ 0x000A → ⊥) → event_of code 0x2002 f ≡ Nothing
  pub other_message : (code : List ℕ) (tid : ℕ) (f : List ℕ) → (tid ≡ 0x2001 → ⊥) → (tid ≡ 0x2002 → ⊥)
      → event_of code tid f ≡ Nothing
