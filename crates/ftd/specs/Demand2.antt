-- Demand 2 as one statement: packets, messages, fields and items are accepted exactly when they meet the standard, what
-- is written is read back as meant, and writing what was read gives the same bytes again.
use Rattle.ftd.specs.Packet.Laws.{ReadLaws}
use Rattle.ftd.specs.Write.Laws.{WriteLaws}
use Rattle.ftd.specs.Chain.Laws.{ChainLaws}
use Rattle.ftd.specs.Fields.Laws.{FieldLaws}
use Rattle.ftd.specs.Item.{ItemLaws}
use Rattle.ftd.specs.Item.Fields.{KnownLaws}
use Rattle.ftd.specs.Values.Laws.{ValueLaws}

pub record Demand2 : Type 0 where
  -- Packets: each kind is read exactly where the bytes are one, with these values; both round trips, and what writers
  -- refuse.
  pub reading : ReadLaws
  pub writing : WriteLaws
  -- Messages: cut into packets of whole fields, found again and read back.
  pub messages : ChainLaws
  -- Fields, one and any number: both round trips, and row 7.
  pub fields : FieldLaws
  -- Items, by row of the table: accepted exactly if they have a value, and both round trips; by type, the parts of it.
  pub items : ItemLaws
  pub values : ValueLaws
  -- Known fields, as lists of their items' values: accepted exactly if each item has one, and both round trips.
  pub known : KnownLaws
