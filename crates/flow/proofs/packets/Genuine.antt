-- A message on the line is genuine: its packets are those of a published message, by day and number; so is the start of
-- one. Assumes nothing.
use Prim.Native.Nat.{ℕ, suc, ◌≤◌, ◌<◌}
use mathlib.Core.Path.{◌≡◌, refl, sym, ◌∙◌}
use mathlib.Core.List.{List, [], append-nil}
use mathlib.Core.Bool.{true}
use mathlib.Core.Option.{some}
use lib.ListN.{length, get_elem?}
use Rattle.ftd.specs.Chain.{packets_of}
use Rattle.ftd.proofs.chain.Laws.{chain_laws}
use Rattle.ftd.specs.Fields.{shaped, most_content}
use Rattle.ftd.specs.declared.chain.Message.{Message as Headed}
use Rattle.flow.specs.Answers.{Message}
use Rattle.flow.specs.World.{InSeries, Dated, Standing, whole, Transmission, transmission, SenderSide}
use Rattle.flow.specs.Agreement.{of}
use Rattle.flow.proofs.common.Histories.{of-append}
use Rattle.flow.proofs.common.Extends.{place-append, Extends}
use Rattle.flow.proofs.common.Lists.{Every}
use Rattle.flow.specs.Ends.{most_messages}
use Rattle.std.specs.Prelude.{Some}

-- A message of series s with TID t and number k, of day d.
abbrev pub headed : ℕ → ℕ → ℕ → ℕ → Headed
headed s t k d = record { date = Some d; tid = t; series = s; number = k; counted = true }

-- Packets of series s are those of the published message at a place, from 0, of some day; its number is one more.
pub record Genuine (P : List (Dated Message)) (s : ℕ) (ps : List (List ℕ)) : Type 0 where
  pub day : ℕ
  pub place : ℕ
  pub what : Message
  pub placed : get_elem? (of s day P) place ≡ some what
  pub packets : ps ≡ packets_of (headed s what.tid (suc place) day) what.content
  pub good : shaped what.content most_content ≡ true
  pub few : suc place ≤ most_messages

-- It stays so when more is published.
unfoldable pub genuine-grows : (P Q : List (Dated Message)) (s : ℕ) (ps : List (List ℕ)) → Extends P Q → Genuine P s ps
    → Genuine Q s ps
genuine-grows P Q s ps x g =
    record {
      day = g.day;
      place = g.place;
      what = g.what;
      placed =
          rw (x.1, of-append s g.day P x.0)
          (place-append (of s g.day P) (of s g.day x.0) g.place g.what g.placed);
      packets = g.packets;
      good = g.good;
      few = g.few;
    }

-- All messages that a serving end put on the line are.
abbrev pub AllGenuine : SenderSide → Type 0
AllGenuine v =
    (i : ℕ) (m : InSeries (List (List ℕ))) → get_elem? v.messages i ≡ some m
    → Genuine v.published m.series m.what

-- Packets of series s are the first ones of such a message, in order: all of them where they stand as whole, else fewer.
pub record Begun (P : List (Dated Message)) (s : ℕ) (ps : List (List ℕ)) (stands : Standing) : Type 0 where
  pub day : ℕ
  pub place : ℕ
  pub what : Message
  pub placed : get_elem? (of s day P) place ≡ some what
  pub packets : Extends ps (packets_of (headed s what.tid (suc place) day) what.content)
  pub one : 0 < length ps
  pub all : stands ≡ whole → ps ≡ packets_of (headed s what.tid (suc place) day) what.content
  pub fewer : (stands ≡ whole → ⊥)
      → length ps < length (packets_of (headed s what.tid (suc place) day) what.content)
  pub good : shaped what.content most_content ≡ true
  pub few : suc place ≤ most_messages

-- A whole one is genuine.
unfoldable pub begun-whole : (P : List (Dated Message)) (s : ℕ) (ps : List (List ℕ)) (stands : Standing)
    → Begun P s ps stands → stands ≡ whole → Genuine P s ps
begun-whole P s ps stands g q =
    record {
      day = g.day;
      place = g.place;
      what = g.what;
      placed = g.placed;
      packets = g.all q;
      good = g.good;
      few = g.few;
    }

pub genuine-begun : (P : List (Dated Message)) (s : ℕ) (ps : List (List ℕ)) → Genuine P s ps → Begun P s ps whole
genuine-begun P s ps g =
    record {
      day = g.day;
      place = g.place;
      what = g.what;
      placed = g.placed;
      packets = ([], sym g.packets ∙ sym (append-nil ps));
      one = rw g.packets (chain_laws.as_many (headed s g.what.tid (suc g.place) g.day) g.what.content).1;
      all = λ q. g.packets;
      fewer = λ f. absurd (f refl);
      good = g.good;
      few = g.few;
    }

pub begun-grows : (P Q : List (Dated Message)) (s : ℕ) (ps : List (List ℕ)) (stands : Standing) → Extends P Q
    → Begun P s ps stands → Begun Q s ps stands
begun-grows P Q s ps stands x g =
    record {
      day = g.day;
      place = g.place;
      what = g.what;
      placed =
          rw (x.1, of-append s g.day P x.0)
          (place-append (of s g.day P) (of s g.day x.0) g.place g.what g.placed);
      packets = g.packets;
      one = g.one;
      all = g.all;
      fewer = g.fewer;
      good = g.good;
      few = g.few;
    }

-- All that a serving end put on the line is begun; and each message that it sent is there, whole.
abbrev pub BegunIn : List (Dated Message) → Transmission → Type 0
BegunIn P t = Begun P t.series t.packets t.stands

abbrev pub AllBegun : SenderSide → Type 0
AllBegun v = Every (BegunIn v.published) v.transmissions

abbrev pub OnLine : List Transmission → InSeries (List (List ℕ)) → Type 0
OnLine ts m = (place : ℕ) × (get_elem? ts place ≡ some (transmission m.series m.what whole))

abbrev pub AllOnLine : SenderSide → Type 0
AllOnLine v = Every (OnLine v.transmissions) v.messages
