use borrow.Author.Rules.{rules}
use Rattle.ftd.proofs.item.Writings.{valueless, char-taken, word-taken, int-taken, text-taken}
use Rattle.ftd.proofs.item.Writings.{number-taken, float-taken, date-taken, no_place, other-kind}
use Rattle.ftd.proofs.item.write_item.Goals as goal

pub returns-in-NoItem : goal.returns-in-NoItem
returns-in-NoItem c =
    let said = valueless _ _ _ _ _ _ c.item_place.ensures c.in-Some.is c.in-NoItem.is in
    record { answer = said.0; output = said.1 }

pub returns-in-Char : goal.returns-in-Char
returns-in-Char c =
    let said = char-taken _ _ _ _ _ _ c.item_place.ensures c.in-Some.is
    c.of_kind.ensures c.if-not-of_kind.false c.in-Char.is (search rules)
    (c.write_char.ensures.answer, c.write_char.ensures.output) in
    record { answer = said.0; output = said.1 }

pub returns-in-Word : goal.returns-in-Word
returns-in-Word c =
    let said = word-taken _ _ _ _ _ _ c.item_place.ensures c.in-Some.is
    c.of_kind.ensures c.if-not-of_kind.false c.in-Word.is (search rules)
    (c.write_word.ensures.answer, c.write_word.ensures.output) in
    record { answer = said.0; output = said.1 }

pub returns-in-Int : goal.returns-in-Int
returns-in-Int c =
    let said = int-taken _ _ _ _ _ _ c.item_place.ensures c.in-Some.is
    c.of_kind.ensures c.if-not-of_kind.false c.in-Int.is (search rules)
    (c.write_int.ensures.answer, c.write_int.ensures.output) in
    record { answer = said.0; output = said.1 }

pub returns-in-Text : goal.returns-in-Text
returns-in-Text c =
    let said = text-taken _ _ _ _ _ _ c.item_place.ensures c.in-Some.is
    c.of_kind.ensures c.if-not-of_kind.false c.in-Text.is
    (c.write_text.ensures.answer, c.write_text.ensures.output) in
    record { answer = said.0; output = said.1 }

pub returns-in-Number : goal.returns-in-Number
returns-in-Number c =
    let said = number-taken _ _ _ _ _ _ c.item_place.ensures
    c.in-Some.is
    c.of_kind.ensures c.if-not-of_kind.false c.in-Number.is
    (c.write_number.ensures.answer, c.write_number.ensures.output) in
    record { answer = said.0; output = said.1 }

pub returns-in-Float : goal.returns-in-Float
returns-in-Float c =
    let said = float-taken _ _ _ _ _ _ c.item_place.ensures c.in-Some.is
    c.of_kind.ensures c.if-not-of_kind.false c.in-Float.is
    (c.write_float.ensures.answer, c.write_float.ensures.output) in
    record { answer = said.0; output = said.1 }

pub returns-in-Date : goal.returns-in-Date
returns-in-Date c =
    let said = date-taken _ _ _ _ _ _ c.item_place.ensures c.in-Some.is
    c.of_kind.ensures c.if-not-of_kind.false c.in-Date.is (c.write_date.ensures.answer, c.write_date.ensures.output) in
    record { answer = said.0; output = said.1 }

pub returns-in_default : goal.returns-in_default
returns-in_default c =
    let said = no_place _ _ _ _ _ _ c.item_place.ensures c.in_default.is in
    record { answer = said.0; output = said.1 }

pub returns-then-not-of_kind : goal.returns-then-not-of_kind
returns-then-not-of_kind c =
    let said = other-kind _ _ _ _ _ _ c.item_place.ensures c.in-Some.is
    c.of_kind.ensures c.if-not-of_kind.true in
    record { answer = said.0; output = said.1 }
