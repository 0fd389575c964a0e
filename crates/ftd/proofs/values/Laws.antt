-- The round trips of all values together. Assumes nothing.
use Rattle.ftd.specs.Values.Laws.{ValueLaws}
use Rattle.ftd.proofs.whole.Laws.{char-back, char-again, word-back, word-again, int-back, int-again}
use Rattle.ftd.proofs.signed.Laws.{number-back, number-again, float_back, float-again}
use Rattle.ftd.proofs.texts.Laws.{text-back, text-again}
use Rattle.ftd.proofs.signed.Integers.{integer-back, integer-again}
use Rattle.ftd.proofs.dates.Laws.{date-back, date-again}

pub value-laws : ValueLaws
value-laws =
    record {
      char_back = char-back;
      char_again = char-again;
      word_back = word-back;
      word_again = word-again;
      int_back = int-back;
      int_again = int-again;
      number_back = number-back;
      number_again = number-again;
      float_back = float_back;
      float_again = float-again;
      text_back = text-back;
      text_again = text-again;
      date_back = date-back;
      date_again = date-again;
      plain_back = integer-back;
      plain_again = integer-again;
    }
