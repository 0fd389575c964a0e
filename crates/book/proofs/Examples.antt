-- The worked examples, computed. Assumes nothing.
use Rattle.ftd.specs.Fields.{field_with}
use Rattle.ftd.specs.Signed.Write.{number_bytes, float_bytes}
use Rattle.ftd.specs.Content.{content_check}
use Rattle.ftd.proofs.Opened.{opened}
use Rattle.book.specs.Levels.{better, same_price, level_in, is_full, held_by, quantity_at, inserted, removed, put_at, placed}
use Rattle.book.specs.Quantity.{twos, new_of, lacks}
use Rattle.book.specs.Sums.{beyond, added_to, summed_with, goes_up, nearest_of, mean_of}
use Rattle.book.specs.Event.{price_of, faced, sided, quotation_in, match_in, event_of}
use Rattle.book.specs.Calls.{one_more, quote_on, quotation_on, lowered, match_check, match_summed, match_on, applied}
use Rattle.book.specs.Calls.{events_of, take_of, level_of, book_mean}
use Rattle.book.specs.Examples.{examples, severals, Examples}

pub examples-hold : Examples
unfolding opened field_with number_bytes float_bytes content_check better same_price level_in is_full held_by quantity_at inserted removed
    put_at placed twos new_of lacks beyond added_to summed_with goes_up nearest_of mean_of price_of faced sided quotation_in match_in event_of one_more
    quote_on quotation_on lowered match_check match_summed match_on applied events_of take_of level_of book_mean examples severals
examples-hold = tt
