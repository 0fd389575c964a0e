-- All that a computed example of the ends goes through: `unfolding opened` opens the whole list.
use Rattle.ftd.specs.Fields.{field_with}
use Rattle.ftd.proofs.Opened
use Rattle.flow.specs.Ends.{wrong_series, fresh_sender, day_series, is_served, published_of, place_of, with_entry}
use Rattle.flow.specs.Ends.{reserve_of, used_of, shares_of}
use Rattle.flow.specs.Ends.{with_place, fresh_receiver, kept_series, is_open, kept_of, live_of, with_series, part_start}
use Rattle.flow.specs.Ends.{all_parts}
use Rattle.flow.specs.Log.{entry_bytes, entry, log_short, entry_fits, entries_of, entry_of}
use Rattle.flow.specs.Serving.{open_day_of, publish_of, start_of, login_with, login_of, is_none_left, send_bytes, send_of}
use Rattle.flow.specs.Serving.{next_packet, no_packet, last_packet, after_packet, send_packet_of}
use Rattle.flow.specs.Receiving.{open_end_of, connect_of, request_of, request_bytes, request_login_of, last_after}
use Rattle.flow.specs.Receiving.{confirm_with, confirm_login_of, receive_with, receive_of}
use Rattle.flow.specs.World.{start}
use Rattle.flow.specs.Bench.{req_login, rsp_login, at_last, four, both_ends, bench}

unfoldable pub opened : Unit {0}
unfolding Opened.opened field_with wrong_series fresh_sender day_series is_served published_of place_of reserve_of used_of shares_of with_entry with_place
    fresh_receiver kept_series is_open kept_of live_of with_series part_start all_parts entry_bytes entry log_short entry_fits
    entries_of entry_of open_day_of publish_of start_of login_with login_of is_none_left send_bytes send_of next_packet
    no_packet last_packet after_packet send_packet_of open_end_of connect_of
    request_of request_bytes request_login_of last_after confirm_with confirm_login_of receive_with receive_of start req_login
    rsp_login at_last four both_ends bench
opened = tt
