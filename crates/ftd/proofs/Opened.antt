-- All that a computed example goes through: `unfolding opened` opens the whole list.
use Rattle.ftd.specs.Bytes.{be16_of, be32_of, put}
use Rattle.ftd.specs.Runs.{front, run_of}
use Rattle.ftd.specs.Tags.{tag, length_right, known_tags, count_kind, good_tags, tag_place, trade_date_of}
use Rattle.ftd.specs.Tags.{packet_place_of}
use Rattle.ftd.specs.Fields.{field, exact_run, shaped, one_if, count_of, first_of}
use Rattle.ftd.specs.Packet.{said_length, extension_of, version_of, tid_of, letter_of, series_of, message_number_of}
use Rattle.ftd.specs.Packet.{field_count_of, content_length_of, content_of, rest_missing, missing_of, wrong_body, is_skipped}
use Rattle.ftd.specs.Packet.{is_letter, chain_of, header_of, accepted_of, message_of, whole_of, read_of, with_tags}
use Rattle.ftd.specs.Packet.{dated_of, not_one_packet, no_message_packet}
use Rattle.ftd.specs.Write.{packet_bytes, header_bytes, message_bytes}
use Rattle.ftd.specs.Chain.{pieces_of, header_for, packet_for, packets_of}
use Rattle.ftd.specs.Chain.Laws.{packet_form}
use Rattle.ftd.specs.Table.{enumerations, table, rows_of}
use Rattle.ftd.specs.Gregorian.{leap_year, months, month_days, real_date}
use Rattle.ftd.specs.Values.{is_listed, is_number, without_point, is_float, is_date, is_value}
use Rattle.ftd.specs.Items.{wrong_width, walk_of, wrong_item, check_of}
use Rattle.ftd.specs.Places.{item_of, item_bytes}
use Rattle.ftd.specs.Signed.{signed_of, float_value}
use Rattle.ftd.specs.Composition.{appendix_e, in_range, composed}
use Rattle.ftd.specs.Resume.{resume_of}
use Rattle.ftd.specs.Login.{login_header, login_bytes}
use Rattle.ftd.specs.Bench.{up_to_nine, twelfth, missing_rows, bench}

unfoldable pub opened : Unit {0}
unfolding be16_of be32_of put front run_of tag length_right known_tags count_kind good_tags tag_place trade_date_of packet_place_of field exact_run
    said_length extension_of version_of tid_of letter_of series_of message_number_of field_count_of content_length_of content_of
    rest_missing missing_of wrong_body is_skipped is_letter chain_of header_of accepted_of message_of whole_of read_of with_tags dated_of
    not_one_packet no_message_packet packet_bytes header_bytes message_bytes shaped pieces_of header_for packet_for packets_of
    packet_form enumerations table rows_of leap_year months month_days real_date
    is_listed is_number without_point is_float is_date is_value wrong_width walk_of
    wrong_item check_of item_of item_bytes signed_of float_value appendix_e one_if count_of in_range composed first_of resume_of
    login_header login_bytes up_to_nine twelfth missing_rows bench
opened = tt
