-- The examples, computed. Assumes nothing.
use mathlib.Core.Path.{refl}
use Rattle.ftd.specs.Bytes.{be16_of, be32_of}
use Rattle.ftd.specs.Runs.{front, run_of}
use Rattle.ftd.specs.Tags.{tag, known_tags, length_right, count_kind, good_tags, tag_place, keep_alive_of}
use Rattle.ftd.specs.Fields.{field, exact_run}
use Rattle.ftd.specs.Packet.{said_length, said_in, extension_of, version_of, tid_of, letter_of, series_of, message_number_of}
use Rattle.ftd.specs.Packet.{field_count_of, content_length_of, content_of, rest_missing, wrong_body, is_skipped, is_letter}
use Rattle.ftd.specs.Packet.{chain_of, header_of, accepted_of, message_of, whole_of, read_of}
use Rattle.listing.specs.Text.{decimal_in, decimal_of, hex_digit, hex_of}
use Rattle.listing.specs.Lines.{is_heart, link_text, start_text, message_text, refused_text, line_with, line_of, is_last}
use Rattle.listing.specs.Lines.{next_of, lines_in, listing_from}
use Rattle.listing.specs.Examples.{input, output, Examples}

pub examples : Examples
unfolding input output be16_of be32_of front run_of tag known_tags length_right count_kind good_tags tag_place keep_alive_of field
    exact_run said_length said_in extension_of version_of tid_of letter_of series_of message_number_of field_count_of
    content_length_of content_of rest_missing wrong_body is_skipped is_letter chain_of header_of accepted_of message_of whole_of
    read_of decimal_in decimal_of hex_digit hex_of is_heart link_text start_text message_text refused_text line_with line_of is_last
    next_of lines_in listing_from
examples = record { paper = refl; empty = refl }
