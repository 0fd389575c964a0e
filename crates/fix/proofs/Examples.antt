-- The worked frames, computed. Assumes nothing.
use lib.Dec.{T}
use Rattle.fix.specs.Text.{stands_at, number_in, plain_in, is_yes, sum_of, length_text, sum_text}
use Rattle.fix.specs.Kinds.{kind_for, kind_of, session_number, logon_number, resend_number, is_number_tag}
use Rattle.fix.specs.Fields.{length_tag, text_length, closed, front_of, cut_from, is_whole, first_of}
use Rattle.fix.specs.Check.{wrong_range, wrong_numbers, wrong_tags}
use Rattle.fix.specs.Frame.{trailer, type_at, body_at, length_at, outline_of, frame_of}
use Rattle.fix.specs.Read.{message_of, numbered_of, judged_of, checked_of, read_of}
use Rattle.fix.specs.Examples.{table, all_hold, rows, all_say, FrameExamples}

examples-hold : T (all_hold table)
unfolding stands_at number_in plain_in is_yes sum_of length_text sum_text kind_for kind_of session_number logon_number resend_number
    is_number_tag length_tag text_length closed front_of cut_from is_whole first_of wrong_range wrong_numbers wrong_tags trailer
    type_at body_at length_at outline_of frame_of message_of numbered_of judged_of checked_of read_of
examples-hold = tt

values-hold : T (all_say rows)
unfolding stands_at number_in plain_in is_yes sum_of length_text sum_text kind_for kind_of session_number logon_number resend_number
    is_number_tag length_tag text_length closed front_of cut_from is_whole first_of wrong_range wrong_numbers wrong_tags trailer
    type_at body_at length_at outline_of frame_of message_of numbered_of judged_of checked_of read_of
values-hold = tt

pub frame-examples : FrameExamples
frame-examples = (examples-hold, values-hold)
