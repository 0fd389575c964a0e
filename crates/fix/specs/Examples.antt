-- Worked frames (02, No. 12), computed over the definitions; `|` stands for SOH in their comments.
use Rattle.std.specs.Prelude.{ℕ, List, [], ◌∷◌, Bool, true, false, cond, ◌&&◌, not, T, eqb}
use Rattle.std.proofs.Math.Option.{Option, none, some}
use Rattle.ftd.specs.Bytes.{part}
use Rattle.ftd.specs.Refusal.{number_of}
use Rattle.fix.specs.declared.kinds.Kind.{Kind}
use Rattle.fix.specs.declared.kinds.Kind.TheVariants.{Heartbeat, TestRequest, ResendRequest, SequenceReset}
use Rattle.fix.specs.declared.kinds.Kind.TheVariants.{Logout, Logon, Other}
use Rattle.fix.specs.declared.read.Message.{Message}
use Rattle.fix.specs.declared.read.Judged.{Judged}
use Rattle.fix.specs.declared.read.Judged.TheVariants.{Refused, Next, Again, Gap, Reset}
use Rattle.fix.specs.Read.{message_in, read_of}

-- logon: 8=FIX.4.2|9=61|35=A|49=FUND|56=BROKER|34=1|52=20121226-01:00:00|98=0|108=30|10=016|
abbrev pub logon : List ℕ
logon =
    56 ∷ 61 ∷ 70 ∷ 73 ∷ 88 ∷ 46 ∷ 52 ∷ 46 ∷ 50 ∷ 1 ∷ 57 ∷ 61 ∷ 54 ∷ 49 ∷ 1 ∷ 51 ∷ 53 ∷ 61 ∷ 65 ∷ 1 ∷ 52 ∷ 57 ∷ 61 ∷
    70 ∷ 85 ∷ 78 ∷ 68 ∷ 1 ∷ 53 ∷ 54 ∷ 61 ∷ 66 ∷ 82 ∷ 79 ∷ 75 ∷ 69 ∷ 82 ∷ 1 ∷ 51 ∷ 52 ∷ 61 ∷ 49 ∷ 1 ∷ 53 ∷ 50 ∷ 61 ∷
    50 ∷ 48 ∷ 49 ∷ 50 ∷ 49 ∷ 50 ∷ 50 ∷ 54 ∷ 45 ∷ 48 ∷ 49 ∷ 58 ∷ 48 ∷ 48 ∷ 58 ∷ 48 ∷ 48 ∷ 1 ∷ 57 ∷ 56 ∷ 61 ∷ 48 ∷ 1 ∷
    49 ∷ 48 ∷ 56 ∷ 61 ∷ 51 ∷ 48 ∷ 1 ∷ 49 ∷ 48 ∷ 61 ∷ 48 ∷ 49 ∷ 54 ∷ 1 ∷ []

-- heartbeat, equal: 8=FIX.4.2|9=49|35=0|49=FUND|56=BROKER|34=5|52=20121226-01:00:00|10=240|
abbrev pub heartbeat_equal : List ℕ
heartbeat_equal =
    56 ∷ 61 ∷ 70 ∷ 73 ∷ 88 ∷ 46 ∷ 52 ∷ 46 ∷ 50 ∷ 1 ∷ 57 ∷ 61 ∷ 52 ∷ 57 ∷ 1 ∷ 51 ∷ 53 ∷ 61 ∷ 48 ∷ 1 ∷ 52 ∷ 57 ∷ 61 ∷
    70 ∷ 85 ∷ 78 ∷ 68 ∷ 1 ∷ 53 ∷ 54 ∷ 61 ∷ 66 ∷ 82 ∷ 79 ∷ 75 ∷ 69 ∷ 82 ∷ 1 ∷ 51 ∷ 52 ∷ 61 ∷ 53 ∷ 1 ∷ 53 ∷ 50 ∷ 61 ∷
    50 ∷ 48 ∷ 49 ∷ 50 ∷ 49 ∷ 50 ∷ 50 ∷ 54 ∷ 45 ∷ 48 ∷ 49 ∷ 58 ∷ 48 ∷ 48 ∷ 58 ∷ 48 ∷ 48 ∷ 1 ∷ 49 ∷ 48 ∷ 61 ∷ 50 ∷ 52 ∷
    48 ∷ 1 ∷ []

-- heartbeat, lower, flag: 8=FIX.4.2|9=54|35=0|49=FUND|56=BROKER|34=5|52=20121226-01:00:00|43=Y|10=234|
abbrev pub heartbeat_lower_flag : List ℕ
heartbeat_lower_flag =
    56 ∷ 61 ∷ 70 ∷ 73 ∷ 88 ∷ 46 ∷ 52 ∷ 46 ∷ 50 ∷ 1 ∷ 57 ∷ 61 ∷ 53 ∷ 52 ∷ 1 ∷ 51 ∷ 53 ∷ 61 ∷ 48 ∷ 1 ∷ 52 ∷ 57 ∷ 61 ∷
    70 ∷ 85 ∷ 78 ∷ 68 ∷ 1 ∷ 53 ∷ 54 ∷ 61 ∷ 66 ∷ 82 ∷ 79 ∷ 75 ∷ 69 ∷ 82 ∷ 1 ∷ 51 ∷ 52 ∷ 61 ∷ 53 ∷ 1 ∷ 53 ∷ 50 ∷ 61 ∷
    50 ∷ 48 ∷ 49 ∷ 50 ∷ 49 ∷ 50 ∷ 50 ∷ 54 ∷ 45 ∷ 48 ∷ 49 ∷ 58 ∷ 48 ∷ 48 ∷ 58 ∷ 48 ∷ 48 ∷ 1 ∷ 52 ∷ 51 ∷ 61 ∷ 89 ∷ 1 ∷
    49 ∷ 48 ∷ 61 ∷ 50 ∷ 51 ∷ 52 ∷ 1 ∷ []

-- heartbeat, lower, flag N: 8=FIX.4.2|9=54|35=0|49=FUND|56=BROKER|34=5|52=20121226-01:00:00|43=N|10=223|
abbrev pub heartbeat_lower_flag_n : List ℕ
heartbeat_lower_flag_n =
    56 ∷ 61 ∷ 70 ∷ 73 ∷ 88 ∷ 46 ∷ 52 ∷ 46 ∷ 50 ∷ 1 ∷ 57 ∷ 61 ∷ 53 ∷ 52 ∷ 1 ∷ 51 ∷ 53 ∷ 61 ∷ 48 ∷ 1 ∷ 52 ∷ 57 ∷ 61 ∷
    70 ∷ 85 ∷ 78 ∷ 68 ∷ 1 ∷ 53 ∷ 54 ∷ 61 ∷ 66 ∷ 82 ∷ 79 ∷ 75 ∷ 69 ∷ 82 ∷ 1 ∷ 51 ∷ 52 ∷ 61 ∷ 53 ∷ 1 ∷ 53 ∷ 50 ∷ 61 ∷
    50 ∷ 48 ∷ 49 ∷ 50 ∷ 49 ∷ 50 ∷ 50 ∷ 54 ∷ 45 ∷ 48 ∷ 49 ∷ 58 ∷ 48 ∷ 48 ∷ 58 ∷ 48 ∷ 48 ∷ 1 ∷ 52 ∷ 51 ∷ 61 ∷ 78 ∷ 1 ∷
    49 ∷ 48 ∷ 61 ∷ 50 ∷ 50 ∷ 51 ∷ 1 ∷ []

-- number with zeros in front: 8=FIX.4.2|9=51|35=0|49=FUND|56=BROKER|34=005|52=20121226-01:00:00|10=073|
abbrev pub number_with_zeros_in_front : List ℕ
number_with_zeros_in_front =
    56 ∷ 61 ∷ 70 ∷ 73 ∷ 88 ∷ 46 ∷ 52 ∷ 46 ∷ 50 ∷ 1 ∷ 57 ∷ 61 ∷ 53 ∷ 49 ∷ 1 ∷ 51 ∷ 53 ∷ 61 ∷ 48 ∷ 1 ∷ 52 ∷ 57 ∷ 61 ∷
    70 ∷ 85 ∷ 78 ∷ 68 ∷ 1 ∷ 53 ∷ 54 ∷ 61 ∷ 66 ∷ 82 ∷ 79 ∷ 75 ∷ 69 ∷ 82 ∷ 1 ∷ 51 ∷ 52 ∷ 61 ∷ 48 ∷ 48 ∷ 53 ∷ 1 ∷ 53 ∷
    50 ∷ 61 ∷ 50 ∷ 48 ∷ 49 ∷ 50 ∷ 49 ∷ 50 ∷ 50 ∷ 54 ∷ 45 ∷ 48 ∷ 49 ∷ 58 ∷ 48 ∷ 48 ∷ 58 ∷ 48 ∷ 48 ∷ 1 ∷ 49 ∷ 48 ∷ 61 ∷
    48 ∷ 55 ∷ 51 ∷ 1 ∷ []

-- test request: 8=FIX.4.2|9=56|35=1|49=FUND|56=BROKER|34=5|52=20121226-01:00:00|112=T1|10=070|
abbrev pub test_request : List ℕ
test_request =
    56 ∷ 61 ∷ 70 ∷ 73 ∷ 88 ∷ 46 ∷ 52 ∷ 46 ∷ 50 ∷ 1 ∷ 57 ∷ 61 ∷ 53 ∷ 54 ∷ 1 ∷ 51 ∷ 53 ∷ 61 ∷ 49 ∷ 1 ∷ 52 ∷ 57 ∷ 61 ∷
    70 ∷ 85 ∷ 78 ∷ 68 ∷ 1 ∷ 53 ∷ 54 ∷ 61 ∷ 66 ∷ 82 ∷ 79 ∷ 75 ∷ 69 ∷ 82 ∷ 1 ∷ 51 ∷ 52 ∷ 61 ∷ 53 ∷ 1 ∷ 53 ∷ 50 ∷ 61 ∷
    50 ∷ 48 ∷ 49 ∷ 50 ∷ 49 ∷ 50 ∷ 50 ∷ 54 ∷ 45 ∷ 48 ∷ 49 ∷ 58 ∷ 48 ∷ 48 ∷ 58 ∷ 48 ∷ 48 ∷ 1 ∷ 49 ∷ 49 ∷ 50 ∷ 61 ∷ 84 ∷
    49 ∷ 1 ∷ 49 ∷ 48 ∷ 61 ∷ 48 ∷ 55 ∷ 48 ∷ 1 ∷ []

-- test request, 112 missing: 8=FIX.4.2|9=49|35=1|49=FUND|56=BROKER|34=5|52=20121226-01:00:00|10=241|
abbrev pub test_request112_missing : List ℕ
test_request112_missing =
    56 ∷ 61 ∷ 70 ∷ 73 ∷ 88 ∷ 46 ∷ 52 ∷ 46 ∷ 50 ∷ 1 ∷ 57 ∷ 61 ∷ 52 ∷ 57 ∷ 1 ∷ 51 ∷ 53 ∷ 61 ∷ 49 ∷ 1 ∷ 52 ∷ 57 ∷ 61 ∷
    70 ∷ 85 ∷ 78 ∷ 68 ∷ 1 ∷ 53 ∷ 54 ∷ 61 ∷ 66 ∷ 82 ∷ 79 ∷ 75 ∷ 69 ∷ 82 ∷ 1 ∷ 51 ∷ 52 ∷ 61 ∷ 53 ∷ 1 ∷ 53 ∷ 50 ∷ 61 ∷
    50 ∷ 48 ∷ 49 ∷ 50 ∷ 49 ∷ 50 ∷ 50 ∷ 54 ∷ 45 ∷ 48 ∷ 49 ∷ 58 ∷ 48 ∷ 48 ∷ 58 ∷ 48 ∷ 48 ∷ 1 ∷ 49 ∷ 48 ∷ 61 ∷ 50 ∷ 52 ∷
    49 ∷ 1 ∷ []

-- resend request, all that follow: 8=FIX.4.2|9=58|35=2|49=FUND|56=BROKER|34=5|52=20121226-01:00:00|7=3|16=0|10=111|
abbrev pub resend_request_all_that_follow : List ℕ
resend_request_all_that_follow =
    56 ∷ 61 ∷ 70 ∷ 73 ∷ 88 ∷ 46 ∷ 52 ∷ 46 ∷ 50 ∷ 1 ∷ 57 ∷ 61 ∷ 53 ∷ 56 ∷ 1 ∷ 51 ∷ 53 ∷ 61 ∷ 50 ∷ 1 ∷ 52 ∷ 57 ∷ 61 ∷
    70 ∷ 85 ∷ 78 ∷ 68 ∷ 1 ∷ 53 ∷ 54 ∷ 61 ∷ 66 ∷ 82 ∷ 79 ∷ 75 ∷ 69 ∷ 82 ∷ 1 ∷ 51 ∷ 52 ∷ 61 ∷ 53 ∷ 1 ∷ 53 ∷ 50 ∷ 61 ∷
    50 ∷ 48 ∷ 49 ∷ 50 ∷ 49 ∷ 50 ∷ 50 ∷ 54 ∷ 45 ∷ 48 ∷ 49 ∷ 58 ∷ 48 ∷ 48 ∷ 58 ∷ 48 ∷ 48 ∷ 1 ∷ 55 ∷ 61 ∷ 51 ∷ 1 ∷ 49 ∷
    54 ∷ 61 ∷ 48 ∷ 1 ∷ 49 ∷ 48 ∷ 61 ∷ 49 ∷ 49 ∷ 49 ∷ 1 ∷ []

-- resend request, last below first: 8=FIX.4.2|9=58|35=2|49=FUND|56=BROKER|34=5|52=20121226-01:00:00|7=4|16=3|10=115|
abbrev pub resend_request_last_below_first : List ℕ
resend_request_last_below_first =
    56 ∷ 61 ∷ 70 ∷ 73 ∷ 88 ∷ 46 ∷ 52 ∷ 46 ∷ 50 ∷ 1 ∷ 57 ∷ 61 ∷ 53 ∷ 56 ∷ 1 ∷ 51 ∷ 53 ∷ 61 ∷ 50 ∷ 1 ∷ 52 ∷ 57 ∷ 61 ∷
    70 ∷ 85 ∷ 78 ∷ 68 ∷ 1 ∷ 53 ∷ 54 ∷ 61 ∷ 66 ∷ 82 ∷ 79 ∷ 75 ∷ 69 ∷ 82 ∷ 1 ∷ 51 ∷ 52 ∷ 61 ∷ 53 ∷ 1 ∷ 53 ∷ 50 ∷ 61 ∷
    50 ∷ 48 ∷ 49 ∷ 50 ∷ 49 ∷ 50 ∷ 50 ∷ 54 ∷ 45 ∷ 48 ∷ 49 ∷ 58 ∷ 48 ∷ 48 ∷ 58 ∷ 48 ∷ 48 ∷ 1 ∷ 55 ∷ 61 ∷ 52 ∷ 1 ∷ 49 ∷
    54 ∷ 61 ∷ 51 ∷ 1 ∷ 49 ∷ 48 ∷ 61 ∷ 49 ∷ 49 ∷ 53 ∷ 1 ∷ []

-- gap fill, equal: 8=FIX.4.2|9=60|35=4|49=FUND|56=BROKER|34=5|52=20121226-01:00:00|123=Y|36=9|10=250|
abbrev pub gap_fill_equal : List ℕ
gap_fill_equal =
    56 ∷ 61 ∷ 70 ∷ 73 ∷ 88 ∷ 46 ∷ 52 ∷ 46 ∷ 50 ∷ 1 ∷ 57 ∷ 61 ∷ 54 ∷ 48 ∷ 1 ∷ 51 ∷ 53 ∷ 61 ∷ 52 ∷ 1 ∷ 52 ∷ 57 ∷ 61 ∷
    70 ∷ 85 ∷ 78 ∷ 68 ∷ 1 ∷ 53 ∷ 54 ∷ 61 ∷ 66 ∷ 82 ∷ 79 ∷ 75 ∷ 69 ∷ 82 ∷ 1 ∷ 51 ∷ 52 ∷ 61 ∷ 53 ∷ 1 ∷ 53 ∷ 50 ∷ 61 ∷
    50 ∷ 48 ∷ 49 ∷ 50 ∷ 49 ∷ 50 ∷ 50 ∷ 54 ∷ 45 ∷ 48 ∷ 49 ∷ 58 ∷ 48 ∷ 48 ∷ 58 ∷ 48 ∷ 48 ∷ 1 ∷ 49 ∷ 50 ∷ 51 ∷ 61 ∷ 89 ∷
    1 ∷ 51 ∷ 54 ∷ 61 ∷ 57 ∷ 1 ∷ 49 ∷ 48 ∷ 61 ∷ 50 ∷ 53 ∷ 48 ∷ 1 ∷ []

-- reset, lower, no flag: 8=FIX.4.2|9=54|35=4|49=FUND|56=BROKER|34=5|52=20121226-01:00:00|36=9|10=208|
abbrev pub reset_lower_no_flag : List ℕ
reset_lower_no_flag =
    56 ∷ 61 ∷ 70 ∷ 73 ∷ 88 ∷ 46 ∷ 52 ∷ 46 ∷ 50 ∷ 1 ∷ 57 ∷ 61 ∷ 53 ∷ 52 ∷ 1 ∷ 51 ∷ 53 ∷ 61 ∷ 52 ∷ 1 ∷ 52 ∷ 57 ∷ 61 ∷
    70 ∷ 85 ∷ 78 ∷ 68 ∷ 1 ∷ 53 ∷ 54 ∷ 61 ∷ 66 ∷ 82 ∷ 79 ∷ 75 ∷ 69 ∷ 82 ∷ 1 ∷ 51 ∷ 52 ∷ 61 ∷ 53 ∷ 1 ∷ 53 ∷ 50 ∷ 61 ∷
    50 ∷ 48 ∷ 49 ∷ 50 ∷ 49 ∷ 50 ∷ 50 ∷ 54 ∷ 45 ∷ 48 ∷ 49 ∷ 58 ∷ 48 ∷ 48 ∷ 58 ∷ 48 ∷ 48 ∷ 1 ∷ 51 ∷ 54 ∷ 61 ∷ 57 ∷ 1 ∷
    49 ∷ 48 ∷ 61 ∷ 50 ∷ 48 ∷ 56 ∷ 1 ∷ []

-- logout: 8=FIX.4.2|9=56|35=5|49=FUND|56=BROKER|34=5|52=20121226-01:00:00|58=bye|10=222|
abbrev pub logout : List ℕ
logout =
    56 ∷ 61 ∷ 70 ∷ 73 ∷ 88 ∷ 46 ∷ 52 ∷ 46 ∷ 50 ∷ 1 ∷ 57 ∷ 61 ∷ 53 ∷ 54 ∷ 1 ∷ 51 ∷ 53 ∷ 61 ∷ 53 ∷ 1 ∷ 52 ∷ 57 ∷ 61 ∷
    70 ∷ 85 ∷ 78 ∷ 68 ∷ 1 ∷ 53 ∷ 54 ∷ 61 ∷ 66 ∷ 82 ∷ 79 ∷ 75 ∷ 69 ∷ 82 ∷ 1 ∷ 51 ∷ 52 ∷ 61 ∷ 53 ∷ 1 ∷ 53 ∷ 50 ∷ 61 ∷
    50 ∷ 48 ∷ 49 ∷ 50 ∷ 49 ∷ 50 ∷ 50 ∷ 54 ∷ 45 ∷ 48 ∷ 49 ∷ 58 ∷ 48 ∷ 48 ∷ 58 ∷ 48 ∷ 48 ∷ 1 ∷ 53 ∷ 56 ∷ 61 ∷ 98 ∷ 121
    ∷ 101 ∷ 1 ∷ 49 ∷ 48 ∷ 61 ∷ 50 ∷ 50 ∷ 50 ∷ 1 ∷ []

-- raw data with SOH inside:
-- 8=FIX.4.2|9=75|35=A|49=FUND|56=BROKER|34=5|52=20121226-01:00:00|98=0|108=30|95=5|96=a|b=c|10=011|
abbrev pub raw_data_with_soh_inside : List ℕ
raw_data_with_soh_inside =
    56 ∷ 61 ∷ 70 ∷ 73 ∷ 88 ∷ 46 ∷ 52 ∷ 46 ∷ 50 ∷ 1 ∷ 57 ∷ 61 ∷ 55 ∷ 53 ∷ 1 ∷ 51 ∷ 53 ∷ 61 ∷ 65 ∷ 1 ∷ 52 ∷ 57 ∷ 61 ∷
    70 ∷ 85 ∷ 78 ∷ 68 ∷ 1 ∷ 53 ∷ 54 ∷ 61 ∷ 66 ∷ 82 ∷ 79 ∷ 75 ∷ 69 ∷ 82 ∷ 1 ∷ 51 ∷ 52 ∷ 61 ∷ 53 ∷ 1 ∷ 53 ∷ 50 ∷ 61 ∷
    50 ∷ 48 ∷ 49 ∷ 50 ∷ 49 ∷ 50 ∷ 50 ∷ 54 ∷ 45 ∷ 48 ∷ 49 ∷ 58 ∷ 48 ∷ 48 ∷ 58 ∷ 48 ∷ 48 ∷ 1 ∷ 57 ∷ 56 ∷ 61 ∷ 48 ∷ 1 ∷
    49 ∷ 48 ∷ 56 ∷ 61 ∷ 51 ∷ 48 ∷ 1 ∷ 57 ∷ 53 ∷ 61 ∷ 53 ∷ 1 ∷ 57 ∷ 54 ∷ 61 ∷ 97 ∷ 1 ∷ 98 ∷ 61 ∷ 99 ∷ 1 ∷ 49 ∷ 48 ∷ 61
    ∷ 48 ∷ 49 ∷ 49 ∷ 1 ∷ []

-- raw data, length one less:
-- 8=FIX.4.2|9=75|35=A|49=FUND|56=BROKER|34=5|52=20121226-01:00:00|98=0|108=30|95=4|96=a|b=c|10=010|
abbrev pub raw_data_length_one_less : List ℕ
raw_data_length_one_less =
    56 ∷ 61 ∷ 70 ∷ 73 ∷ 88 ∷ 46 ∷ 52 ∷ 46 ∷ 50 ∷ 1 ∷ 57 ∷ 61 ∷ 55 ∷ 53 ∷ 1 ∷ 51 ∷ 53 ∷ 61 ∷ 65 ∷ 1 ∷ 52 ∷ 57 ∷ 61 ∷
    70 ∷ 85 ∷ 78 ∷ 68 ∷ 1 ∷ 53 ∷ 54 ∷ 61 ∷ 66 ∷ 82 ∷ 79 ∷ 75 ∷ 69 ∷ 82 ∷ 1 ∷ 51 ∷ 52 ∷ 61 ∷ 53 ∷ 1 ∷ 53 ∷ 50 ∷ 61 ∷
    50 ∷ 48 ∷ 49 ∷ 50 ∷ 49 ∷ 50 ∷ 50 ∷ 54 ∷ 45 ∷ 48 ∷ 49 ∷ 58 ∷ 48 ∷ 48 ∷ 58 ∷ 48 ∷ 48 ∷ 1 ∷ 57 ∷ 56 ∷ 61 ∷ 48 ∷ 1 ∷
    49 ∷ 48 ∷ 56 ∷ 61 ∷ 51 ∷ 48 ∷ 1 ∷ 57 ∷ 53 ∷ 61 ∷ 52 ∷ 1 ∷ 57 ∷ 54 ∷ 61 ∷ 97 ∷ 1 ∷ 98 ∷ 61 ∷ 99 ∷ 1 ∷ 49 ∷ 48 ∷ 61
    ∷ 48 ∷ 49 ∷ 48 ∷ 1 ∷ []

-- order, only the number: 8=FIX.4.2|9=10|35=D|34=5|10=187|
abbrev pub order_only_the_number : List ℕ
order_only_the_number =
    56 ∷ 61 ∷ 70 ∷ 73 ∷ 88 ∷ 46 ∷ 52 ∷ 46 ∷ 50 ∷ 1 ∷ 57 ∷ 61 ∷ 49 ∷ 48 ∷ 1 ∷ 51 ∷ 53 ∷ 61 ∷ 68 ∷ 1 ∷ 51 ∷ 52 ∷ 61 ∷
    53 ∷ 1 ∷ 49 ∷ 48 ∷ 61 ∷ 49 ∷ 56 ∷ 55 ∷ 1 ∷ []

-- order, no number: 8=FIX.4.2|9=13|35=D|49=FUND|10=188|
abbrev pub order_no_number : List ℕ
order_no_number =
    56 ∷ 61 ∷ 70 ∷ 73 ∷ 88 ∷ 46 ∷ 52 ∷ 46 ∷ 50 ∷ 1 ∷ 57 ∷ 61 ∷ 49 ∷ 51 ∷ 1 ∷ 51 ∷ 53 ∷ 61 ∷ 68 ∷ 1 ∷ 52 ∷ 57 ∷ 61 ∷
    70 ∷ 85 ∷ 78 ∷ 68 ∷ 1 ∷ 49 ∷ 48 ∷ 61 ∷ 49 ∷ 56 ∷ 56 ∷ 1 ∷ []

-- order, 34 twice: 8=FIX.4.2|9=15|35=D|34=5|34=5|10=154|
abbrev pub order34_twice : List ℕ
order34_twice =
    56 ∷ 61 ∷ 70 ∷ 73 ∷ 88 ∷ 46 ∷ 52 ∷ 46 ∷ 50 ∷ 1 ∷ 57 ∷ 61 ∷ 49 ∷ 53 ∷ 1 ∷ 51 ∷ 53 ∷ 61 ∷ 68 ∷ 1 ∷ 51 ∷ 52 ∷ 61 ∷
    53 ∷ 1 ∷ 51 ∷ 52 ∷ 61 ∷ 53 ∷ 1 ∷ 49 ∷ 48 ∷ 61 ∷ 49 ∷ 53 ∷ 52 ∷ 1 ∷ []

-- order, flag twice: 8=FIX.4.2|9=20|35=D|34=5|43=Y|43=Y|10=184|
abbrev pub order_flag_twice : List ℕ
order_flag_twice =
    56 ∷ 61 ∷ 70 ∷ 73 ∷ 88 ∷ 46 ∷ 52 ∷ 46 ∷ 50 ∷ 1 ∷ 57 ∷ 61 ∷ 50 ∷ 48 ∷ 1 ∷ 51 ∷ 53 ∷ 61 ∷ 68 ∷ 1 ∷ 51 ∷ 52 ∷ 61 ∷
    53 ∷ 1 ∷ 52 ∷ 51 ∷ 61 ∷ 89 ∷ 1 ∷ 52 ∷ 51 ∷ 61 ∷ 89 ∷ 1 ∷ 49 ∷ 48 ∷ 61 ∷ 49 ∷ 56 ∷ 52 ∷ 1 ∷ []

-- order, type twice: 8=FIX.4.2|9=15|35=D|34=5|35=D|10=170|
abbrev pub order_type_twice : List ℕ
order_type_twice =
    56 ∷ 61 ∷ 70 ∷ 73 ∷ 88 ∷ 46 ∷ 52 ∷ 46 ∷ 50 ∷ 1 ∷ 57 ∷ 61 ∷ 49 ∷ 53 ∷ 1 ∷ 51 ∷ 53 ∷ 61 ∷ 68 ∷ 1 ∷ 51 ∷ 52 ∷ 61 ∷
    53 ∷ 1 ∷ 51 ∷ 53 ∷ 61 ∷ 68 ∷ 1 ∷ 49 ∷ 48 ∷ 61 ∷ 49 ∷ 55 ∷ 48 ∷ 1 ∷ []

-- order, 34 twice, one no number: 8=FIX.4.2|9=15|35=D|34=5|34=x|10=221|
abbrev pub order34_twice_one_no_number : List ℕ
order34_twice_one_no_number =
    56 ∷ 61 ∷ 70 ∷ 73 ∷ 88 ∷ 46 ∷ 52 ∷ 46 ∷ 50 ∷ 1 ∷ 57 ∷ 61 ∷ 49 ∷ 53 ∷ 1 ∷ 51 ∷ 53 ∷ 61 ∷ 68 ∷ 1 ∷ 51 ∷ 52 ∷ 61 ∷
    53 ∷ 1 ∷ 51 ∷ 52 ∷ 61 ∷ 120 ∷ 1 ∷ 49 ∷ 48 ∷ 61 ∷ 50 ∷ 50 ∷ 49 ∷ 1 ∷ []

-- tag with a zero in front: 8=FIX.4.2|9=11|35=D|034=5|10=236|
abbrev pub tag_with_a_zero_in_front : List ℕ
tag_with_a_zero_in_front =
    56 ∷ 61 ∷ 70 ∷ 73 ∷ 88 ∷ 46 ∷ 52 ∷ 46 ∷ 50 ∷ 1 ∷ 57 ∷ 61 ∷ 49 ∷ 49 ∷ 1 ∷ 51 ∷ 53 ∷ 61 ∷ 68 ∷ 1 ∷ 48 ∷ 51 ∷ 52 ∷
    61 ∷ 53 ∷ 1 ∷ 49 ∷ 48 ∷ 61 ∷ 50 ∷ 51 ∷ 54 ∷ 1 ∷ []

-- body length with a zero in front: 8=FIX.4.2|9=010|35=D|34=5|10=235|
abbrev pub body_length_with_a_zero_in_front : List ℕ
body_length_with_a_zero_in_front =
    56 ∷ 61 ∷ 70 ∷ 73 ∷ 88 ∷ 46 ∷ 52 ∷ 46 ∷ 50 ∷ 1 ∷ 57 ∷ 61 ∷ 48 ∷ 49 ∷ 48 ∷ 1 ∷ 51 ∷ 53 ∷ 61 ∷ 68 ∷ 1 ∷ 51 ∷ 52 ∷
    61 ∷ 53 ∷ 1 ∷ 49 ∷ 48 ∷ 61 ∷ 50 ∷ 51 ∷ 53 ∷ 1 ∷ []

-- ten digits: 8=FIX.4.2|9=19|35=D|34=0000000005|10=116|
abbrev pub ten_digits : List ℕ
ten_digits =
    56 ∷ 61 ∷ 70 ∷ 73 ∷ 88 ∷ 46 ∷ 52 ∷ 46 ∷ 50 ∷ 1 ∷ 57 ∷ 61 ∷ 49 ∷ 57 ∷ 1 ∷ 51 ∷ 53 ∷ 61 ∷ 68 ∷ 1 ∷ 51 ∷ 52 ∷ 61 ∷
    48 ∷ 48 ∷ 48 ∷ 48 ∷ 48 ∷ 48 ∷ 48 ∷ 48 ∷ 48 ∷ 53 ∷ 1 ∷ 49 ∷ 48 ∷ 61 ∷ 49 ∷ 49 ∷ 54 ∷ 1 ∷ []

-- empty text: 8=FIX.4.2|9=14|35=D|34=5|58=|10=106|
abbrev pub empty_text : List ℕ
empty_text =
    56 ∷ 61 ∷ 70 ∷ 73 ∷ 88 ∷ 46 ∷ 52 ∷ 46 ∷ 50 ∷ 1 ∷ 57 ∷ 61 ∷ 49 ∷ 52 ∷ 1 ∷ 51 ∷ 53 ∷ 61 ∷ 68 ∷ 1 ∷ 51 ∷ 52 ∷ 61 ∷
    53 ∷ 1 ∷ 53 ∷ 56 ∷ 61 ∷ 1 ∷ 49 ∷ 48 ∷ 61 ∷ 49 ∷ 48 ∷ 54 ∷ 1 ∷ []

-- checksum one more: 8=FIX.4.2|9=10|35=D|34=5|10=188|
abbrev pub checksum_one_more : List ℕ
checksum_one_more =
    56 ∷ 61 ∷ 70 ∷ 73 ∷ 88 ∷ 46 ∷ 52 ∷ 46 ∷ 50 ∷ 1 ∷ 57 ∷ 61 ∷ 49 ∷ 48 ∷ 1 ∷ 51 ∷ 53 ∷ 61 ∷ 68 ∷ 1 ∷ 51 ∷ 52 ∷ 61 ∷
    53 ∷ 1 ∷ 49 ∷ 48 ∷ 61 ∷ 49 ∷ 56 ∷ 56 ∷ 1 ∷ []

-- other begin string: 8=CSIFP.1.0.0|9=10|35=D|34=5|10=162|
abbrev pub other_begin_string : List ℕ
other_begin_string =
    56 ∷ 61 ∷ 67 ∷ 83 ∷ 73 ∷ 70 ∷ 80 ∷ 46 ∷ 49 ∷ 46 ∷ 48 ∷ 46 ∷ 48 ∷ 1 ∷ 57 ∷ 61 ∷ 49 ∷ 48 ∷ 1 ∷ 51 ∷ 53 ∷ 61 ∷ 68 ∷
    1 ∷ 51 ∷ 52 ∷ 61 ∷ 53 ∷ 1 ∷ 49 ∷ 48 ∷ 61 ∷ 49 ∷ 54 ∷ 50 ∷ 1 ∷ []

-- the last number there is: 8=FIX.4.2|9=18|35=D|34=999999999|10=143|
abbrev pub the_last_number_there_is : List ℕ
the_last_number_there_is =
    56 ∷ 61 ∷ 70 ∷ 73 ∷ 88 ∷ 46 ∷ 52 ∷ 46 ∷ 50 ∷ 1 ∷ 57 ∷ 61 ∷ 49 ∷ 56 ∷ 1 ∷ 51 ∷ 53 ∷ 61 ∷ 68 ∷ 1 ∷ 51 ∷ 52 ∷ 61 ∷
    57 ∷ 57 ∷ 57 ∷ 57 ∷ 57 ∷ 57 ∷ 57 ∷ 57 ∷ 57 ∷ 1 ∷ 49 ∷ 48 ∷ 61 ∷ 49 ∷ 52 ∷ 51 ∷ 1 ∷ []

-- two frames: 8=FIX.4.2|9=10|35=D|34=5|10=187|8=FIX.4.2|9=10|35=D|34=6|10=188|
abbrev pub two_frames : List ℕ
two_frames =
    56 ∷ 61 ∷ 70 ∷ 73 ∷ 88 ∷ 46 ∷ 52 ∷ 46 ∷ 50 ∷ 1 ∷ 57 ∷ 61 ∷ 49 ∷ 48 ∷ 1 ∷ 51 ∷ 53 ∷ 61 ∷ 68 ∷ 1 ∷ 51 ∷ 52 ∷ 61 ∷
    53 ∷ 1 ∷ 49 ∷ 48 ∷ 61 ∷ 49 ∷ 56 ∷ 55 ∷ 1 ∷ 56 ∷ 61 ∷ 70 ∷ 73 ∷ 88 ∷ 46 ∷ 52 ∷ 46 ∷ 50 ∷ 1 ∷ 57 ∷ 61 ∷ 49 ∷ 48 ∷ 1
    ∷ 51 ∷ 53 ∷ 61 ∷ 68 ∷ 1 ∷ 51 ∷ 52 ∷ 61 ∷ 54 ∷ 1 ∷ 49 ∷ 48 ∷ 61 ∷ 49 ∷ 56 ∷ 56 ∷ 1 ∷ []

-- resend request, a range: 8=FIX.4.2|9=58|35=2|49=FUND|56=BROKER|34=5|52=20121226-01:00:00|16=4|7=2|10=114|
abbrev pub resend_request_range : List ℕ
resend_request_range =
    56 ∷ 61 ∷ 70 ∷ 73 ∷ 88 ∷ 46 ∷ 52 ∷ 46 ∷ 50 ∷ 1 ∷ 57 ∷ 61 ∷ 53 ∷ 56 ∷ 1 ∷ 51 ∷ 53 ∷ 61 ∷ 50 ∷ 1 ∷ 52 ∷ 57 ∷ 61 ∷ 70 ∷
    85 ∷ 78 ∷ 68 ∷ 1 ∷ 53 ∷ 54 ∷ 61 ∷ 66 ∷ 82 ∷ 79 ∷ 75 ∷ 69 ∷ 82 ∷ 1 ∷ 51 ∷ 52 ∷ 61 ∷ 53 ∷ 1 ∷ 53 ∷ 50 ∷ 61 ∷ 50 ∷ 48 ∷
    49 ∷ 50 ∷ 49 ∷ 50 ∷ 50 ∷ 54 ∷ 45 ∷ 48 ∷ 49 ∷ 58 ∷ 48 ∷ 48 ∷ 58 ∷ 48 ∷ 48 ∷ 1 ∷ 49 ∷ 54 ∷ 61 ∷ 52 ∷ 1 ∷ 55 ∷ 61 ∷ 50
    ∷ 1 ∷ 49 ∷ 48 ∷ 61 ∷ 49 ∷ 49 ∷ 52 ∷ 1 ∷ []

-- a type of two letters, the first that of a logon: 8=FIX.4.2|9=11|35=AE|34=5|10=254|
abbrev pub type_of_two_letters : List ℕ
type_of_two_letters =
    56 ∷ 61 ∷ 70 ∷ 73 ∷ 88 ∷ 46 ∷ 52 ∷ 46 ∷ 50 ∷ 1 ∷ 57 ∷ 61 ∷ 49 ∷ 49 ∷ 1 ∷ 51 ∷ 53 ∷ 61 ∷ 65 ∷ 69 ∷ 1 ∷ 51 ∷ 52 ∷ 61 ∷
    53 ∷ 1 ∷ 49 ∷ 48 ∷ 61 ∷ 50 ∷ 53 ∷ 52 ∷ 1 ∷ []

-- Next is 1, again 2, gap 3, reset 4, a refusal its number.
abbrev pub answer_number : Judged → ℕ
answer_number (Refused r) = number_of r
answer_number (Next m) = 1
answer_number (Again m) = 2
answer_number (Gap m) = 3
answer_number (Reset m) = 4

-- A frame, the number expected, the paper's answer, and the number expected then.
pub record Line : Type 0 where
  pub frame : List ℕ
  pub expected : ℕ
  pub answer : ℕ
  pub then : ℕ

abbrev pub line : List ℕ → ℕ → ℕ → ℕ → Line
line frame expected answer then = record { frame = frame; expected = expected; answer = answer; then = then }

abbrev pub table : List Line
table =
    line logon 1 1 2 ∷
    line heartbeat_equal 5 1 6 ∷
    line heartbeat_equal 3 3 3 ∷
    line heartbeat_equal 9 30 9 ∷
    line heartbeat_lower_flag 9 2 9 ∷
    line heartbeat_lower_flag 5 1 6 ∷
    line heartbeat_lower_flag 3 3 3 ∷
    line heartbeat_lower_flag_n 9 30 9 ∷
    line number_with_zeros_in_front 5 1 6 ∷
    line test_request 5 1 6 ∷
    line test_request112_missing 5 29 5 ∷
    line resend_request_all_that_follow 5 1 6 ∷
    line resend_request_range 5 1 6 ∷
    line resend_request_last_below_first 5 28 5 ∷
    line gap_fill_equal 5 1 6 ∷
    line gap_fill_equal 3 3 3 ∷
    line gap_fill_equal 7 30 7 ∷
    line reset_lower_no_flag 7 4 7 ∷
    line reset_lower_no_flag 5 4 5 ∷
    line reset_lower_no_flag 3 4 3 ∷
    line logout 5 1 6 ∷
    line raw_data_with_soh_inside 5 1 6 ∷
    line raw_data_length_one_less 5 28 5 ∷
    line order_only_the_number 5 1 6 ∷
    line type_of_two_letters 5 1 6 ∷
    line order_no_number 5 29 5 ∷
    line order34_twice 5 29 5 ∷
    line order_flag_twice 5 29 5 ∷
    line order_type_twice 5 29 5 ∷
    line order34_twice_one_no_number 5 28 5 ∷
    line tag_with_a_zero_in_front 5 28 5 ∷
    line body_length_with_a_zero_in_front 5 28 5 ∷
    line ten_digits 5 28 5 ∷
    line empty_text 5 28 5 ∷
    line checksum_one_more 5 28 5 ∷
    line other_begin_string 5 28 5 ∷
    line the_last_number_there_is 999999999 1 1000000000 ∷
    line the_last_number_there_is 1000000000 30 1000000000 ∷
    line two_frames 5 28 5 ∷
    []

abbrev pub holds : Line → Bool
holds x =
    eqb (answer_number (read_of x.frame x.expected).answer) x.answer
    && eqb (read_of x.frame x.expected).expected x.then

abbrev pub all_hold : List Line → Bool
all_hold [] = true
all_hold (x ∷ xs) = holds x && all_hold xs

-- ─── Every value of a message ───

abbrev pub kind_number : Kind → ℕ
kind_number Heartbeat = 0
kind_number TestRequest = 1
kind_number ResendRequest = 2
kind_number SequenceReset = 4
kind_number Logout = 5
kind_number Logon = 6
kind_number Other = 7

-- A frame, the number expected, and what its message says: kind, number, first and second value, the type's text, the
-- text of the first value, gap fill.
pub record Row : Type 0 where
  pub frame : List ℕ
  pub expected : ℕ
  pub kind : Kind
  pub number : ℕ
  pub first : ℕ
  pub second : ℕ
  pub name : List ℕ
  pub text : List ℕ
  pub fill : Bool

abbrev pub row : List ℕ → ℕ → Kind → ℕ → ℕ → ℕ → List ℕ → List ℕ → Bool → Row
row frame expected kind number first second name text fill =
    record {
      frame = frame;
      expected = expected;
      kind = kind;
      number = number;
      first = first;
      second = second;
      name = name;
      text = text;
      fill = fill;
    }

-- As next, again, gap and reset; each of the six types, and others.
abbrev pub rows : List Row
rows =
    row logon 1 Logon 1 0 30 (65 ∷ []) (48 ∷ []) false ∷
    row heartbeat_equal 5 Heartbeat 5 0 0 (48 ∷ []) [] false ∷
    row heartbeat_equal 3 Heartbeat 5 0 0 (48 ∷ []) [] false ∷
    row heartbeat_lower_flag 9 Heartbeat 5 0 0 (48 ∷ []) [] false ∷
    row test_request 5 TestRequest 5 0 0 (49 ∷ []) (84 ∷ 49 ∷ []) false ∷
    row resend_request_all_that_follow 5 ResendRequest 5 3 0 (50 ∷ []) (51 ∷ []) false ∷
    row resend_request_range 5 ResendRequest 5 2 4 (50 ∷ []) (50 ∷ []) false ∷
    row resend_request_range 1 ResendRequest 5 2 4 (50 ∷ []) (50 ∷ []) false ∷
    row gap_fill_equal 5 SequenceReset 5 9 0 (52 ∷ []) (57 ∷ []) true ∷
    row reset_lower_no_flag 7 SequenceReset 5 9 0 (52 ∷ []) (57 ∷ []) false ∷
    row logout 5 Logout 5 0 0 (53 ∷ []) [] false ∷
    row raw_data_with_soh_inside 5 Logon 5 0 30 (65 ∷ []) (48 ∷ []) false ∷
    row order_only_the_number 5 Other 5 0 0 (68 ∷ []) [] false ∷
    row type_of_two_letters 5 Other 5 0 0 (65 ∷ 69 ∷ []) [] false ∷
    []

abbrev pub same_text : List ℕ → List ℕ → Bool
same_text [] [] = true
same_text [] (y ∷ ys) = false
same_text (x ∷ xs) [] = false
same_text (x ∷ xs) (y ∷ ys) = eqb x y && same_text xs ys

abbrev pub says : Row → Option Message → Bool
says x none = false
says x (some m) =
    eqb (kind_number m.kind) (kind_number x.kind)
    && eqb m.number x.number
    && eqb m.first x.first
    && eqb m.second x.second
    && same_text (part x.frame m.name.start m.name.len) x.name
    && same_text (part x.frame m.text.start m.text.len) x.text
    && cond m.fill x.fill (not x.fill)

abbrev pub all_say : List Row → Bool
all_say [] = true
all_say (x ∷ xs) = says x (message_in (read_of x.frame x.expected).answer) && all_say xs

abbrev pub FrameExamples : Type 0
FrameExamples = T (all_hold table) × T (all_say rows)
