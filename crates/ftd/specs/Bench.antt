-- The bench examples (01, "Bench examples") as rows of one table. What a definition answers and what the paper says
-- stand side by side as lists of numbers, so that examples of every kind fit one table.
use Rattle.std.specs.Prelude.{ℕ, List, [], ◌∷◌, ◌++◌, map, Bool, true, false, cond, ◌&&◌, replicate, eqb, T}
use Rattle.ftd.specs.Bytes.{bytes16, bytes32}
use Rattle.ftd.specs.Refusal.{number_of}
use Rattle.ftd.specs.Packet.{letter_of, chain_letter, read_of}
use Rattle.ftd.specs.Chain.{packets_of}
use Rattle.ftd.specs.Items.{check_of}
use Rattle.ftd.specs.Places.{item_bytes}
use Rattle.ftd.specs.Signed.{float_value}
use Rattle.ftd.specs.Types.{Checked}
use Rattle.ftd.specs.declared.packet.Packet.{Packet}
use Rattle.ftd.specs.declared.packet.Packet.TheVariants.{Short, Link, Skipped, Message}
use Rattle.ftd.specs.declared.packet.Packet.TheVariants.{Refused as RefusedPacket}
use Rattle.std.specs.Prelude.{Some, None, Ok, Err}
use Rattle.ftd.specs.Types.{MaybeSigned}

-- ─── Answers in numbers ───

-- Each answer of the reader: which one it is (0 short, 1 link, 2 skipped, 3 message, 4 refused), and its values.
abbrev pub packet_answer : Packet → List ℕ
packet_answer (Short n) = 0 ∷ n ∷ []
packet_answer (Link kind extension) = 1 ∷ kind ∷ extension.start ∷ extension.len ∷ []
packet_answer (Skipped kind extension body) = 2 ∷ kind ∷ extension.start ∷ extension.len ∷ body.start ∷ body.len ∷ []
packet_answer (Message h extension content) =
    3 ∷ extension.start ∷ extension.len ∷ h.tid ∷ chain_letter h.chain ∷ h.series ∷ h.number ∷ h.fields
    ∷ content.start ∷ content.len ∷ []
packet_answer (RefusedPacket r) = 4 ∷ number_of r ∷ []

abbrev pub short_answer : ℕ → List ℕ
short_answer n = 0 ∷ n ∷ []

abbrev pub refused_answer : ℕ → List ℕ
refused_answer n = 4 ∷ n ∷ []

-- Each value of a Number or a Float: its sign, 1 for minus, and its units.
abbrev pub value_answer : MaybeSigned → List ℕ
value_answer None = []
value_answer (Some found) = cond found.negative 1 0 ∷ found.units ∷ []

-- Each answer of a check of items: refused, or what is read then.
abbrev pub check_answer : Checked → List ℕ → List ℕ
check_answer (Ok tt) value = value
check_answer (Err r) value = refused_answer (number_of r)

-- ─── The table ───

-- An example's number in the paper (0: not numbered there), what the definitions answer, and what the paper says.
pub record BenchRow : Type 0 where
  pub example : ℕ
  pub answer : List ℕ
  pub paper : List ℕ

abbrev pub bench_row : ℕ → List ℕ → List ℕ → BenchRow
bench_row n a b = record { example = n; answer = a; paper = b }

-- A row whose bytes are read.
abbrev pub reads : ℕ → List ℕ → List ℕ → BenchRow
reads n bytes b = bench_row n (packet_answer (read_of bytes)) b

-- The 20-byte packet of the lister's example, by version, chain letter, field count and content length.
abbrev pub sample_packet : ℕ → ℕ → ℕ → ℕ → List ℕ
sample_packet version letter fields len =
    1 ∷ 0 ∷ 0 ∷ 16 ∷ version ∷ 0 ∷ 0 ∷ 32 ∷ 4 ∷ letter ∷ 0 ∷ 1 ∷ 0 ∷ 0 ∷ 0 ∷ 1 ∷ 0 ∷ fields ∷ 0 ∷ len ∷ []

-- A field of n bytes with FID 1, and the chain letters of the packets of a content.
abbrev pub data_field : ℕ → List ℕ
data_field n = bytes32 1 ++ (bytes16 n ++ replicate n 32)

abbrev pub letters_of : List ℕ → List ℕ
letters_of content =
    map (λ (p : List ℕ). letter_of p) (packets_of (record { date = None; tid = 8196; series = 1; number = 1; counted = false }) content)

-- A row whose bytes stand as the price, item 3 of a MarketMatchIncDataField (FID 0x000A, 29 bytes): the field is
-- checked, and the price read as Float 12,4.
abbrev pub prices : ℕ → List ℕ → List ℕ → BenchRow
prices n price b =
    let bytes : List ℕ = 32 ∷ 32 ∷ 32 ∷ 32 ∷ 32 ∷ 32 ∷ 32 ∷ 32 ∷ 32 ∷ 32 ∷ 0 ∷ 0 ∷ price ++ (0 ∷ 0 ∷ 0 ∷ 0 ∷ 0 ∷ []) in
    bench_row n
    (check_answer (check_of (0 ∷ 0 ∷ 0 ∷ 10 ∷ 0 ∷ 29 ∷ bytes)) (value_answer (float_value 4 (item_bytes bytes 10 3)))) b

-- In two lists, as the paper's order has P10 and P11, of the ends, between them.
unfoldable pub up_to_nine : List BenchRow
up_to_nine =
    -- P1 no bytes: short, 4 missing (the numbers of short: 02, No. 1)
    reads 1 [] (short_answer 4)
    -- P2 00 02 00 00 04 00: link
    ∷ reads 2 (0 ∷ 2 ∷ 0 ∷ 0 ∷ 4 ∷ 0 ∷ []) (1 ∷ 0 ∷ 4 ∷ 2 ∷ [])
    -- P3 its first five: short, 1 missing
    ∷ reads 3 (0 ∷ 2 ∷ 0 ∷ 0 ∷ 4 ∷ []) (short_answer 1)
    -- P4 01 80 00 00: 1; 01 7F 00 00: short, 127 missing
    ∷ reads 4 (1 ∷ 128 ∷ 0 ∷ 0 ∷ []) (refused_answer 1)
    ∷ reads 4 (1 ∷ 127 ∷ 0 ∷ 0 ∷ []) (short_answer 127)
    -- P5 00 02 00 00 04 01: 2
    ∷ reads 5 (0 ∷ 2 ∷ 0 ∷ 0 ∷ 4 ∷ 1 ∷ []) (refused_answer 2)
    -- P6 body length 15: 3; 16: short, 16 missing; 4,096: short, 4,096 missing; 4,097: 3
    ∷ reads 6 (1 ∷ 0 ∷ 0 ∷ 15 ∷ []) (refused_answer 3)
    ∷ reads 6 (1 ∷ 0 ∷ 0 ∷ 16 ∷ []) (short_answer 16)
    ∷ reads 6 (1 ∷ 0 ∷ 16 ∷ 0 ∷ []) (short_answer 4096)
    ∷ reads 6 (1 ∷ 0 ∷ 16 ∷ 1 ∷ []) (refused_answer 3)
    -- P7 the 20-byte packet: TID 0x2004, S, series 1, number 1, no field, no content
    ∷ reads 7 (sample_packet 1 83 0 0) (3 ∷ 4 ∷ 0 ∷ 8196 ∷ 83 ∷ 1 ∷ 1 ∷ 0 ∷ 20 ∷ 0 ∷ [])
    -- P8 in it version 2: 4; chain 's': 5; content length 1: 6; field count 1: 7
    ∷ reads 8 (sample_packet 2 83 0 0) (refused_answer 4)
    ∷ reads 8 (sample_packet 1 115 0 0) (refused_answer 5)
    ∷ reads 8 (sample_packet 1 83 0 1) (refused_answer 6)
    ∷ reads 8 (sample_packet 1 83 1 0) (refused_answer 7)
    -- P9 price `0000123.4500`: 1,234,500; `-000012.5000`: -125,000; `-000000.0000`: 9
    ∷ prices 9 (48 ∷ 48 ∷ 48 ∷ 48 ∷ 49 ∷ 50 ∷ 51 ∷ 46 ∷ 52 ∷ 53 ∷ 48 ∷ 48 ∷ []) (0 ∷ 1234500 ∷ [])
    ∷ prices 9 (45 ∷ 48 ∷ 48 ∷ 48 ∷ 48 ∷ 49 ∷ 50 ∷ 46 ∷ 53 ∷ 48 ∷ 48 ∷ 48 ∷ []) (1 ∷ 125000 ∷ [])
    ∷ prices 9 (45 ∷ 48 ∷ 48 ∷ 48 ∷ 48 ∷ 48 ∷ 48 ∷ 46 ∷ 48 ∷ 48 ∷ 48 ∷ 48 ∷ []) (refused_answer 9)
    ∷ []

unfoldable pub twelfth : List BenchRow
twelfth =
    -- P12 fields of 2,034 and 2,034 bytes: S; 2,034 and 2,035: F, L
    bench_row 12 (letters_of (data_field 2034 ++ data_field 2034)) (83 ∷ [])
    ∷ bench_row 12 (letters_of (data_field 2034 ++ data_field 2035)) (70 ∷ 76 ∷ [])
    ∷ []

-- Two more of short (02, No. 1).
unfoldable pub missing_rows : List BenchRow
missing_rows =
    -- 01 80: short, 2 missing, though 1 will come; 02 7F FF FF: short, 65,662 missing
    reads 0 (1 ∷ 128 ∷ []) (short_answer 2)
    ∷ reads 0 (2 ∷ 127 ∷ 255 ∷ 255 ∷ []) (short_answer 65662)
    ∷ []

unfoldable pub bench : List BenchRow
bench = up_to_nine ++ twelfth ++ missing_rows

-- ─── The test ───

abbrev pub same : List ℕ → List ℕ → Bool
same [] [] = true
same [] (y ∷ ys) = false
same (x ∷ xs) [] = false
same (x ∷ xs) (y ∷ ys) = eqb x y && same xs ys

abbrev pub all_same : List BenchRow → Bool
all_same [] = true
all_same (r ∷ rs) = same r.answer r.paper && all_same rs

-- Every row's answer is the paper's.
abbrev pub Bench : Type 0
Bench = T (all_same bench)
