-- Worked examples of requests No. 2 and No. 9, computed over the definitions; the others are run by the program
-- `bookcheck`.
use Rattle.std.specs.Prelude.{ℕ, zero, suc, ◌-◌, List, [], ◌∷◌, ◌++◌, Bool, true, false, cond, ◌&&◌, ℤ, pos, negsuc, T}
use Rattle.ftd.specs.Bytes.{bytes32, joined}
use Rattle.ftd.specs.Refusal.{number_of}
use Rattle.ftd.specs.Fields.{field_with}
use Rattle.ftd.specs.Signed.Write.{float_bytes}
use Rattle.ftd.specs.Bench.{same}
use Rattle.book.specs.declared.levels.Level.{Level}
use Rattle.book.specs.Types.{Mean}
use Rattle.book.specs.declared.calls.Book.{Book}
use Rattle.book.specs.Types.{Outcome}
use Rattle.book.specs.declared.calls.Step.{Step}
use Rattle.book.specs.Types.{Total}
use Rattle.book.specs.Levels.{used}
use Rattle.book.specs.Sums.{added_to, mean_of}
use Rattle.book.specs.Calls.{started, take_of, level_of, book_mean}
use Rattle.std.specs.Prelude.{Some, None, Ok, Err}
use Rattle.book.specs.Types.{MaybeLevel}

-- ─── Messages ───

-- The contract `cu0405`.
abbrev pub code : List ℕ
code = 99 ∷ 117 ∷ 48 ∷ 52 ∷ 48 ∷ 53 ∷ 32 ∷ 32 ∷ 32 ∷ 32 ∷ []

-- Another contract, `al0405`.
abbrev pub other_code : List ℕ
other_code = 97 ∷ 108 ∷ 48 ∷ 52 ∷ 48 ∷ 53 ∷ 32 ∷ 32 ∷ 32 ∷ 32 ∷ []

-- Fields by contract, kind, side, minus, units and volume.
abbrev pub quotation_field : List ℕ → ℕ → ℕ → Bool → ℕ → ℕ → List ℕ
quotation_field contract kind side negative units v =
    field_with 0x000D
    (contract ++ (0 ∷ kind ∷ side ∷ (float_bytes 4 12 negative units ++ (bytes32 v ++ bytes32 0))))

abbrev pub match_field : List ℕ → Bool → ℕ → ℕ → List ℕ
match_field contract negative units v =
    field_with 0x000A (contract ++ (0 ∷ 0 ∷ (float_bytes 4 12 negative units ++ (bytes32 v ++ (0 ∷ [])))))

-- B=v@u, B+v@u, B-v@u, S=v@u, Mv@u of the readings, u in units.
abbrev pub bid : ℕ → ℕ → List ℕ
bid v u = quotation_field code 1 0 false u v

abbrev pub bid_more : ℕ → ℕ → List ℕ
bid_more v u = quotation_field code 0 0 false u v

abbrev pub bid_less : ℕ → ℕ → List ℕ
bid_less v u = quotation_field code 0 0 false u (4294967296 - v)

abbrev pub ask : ℕ → ℕ → List ℕ
ask v u = quotation_field code 1 1 false u v

abbrev pub met : ℕ → ℕ → List ℕ
met v u = match_field code false u v

abbrev pub met_below : ℕ → ℕ → List ℕ
met_below v u = match_field code true u v

-- The same of the other contract: B=v@u, Mv@u.
abbrev pub other_bid : ℕ → ℕ → List ℕ
other_bid v u = quotation_field other_code 1 0 false u v

abbrev pub other_met : ℕ → ℕ → List ℕ
other_met v u = match_field other_code false u v

-- A message, and what the paper says of it: the answer (0: done) and what is shown then.
pub record Line : Type 0 where
  pub tid : ℕ
  pub fields : List (List ℕ)
  pub paper : List ℕ

abbrev pub quotes : List (List ℕ) → List ℕ → Line
quotes fs paper = record { tid = 0x2001; fields = fs; paper = paper }

abbrev pub sends : ℕ → List (List ℕ) → List ℕ → Line
sends tid fs paper = record { tid = tid; fields = fs; paper = paper }

abbrev pub meets : List (List ℕ) → List ℕ → Line
meets fs paper = record { tid = 0x2002; fields = fs; paper = paper }

-- ─── What is shown, as numbers ───

-- A sign (1: minus) and a size.
abbrev pub signed : ℤ → List ℕ
signed (pos n) = 0 ∷ n ∷ []
signed (negsuc n) = 1 ∷ suc n ∷ []

-- The levels of a side up to the first place that is not used: 1, quantity and price of each, and 0.
abbrev pub levels_shown : List Level → List ℕ
levels_shown [] = 0 ∷ []
levels_shown (l ∷ ls) = cond (used l) (1 ∷ l.quantity ∷ (signed l.price ++ levels_shown ls)) (0 ∷ [])

abbrev pub mean_shown : Mean → List ℕ
mean_shown None = 0 ∷ []
mean_shown (Some p) = 1 ∷ signed p

abbrev pub answer_shown : Outcome → ℕ
answer_shown (Ok tt) = 0
answer_shown (Err r) = number_of r

abbrev pub step_shown : Step → List ℕ
step_shown s =
    answer_shown s.answer
    ∷ (levels_shown s.book.buying.levels ++ (levels_shown s.book.selling.levels ++ mean_shown (book_mean s.book)))

-- Answer, buying, selling, mean, as the paper has them: no level, one level.
abbrev pub says : ℕ → List ℕ → List ℕ → List ℕ → List ℕ
says answer buying selling mean = answer ∷ (buying ++ (selling ++ mean))

abbrev pub none : List ℕ
none = 0 ∷ []

abbrev pub level : ℕ → ℕ → List ℕ
level v u = 1 ∷ v ∷ 0 ∷ u ∷ 0 ∷ []

abbrev pub mean : ℕ → List ℕ
mean u = 1 ∷ 0 ∷ u ∷ []

abbrev pub mean_below : ℕ → List ℕ
mean_below u = 1 ∷ 1 ∷ u ∷ []

-- ─── The table: rows of the readings, p = 123.4500 ───

abbrev pub p : ℕ
p = 1234500

unfoldable pub examples : List (List Line)
examples =
    -- 2 increments, 22 below zero
    (quotes (bid 10 p ∷ []) (says 0 (level 10 p) none none)
    ∷ quotes (bid_less 3 p ∷ []) (says 0 (level 7 p) none none)
    ∷ quotes (bid_less 8 p ∷ []) (says 22 (level 7 p) none none)
    ∷ quotes (bid_less 7 p ∷ []) (says 0 none none none)
    ∷ quotes (bid_less 1 p ∷ []) (says 22 none none none)
    ∷ [])
    -- 3 absolute ones are unsigned, 22 above 4,294,967,295
    ∷ (quotes (bid 4294967295 p ∷ []) (says 0 (level 4294967295 p) none none)
    ∷ quotes (bid_more 1 p ∷ []) (says 22 (level 4294967295 p) none none)
    ∷ [])
    -- 4 a match on both sides
    ∷ (quotes (bid 5 p ∷ ask 3 p ∷ []) (says 0 (level 5 p) (level 3 p) none)
    ∷ meets (met 3 p ∷ []) (says 0 (level 2 p) none (mean p))
    ∷ [])
    -- 5 more than one of two sides has
    ∷ (quotes (bid 10 p ∷ ask 3 p ∷ []) (says 0 (level 10 p) (level 3 p) none)
    ∷ meets (met 5 p ∷ []) (says 22 (level 10 p) (level 3 p) none)
    ∷ [])
    -- 6 a price that was quoted once has no level
    ∷ (quotes (bid 5 p ∷ []) (says 0 (level 5 p) none none)
    ∷ meets (met 5 p ∷ []) (says 0 none none (mean p))
    ∷ meets (met 3 p ∷ []) (says 0 none none (mean p))
    ∷ quotes (bid_more 2 p ∷ []) (says 0 (level 2 p) none (mean p))
    ∷ [])
    -- 7 the same in one message
    ∷ (quotes (bid 5 p ∷ []) (says 0 (level 5 p) none none)
    ∷ meets (met 5 p ∷ met 3 p ∷ []) (says 0 none none (mean p))
    ∷ [])
    -- 9 nothing is left of a refused message
    ∷ (quotes (bid 10 10000 ∷ bid_less 1 20000 ∷ []) (says 22 none none none)
    ∷ meets (met 1 10000 ∷ met 1000001 20000 ∷ []) (says 24 none none none)
    ∷ [])
    -- 10 22 before 24
    ∷ (quotes (bid 5 p ∷ []) (says 0 (level 5 p) none none)
    ∷ meets (met 1000001 p ∷ []) (says 22 (level 5 p) none none)
    ∷ quotes (bid 2000000 p ∷ []) (says 0 (level 2000000 p) none none)
    ∷ meets (met 1000001 p ∷ []) (says 24 (level 2000000 p) none none)
    ∷ [])
    -- 11 field by field
    ∷ (quotes (bid 5 p ∷ []) (says 0 (level 5 p) none none)
    ∷ meets (met 1000001 10000 ∷ met 9 p ∷ []) (says 24 (level 5 p) none none)
    ∷ meets (met 9 p ∷ met 1000001 10000 ∷ []) (says 22 (level 5 p) none none)
    ∷ [])
    -- 16 and 17 the mean, to the nearest
    ∷ (meets (met 5 p ∷ met 3 1234600 ∷ []) (says 0 none none (mean 1234538)) ∷ [])
    ∷ (meets (met_below 1 1 ∷ []) (says 0 none none (mean_below 1))
    ∷ meets (met 1 0 ∷ []) (says 0 none none (mean 0))
    ∷ meets (met_below 1 4 ∷ []) (says 0 none none (mean_below 2))
    ∷ [])
    -- 18 no mean without volume
    ∷ (meets (met 0 p ∷ []) (says 0 none none none) ∷ meets (met 1 0 ∷ []) (says 0 none none (mean 0)) ∷ [])
    -- 20 another contract
    ∷ (quotes (other_bid 5 p ∷ []) (says 0 none none none)
    ∷ meets (other_met 1000001 p ∷ []) (says 0 none none none)
    ∷ meets (other_met 5 10000 ∷ met 1 p ∷ []) (says 0 none none (mean p))
    ∷ [])
    -- 21 a match in a message of quotations, other TIDs: without effect, but 10 is asked
    ∷ (quotes (other_bid 5 p ∷ met 5 p ∷ []) (says 0 none none none)
    ∷ sends 0x7777 (bid 5 p ∷ []) (says 0 none none none)
    ∷ sends 0x2003 (bid 5 p ∷ []) (says 10 none none none)
    ∷ [])
    -- 22 an item that is no value, Direction 2: 9 is asked of every TID
    ∷ (sends 0x7777 (quotation_field code 1 2 false p 5 ∷ []) (says 9 none none none) ∷ [])
    ∷ []

-- ─── Several levels, read place after place ───

-- What Level answers: 1, quantity and price, or 0.
abbrev pub place_shown : MaybeLevel → List ℕ
place_shown None = 0 ∷ []
place_shown (Some found) = 1 ∷ found.quantity ∷ signed found.price

-- Of n places of a side, from one on.
abbrev pub places_shown : Book → Bool → ℕ → ℕ → List ℕ
places_shown b buying i zero = []
places_shown b buying i (suc n) = place_shown (level_of b buying i) ++ places_shown b buying (suc i) n

-- The answer, and the first five places of both sides.
abbrev pub places_then : Step → List ℕ
places_then s = answer_shown s.answer ∷ (places_shown s.book true 0 5 ++ places_shown s.book false 0 5)

-- The same as the paper has it: v at u, v at -u, nothing.
abbrev pub stands : ℕ → ℕ → List ℕ
stands v u = 1 ∷ v ∷ 0 ∷ u ∷ []

abbrev pub stands_below : ℕ → ℕ → List ℕ
stands_below v u = 1 ∷ v ∷ 1 ∷ u ∷ []

abbrev pub reads : ℕ → List (List ℕ) → List (List ℕ) → List ℕ
reads answer buying selling = answer ∷ (joined buying ++ joined selling)

-- Fields by side, minus, units and volume: absolute ones.
abbrev pub stating : ℕ → Bool → ℕ → ℕ → List ℕ
stating side negative u v = quotation_field code 1 side negative u v

unfoldable pub severals : List (List Line)
severals =
    -- 1 quoted in mixed order
    (quotes (bid 10 p ∷ ask 2 1240000 ∷ bid 4 1235000 ∷ ask 9 1239000 ∷ bid 7 1200000 ∷ ask 1 1250000 ∷ [])
    (reads 0 (stands 4 1235000 ∷ stands 10 p ∷ stands 7 1200000 ∷ none ∷ none ∷ [])
    (stands 9 1239000 ∷ stands 2 1240000 ∷ stands 1 1250000 ∷ none ∷ none ∷ []))
    -- one more between two on each side, and the best of each anew
    ∷ quotes (bid 6 1210000 ∷ ask 5 1239500 ∷ bid 8 1236000 ∷ bid_more 1 p ∷ [])
    (reads 0 (stands 8 1236000 ∷ stands 4 1235000 ∷ stands 11 p ∷ stands 6 1210000 ∷ stands 7 1200000 ∷ [])
    (stands 9 1239000 ∷ stands 5 1239500 ∷ stands 2 1240000 ∷ stands 1 1250000 ∷ none ∷ []))
    -- one taken out of the middle of each
    ∷ quotes (bid 0 p ∷ ask 0 1239500 ∷ [])
    (reads 0 (stands 8 1236000 ∷ stands 4 1235000 ∷ stands 6 1210000 ∷ stands 7 1200000 ∷ none ∷ [])
    (stands 9 1239000 ∷ stands 2 1240000 ∷ stands 1 1250000 ∷ none ∷ none ∷ []))
    -- the best ask matched, and then taken whole, with a bid from the middle
    ∷ meets (met 3 1239000 ∷ [])
    (reads 0 (stands 8 1236000 ∷ stands 4 1235000 ∷ stands 6 1210000 ∷ stands 7 1200000 ∷ none ∷ [])
    (stands 6 1239000 ∷ stands 2 1240000 ∷ stands 1 1250000 ∷ none ∷ none ∷ []))
    ∷ meets (met 6 1239000 ∷ met 6 1210000 ∷ met 1 1235000 ∷ [])
    (reads 0 (stands 8 1236000 ∷ stands 3 1235000 ∷ stands 7 1200000 ∷ none ∷ none ∷ [])
    (stands 2 1240000 ∷ stands 1 1250000 ∷ none ∷ none ∷ none ∷ []))
    -- 22 in the second field: the first is not kept either
    ∷ quotes (bid 0 1236000 ∷ bid_less 8 1200000 ∷ [])
    (reads 22 (stands 8 1236000 ∷ stands 3 1235000 ∷ stands 7 1200000 ∷ none ∷ none ∷ [])
    (stands 2 1240000 ∷ stands 1 1250000 ∷ none ∷ none ∷ none ∷ []))
    ∷ [])
    -- 19 prices on both sides of zero
    ∷ (quotes
    (stating 0 true 10000 1 ∷ stating 0 false 10000 2 ∷ stating 0 false 0 3 ∷ stating 1 false 10000 4 ∷ stating 1 true 10000 5
    ∷ stating 1 false 0 6 ∷ stating 0 true 20000 7 ∷ stating 1 true 20000 8 ∷ [])
    (reads 0 (stands 2 10000 ∷ stands 3 0 ∷ stands_below 1 10000 ∷ stands_below 7 20000 ∷ none ∷ [])
    (stands_below 8 20000 ∷ stands_below 5 10000 ∷ stands 6 0 ∷ stands 4 10000 ∷ none ∷ []))
    ∷ [])
    ∷ []

-- ─── The limits of the sums ───

-- A sum and what is added to it; 1 and the sum then, or 0: beyond.
pub record Addition : Type 0 where
  pub sum : ℤ
  pub more : ℤ
  pub paper : List ℕ

abbrev pub adds : ℤ → ℤ → List ℕ → Addition
adds sum more paper = record { sum = sum; more = more; paper = paper }

abbrev pub total_shown : Total → List ℕ
total_shown None = 0 ∷ []
total_shown (Some z) = 1 ∷ signed z

-- Around 14 and 15: the limit itself is no refusal, on either side of zero; one unit more is, though later fields undo
-- it.
abbrev pub additions : List Addition
additions =
    adds (pos 8999999999910000000) (pos 99999999999000000) (0 ∷ [])
    ∷ adds (pos 8999999999910000000) (pos 90000000) (1 ∷ 0 ∷ 9000000000000000000 ∷ [])
    ∷ adds (pos 9000000000000000000) (pos 1) (0 ∷ [])
    ∷ adds (pos 9000000000000000000) (negsuc 0) (1 ∷ 0 ∷ 8999999999999999999 ∷ [])
    ∷ adds (negsuc 8999999999099999999) (negsuc 9999999998999999) (0 ∷ [])
    ∷ adds (negsuc 8999999999099999999) (negsuc 899999999) (1 ∷ 1 ∷ 9000000000000000000 ∷ [])
    ∷ adds (negsuc 8999999999999999999) (negsuc 0) (0 ∷ [])
    ∷ adds (negsuc 8999999999999999999) (pos 1) (1 ∷ 1 ∷ 8999999999999999999 ∷ [])
    ∷ []

abbrev pub right_sums : List Addition → Bool
right_sums [] = true
right_sums (a ∷ rest) = same (total_shown (added_to a.sum a.more)) a.paper && right_sums rest

-- ─── The mean to the nearest (request No. 9) ───

-- The sum of price times volume, the sum of volumes, and the mean as it is shown.
pub record Quotient : Type 0 where
  pub sum : ℤ
  pub volume : ℤ
  pub paper : List ℕ

abbrev pub ratio : ℤ → ℤ → List ℕ → Quotient
ratio sum volume paper = record { sum = sum; volume = volume; paper = paper }

-- Halves go to the even number, on either side of zero; what is above the half goes up, though its double has 65 bits.
abbrev pub quotients : List Quotient
quotients =
    ratio (pos 3) (pos 2) (mean 2)
    ∷ ratio (pos 1) (pos 2) (mean 0)
    ∷ ratio (pos 5) (pos 2) (mean 2)
    ∷ ratio (pos 7) (pos 2) (mean 4)
    ∷ ratio (negsuc 0) (pos 2) (mean 0)
    ∷ ratio (negsuc 2) (pos 2) (mean_below 2)
    ∷ ratio (negsuc 4) (pos 2) (mean_below 2)
    ∷ ratio (negsuc 6) (pos 2) (mean_below 4)
    ∷ ratio (pos 10) (pos 4) (mean 2)
    ∷ ratio (pos 14) (pos 4) (mean 4)
    ∷ ratio (pos 25) (pos 10) (mean 2)
    ∷ ratio (pos 15) (pos 10) (mean 2)
    ∷ ratio (pos 2) (pos 3) (mean 1)
    ∷ ratio (pos 1) (pos 3) (mean 0)
    ∷ ratio (negsuc 1) (pos 3) (mean_below 1)
    ∷ ratio (negsuc 4) (pos 3) (mean_below 2)
    ∷ ratio (pos 0) (pos 5) (mean 0)
    ∷ ratio (pos 0) (pos 0) none
    ∷ ratio (pos 9876300) (pos 8) (mean 1234538)
    ∷ ratio (pos 9876308) (pos 8) (mean 1234538)
    ∷ ratio (pos 9000000000000000000) (pos 91000000) (mean 98901098901)
    ∷ ratio (pos 4500000000000000000) (pos 9000000000000000000) (mean 0)
    ∷ ratio (pos 4500000000000000001) (pos 9000000000000000000) (mean 1)
    ∷ ratio (pos 8000000000000000000) (pos 9000000000000000000) (mean 1)
    ∷ ratio (pos 4500000000000000000) (pos 3000000000000000000) (mean 2)
    ∷ ratio (pos 8999999999999999999) (pos 2) (mean 4500000000000000000)
    ∷ []

abbrev pub right_means : List Quotient → Bool
right_means [] = true
right_means (q ∷ rest) = same (mean_shown (mean_of q.sum q.volume)) q.paper && right_means rest

-- ─── The test ───

abbrev pub right_after : Book → List Line → Bool
right_after b [] = true
right_after b (l ∷ ls) =
    same (step_shown (take_of b l.tid (joined l.fields))) l.paper
    && right_after (take_of b l.tid (joined l.fields)).book ls

abbrev pub all_right : List (List Line) → Bool
all_right [] = true
all_right (ls ∷ rest) = right_after (started code) ls && all_right rest

-- The same, with the places read one by one.
abbrev pub read_after : Book → List Line → Bool
read_after b [] = true
read_after b (l ∷ ls) =
    same (places_then (take_of b l.tid (joined l.fields))) l.paper
    && read_after (take_of b l.tid (joined l.fields)).book ls

abbrev pub all_read : List (List Line) → Bool
all_read [] = true
all_read (ls ∷ rest) = read_after (started code) ls && all_read rest

-- Each call of each row is answered, and shows, what the paper says; so do the sums at their limits, and the means.
abbrev pub Examples : Type 0
Examples = T (all_right examples && (all_read severals && (right_sums additions && right_means quotients)))
