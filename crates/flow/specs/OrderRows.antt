-- The order of two serving ends (02, No. 14), worked.
use Rattle.std.specs.Prelude.{ℕ, List, [], ◌∷◌, set, take, T}
use Rattle.ftd.specs.Bench.{BenchRow, bench_row, all_same}
use Rattle.ftd.specs.Refusal.{number_of}
use Rattle.flow.specs.declared.order.Order.{Order}
use Rattle.flow.specs.declared.order.Order.TheVariants.{Same, FirstStarts, SecondStarts, Differ, Refused}
use Rattle.flow.specs.World.{Event, open_sender, publish, SenderSide, start, run}
use Rattle.flow.specs.Order.{order_of}
use Rattle.flow.specs.Bench.{tid, note, space}

-- Answers in numbers: which one it is, and its values.
abbrev pub order_numbers : Order → List ℕ
order_numbers Same = 0 ∷ []
order_numbers FirstStarts = 1 ∷ []
order_numbers SecondStarts = 2 ∷ []
order_numbers (Differ k) = 3 ∷ k ∷ []
order_numbers (Refused r) = 4 ∷ number_of r ∷ []

-- Two messages of series 1, each an entry of 25 bytes, and one of series 2 between them, of 23.
abbrev pub one : Event
one = publish 1 tid (note 1 3)

abbrev pub two : Event
two = publish 1 tid (note 2 3)

abbrev pub between : Event
between = publish 2 tid (note 3 1)

-- A day of some series, with their reserves and what is published; and one of series 1 and 2.
abbrev pub opening : ℕ → List ℕ → List ℕ → List Event → SenderSide
opening day ss rs es = (run (start (space 90) []) (open_sender day ss rs ∷ es)).serving

abbrev pub served : ℕ → List Event → SenderSide
served day = opening day (1 ∷ 2 ∷ []) (0 ∷ 0 ∷ [])

unfoldable pub whole : SenderSide
whole = served 7 (one ∷ between ∷ two ∷ [])

abbrev pub compare : ℕ → SenderSide → SenderSide → List ℕ
compare s v u = order_numbers (order_of s v.end v.log u.end u.log)

-- Against the whole, whose log is another one.
abbrev pub with_log : ℕ → List ℕ → List ℕ
with_log s log = order_numbers (order_of s whole.end log whole.end whole.log)

-- A day with one message of series 1, whose log is cut to three bytes, against one with nothing published.
abbrev pub cut : ℕ → List ℕ
cut s =
    let v : SenderSide = served 7 (one ∷ []) in
    let u : SenderSide = served 7 [] in
    order_numbers (order_of s v.end (take 3 v.log) u.end u.log)

unfoldable pub order_rows : List BenchRow
order_rows =
    bench_row 1 (compare 1 whole whole) (0 ∷ [])
    ∷ bench_row 1 (compare 1 whole (served 7 (one ∷ two ∷ []))) (0 ∷ [])
    ∷ bench_row 1 (compare 2 (served 7 []) (served 7 (one ∷ []))) (0 ∷ [])
    -- Reserves play no part, nor do the other series that are open.
    ∷ bench_row 1 (compare 1 whole (opening 7 (1 ∷ 2 ∷ []) (60 ∷ 30 ∷ []) (one ∷ between ∷ two ∷ []))) (0 ∷ [])
    ∷ bench_row 1 (compare 1 (opening 7 (1 ∷ []) (0 ∷ []) []) (opening 7 (2 ∷ 1 ∷ []) (0 ∷ 0 ∷ []) [])) (0 ∷ [])
    ∷ bench_row 2 (compare 1 (served 7 (one ∷ [])) whole) (1 ∷ [])
    ∷ bench_row 2 (compare 2 whole (served 7 (one ∷ two ∷ []))) (2 ∷ [])
    -- Another content, another TID, whatever the lengths.
    ∷ bench_row 3 (compare 1 whole (served 7 (one ∷ one ∷ []))) (3 ∷ 2 ∷ [])
    ∷ bench_row 3 (compare 1 whole (served 7 (publish 1 30584 (note 1 3) ∷ []))) (3 ∷ 1 ∷ [])
    ∷ bench_row 3 (compare 1 whole (served 7 (one ∷ publish 1 30584 (note 2 3) ∷ one ∷ []))) (3 ∷ 2 ∷ [])
    -- 13, open at one only; 13 before 15; 15.
    ∷ bench_row 4 (compare 2 whole (opening 7 (1 ∷ []) (0 ∷ []) [])) (4 ∷ 13 ∷ [])
    ∷ bench_row 4 (compare 3 whole (served 8 [])) (4 ∷ 13 ∷ [])
    ∷ bench_row 4 (compare 1 whole (served 8 [])) (4 ∷ 15 ∷ [])
    -- Damage up to the series' last entry: series, zero bytes, number and length of the second entry; a log too short.
    ∷ bench_row 5 (with_log 1 (set whole.log 26 9)) (4 ∷ 20 ∷ [])
    ∷ bench_row 5 (with_log 1 (set whole.log 28 1)) (4 ∷ 20 ∷ [])
    ∷ bench_row 5 (with_log 2 (set whole.log 36 2)) (4 ∷ 20 ∷ [])
    ∷ bench_row 5 (with_log 2 (set whole.log 40 6)) (4 ∷ 20 ∷ [])
    ∷ bench_row 5 (with_log 2 (take 72 whole.log)) (4 ∷ 20 ∷ [])
    -- Behind it there may be any; a TID is no damage.
    ∷ bench_row 6 (with_log 2 (set whole.log 50 1)) (0 ∷ [])
    ∷ bench_row 6 (with_log 1 (set whole.log 7 0)) (3 ∷ 1 ∷ [])
    -- With nothing published in the series there is no last entry: a log of three bytes is not looked at.
    ∷ bench_row 7 (cut 2) (0 ∷ [])
    ∷ bench_row 7 (cut 1) (4 ∷ 20 ∷ [])
    ∷ []

abbrev pub OrderRows : Type 0
OrderRows = T (all_same order_rows)
