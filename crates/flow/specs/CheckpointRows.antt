-- Keeping and returning (02, No. 13), worked: names, refusals and what is brought back.
use Rattle.std.specs.Prelude.{ℕ, List, [], ◌∷◌, cond, replicate, T}
use Rattle.ftd.specs.Bench.{BenchRow, bench_row, all_same}
use Rattle.ftd.specs.Types.{TradeDate}
use Rattle.flow.specs.declared.receiver.Receiver.{Receiver}
use Rattle.flow.specs.declared.checkpoint.Checkpoints.{Checkpoints}
use Rattle.flow.specs.Ends.{day_of, last_of, live_of, fresh_receiver, holding, with_series}
use Rattle.flow.specs.Answers.{Said, refused, kept, returned, saved_said, restored_said}
use Rattle.flow.specs.Checkpoints.{fresh_checkpoints, keep_of, restore_of}
use Rattle.flow.specs.Bench.{says, tid, at_last}
use Rattle.std.specs.Prelude.{Some, None}

-- A and its like, by letter.
abbrev pub letter : ℕ → List ℕ
letter x = x ∷ []

abbrev pub keeps : Checkpoints → Receiver → List ℕ → Checkpoints
keeps c e name = (keep_of c e name).end

-- A before the opening, B at last 5, C and D at last 6.
unfoldable pub four_kept : Checkpoints
four_kept =
    keeps (keeps (keeps (keeps fresh_checkpoints fresh_receiver (letter 65)) (at_last 5) (letter 66)) (at_last 6) (letter 67))
    (at_last 6) (letter 68)

abbrev pub saving : Checkpoints → List ℕ → Said
saving c name = saved_said (keep_of c (at_last 7) name).answer

abbrev pub returning : Checkpoints → List ℕ → Said
returning c name = restored_said (restore_of c (at_last 7) name).answer

-- At last 7, within a chain: 4,070 bytes in one piece.
abbrev pub chained : Receiver
chained = with_series (at_last 7) 1 (Some 7) 7 (holding tid 4070 1)

-- The trade date, 0 where there is none; last; 1 where it is logged in; 1 where a chain is there, and of it TID, bytes
-- and pieces.
abbrev pub day_number : TradeDate → ℕ
day_number None = 0
day_number (Some d) = d

abbrev pub state_back : Checkpoints → List ℕ → List ℕ
state_back c name =
    let e = (restore_of c chained name).end in
    let x = live_of e 1 in
    day_number (day_of e 1) ∷ last_of e 1 ∷ cond x.login 1 0 ∷ cond x.chain 1 0 ∷ x.tid ∷ x.held ∷ x.pieces ∷ []

-- No login and no chain.
abbrev pub cleared : List ℕ
cleared = replicate 5 0

unfoldable pub checkpoint_rows : List BenchRow
checkpoint_rows =
    -- 31: no letter, nine letters, @ and [, which stand beside A and Z; eight Z are a name
    says 1 (saving fresh_checkpoints []) (refused 31)
    ∷ says 1 (saving fresh_checkpoints (replicate 9 65)) (refused 31)
    ∷ says 1 (saving fresh_checkpoints (65 ∷ 64 ∷ [])) (refused 31)
    ∷ says 1 (saving fresh_checkpoints (91 ∷ [])) (refused 31)
    ∷ says 1 (saving fresh_checkpoints (replicate 8 90)) kept
    -- 32 with four in use, but for a used name; 31 before it
    ∷ says 2 (saving four_kept (letter 69)) (refused 32)
    ∷ says 2 (saving four_kept (letter 66)) kept
    ∷ says 2 (saving four_kept (letter 97)) (refused 31)
    -- 33; 31 before it; AA is not A
    ∷ says 3 (returning four_kept (letter 69)) (refused 33)
    ∷ says 3 (returning four_kept (letter 97)) (refused 31)
    ∷ says 3 (returning four_kept (65 ∷ 65 ∷ [])) (refused 33)
    ∷ says 3 (returning four_kept (letter 68)) returned
    -- Kept before the opening: none and 0. Otherwise what was kept; login and chain cleared. A refusal leaves the end.
    ∷ bench_row 4 (state_back four_kept (letter 65)) (0 ∷ 0 ∷ cleared)
    ∷ bench_row 4 (state_back four_kept (letter 66)) (7 ∷ 5 ∷ cleared)
    ∷ bench_row 4 (state_back (keeps four_kept (at_last 9) (letter 66)) (letter 66)) (7 ∷ 9 ∷ cleared)
    ∷ bench_row 4 (state_back four_kept (letter 69)) (7 ∷ 7 ∷ 1 ∷ 1 ∷ tid ∷ 4070 ∷ 1 ∷ [])
    ∷ []

abbrev pub CheckpointRows : Type 0
CheckpointRows = T (all_same checkpoint_rows)
