-- The worked examples of a row, computed. Assumes nothing.
use Prim.Native.Nat.{ℕ, zero, suc}
use native.Mathlib.Omega.{arith}
use mathlib.Core.Path.{◌≡◌, refl}
use mathlib.Core.List.{List, [], ◌∷◌, ◌++◌}
use mathlib.Core.Bool.{Bool}
use mathlib.Core.Logic.{inl}
use lib.Dec.{T, eqb, eqb→eq}
use Rattle.ftd.specs.Login.{login_bytes}
use Rattle.ftd.specs.Bench.{all_same}
use Rattle.flow.specs.Agreement.{of, since}
use Rattle.flow.specs.Bench.{rsp_login}
use Rattle.flow.specs.Checkpoints.{fresh_checkpoints}
use Rattle.flow.specs.Order.{logged, order_of}
use Rattle.flow.proofs.bench.Tests.{hold_all, each, is_empty, is-empty, is_caught_up, caught-up}
use Rattle.relay.specs.Row.{RowEvent, RowWorld, row_step, row_run, line_at, refused_in, asked_at}
use Rattle.relay.specs.RowAgreement.{ran_row, CaughtUpAt, CaughtUpTo}
use Rattle.relay.specs.RowExamples.{lent_two, passing, passed_rows, lent_one, on_five, on_two_days, on_six, late}
use Rattle.relay.specs.RowExamples.{caught_up, late_rows, opens, first_login, behind_first, to_first, second_login}
use Rattle.relay.specs.RowExamples.{behind_second, to_second, third_login, to_last, RowExamples}
use Rattle.relay.proofs.Together.{open-all}
use Rattle.std.specs.Prelude.{Some}

unfoldable open_row : Unit {0}
unfolding open-all logged order_of fresh_checkpoints lent_two lent_one
open_row = tt

passes : T (all_same passed_rows)
unfolding open_row passing passed_rows
passes = tt

lags : T (all_same late_rows)
unfolding open_row on_five on_two_days on_six late caught_up late_rows
lags = tt

-- ─── The conditions on each line ───

module _ (before : List RowEvent) (login : RowEvent) (behind : List RowEvent) (k : ℕ) where
  abbrev u : RowWorld
  u = ran_row lent_two before

  abbrev v : RowWorld
  v = row_step u login

  abbrev w : RowWorld
  w = row_run v behind

  abbrev tests : List Bool
  tests =
      is_caught_up (line_at u k) (line_at v k) (line_at w k) 1 7 (login_bytes (Some 7) rsp_login) []
      ∷ eqb (asked_at u k) 0
      ∷ is_empty (of 1 7 (since (refused_in v.boxes k) (refused_in w.boxes k)))
      ∷ []

  line-says : passing ≡ before ++ (login ∷ behind) → T (hold_all tests) → CaughtUpAt lent_two passing k 1
  line-says q t =
      let h = each tests t in
      record {
        before = before;
        login = login;
        behind = behind;
        parts = q;
        day = 7;
        answer = login_bytes (Some 7) rsp_login;
        out = [];
        caught = caught-up (line_at u k) (line_at v k) (line_at w k) 1 7 (login_bytes (Some 7) rsp_login) [] h.0;
        asked = inl (eqb→eq (asked_at u k) 0 h.1.0);
        takes = is-empty _ h.1.1.0;
      }

abbrev to_second_login : List RowEvent
to_second_login = opens ++ (first_login ∷ to_first)

abbrev to_third_login : List RowEvent
to_third_login = opens ++ (first_login ∷ to_first ++ (second_login ∷ to_second))

first-line : T (hold_all (tests opens first_login behind_first 0))
unfolding open_row
first-line = tt

second-line : T (hold_all (tests to_second_login second_login behind_second 1))
unfolding open_row
second-line = tt

third-line : T (hold_all (tests to_third_login third_login to_last 2))
unfolding open_row
third-line = tt

each_line : CaughtUpTo lent_two passing 2 1
unfolding passing
each_line zero f = line-says opens first_login behind_first 0 refl first-line
each_line (suc zero) f = line-says to_second_login second_login behind_second 1 refl second-line
each_line (suc (suc zero)) f = line-says to_third_login third_login to_last 2 refl third-line
each_line (suc (suc (suc k))) f = absurd (omega arith)

pub row-examples : RowExamples
row-examples = record { each_line = each_line; passes = passes; lags = lags }
