-- Worked examples of the date item (02, No. 7), as one table.
use Rattle.std.specs.Prelude.{ℕ, List, [], ◌∷◌, ◌++◌, Bool, not, ◌&&◌, T}
use Rattle.ftd.specs.Values.{every, is_date}
use Rattle.ftd.specs.Signed.Write.{digits_in}

-- A date item of eight digits.
abbrev pub dated : ℕ → Bool
dated n = is_date (digits_in 8 n)

abbrev pub real_ones : List ℕ
real_ones = 20240229 ∷ 20000229 ∷ 20230430 ∷ 16010101 ∷ 99991231 ∷ []

-- 00000101 is the number 101, 00000000 is 0.
abbrev pub unreal_ones : List ℕ
unreal_ones =
    20230229 ∷ 19000229 ∷ 21000229 ∷ 20230431 ∷ 20230631 ∷ 20230931 ∷ 20231131 ∷ 16001231 ∷ 101 ∷ 20230132 ∷ 20230100
    ∷ 20231301 ∷ 20230001 ∷ 0 ∷ []

-- Seven digits and a space behind them or a '-' in front; eight spaces.
abbrev pub digits7 : List ℕ
digits7 = digits_in 7 2023022

abbrev pub spaces8 : List ℕ
spaces8 = 32 ∷ 32 ∷ 32 ∷ 32 ∷ 32 ∷ 32 ∷ 32 ∷ 32 ∷ []

abbrev pub DateExamples : Type 0
DateExamples =
    T ((every dated real_ones && every (λ n. not (dated n)) unreal_ones)
    && (is_date spaces8 && (not (is_date (digits7 ++ (32 ∷ []))) && not (is_date (45 ∷ digits7)))))
