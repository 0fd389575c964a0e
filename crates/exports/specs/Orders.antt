-- The order of two serving ends (02, No. 14) as the numbers that C and Rust get (include/ftd.h).
use Rattle.std.specs.Prelude.{ℕ, ◌<◌, ◌≡◌}
use Rattle.ftd.specs.Refusal.{number_of}
use Rattle.ftd.specs.declared.refusal.Refusal.{Refusal}
use Rattle.flow.specs.declared.order.Order.{Order}
use Rattle.flow.specs.declared.order.Order.TheVariants.{Same, FirstStarts, SecondStarts, Differ, Refused}
use Rattle.exports.specs.declared.orders.FtdOrder.{FtdOrder}

-- 0 the same, 1 the first is a start of the second, 2 the second is one of the first, 3 they differ first at a number,
-- 4 refused.
abbrev pub answered : ℕ → ℕ → ℕ → FtdOrder
answered answer number refusal = record { number = number; answer = answer; refusal = refusal }

abbrev pub order_numbers : Order → FtdOrder
order_numbers Same = answered 0 0 0
order_numbers FirstStarts = answered 1 0 0
order_numbers SecondStarts = answered 2 0 0
order_numbers (Differ k) = answered 3 k 0
order_numbers (Refused r) = answered 4 0 (number_of r)

-- A refusal with a number.
pub record RefusedAs (o : Order) (number : ℕ) : Type 0 where
  pub row : Refusal
  pub refused : o ≡ Refused row
  pub numbered : number_of row ≡ number

-- The numbers of an answer say that answer.
pub record OrderNumberLaws : Type 0 where
  pub same : (o : Order) → (order_numbers o).answer ≡ 0 → o ≡ Same
  pub first : (o : Order) → (order_numbers o).answer ≡ 1 → o ≡ FirstStarts
  pub second : (o : Order) → (order_numbers o).answer ≡ 2 → o ≡ SecondStarts
  pub differ : (o : Order) → (order_numbers o).answer ≡ 3 → o ≡ Differ (order_numbers o).number
  pub refused : (o : Order) → (order_numbers o).answer ≡ 4 → RefusedAs o (order_numbers o).refusal
  pub no_other : (o : Order) → (order_numbers o).answer < 5
