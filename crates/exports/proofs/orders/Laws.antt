-- `OrderNumberLaws` holds. Assumes nothing.
use Prim.Native.Nat.{◌<◌}
use native.Mathlib.Omega.{arith}
use mathlib.Core.Path.{◌≡◌, refl}
use Rattle.flow.specs.declared.order.Order.{Order}
use Rattle.flow.specs.declared.order.Order.TheVariants.{Same, FirstStarts, SecondStarts, Differ, Refused}
use Rattle.exports.specs.Orders.{order_numbers, RefusedAs, OrderNumberLaws}

same : (o : Order) → (order_numbers o).answer ≡ 0 → o ≡ Same
same Same h = refl
same FirstStarts h = absurd (omega (arith, h))
same SecondStarts h = absurd (omega (arith, h))
same (Differ k) h = absurd (omega (arith, h))
same (Refused r) h = absurd (omega (arith, h))

first : (o : Order) → (order_numbers o).answer ≡ 1 → o ≡ FirstStarts
first Same h = absurd (omega (arith, h))
first FirstStarts h = refl
first SecondStarts h = absurd (omega (arith, h))
first (Differ k) h = absurd (omega (arith, h))
first (Refused r) h = absurd (omega (arith, h))

second : (o : Order) → (order_numbers o).answer ≡ 2 → o ≡ SecondStarts
second Same h = absurd (omega (arith, h))
second FirstStarts h = absurd (omega (arith, h))
second SecondStarts h = refl
second (Differ k) h = absurd (omega (arith, h))
second (Refused r) h = absurd (omega (arith, h))

differ : (o : Order) → (order_numbers o).answer ≡ 3 → o ≡ Differ (order_numbers o).number
differ Same h = absurd (omega (arith, h))
differ FirstStarts h = absurd (omega (arith, h))
differ SecondStarts h = absurd (omega (arith, h))
differ (Differ k) h = refl
differ (Refused r) h = absurd (omega (arith, h))

refused : (o : Order) → (order_numbers o).answer ≡ 4 → RefusedAs o (order_numbers o).refusal
refused Same h = absurd (omega (arith, h))
refused FirstStarts h = absurd (omega (arith, h))
refused SecondStarts h = absurd (omega (arith, h))
refused (Differ k) h = absurd (omega (arith, h))
refused (Refused r) h = record { row = r; refused = refl; numbered = refl }

no_other : (o : Order) → (order_numbers o).answer < 5
no_other Same = omega arith
no_other FirstStarts = omega arith
no_other SecondStarts = omega arith
no_other (Differ k) = omega arith
no_other (Refused r) = omega arith

pub order-number-laws : OrderNumberLaws
order-number-laws =
    record { same = same; first = first; second = second; differ = differ; refused = refused; no_other = no_other }
