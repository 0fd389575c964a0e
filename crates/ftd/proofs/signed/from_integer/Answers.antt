use Rattle.ftd.proofs.signed.Integers.{from_low, from-fits, from-cast, from-minus, from-high, from-wide}
use Rattle.ftd.proofs.signed.Integers.{from-plus}
use Rattle.ftd.proofs.signed.from_integer.Goals as goal

pub returns-then-x-ltminus999999999999999999 : goal.returns-then-x-ltminus999999999999999999
returns-then-x-ltminus999999999999999999 c = from_low _ c.ranges.x c.if-x-lt0.true c.if-x-ltminus999999999999999999.true

pub overflow_sub-result : goal.overflow_sub-result
overflow_sub-result c = from-fits _ c.ranges.x c.if-x-lt0.true c.if-x-ltminus999999999999999999.false

pub overflow_cast-result : goal.overflow_cast-result
overflow_cast-result c = from-cast _ c.ranges.x c.if-x-lt0.true c.if-x-ltminus999999999999999999.false

pub returns-then-x-lt0 : goal.returns-then-x-lt0
returns-then-x-lt0 c = from-minus _ c.ranges.x c.if-x-lt0.true c.if-x-ltminus999999999999999999.false

pub returns-then-x-gt999999999999999999 : goal.returns-then-x-gt999999999999999999
returns-then-x-gt999999999999999999 c = from-high _ c.ranges.x c.if-x-lt0.false c.if-x-gt999999999999999999.true

pub overflow_cast-result-2 : goal.overflow_cast-result-2
overflow_cast-result-2 c = from-wide _ c.ranges.x c.if-x-lt0.false c.if-x-gt999999999999999999.false

pub returns : goal.returns
returns c = from-plus _ c.ranges.x c.if-x-lt0.false c.if-x-gt999999999999999999.false
