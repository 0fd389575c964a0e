-- Definitions of private contracts: the shares of the log (02, No. 11) by place. No call's promise names them.
use Rattle.std.specs.Prelude.{ℕ, zero, suc, ◌+◌, List, [], ◌∷◌, map, take}
use Rattle.flow.specs.declared.sender.Day.{Day}
use Rattle.flow.specs.declared.sender.DaySeries.{DaySeries}
use Rattle.flow.specs.Ends.{sum_of, larger}

-- The share of a series with so many bytes more.
abbrev pub share_with : ℕ → DaySeries → ℕ
share_with more x = larger (x.used + more) x.reserve

-- The shares of a list's series, that at a place with so many bytes more.
abbrev pub shares_with : List DaySeries → ℕ → ℕ → List ℕ
shares_with [] at more = []
shares_with (x ∷ l) zero more = share_with more x ∷ map (share_with 0) l
shares_with (x ∷ l) (suc at) more = share_with 0 x ∷ shares_with l at more

-- Those of all open series together.
abbrev pub shares_in : Day → ℕ → ℕ → ℕ
shares_in day at more = sum_of (shares_with (take day.count day.series) at more)
