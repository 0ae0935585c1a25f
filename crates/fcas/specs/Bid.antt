-- When a bid is taken.
use Rattle.std.specs.Prelude.{ℕ, Bool, false, ◌||◌, List, [], ◌∷◌, nat_lt}
use Rattle.fcas.specs.Checks.{Finding}
use Rattle.fcas.specs.declared.bid.Bid.{Bid}

-- Some number of a list is above a limit.
abbrev pub some_above : ℕ → List ℕ → Bool
some_above limit [] = false
some_above limit (number ∷ more) = nat_lt limit number || some_above limit more

-- The five numbers and the ten bands.
abbrev pub numbers_of : Bid → List ℕ
numbers_of bid = bid.enablement_min ∷ bid.low_breakpoint ∷ bid.high_breakpoint ∷ bid.enablement_max ∷ bid.max_availability ∷ bid.bands

-- One of the first four numbers is below the one before it.
abbrev pub falls : Bid → Bool
falls bid = nat_lt bid.low_breakpoint bid.enablement_min || nat_lt bid.high_breakpoint bid.low_breakpoint || nat_lt bid.enablement_max bid.high_breakpoint

-- No number is above 4,000,000 kW, and the first four never fall.
abbrev pub bid_faults : Bid → List Finding
bid_faults bid = (4, some_above 4000000 (numbers_of bid)) ∷ (5, falls bid) ∷ []
