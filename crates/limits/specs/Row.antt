-- A row: the energy and the ten amounts of a unit.
use Rattle.std.specs.Prelude.{ℕ, ◌||◌, List, [], ◌∷◌, pos, int_lt, slice_index, slice_set}
use Rattle.fcas.specs.Bid.{some_above}
use Rattle.fcas.specs.Checks.{Finding}
use Rattle.limits.specs.declared.row.Row.{Row}

-- The amount of a service.
abbrev pub amount : Row → ℕ → ℕ
amount row service = slice_index row.amounts service

-- The row with another amount of a service, or with another energy.
abbrev pub with_amount : Row → ℕ → ℕ → Row
with_amount row service a = record { unit = row.unit; kind = row.kind; energy = row.energy; amounts = slice_set row.amounts service a }

-- An energy lies from 0 to 4,000,000 kW, and so does every amount.
abbrev pub row_faults : Row → List Finding
row_faults row = (7, int_lt row.energy (pos 0) || int_lt (pos 4000000) row.energy || some_above 4000000 row.amounts) ∷ []
