-- When an energy or an amount is taken.
use Rattle.std.specs.Prelude.{ℕ, List, [], ◌∷◌, nat_lt}
use Rattle.fcas.specs.Checks.{Finding}

-- A power above 4,000,000 kW is too large.
abbrev pub power_faults : ℕ → List Finding
power_faults number = (7, nat_lt 4000000 number) ∷ []
