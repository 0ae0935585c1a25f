-- The kinds of unit, and the regulating service by which the energy of each rises and falls.
use Rattle.std.specs.Prelude.{ℕ, List, [], ◌∷◌, nat_lt}
use Rattle.fcas.specs.Checks.{Finding}
use Rattle.fcas.specs.declared.kind.Kind.{Kind}
use Rattle.fcas.specs.declared.kind.Kind.TheVariants.{Generator, SemiScheduled, Load, DemandResponse}

-- The number by which a kind is handed over.
abbrev pub kind_number : Kind → ℕ
kind_number Generator = 0
kind_number SemiScheduled = 1
kind_number Load = 2
kind_number DemandResponse = 3

-- A number above 3 is no kind.
abbrev pub kind_faults : ℕ → List Finding
kind_faults number = (2, nat_lt 3 number) ∷ []

-- The regulating service that moves the energy up. A load's energy is what it consumes, so it is lower regulation that raises it.
abbrev pub upward : Kind → ℕ
upward Generator = 4
upward SemiScheduled = 4
upward Load = 9
upward DemandResponse = 4

-- The regulating service that moves the energy down: the other one.
abbrev pub downward : Kind → ℕ
downward Generator = 9
downward SemiScheduled = 9
downward Load = 4
downward DemandResponse = 9
