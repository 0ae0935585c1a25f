-- A connection cap allows what its unit's connection carries.
use Rattle.std.specs.Prelude.{ℕ, ◌+◌, Bool, cond, ℤ, pos, ◌+ℤ◌, int_le, nat_lt, slice_index}
use Rattle.fcas.specs.Kind.{upward}
use Rattle.fcas.specs.declared.kind.Kind.{Kind}
use Rattle.fcas.specs.declared.kind.Kind.TheVariants.{Generator, SemiScheduled, Load, DemandResponse}
use Rattle.limits.specs.Row.{amount}
use Rattle.limits.specs.declared.row.Row.{Row}
use Rattle.plants.specs.declared.connection_cap.ConnectionCap.{ConnectionCap}

-- The delayed service that moves a unit's energy up: delayed raise, of a load delayed lower.
abbrev pub delayed : Kind → ℕ
delayed Generator = 3
delayed SemiScheduled = 3
delayed Load = 8
delayed DemandResponse = 3

-- What flows when regulation and the delayed service are called on in full.
abbrev pub flow : Row → ℤ
flow row = row.energy +ℤ pos (amount row (upward row.kind) + amount row (delayed row.kind))

-- The cap of a unit; 0 for one above 23.
abbrev pub cap_of_unit : ConnectionCap → ℕ → ℕ
cap_of_unit plant unit = cond (nat_lt unit 24) (slice_index plant.caps unit) 0

abbrev pub cap_allows : ConnectionCap → Row → Bool
cap_allows plant row = int_le (flow row) (pos (cap_of_unit plant row.unit))
