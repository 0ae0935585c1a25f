-- A station's rows, read as the book has them.
use Rattle.std.specs.Prelude.{ℕ, List, [], ◌∷◌, pos, Some, None, Option}
use Rattle.fcas.specs.declared.bid.Bid.{Bid}
use Rattle.fcas.specs.declared.kind.Kind.{Kind}
use Rattle.fcas.specs.declared.reading.Measured.{Measured}
use Rattle.limits.specs.Terms.{held_bids}
use Rattle.limits.specs.declared.row.Row.{Row}
use Rattle.station.specs.Book.{Book}
use Rattle.station.specs.Entry.{Entry}
use Rattle.station.specs.declared.pass.PassNumbers.{PassNumbers}
use Rattle.station.specs.declared.row.UnitRow.{UnitRow}
use Rattle.states.specs.declared.state.State.{State}
use Rattle.states.specs.declared.state.State.TheVariants.{Vacant, Idle, Open, OpenWithEnergy}
use Rattle.station.specs.declared.station.Station.{Station}

-- What a row says of its unit, by its state: beside one that is not open the reading and the amounts are passed over, and beside a vacant one the kind and the bids too.
abbrev pub entry_in : State → Kind → List (Option Bid) → Measured → List ℕ → Option Entry
entry_in Vacant kind bids reading amounts = None
entry_in Idle kind bids reading amounts = Some (record { kind = kind; bids = bids; interval = None })
entry_in (Open serial) kind bids reading amounts = Some (record { kind = kind; bids = bids; interval = Some (record { reading = reading; serial = serial; energy = None; amounts = amounts }) })
entry_in (OpenWithEnergy serial energy) kind bids reading amounts = Some (record { kind = kind; bids = bids; interval = Some (record { reading = reading; serial = serial; energy = Some energy; amounts = amounts }) })

abbrev pub entry_of : UnitRow → Option Entry
entry_of row = entry_in row.state row.kind (held_bids row.bids) row.reading.measured row.amounts

-- A row at an energy, as a plant limit sees it.
abbrev pub plant_row : ℕ → ℕ → UnitRow → Row
plant_row unit energy row = record { unit = unit; kind = row.kind; energy = pos energy; amounts = row.amounts }

abbrev pub entries_of : List UnitRow → List (Option Entry)
entries_of [] = []
entries_of (row ∷ more) = entry_of row ∷ entries_of more

-- The numbers of a pass.
abbrev pub numbers_of : ℕ → ℕ → ℕ → PassNumbers
numbers_of station unit serial = record { station = station; unit = unit; serial = serial }

abbrev pub view_of : {P : Type 0} → Station P → Book
view_of station = record { number = station.number; next = station.next; units = entries_of station.rows }
