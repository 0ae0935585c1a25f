use Rattle.std.proofs.Common.{rules}
use Rattle.station.proofs.Passes.{known, no_unit, other_serial}
use Rattle.station.proofs.station.Station.find.Goals as goal

pub returns-in-Some : goal.returns-in-Some
returns-in-Some g c = search (rules, known)

pub returns-in_default : goal.returns-in_default
returns-in_default g c = search (rules, other_serial)

pub returns-in_default-3 : goal.returns-in_default-3
returns-in_default-3 g c = search (rules, no_unit)
