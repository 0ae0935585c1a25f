use Rattle.std.proofs.Common.{rules}
use Rattle.station.proofs.Held.{probe_given}
use Rattle.station.proofs.row.UnitRow.probe.Goals as goal

pub returns : goal.returns
returns g c = search (rules, probe_given)
