use Rattle.std.proofs.Common.{rules}
use Rattle.station.proofs.Soundness.{follows}
use Rattle.station.proofs.station.Station.apply.Goals as goal

pub returns-clause-law : goal.returns-clause-law
returns-clause-law g c = search (rules, follows)
