use Rattle.station.proofs.Held.{figures_given}
use Rattle.station.proofs.row.UnitRow.figures.Goals as goal

pub returns : goal.returns
returns g c = figures_given (g.P.PlantLimit.allowed c.args.plant.now) c.args.self.now c.args.unit c.in_ok-row.ensures.0 c.in_ok-row.row.row c.in_ok-row.ensures.1 c.figures.result c.ok_or.result c.ok_or.ensures.value c.figures.ensures.value
