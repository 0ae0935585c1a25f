use Rattle.station.proofs.ByPass.{abandon_turn}
use Rattle.station.proofs.station.Station.abandon.Goals as goal

pub returns : goal.returns
returns g c = abandon_turn g.P.PlantLimit.allowed c.args.self.now c.args.pass.numbers c.in_ok-unit.unit c.in_ok-unit.ensures.1.0 c.index-self-unit.result c.in_ok-unit.ensures.1.1 c.in_ok-unit.ensures.0
    c.end.new.self c.end.result c.end.ensures
