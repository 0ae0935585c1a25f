use Rattle.std.proofs.Common.{sym}
use Rattle.station.proofs.ByPass.{energy_turn}
use Rattle.station.proofs.station.Station.energy.Goals as goal

pub returns : goal.returns
returns g c = record {
  turn = rw (sym c.in_ok-energy.ensures.1)
      (energy_turn g.P.PlantLimit.allowed c.args.self.now c.args.pass.now.numbers c.in_ok-unit.unit c.in_ok-unit.ensures.1.0 c.index-self-unit.result c.in_ok-unit.ensures.1.1 c.in_ok-unit.ensures.0
      c.in_ok-energy.energy c.energy.new.self c.energy.result (rw c.in_ok-energy.ensures.1 c.in_ok-energy.ensures.0) c.energy.ensures);
}
