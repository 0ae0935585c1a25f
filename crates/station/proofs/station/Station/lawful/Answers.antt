use Rattle.station.proofs.Soundness.{lawful}
use Rattle.station.proofs.station.Station.lawful.Goals as goal

pub returns : goal.returns
returns g c = lawful g.P.PlantLimit.allowed c.args.self.now
