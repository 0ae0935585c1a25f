use Rattle.std.proofs.Common.{◌<◌, length, None, refl, rules}
use Rattle.station.specs.Book.{unit_faults}
use Rattle.station.specs.Entry.{idle_faults}
use Rattle.station.specs.declared.call.Call.TheVariants.{Retire}
use Rattle.station.proofs.Turns.{by_unit}
use Rattle.station.proofs.station.Station.retire.Goals as goal

pub returns : goal.returns
returns g c =
    let within : c.args.unit < length c.args.self.now.rows = search rules in
    by_unit g.P.PlantLimit.allowed c.args.self.now c.args.unit c.index-self-unit.result c.retire.new.self within
    (Retire c.args.unit) (unit_faults c.args.unit) idle_faults (λ _. None)
    c.in_ok-check_unit.ensures.0 refl refl c.retire.result (λ _. refl) refl refl c.retire.ensures
