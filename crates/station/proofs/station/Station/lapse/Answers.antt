use Rattle.std.proofs.Common.{◌<◌, not, [], ◌∷◌, length, is_some, None, refl, rules}
use Rattle.std.specs.Option.{option_map}
use Rattle.station.specs.Book.{unit_faults}
use Rattle.station.specs.Entry.{is_open, with_interval}
use Rattle.station.specs.declared.call.Call.TheVariants.{Lapse}
use Rattle.station.proofs.Turns.{by_unit}
use Rattle.station.proofs.station.Station.lapse.Goals as goal

pub returns : goal.returns
returns g c =
    let within : c.args.unit < length c.args.self.now.rows = search rules in
    by_unit g.P.PlantLimit.allowed c.args.self.now c.args.unit c.index-self-unit.result c.end.new.self within
    (Lapse c.args.unit) (unit_faults c.args.unit) (λ entry. (22, not (is_some entry)) ∷ (27, not (is_open entry)) ∷ []) (option_map (with_interval None))
    c.in_ok-check_unit.ensures.0 refl refl c.end.result (λ _. refl) refl refl c.end.ensures
