use Rattle.std.proofs.Common.{◌<◌, not, [], ◌∷◌, ◌++◌, length, is_some, None, sym, refl, ◌∙◌, rules}
use Rattle.std.specs.Option.{option_map}
use Rattle.fcas.specs.Service.{service_faults}
use Rattle.fcas.specs.Service.{service_number}
use Rattle.station.specs.Book.{unit_faults}
use Rattle.station.specs.Entry.{bid_of, idle_faults, with_bid}
use Rattle.station.specs.declared.call.Call.TheVariants.{Withdraw}
use Rattle.station.proofs.Firsts.{first_skip}
use Rattle.station.proofs.Turns.{by_unit}
use Rattle.station.proofs.station.Station.withdraw.Goals as goal

pub returns : goal.returns
returns g c =
    let within : c.args.unit < length c.args.self.now.rows = search rules in
    let service = (service_number c.in_ok-service.service) in
    rw (sym c.in_ok-service.ensures.1)
    (by_unit g.P.PlantLimit.allowed c.args.self.now c.args.unit c.index-self-unit.result c.withdraw.new.self within
    (Withdraw c.args.unit service) (unit_faults c.args.unit ++ service_faults service) (λ entry. idle_faults entry ++ ((26, not (is_some (bid_of entry service))) ∷ [])) (option_map (with_bid service None))
    (first_skip (unit_faults c.args.unit) (service_faults service) c.in_ok-check_unit.ensures.0 ∙ rw c.in_ok-service.ensures.1 c.in_ok-service.ensures.0) refl refl c.withdraw.result (λ _. refl) refl refl c.withdraw.ensures)
