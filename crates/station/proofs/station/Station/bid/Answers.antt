use Rattle.std.proofs.Common.{◌<◌, ◌++◌, length, Some, sym, refl, ap, ◌∙◌, rules}
use Rattle.std.specs.Option.{option_map}
use Rattle.fcas.specs.Bid.{bid_faults}
use Rattle.fcas.specs.Checks.{refusal_number}
use Rattle.fcas.specs.Service.{service_faults}
use Rattle.fcas.specs.Service.{service_number}
use Rattle.station.specs.Book.{unit_at, unit_faults}
use Rattle.station.specs.Entry.{idle_faults, with_bid}
use Rattle.states.specs.Refusal.{plain}
use Rattle.station.specs.Turn.{done}
use Rattle.station.specs.View.{view_of}
use Rattle.station.specs.declared.call.Call.TheVariants.{Bid as Bids}
use Rattle.station.proofs.Firsts.{first_skip, first_stop}
use Rattle.station.proofs.Turns.{by_refusal, by_unit}
use Rattle.station.proofs.station.Station.bid.Goals as goal

pub returns-in_err-bid : goal.returns-in_err-bid
returns-in_err-bid g c =
    let rest = bid_faults c.args.bid.now ++ idle_faults (unit_at (view_of c.args.self.now) c.args.unit) in
    by_refusal g.P.PlantLimit.allowed c.args.self.now (Bids c.args.unit c.args.service c.args.bid.now) refl done (λ _. refl) c.from_residual-in_err-bid.result (plain (refusal_number c.in_err-bid.field-0.0)) c.from_residual-in_err-bid.ensures.1
    (ap (option_map plain) (first_skip (unit_faults c.args.unit) (service_faults c.args.service ++ rest) c.in_ok-check_unit.ensures.0 ∙ first_skip (service_faults c.args.service) rest c.in_ok-service.ensures.0
    ∙ first_stop (bid_faults c.args.bid.now) (idle_faults (unit_at (view_of c.args.self.now) c.args.unit)) (refusal_number c.in_err-bid.field-0.0) c.in_err-bid.ensures))

pub returns : goal.returns
returns g c =
    let within : c.args.unit < length c.args.self.now.rows = search rules in
    let service = (service_number c.in_ok-service.service) in
    let bid = c.in_ok-bid.bid.bid in
    rw (sym c.in_ok-service.ensures.1, sym c.in_ok-bid.ensures.1)
    (by_unit g.P.PlantLimit.allowed c.args.self.now c.args.unit c.index-self-unit.result c.bid.new.self within
    (Bids c.args.unit service bid) (unit_faults c.args.unit ++ service_faults service ++ bid_faults bid) idle_faults (option_map (with_bid service (Some bid)))
    (first_skip (unit_faults c.args.unit) (service_faults service ++ bid_faults bid) c.in_ok-check_unit.ensures.0
    ∙ first_skip (service_faults service) (bid_faults bid) (rw c.in_ok-service.ensures.1 c.in_ok-service.ensures.0) ∙ rw c.in_ok-bid.ensures.1 c.in_ok-bid.ensures.0) refl refl c.bid.result (λ _. refl) refl refl c.bid.ensures)
