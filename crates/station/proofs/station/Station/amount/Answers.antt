use Rattle.std.proofs.Common.{sym}
use Rattle.fcas.specs.Service.{service_number}
use Rattle.station.proofs.ByPass.{amount_turn, unknown_amount}
use Rattle.station.proofs.station.Station.amount.Goals as goal

pub returns-in_err-unit : goal.returns-in_err-unit
returns-in_err-unit g c = record {
  turn = unknown_amount g.P.PlantLimit.allowed c.args.self.now c.args.pass.now.numbers c.args.service c.args.amount c.from_residual-in_err-unit.result c.in_err-unit.field-0.0 c.in_ok-service.ensures.0 c.in_ok-amount.ensures.0 c.from_residual-in_err-unit.ensures.1 c.in_err-unit.ensures;
}

pub returns : goal.returns
returns g c = record {
  turn = rw (sym c.in_ok-service.ensures.1, sym c.in_ok-amount.ensures.1)
      (amount_turn g.P.PlantLimit.allowed c.args.self.now c.args.pass.now.numbers c.in_ok-unit.unit c.in_ok-unit.ensures.1.0 c.index-self-unit.result c.in_ok-unit.ensures.1.1 c.in_ok-unit.ensures.0
      (service_number c.in_ok-service.service) c.in_ok-amount.amount c.amount.new.self c.amount.result (rw c.in_ok-service.ensures.1 c.in_ok-service.ensures.0) (rw c.in_ok-amount.ensures.1 c.in_ok-amount.ensures.0) c.amount.ensures);
}
