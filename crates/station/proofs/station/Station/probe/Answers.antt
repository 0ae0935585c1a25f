use Rattle.std.proofs.Common.{sym}
use Rattle.fcas.specs.Service.{service_number}
use Rattle.station.proofs.ByPass.{probe_turn, unknown_probe}
use Rattle.station.proofs.station.Station.probe.Goals as goal

pub returns-in_err-unit : goal.returns-in_err-unit
returns-in_err-unit g c = unknown_probe g.P.PlantLimit.allowed c.args.self.now c.args.pass.now.numbers c.args.service c.args.energy c.from_residual-in_err-unit.result c.in_err-unit.field-0.0 c.in_ok-service.ensures.0 c.in_ok-energy.ensures.0 c.from_residual-in_err-unit.ensures.1 c.in_err-unit.ensures

pub returns : goal.returns
returns g c = rw (sym c.in_ok-service.ensures.1, sym c.in_ok-energy.ensures.1)
    (probe_turn g.P.PlantLimit.allowed c.args.self.now c.args.pass.now.numbers c.in_ok-unit.unit c.in_ok-unit.ensures.1.0 c.index-self-unit.result c.in_ok-unit.ensures.1.1 c.in_ok-unit.ensures.0
    (service_number c.in_ok-service.service) c.in_ok-energy.energy c.probe.result (rw c.in_ok-service.ensures.1 c.in_ok-service.ensures.0) (rw c.in_ok-energy.ensures.1 c.in_ok-energy.ensures.0)
    c.probe.ensures)
