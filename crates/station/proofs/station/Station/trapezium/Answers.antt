use Rattle.std.proofs.Common.{sym, rules}
use Rattle.fcas.specs.Service.{service_number}
use Rattle.station.proofs.ByPass.{trapezium_turn, unknown_trapezium}
use Rattle.station.proofs.station.Station.trapezium.Goals as goal

pub returns-in_err-unit : goal.returns-in_err-unit
returns-in_err-unit g c = search (rules, unknown_trapezium)

pub returns : goal.returns
returns g c = rw (sym c.in_ok-service.ensures.1)
    (trapezium_turn g.P.PlantLimit.allowed c.args.self.now c.args.pass.now.numbers c.in_ok-unit.unit c.in_ok-unit.ensures.1.0 c.index-self-unit.result c.in_ok-unit.ensures.1.1 c.in_ok-unit.ensures.0
    (service_number c.in_ok-service.service) c.trapezium.result (rw c.in_ok-service.ensures.1 c.in_ok-service.ensures.0)
    c.trapezium.ensures)
