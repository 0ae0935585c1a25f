use Rattle.std.proofs.Common.{◌<◌, length, rules}
use Rattle.station.proofs.Opening.{open_refused, open_turn, reading_refused}
use Rattle.station.proofs.station.Station.open.Goals as goal

pub returns-in_err-reading : goal.returns-in_err-reading
returns-in_err-reading g c = reading_refused g.P.PlantLimit.allowed c.args.self.now c.args.unit c.args.reading.now c.in_ok-check_unit.ensures.0 c.from_residual-in_err-reading.result _ c.from_residual-in_err-reading.ensures.1 c.in_err-reading.ensures

pub returns-in_err-open : goal.returns-in_err-open
returns-in_err-open g c =
    let within : c.args.unit < length c.args.self.now.rows = search rules in
    open_refused g.P.PlantLimit.allowed c.args.self.now c.args.unit c.args.reading.now c.in_ok-check_unit.ensures.0 c.index-self-unit.result c.open.new.self within
    c.in_ok-reading.reading.measured c.in_ok-reading.ensures.1 c.in_ok-reading.ensures.0
    c.from_residual-in_err-open.result c.in_err-open.field-0.0 c.from_residual-in_err-open.ensures.1 c.in_err-open.ensures.0 c.in_err-open.ensures.1

pub returns : goal.returns
returns g c =
    let within : c.args.unit < length c.args.self.now.rows = search rules in
    open_turn g.P.PlantLimit.allowed c.args.self.now c.args.unit c.args.reading.now c.in_ok-check_unit.ensures.0 c.index-self-unit.result c.open.new.self within
    c.in_ok-reading.reading.measured c.in_ok-reading.ensures.1 c.in_ok-reading.ensures.0
    c.pass_of.result.numbers c.pass_of.ensures c.in_ok-open.ensures.0 c.in_ok-open.ensures.1
