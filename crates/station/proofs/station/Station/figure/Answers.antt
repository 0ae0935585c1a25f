use Rattle.std.proofs.Common.{sym, ◌∙◌}
use Rattle.station.proofs.ByPass.{figure_refused, figure_turn, unknown_figure}
use Rattle.station.proofs.station.Station.figure.Goals as goal

pub returns-in_err-unit : goal.returns-in_err-unit
returns-in_err-unit g c = unknown_figure g.P.PlantLimit.allowed c.args.self.now c.args.pass.now.numbers c.args.service c.from_residual-in_err-unit.result c.in_err-unit.field-0.0 c.in_ok-service.ensures.0 c.from_residual-in_err-unit.ensures.1 c.in_err-unit.ensures

pub returns-in_err-table : goal.returns-in_err-table
returns-in_err-table g c = figure_refused g.P.PlantLimit.allowed c.args.self.now c.args.pass.now.numbers c.in_ok-unit.unit c.in_ok-unit.ensures.1.0 c.index-self-unit.result c.in_ok-unit.ensures.1.1 c.in_ok-unit.ensures.0
    c.args.service c.from_residual-in_err-table.result c.in_err-table.field-0.0 c.in_ok-service.ensures.0 c.from_residual-in_err-table.ensures.1
    c.in_err-table.ensures

pub returns : goal.returns
returns g c =
    let named = c.number.ensures.value ∙ c.in_ok-service.ensures.1 in
    rw (sym named)
    (figure_turn g.P.PlantLimit.allowed c.args.self.now c.args.pass.now.numbers c.in_ok-unit.unit c.in_ok-unit.ensures.1.0 c.index-self-unit.result c.in_ok-unit.ensures.1.1 c.in_ok-unit.ensures.0
    c.number.result _ (rw named c.in_ok-service.ensures.0)
    (λ bears. ((c.in_ok-table.ensures bears).0, (c.in_ok-table.ensures bears).1 c.number.result c.number.ensures.one_of_ten)))
