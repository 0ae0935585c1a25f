use Rattle.std.proofs.Common.{length}
use Rattle.station.proofs.ByPass.{close_refused, close_turn, enough, filled, unknown_close}
use Rattle.station.proofs.Firsts.{handed_on}
use Rattle.station.proofs.Turns.{lent_same}
use Rattle.station.proofs.station.Station.try_close.Goals as goal

pub returns-in_err-unit-clause-turn : goal.returns-in_err-unit-clause-turn
returns-in_err-unit-clause-turn g c = rw (handed_on c.from_residual.result c.in_err-unit.field-0.0 c.from_residual.ensures.1)
    (unknown_close g.P.PlantLimit.allowed c.args.self.now c.args.pass.now.numbers (length c.args.table.now) c.in_err-unit.field-0.0 (enough (length c.args.table.now) c.if-table-lt10.false) c.in_err-unit.ensures)

pub returns-in_err-figures-clause-turn : goal.returns-in_err-figures-clause-turn
returns-in_err-figures-clause-turn g c = rw (handed_on c.from_residual-in_err-figures.result c.in_err-figures.field-0.0 c.from_residual-in_err-figures.ensures.1, lent_same g.P.PlantLimit.allowed c.args.self.now c.in_ok-unit.unit c.index-self-unit.result c.close.new.self c.in_ok-unit.ensures.1.1 c.in_err-figures.ensures.refused)
    (close_refused g.P.PlantLimit.allowed c.args.self.now c.args.pass.now.numbers c.in_ok-unit.unit c.in_ok-unit.ensures.1.0 c.index-self-unit.result c.in_ok-unit.ensures.1.1 c.in_ok-unit.ensures.0
    (length c.args.table.now) c.in_err-figures.field-0.0 (enough (length c.args.table.now) c.if-table-lt10.false) c.in_err-figures.ensures.value)

pub returns : goal.returns
returns g c =
    let parts = filled c.args.table.now c.fill.new.table c.in_ok-figures.figures c.fill.ensures.ten c.fill.ensures.value in
    record {
      turn = rw parts.0
          (close_turn g.P.PlantLimit.allowed c.args.self.now c.args.pass.now.numbers c.in_ok-unit.unit c.in_ok-unit.ensures.1.0 c.index-self-unit.result c.in_ok-unit.ensures.1.1 c.in_ok-unit.ensures.0
          (length c.args.table.now) c.close.new.self c.in_ok-figures.figures (enough (length c.args.table.now) c.if-table-lt10.false) c.fill.ensures.ten (λ bears. ((c.in_ok-figures.ensures.value bears).0, (c.in_ok-figures.ensures.value bears).1.0, (c.in_ok-figures.ensures.value bears).1.1)));
      table = parts.1;
    }
