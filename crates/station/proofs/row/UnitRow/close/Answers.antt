use Rattle.station.proofs.row.UnitRow.close.Goals as goal

pub returns-clause-value : goal.returns-clause-value
returns-clause-value g c = λ bears. ((c.in_ok-table.ensures bears).0, ((c.in_ok-table.ensures bears).1, c.in_ok-end.ensures.1))
