use Rattle.std.proofs.Common.{rules}
use Rattle.station.proofs.Rows.{bare_some, held_at}
use Rattle.station.proofs.row.UnitRow.has_bid.Goals as goal

pub returns : goal.returns
returns c = rw (← c.number.ensures.value, held_at c.args.self.now.bids c.number.result c.index-self-number.result (search rules), bare_some) c.is_some.ensures
