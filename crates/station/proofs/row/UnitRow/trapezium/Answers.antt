use Rattle.std.proofs.Common.{rules}
use Rattle.station.proofs.Held.{trapezium_given}
use Rattle.station.proofs.Rows.{held_at}
use Rattle.station.proofs.row.UnitRow.trapezium.Goals as goal

pub returns : goal.returns
returns c = rw (← c.number.ensures.value) (trapezium_given c.args.self.now c.number.result c.map.result
    (rw (held_at c.args.self.now.bids c.number.result c.index-self-number.result (search rules), c.number.ensures.value) (search rules)))
