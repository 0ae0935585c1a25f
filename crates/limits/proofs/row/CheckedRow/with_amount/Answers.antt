use Rattle.std.proofs.Common.{rules}
use Rattle.limits.proofs.InBounds.{none_above_set}
use Rattle.limits.proofs.row.CheckedRow.with_amount.Goals as goal

pub invariant_of-result-clause-amounts_in_range : goal.invariant_of-result-clause-amounts_in_range
invariant_of-result-clause-amounts_in_range c = none_above_set 4000000 c.args.self.now.row.amounts _ _ (search rules) c.args.self.now.amounts_in_range
