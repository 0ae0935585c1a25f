use Rattle.std.proofs.Common.{rules}
use Rattle.fcas.proofs.Above.{above_at, none_above}
use Rattle.fcas.proofs.bid.some_above.Goals as goal

pub returns-then-is_above : goal.returns-then-is_above
returns-then-is_above c = search (rules, above_at)

pub returns : goal.returns
returns c = search (rules, none_above)
