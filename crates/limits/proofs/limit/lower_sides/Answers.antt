use Rattle.std.proofs.Common.{arith}
use Rattle.std.proofs.lemmas.Int.{ints}
use Rattle.limits.proofs.limit.lower_sides.Goals as goal

pub returns-clause-bound : goal.returns-clause-bound
returns-clause-bound c = record { lesser_low = omega (arith, ints); lesser_high = omega (arith, ints); greater_low = omega (arith, ints); greater_high = omega (arith, ints) }
