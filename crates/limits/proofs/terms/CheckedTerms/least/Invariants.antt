use Rattle.std.proofs.Common.{◌*◌}
use Rattle.limits.specs.Narrowing.{Held, exceeded_with}
use Rattle.limits.proofs.terms.CheckedTerms.least.Given as goal

abbrev pub invariant-loop-own : goal.invariant-loop-own
invariant-loop-own l = Held (exceeded_with l.self.terms l.row.row l.number) (3 * l.own) l.best
