use Rattle.std.proofs.Common.{ℕ, ◌*◌, ◌<◌, get_or}
use Rattle.limits.specs.Limit.{exceeded, sides_of}
use Rattle.limits.specs.Narrowing.{Below, Held, exceeded_with, no_best}
use Rattle.limits.proofs.terms.CheckedTerms.least_of_all.Given as goal

abbrev pub invariant-loop-own : goal.invariant-loop-own
invariant-loop-own l = ((s : ℕ) → s < 10 → Held (exceeded_with l.self.terms l.row.row s) (3 * l.own) (get_or l.best s no_best)) × Below (λ limit. exceeded (sides_of l.self.terms l.row.row limit)) (3 * l.own)
