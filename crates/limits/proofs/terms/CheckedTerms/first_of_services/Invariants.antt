use Rattle.std.proofs.Common.{◌≡◌, ◌+◌, ◌*◌, ◌<◌, false, None}
use Rattle.limits.specs.Limit.{exceeded, place, sides_of}
use Rattle.limits.specs.declared.limit.Limit.{Limit}
use Rattle.limits.proofs.terms.CheckedTerms.first_of_services.Given as goal

abbrev pub invariant-loop-limit : goal.invariant-loop-limit
invariant-loop-limit l = (l.broken ≡ None) × ((limit : Limit) → place limit < 3 * l.service + l.limit-index → exceeded (sides_of l.self.terms l.row.row limit) ≡ false)

abbrev pub invariant-search : goal.invariant-search
invariant-search l = (l.broken ≡ None) × ((limit : Limit) → place limit < 3 * l.service → exceeded (sides_of l.self.terms l.row.row limit) ≡ false)
