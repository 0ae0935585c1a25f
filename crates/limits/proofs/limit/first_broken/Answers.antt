use Rattle.std.proofs.Common.{Option, sym, ap, ◌∙◌, subst}
use Rattle.std.specs.Option.{option_or}
use Rattle.limits.specs.Limit.{Finds, breaks}
use Rattle.limits.specs.declared.limit.Limit.{Limit}
use Rattle.limits.proofs.Breaks.{first_of_all}
use Rattle.limits.proofs.limit.first_broken.Goals as goal

pub returns : goal.returns
returns g c = record {
  value = subst (λ (o : Option Limit). Finds (breaks (g.P.PlantLimit.allowed c.args.plant.now) c.args.terms.now.terms c.args.row.now.row) o)
      (sym (c.earlier.ensures ∙ ap (option_or c.first_of_services.result) c.first_of_row-of_row.ensures))
      (first_of_all c.args.terms.now.terms c.args.row.now.row c.args.terms.now.ten (g.P.PlantLimit.allowed c.args.plant.now) c.first_of_services.result _ _ _
      c.first_of_services.ensures c.exceeds.ensures c.exceeds-2.ensures c.is_allowed.ensures);
}
