use Rattle.std.proofs.Common.{◌≡◌, ℕ, ◌<◌, length, get_or, sym, subst, ◌∙◌, arith, length-set, rules}
use Rattle.limits.specs.Figure.{FigureAt, no_figure}
use Rattle.limits.proofs.Breaks.{below_breaks, borne}
use Rattle.limits.proofs.Places.{place_more}
use Rattle.limits.proofs.Records.{not_allowed, not_borne}
use Rattle.limits.proofs.Services.{service_at}
use Rattle.limits.proofs.figure.figures.Goals as goal

pub returns-in_err-best : goal.returns-in_err-best
returns-in_err-best g c = rw c.from_residual.ensures (record {
  value = not_borne (g.P.PlantLimit.allowed c.args.plant.now) c.args.terms.now.terms c.args.row.now.row c.args.terms.now.ten c.in_err-best.ensures.0 c.in_err-best.ensures.1;
})

pub returns-then-not-is_allowed : goal.returns-then-not-is_allowed
returns-then-not-is_allowed g c = search (rules, not_allowed)

pub loop-service-preserved : goal.loop-service-preserved
loop-service-preserved g c =
    let at : c.number-place.result ≡ c.loop-service.service-index = c.number-place.ensures.value ∙ service_at c.loop-service.service-index _ c.loop-service-test.true in
    let within : c.number-place.result < length c.loop-service.table = omega (arith, c.loop-service.invariant.0, c.number-place.ensures.one_of_ten) in
    let here = subst (λ (s : ℕ). FigureAt (g.P.PlantLimit.allowed c.args.plant.now) c.args.terms.now.terms c.args.row.now.row s c.settle.result) (sym c.number-place.ensures.value) c.settle.ensures in (
      length-set c.loop-service.table c.number-place.result c.settle.result ∙ c.loop-service.invariant.0,
      rw (← at) (place_more (FigureAt (g.P.PlantLimit.allowed c.args.plant.now) c.args.terms.now.terms c.args.row.now.row) no_figure c.loop-service.table c.number-place.result c.settle.result within
          (subst (λ (n : ℕ). (s : ℕ) → s < n → FigureAt (g.P.PlantLimit.allowed c.args.plant.now) c.args.terms.now.terms c.args.row.now.row s (get_or c.loop-service.table s no_figure)) (sym at) c.loop-service.invariant.1) here),
    )

pub returns : goal.returns
returns g c = search (rules, below_breaks, borne)
