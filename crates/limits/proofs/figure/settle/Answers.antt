use Rattle.std.proofs.Common.{ℕ, ◌<◌, ◌≤◌, length, sym, subst, ◌∙◌, arith}
use Rattle.limits.specs.Narrowing.{Held, exceeded_with}
use Rattle.limits.specs.declared.terms.Offer.{Offer}
use Rattle.limits.proofs.Records.{is_live, live_figure, when_live}
use Rattle.limits.proofs.Settled.{live_bound, settled}
use Rattle.limits.proofs.figure.settle.Goals as goal

pub returns : goal.returns
returns g c =
    let n = c.number-number.result in
    let named = c.number-number.ensures.value in
    let within : n < length c.args.row.now.row.amounts = omega (arith, c.args.row.now.ten, c.number-number.ensures.one_of_ten) in
    let held = subst (λ (s : ℕ). Held (exceeded_with c.args.terms.now.terms c.args.row.now.row s) 32 c.args.best) (sym named) c.requires.held in
    let live = is_live _ _ c.offer.ensures.value (sym c.is_live.ensures ∙ c.if-not-is_live.false) in
    let bound = live_bound (g.P.PlantLimit.allowed c.args.plant.now) c.args.terms.now.terms c.args.row.now.row n within c.args.terms.now.ten 32 c.args.best c.number-number.ensures.one_of_ten (omega arith) live held in
    let most = subst (λ (o : Offer). o.max_availability ≤ 4000000) c.offer.ensures.value c.offer.ensures.powers.effective in
    let small : c.args.best.most ≤ 4000000 = omega (arith, bound, most) in
    let greatest = settled (g.P.PlantLimit.allowed c.args.plant.now) c.args.terms.now.terms c.args.row.now.row n within c.args.terms.now.ten
    (λ r a. g.met.P.PlantLimit.lowering c.args.plant.now r n a) c.args.best small held c.in-Some.most c.in-Some.ensures.1 in
    rw (← named) (when_live _ _ _ live (live_figure _ _ _ _ c.live.result c.narrowed.ensures greatest c.live.ensures.figure c.live.ensures.ground c.live.ensures.by))
