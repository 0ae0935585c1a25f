use Rattle.std.proofs.Common.{◌≡◌, ℕ, ◌<◌, ◌≤◌, Bool, length, sym, ap, ◌∙◌, subst, zero-le, arith, rules}
use Rattle.limits.specs.Figure.{breaks_with}
use Rattle.limits.specs.Limit.{Borne, breaks}
use Rattle.limits.specs.Narrowing.{Held, exceeded_with}
use Rattle.limits.specs.Row.{with_amount}
use Rattle.limits.specs.declared.limit.Limit.{Limit}
use Rattle.limits.specs.declared.row.Row.{Row}
use Rattle.limits.specs.declared.terms.Offer.{Offer}
use Rattle.limits.specs.declared.terms.Terms.{Terms}
use Rattle.limits.proofs.Records.{greatest_same, is_live, live_figure, not_allowed, not_borne}
use Rattle.limits.proofs.Settled.{borne_at, live_bound, put_twice, settled}
use Rattle.limits.proofs.figure.probe.Goals as goal

-- the row without the service, with an amount put back
module _ (allowed : Row → Bool) (terms : Terms) (row empty : Row) (s : ℕ) (e : empty ≡ with_amount row s 0) where
  back : (a : ℕ) → with_amount empty s a ≡ with_amount row s a
  back a = ap (λ (r : Row). with_amount r s a) e ∙ put_twice row s 0 a

  same : (a : ℕ) → breaks_with allowed terms empty s a ≡ breaks_with allowed terms row s a
  same a = ap (breaks allowed terms) (back a)

pub returns-in_err-best : goal.returns-in_err-best
returns-in_err-best g c = rw c.from_residual.ensures (record {
  value = λ live none. not_borne (g.P.PlantLimit.allowed c.args.plant.now) c.args.terms.now.terms c.with_amount-without.result.row c.args.terms.now.ten c.in_err-best.ensures.0 c.in_err-best.ensures.1
      (subst (λ (r : Row). Borne (breaks (g.P.PlantLimit.allowed c.args.plant.now) c.args.terms.now.terms r)) (sym c.with_amount-without.ensures) none);
})

pub returns-in_err-most : goal.returns-in_err-most
returns-in_err-most g c = search (rules, not_allowed)

pub returns : goal.returns
returns g c =
    let n = c.number-number.result in
    let named = c.number-number.ensures.value in
    let e = c.with_amount-without.ensures ∙ ap (λ (s : ℕ). with_amount c.args.row.now.row s 0) (sym named) in
    let within : n < length c.with_amount-without.result.row.amounts = omega (arith, c.with_amount-without.result.ten, c.number-number.ensures.one_of_ten) in
    let held = subst (λ (s : ℕ). Held (exceeded_with c.args.terms.now.terms c.with_amount-without.result.row s) 32 c.in_ok-best.best) (sym named) c.in_ok-best.ensures in
    let live = is_live _ _ c.offer.ensures.value (sym c.is_live.ensures ∙ c.if-not-is_live.false) in
    let bound = live_bound (g.P.PlantLimit.allowed c.args.plant.now) c.args.terms.now.terms c.with_amount-without.result.row n within c.args.terms.now.ten 32 c.in_ok-best.best c.number-number.ensures.one_of_ten (omega arith) live held in
    let most = subst (λ (o : Offer). o.max_availability ≤ 4000000) c.offer.ensures.value c.offer.ensures.powers.effective in
    let small : c.in_ok-best.best.most ≤ 4000000 = omega (arith, bound, most) in
    let again = same (g.P.PlantLimit.allowed c.args.plant.now) c.args.terms.now.terms c.args.row.now.row c.with_amount-without.result.row n e in
    let greatest = settled (g.P.PlantLimit.allowed c.args.plant.now) c.args.terms.now.terms c.with_amount-without.result.row n within c.args.terms.now.ten
    (λ r a. g.met.P.PlantLimit.lowering c.args.plant.now r n a) c.in_ok-best.best small held c.in_ok-most.most c.in_ok-most.ensures.1 in
    let none = borne_at (g.P.PlantLimit.allowed c.args.plant.now) c.args.terms.now.terms c.with_amount-without.result.row n within c.args.terms.now.ten
    (λ r a. g.met.P.PlantLimit.lowering c.args.plant.now r n a) c.in_ok-best.best small held c.in_ok-most.most c.in_ok-most.ensures.1 0 zero-le zero-le in
    rw (← named) (record {
      value = (live, subst (λ (b : Limit → Bool). Borne b) (again 0) none, live_figure _ _ _ _ c.live.result c.narrowed.ensures (greatest_same _ _ again _ _ greatest) c.live.ensures.figure c.live.ensures.ground c.live.ensures.by);
    })
