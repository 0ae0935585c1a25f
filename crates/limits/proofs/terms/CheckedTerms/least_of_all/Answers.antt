use Rattle.std.proofs.Common.{◌≡◌, ℕ, ◌*◌, ◌<◌, length, get_or, subst, arith}
use Rattle.limits.specs.Limit.{exceeded, sides_of}
use Rattle.limits.specs.Narrowing.{Below, no_best}
use Rattle.limits.specs.declared.limit.Limit.TheVariants.{Availability}
use Rattle.limits.specs.declared.row.CheckedRow.{CheckedRow}
use Rattle.limits.proofs.Breaks.{ten_sides}
use Rattle.limits.proofs.Narrow.{at_rise, at_fall, held_place, held_three}
use Rattle.limits.proofs.Orders.{after_services, after_ramp_up, below_three}
use Rattle.limits.proofs.terms.CheckedTerms.least_of_all.Goals as goal

inside : (row : CheckedRow) (s : ℕ) → s < 10 → s < length row.row.amounts
inside row s l = omega (arith, row.ten)

pub loop-own-preserved : goal.loop-own-preserved
loop-own-preserved c =
    let a = c.in_ok-narrow_all.ensures in
    let u = c.in_ok-narrow_all-2.ensures in
    let w = c.in_ok-narrow_all-3.ensures in (
      (λ s l. held_three c.args.self.now.terms c.args.row.now.row s (inside c.args.row.now s l) c.of_service.result c.loop-own.own (Availability 0) c.of_service.ensures c.loop-own-test.true
          (get_or c.loop-own.best s no_best) (get_or c.narrow_all.new.best s no_best) (get_or c.narrow_all-in-loop-own.new.best s no_best) (get_or c.narrow_all-in-loop-own-2.new.best s no_best)
          (c.loop-own.invariant.0 s l) a.0 (a.1 s l) u.0 (u.1 s l) w.0 (w.1 s l)),
      below_three _ c.of_service.result c.loop-own.own (Availability 0) c.of_service.ensures c.loop-own-test.true c.loop-own.invariant.1 a.0 u.0 w.0,
    )

pub returns : goal.returns
returns c =
    let ends : 3 * c.loop-own.own ≡ 30 = omega arith in
    let rise = c.in_ok-narrow_all-4.ensures in
    let fall = c.in_ok-narrow_all-5.ensures in
    let ten = ten_sides c.args.self.now.terms c.args.row.now.row c.args.self.now.ten in (
      (λ s l.
          let in' = inside c.args.row.now s l in
          let services = held_place c.args.self.now.terms c.args.row.now.row s in' (3 * c.loop-own.own) 30 (get_or c.loop-own.best s no_best) ends (c.loop-own.invariant.0 s l) in
          let risen = at_rise c.args.self.now.terms c.args.row.now.row s in' c.args.self.now.ten (get_or c.loop-own.best s no_best) (get_or c.narrow_all-2.new.best s no_best) services rise.0 (rise.1 s l) in
          at_fall c.args.self.now.terms c.args.row.now.row s in' c.args.self.now.ten (get_or c.narrow_all-2.new.best s no_best) (get_or c.narrow_all-3.new.best s no_best) risen fall.0 (fall.1 s l)),
      after_ramp_up _ ten (after_services _ ten (subst (λ (n : ℕ). Below (λ limit. exceeded (sides_of c.args.self.now.terms c.args.row.now.row limit)) n) ends c.loop-own.invariant.1) rise.0) fall.0,
    )
