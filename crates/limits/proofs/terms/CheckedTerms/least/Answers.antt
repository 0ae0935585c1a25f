use Rattle.std.proofs.Common.{◌≡◌, ◌*◌, ◌<◌, length, arith}
use Rattle.limits.specs.declared.limit.Limit.TheVariants.{Availability}
use Rattle.limits.proofs.Narrow.{at_rise, held_place, held_three, least_at}
use Rattle.limits.proofs.terms.CheckedTerms.least.Goals as goal

pub loop-own-preserved : goal.loop-own-preserved
loop-own-preserved c =
    let within : c.number-number.result < length c.args.row.now.row.amounts = omega (arith, c.args.row.now.ten, c.number-number.ensures.one_of_ten) in
    held_three c.args.self.now.terms c.args.row.now.row c.number-number.result within c.of_service.result c.loop-own.own (Availability 0) c.of_service.ensures c.loop-own-test.true
    c.loop-own.best c.in_ok-best.best c.in_ok-best-2.best c.in_ok-best-3.best c.loop-own.invariant
    c.in_ok-best.ensures.0 c.in_ok-best.ensures.1 c.in_ok-best-2.ensures.0 c.in_ok-best-2.ensures.1 c.in_ok-best-3.ensures.0 c.in_ok-best-3.ensures.1

pub returns : goal.returns
returns c =
    let within : c.number-number.result < length c.args.row.now.row.amounts = omega (arith, c.args.row.now.ten, c.number-number.ensures.one_of_ten) in
    let ends : 3 * c.loop-own.own ≡ 30 = omega arith in
    let services = held_place c.args.self.now.terms c.args.row.now.row c.number-number.result within (3 * c.loop-own.own) 30 c.loop-own.best ends c.loop-own.invariant in
    let rise = at_rise c.args.self.now.terms c.args.row.now.row c.number-number.result within c.args.self.now.ten c.loop-own.best c.in_ok-best-4.best services c.in_ok-best-4.ensures.0 c.in_ok-best-4.ensures.1 in
    rw (← c.number-number.ensures.value) (least_at c.args.self.now.terms c.args.row.now.row c.number-number.result within c.args.self.now.ten c.in_ok-best-4.best c.narrow-3.result rise c.narrow-3.ensures)
