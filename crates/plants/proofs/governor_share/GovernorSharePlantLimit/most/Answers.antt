use Rattle.std.proofs.Common.{◌≡◌, ◌≤◌, ◌&&◌, length, nat_le, int_le, pos, ◌-ℤ◌, sym, arith, rules}
use Rattle.limits.specs.Row.{with_amount}
use Rattle.plants.specs.GovernorShare.{share_allows}
use Rattle.plants.proofs.Answered.{element, greatest_same}
use Rattle.plants.specs.Shares.{lower_left, raise_left}
use Rattle.plants.proofs.governor_share.GovernorSharePlantLimit.most.Goals as goal

pub returns-then-service-lt5 : goal.returns-then-service-lt5
returns-then-service-lt5 c =
    let ten : length c.args.row.now.amounts ≡ 10 = search rules in
    let found = element c.args.row.now.amounts c.args.service c.from.result c.in_ok-amount.amount c.get.result c.get.ensures.lookup c.from.ensures (sym c.in_ok-amount.ensures) in
    let h = raise_left c.args.self.now c.args.row.now c.args.service c.sides.result.0.held c.in_ok-amount.amount ten c.if-service-lt5.true c.sides.ensures.raises found.1 in
    greatest_same (λ a. int_le (pos a) (pos c.sides.result.0.most -ℤ (pos c.sides.result.0.held -ℤ pos c.in_ok-amount.amount)) && nat_le c.sides.result.1.held c.sides.result.1.most) (λ a. share_allows c.args.self.now (with_amount c.args.row.now c.args.service a)) (λ a. rw (c.sides.ensures.raise, c.sides.ensures.lower, c.sides.ensures.lowers) (h a)) c.args.service c.greatest_beside.result (c.greatest_beside.ensures c.args.service (omega arith))

pub returns-else-service-lt5 : goal.returns-else-service-lt5
returns-else-service-lt5 c =
    let ten : length c.args.row.now.amounts ≡ 10 = search rules in
    let found = element c.args.row.now.amounts c.args.service c.from.result c.in_ok-amount.amount c.get.result c.get.ensures.lookup c.from.ensures (sym c.in_ok-amount.ensures) in
    let within : c.args.service ≤ 9 = omega (arith, found.0) in
    let h = lower_left c.args.self.now c.args.row.now c.args.service c.sides.result.1.held c.in_ok-amount.amount ten c.if-service-lt5.false within c.sides.ensures.lowers found.1 in
    greatest_same (λ a. int_le (pos a) (pos c.sides.result.1.most -ℤ (pos c.sides.result.1.held -ℤ pos c.in_ok-amount.amount)) && nat_le c.sides.result.0.held c.sides.result.0.most) (λ a. share_allows c.args.self.now (with_amount c.args.row.now c.args.service a)) (λ a. rw (c.sides.ensures.raise, c.sides.ensures.lower, c.sides.ensures.raises) (h a)) c.args.service c.greatest_beside-else-service-lt5.result (c.greatest_beside-else-service-lt5.ensures c.args.service within)
