use Rattle.std.proofs.Common.{◌≡◌, ◌≤◌, sum, arith, rules}
use Rattle.std.proofs.iter.runs.Sources.{sums}
use Rattle.std.proofs.lemmas.List.Elements.{All-from_get_or}
use Rattle.std.proofs.lemmas.List.Sums.{sum_by-le}
use Rattle.plants.proofs.governor_share.Side.new.Goals as goal

pub sum-requires-clause-fits : goal.sum-requires-clause-fits
sum-requires-clause-fits c = search (rules, sums)

pub invariant_of-result : goal.invariant_of-result
invariant_of-result c =
    let total : c.sum.result ≡ sum c.args.amounts.now = search rules in
    let each = All-from_get_or (λ x. x ≤ 4294967295) c.args.amounts.now 0 (λ i l. omega (arith, (c.type_inv.amounts i).fits)) in
    record { bound = omega (arith, sum_by-le (λ x. x) 4294967295 c.args.amounts.now each) }
