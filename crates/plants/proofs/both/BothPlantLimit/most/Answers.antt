use Rattle.limits.specs.Row.{with_amount}
use Rattle.plants.specs.Amounts.{falls}
use Rattle.plants.proofs.Answered.{both_most}
use Rattle.plants.proofs.both.BothPlantLimit.most.Goals as goal

pub returns : goal.returns
returns g c = (
  c.in_ok-left.ensures.0,
  both_most (λ a. g.L.PlantLimit.allowed c.args.self.now.0 (with_amount c.args.row.now c.args.service a)) (λ a. g.R.PlantLimit.allowed c.args.self.now.1 (with_amount c.args.row.now c.args.service a))
      (falls (g.L.PlantLimit.allowed c.args.self.now.0) c.args.service (λ r a. g.met.L.PlantLimit.lowering c.args.self.now.0 r c.args.service a) c.args.row.now)
      (falls (g.R.PlantLimit.allowed c.args.self.now.1) c.args.service (λ r a. g.met.R.PlantLimit.lowering c.args.self.now.1 r c.args.service a) c.args.row.now)
      c.in_ok-left.left c.in_ok-right.right _ c.lesser.ensures c.in_ok-left.ensures.1 c.in_ok-right.ensures.1,
)
