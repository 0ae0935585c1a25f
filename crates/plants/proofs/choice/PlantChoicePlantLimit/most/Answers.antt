use Rattle.std.proofs.Common.{rules}
use Rattle.plants.proofs.Answered.{greatest_same}
use Rattle.plants.proofs.choice.PlantChoicePlantLimit.most.Goals as goal

pub returns-in-Bare : goal.returns-in-Bare
returns-in-Bare c = search (rules, greatest_same)
