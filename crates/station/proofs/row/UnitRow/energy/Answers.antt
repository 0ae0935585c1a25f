use Rattle.std.proofs.Common.{ℕ, ap, ◌∙◌, rules}
use Rattle.states.specs.State.{stepped}
use Rattle.states.specs.declared.state.Event.TheVariants.{Energy}
use Rattle.station.proofs.Firsts.{handed_on}
use Rattle.station.proofs.Held.{energy_refused, energy_taken}
use Rattle.station.proofs.row.UnitRow.energy.Goals as goal

pub returns-in_err-check_limits : goal.returns-in_err-check_limits
returns-in_err-check_limits g c = search (rules, handed_on, energy_refused)

pub returns : goal.returns
returns g c = energy_taken (g.P.PlantLimit.allowed c.args.plant.now) c.args.self.now c.args.unit c.in_ok-state.state c.args.energy c.at-row.result.row (c.in_ok-state.ensures ∙ ap (λ (n : ℕ). stepped c.args.self.now.state (Energy n)) c.get.ensures.value) c.at-row.ensures c.in_ok-check_limits.ensures
