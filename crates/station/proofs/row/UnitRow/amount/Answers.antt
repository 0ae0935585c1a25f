use Rattle.std.proofs.Common.{ℕ, List, sym, ap, ◌∙◌, rules}
use Rattle.fcas.specs.Service.{service_number}
use Rattle.limits.specs.Row.{with_amount}
use Rattle.limits.specs.declared.row.Row.{Row}
use Rattle.limits.specs.Terms.{held_bids}
use Rattle.station.specs.View.{entry_in}
use Rattle.station.proofs.Firsts.{handed_on}
use Rattle.station.proofs.Held.{amount_not_live, amount_refused, amount_taken}
use Rattle.station.proofs.row.UnitRow.amount.Goals as goal

pub returns-then-not-is_live : goal.returns-then-not-is_live
returns-then-not-is_live g c = search (rules, amount_not_live)

pub returns-in_err-check_limits : goal.returns-in_err-check_limits
returns-in_err-check_limits g c = search (rules, handed_on, amount_refused)

pub returns : goal.returns
returns g c =
    let taken = amount_taken (g.P.PlantLimit.allowed c.args.plant.now) c.args.self.now c.args.unit c.in_ok-held.ensures.0 (service_number c.args.service) c.args.amount (sym c.if-not-is_live.ensures)
    c.with_amount-row.result.row (c.with_amount-row.ensures ∙ ap (λ (r : Row). with_amount r (service_number c.args.service) c.args.amount) c.in_ok-held.ensures.1) c.in_ok-check_limits.ensures in
    (taken.0, taken.1, ap (λ (amounts : List ℕ). entry_in c.args.self.now.state c.args.self.now.kind (held_bids c.args.self.now.bids) c.args.self.now.reading.measured amounts) (search rules) ∙ taken.2)
