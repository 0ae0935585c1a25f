use Rattle.std.proofs.Common.{◌≡◌, length, ◌+ℤ◌, ◌-ℤ◌, pos, ℕ, sym, ap, ◌∙◌, arith, rules}
use Rattle.plants.specs.ConnectionCap.{cap_of_unit, flow}
use Rattle.plants.proofs.Answered.{element, greatest_of_room}
use Rattle.plants.specs.Flows.{room_adds}
use Rattle.plants.proofs.connection_cap.ConnectionCapPlantLimit.most.Goals as goal

pub returns-then-adds : goal.returns-then-adds
returns-then-adds c =
    let ten : length c.args.row.now.amounts ≡ 10 = search rules in
    let found = element c.args.row.now.amounts c.args.service c.from.result c.in_ok-amount.amount c.get.result c.get.ensures.lookup c.from.ensures (sym c.in_ok-amount.ensures) in
    greatest_of_room _ c.args.service c.greatest.result c.room.result _ (record { sfits = c.room.type_inv })
    (c.room.ensures ∙ ap (λ (n : ℕ). (pos (cap_of_unit c.args.self.now c.args.row.now.unit) -ℤ flow c.args.row.now) +ℤ pos n) found.1)
    (room_adds c.args.self.now c.args.row.now c.args.service found.0 (sym c.if-adds.ensures)) (c.greatest.ensures c.args.service (omega (arith, found.0, ten)))
