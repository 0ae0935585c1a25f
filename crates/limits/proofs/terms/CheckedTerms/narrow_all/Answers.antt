use Rattle.std.proofs.Common.{◌≡◌, ℕ, false, ◌-ℤ◌, nat_abs, Some, Option, sym, rules}
use Rattle.limits.specs.Limit.{exceeded, sides_of}
use Rattle.limits.specs.Narrowing.{cap_by, cap_of}
use Rattle.limits.specs.Row.{amount}
use Rattle.limits.specs.declared.limit.Sides.{Sides}
use Rattle.limits.proofs.Joint.{one_narrowed, two_narrowed}
use Rattle.limits.proofs.terms.CheckedTerms.narrow_all.Goals as goal

known : (found : Option Sides) (sides : Sides) (cap : Option ℕ) (a held room c k : ℕ) → Some sides ≡ found → cap ≡ cap_of a room c → a ≡ held → room ≡ nat_abs (sides.greater -ℤ sides.lesser) → c ≡ k → cap ≡ cap_by found held k
known found sides cap a held room c k is e f g h = rw (← is, e, f, g, h)

pub returns-in-Some-joint : goal.returns-in-Some-joint
returns-in-Some-joint c =
    let holds : exceeded (sides_of c.args.self.now.terms c.args.row.now.row c.args.limit) ≡ false = search rules in (
      holds,
      two_narrowed c.args.self.now.terms c.args.limit (sides_of c.args.self.now.terms c.args.row.now.row c.args.limit) (amount c.args.row.now.row) c.args.best.now
          c.by-own.result c.in-Some-joint.other c.cap.result c.cap-in-Some-joint.result c.narrow_place.new.best c.narrow_place-in-Some-joint.new.best
          c.by-own.ensures (sym c.in-Some-joint.ensures)
          (known _ c.in-Some.sides _ _ _ _ _ _ c.in-Some.ensures.value c.cap.ensures c.amount.ensures c.room-room.ensures.value c.coefficient.ensures)
          (known _ c.in-Some.sides _ _ _ _ _ _ c.in-Some.ensures.value c.cap-in-Some-joint.ensures c.amount-in-Some-joint.ensures c.room-room.ensures.value c.coefficient-in-Some-joint.ensures)
          c.narrow_place.ensures c.narrow_place-in-Some-joint.ensures,
    )

pub returns-in_default-joint : goal.returns-in_default-joint
returns-in_default-joint c = search (rules, one_narrowed, known)
