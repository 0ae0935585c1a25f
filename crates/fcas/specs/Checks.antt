-- Checks in the order in which they are made, and what a refusal says.
use Rattle.std.specs.Prelude.{◌≡◌, ℕ, Bool, cond, List, [], ◌∷◌, Some, None, Ok, Err, Option, Result}
use Rattle.fcas.specs.declared.refusal.Refusal.{Refusal}
use Rattle.fcas.specs.declared.refusal.Refusal.TheVariants.{KindUnknown, ServiceUnknown, BidTooLarge, BidFalls, ReadingOutOfRange, PowerTooLarge, ForecastMissing}

-- The number by which a refusal is known.
abbrev pub refusal_number : Refusal → ℕ
refusal_number KindUnknown = 2
refusal_number ServiceUnknown = 3
refusal_number BidTooLarge = 4
refusal_number BidFalls = 5
refusal_number ReadingOutOfRange = 6
refusal_number PowerTooLarge = 7
refusal_number ForecastMissing = 24

-- A numbered statement about what is checked, and whether it is true of it.
abbrev pub Finding : Type 0
Finding = ℕ × Bool

-- What the first statement of a list that is true is about; nothing where none is.
abbrev pub first_true : {X : Type 0} → List (X × Bool) → Option X
first_true [] = None
first_true (statement ∷ more) = cond statement.1 (Some statement.0) (first_true more)

-- The number of the first finding that is true.
abbrev pub first_of : List Finding → Option ℕ
first_of findings = first_true findings

-- What a check gives: a value, of which `holds` is true, where no fault was found; else the refusal with the number of the first fault.
abbrev pub Checked : {X : Type 0} → List Finding → (X → Type 0) → Result X Refusal → Type 0
Checked faults holds (Ok x) = (first_of faults ≡ None) × holds x
Checked faults holds (Err refusal) = first_of faults ≡ Some (refusal_number refusal)
