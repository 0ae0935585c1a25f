-- What a row promises the call that it is lent to. No part of the promises, which speak of the book.
use Rattle.std.specs.Prelude.{◌≡◌, ℕ, Bool, not, List, [], ◌∷◌, Some, None, Ok, Err, Option, Result}
use Rattle.std.specs.Option.{option_map}
use Rattle.fcas.specs.Checks.{Finding, first_of}
use Rattle.fcas.specs.declared.kind.Kind.{Kind}
use Rattle.limits.specs.Limit.{Borne}
use Rattle.limits.specs.declared.limit.Limit.{Limit}
use Rattle.station.specs.Entry.{Entry, has_energy, is_open}
use Rattle.states.specs.Refusal.{Named, Told, plain, told}
use Rattle.station.specs.View.{entry_of}
use Rattle.states.specs.declared.refusal.Refusal.{Refusal}
use Rattle.station.specs.declared.row.UnitRow.{UnitRow}

-- A refusal says the number of the first check that fails.
abbrev pub Refuses : List Finding → Refusal → Type 0
Refuses faults refusal = option_map plain (first_of faults) ≡ Some (told refusal)

-- A row is changed to what is written where no check fails, and else it is what it was.
abbrev pub Lent : {X : Type 0} → List Finding → Option Entry → UnitRow → UnitRow → Result X Refusal → Type 0
Lent faults writes before after (Ok x) = (first_of faults ≡ None) × (entry_of after ≡ writes)
Lent faults writes before after (Err refusal) = Refuses faults refusal × (after ≡ before)

-- What a refusal says where the checks come before the limits.
abbrev pub Declines : Option ℕ → (Limit → Bool) → Kind → Told → Type 0
Declines None broken kind said = Named broken kind said
Declines (Some n) broken kind said = said ≡ plain n

-- The same where the new row has to be borne as well.
abbrev pub Tried : {X : Type 0} → List Finding → (Limit → Bool) → Kind → Option Entry → UnitRow → UnitRow → Result X Refusal → Type 0
Tried faults broken kind writes before after (Ok x) = (first_of faults ≡ None) × Borne broken × (entry_of after ≡ writes)
Tried faults broken kind writes before after (Err refusal) = Declines (first_of faults) broken kind (told refusal) × (after ≡ before)

-- A question is answered where no check fails.
abbrev pub Asked : {X : Type 0} → List Finding → (X → Type 0) → Result X Refusal → Type 0
Asked faults holds (Ok x) = (first_of faults ≡ None) × holds x
Asked faults holds (Err refusal) = Refuses faults refusal

-- An interval is open, and in it an energy is held.
abbrev pub held_faults : Option Entry → List Finding
held_faults unit = (28, not (is_open unit)) ∷ (29, not (has_energy unit)) ∷ []
