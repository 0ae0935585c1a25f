-- The call that opens an interval.
use Rattle.std.proofs.Common.{◌≡◌, ℕ, ◌+◌, ◌<◌, Bool, false, eqb, List, [], ◌∷◌, ◌++◌, length, get_or, set, IsErrAnd, Some, None, Option, Result, sym, refl, ap, ◌∙◌, subst}
use Rattle.std.specs.Option.{option_map}
use Rattle.fcas.specs.Checks.{Finding, first_of}
use Rattle.fcas.specs.Reading.{measured_of, reading_faults}
use Rattle.fcas.specs.declared.reading.Measured.{Measured}
use Rattle.fcas.specs.declared.reading.Reading.{Reading}
use Rattle.limits.specs.declared.row.Row.{Row}
use Rattle.station.specs.Book.{checks, raised, unit_at, unit_faults}
use Rattle.station.specs.Entry.{Entry, idle_faults, open_faults, opened, with_interval}
use Rattle.station.specs.Lent.{Refuses}
use Rattle.states.specs.Refusal.{plain, told}
use Rattle.station.specs.Turn.{Turn, opened_by}
use Rattle.station.specs.View.{entry_of, view_of}
use Rattle.station.specs.declared.call.Answer.{Answer}
use Rattle.station.specs.declared.call.Answer.TheVariants.{Opened}
use Rattle.station.specs.declared.call.Call.TheVariants.{Open}
use Rattle.station.specs.declared.pass.Pass.{Pass}
use Rattle.station.specs.declared.pass.PassNumbers.{PassNumbers}
use Rattle.states.specs.declared.refusal.Refusal.{Refusal}
use Rattle.station.specs.declared.row.UnitRow.{UnitRow}
use Rattle.station.specs.declared.station.Station.{Station}
use Rattle.station.proofs.ByPass.{same_told}
use Rattle.station.proofs.Firsts.{first_skip, first_stop}
use Rattle.station.proofs.Turns.{by_refusal, heeded, lent_same, lent_view, none_breaks, unit_is, with_rows}

abbrev pub faults_of : Measured → ℕ → Option Entry → List Finding
faults_of reading next unit = idle_faults unit ++ open_faults reading unit ++ ((25, eqb next 18446744073709551615) ∷ [])

module _ {P : Type 0} (allowed : P → Row → Bool) (s : Station P) (u : ℕ) (reading : Reading) (number : first_of (unit_faults u) ≡ None) where
  abbrev rest : List Finding
  rest = faults_of (measured_of reading) s.next (unit_at (view_of s) u)

  pub reading_refused : (r : Result Pass Refusal) (n : ℕ) → IsErrAnd r (λ refusal. told refusal ≡ plain n) → first_of (reading_faults reading) ≡ Some n → Turn allowed s (Open u reading) (opened_by r) s
  reading_refused r n said e = by_refusal allowed s (Open u reading) refl opened_by (λ _. refl) r (plain n) said
      (ap (option_map plain) (first_skip (unit_faults u) (reading_faults reading ++ rest) number ∙ first_stop (reading_faults reading) rest n e))

  module _ (d row' : UnitRow) (l : u < length s.rows) (m : Measured) (is : m ≡ measured_of reading) (good : first_of (reading_faults reading) ≡ None) where
    abbrev row : UnitRow
    row = get_or s.rows u d

    at : unit_at (view_of s) u ≡ entry_of row
    at = unit_is allowed s u d row' l

    left : first_of (checks (view_of s) (Open u reading)) ≡ first_of (faults_of m s.next (entry_of row))
    left = first_skip (unit_faults u) (reading_faults reading ++ rest) number ∙ first_skip (reading_faults reading) rest good
        ∙ ap (λ (x : Option Entry). first_of (faults_of (measured_of reading) s.next x)) at ∙ ap (λ (x : Measured). first_of (faults_of x s.next (entry_of row))) (sym is)

    pub open_refused : (r : Result Pass Refusal) (refusal : Refusal) → IsErrAnd r (λ e. e ≡ refusal) → Refuses (faults_of m s.next (entry_of row)) refusal → row' ≡ row
        → Turn allowed s (Open u reading) (opened_by r) (with_rows s (set s.rows u row'))
    open_refused r refusal said refuses kept = subst (Turn allowed s (Open u reading) (opened_by r)) (sym (lent_same allowed s u d row' l kept))
        (by_refusal allowed s (Open u reading) refl opened_by (λ _. refl) r (told refusal) (same_told r refusal said) (ap (option_map plain) left ∙ refuses))

    pub open_turn : (pass : PassNumbers) → pass ≡ record { station = s.number; unit = u; serial = s.next } → first_of (faults_of m s.next (entry_of row)) ≡ None → entry_of row' ≡ option_map (with_interval (Some (opened m s.next))) (entry_of row)
        → Turn allowed s (Open u reading) (Opened pass) (record { number = s.number; next = s.next + 1; rows = set s.rows u row'; plant = s.plant })
    open_turn pass numbers none writes = heeded allowed s (Open u reading) (Opened pass) (record { number = s.number; next = s.next + 1; rows = set s.rows u row'; plant = s.plant }) (left ∙ none) (none_breaks (λ _. false) (λ _. refl)) refl
        (λ _. ap {B = Answer} Opened numbers)
        (ap raised (lent_view allowed s u d row' l _ (writes ∙ ap (λ (x : Measured). option_map (with_interval (Some (opened x s.next))) (entry_of row)) is ∙ ap (option_map (with_interval (Some (opened (measured_of reading) s.next)))) (sym at)))) refl
