-- What an open row holds, and what the calls of an interval make of it.
use Rattle.std.proofs.Common.{◌≡◌, ℕ, ◌<◌, Bool, true, false, cond, not, List, [], ◌∷◌, ◌++◌, get_or, set, is_some, Some, None, Ok, Err, Option, Result, ok_or, unwrap_or, sym, refl, ap, ◌∙◌, subst, arith}
use base.Stored.{Coded-set}
use mathlib.Core.Logic.{∥∥₁_elim}
use Rattle.std.specs.Option.{option_map}
use Rattle.fcas.specs.Checks.{Finding, first_of}
use Rattle.fcas.specs.Trapezium.{trapezium_of}
use Rattle.fcas.specs.declared.bid.Bid.{Bid}
use Rattle.fcas.specs.declared.kind.Kind.{Kind}
use Rattle.fcas.specs.declared.reading.Measured.{Measured}
use Rattle.fcas.specs.declared.trapezium.Trapezium.{Trapezium}
use Rattle.limits.specs.Offer.{live}
use Rattle.limits.specs.Figure.{AllFigures, FigureAt, no_figure, Probed}
use Rattle.limits.specs.Limit.{Borne, breaks, offer_at}
use Rattle.limits.specs.Row.{with_amount}
use Rattle.limits.specs.Terms.{held_bids, terms_of}
use Rattle.limits.specs.contracts.terms.Terms.{the_row}
use Rattle.limits.specs.declared.figure.Figure.{Figure}
use Rattle.limits.specs.declared.row.Row.{Row}
use Rattle.limits.specs.declared.terms.Terms.{Terms}
use Rattle.station.specs.Entry.{Entry, Interval, BearsRow, FigureIn, ProbedIn, broken_at, broken_with, held_row, is_live, is_open, kind_in, on_interval, trapezium_in, with_amount_of, with_energy}
use Rattle.station.specs.Lent.{Asked, Declines, Tried, held_faults}
use Rattle.states.specs.Refusal.{Named, plain, told}
use Rattle.states.specs.State.{energy_of, holds_open, stepped}
use Rattle.station.specs.View.{entry_in, entry_of, plant_row}
use Rattle.states.specs.declared.refusal.Refusal.{Refusal}
use Rattle.states.specs.declared.refusal.Refusal.TheVariants.{NoEnergy, NotLive}
use Rattle.station.specs.declared.row.UnitRow.{UnitRow}
use Rattle.states.specs.declared.state.Event.TheVariants.{Energy}
use Rattle.states.specs.declared.state.State.{State}
use Rattle.states.specs.declared.state.State.TheVariants.{Vacant, Idle, Open, OpenWithEnergy}

pub terms_fixed : (row : UnitRow) → holds_open row.state ≡ true → row.terms.terms ≡ terms_of row.kind (held_bids row.bids) row.reading.measured
terms_fixed row o = ∥∥₁_elim (row.fixed o) (Coded-set the_row.coded _ _) (λ e. e)

abbrev serial_in : State → ℕ
serial_in Vacant = 0
serial_in Idle = 0
serial_in (Open serial) = serial
serial_in (OpenWithEnergy serial energy) = serial

abbrev energy_in : State → Option ℕ
energy_in Vacant = None
energy_in Idle = None
energy_in (Open serial) = None
energy_in (OpenWithEnergy serial energy) = Some energy

held_energy : (s : State) → energy_of s ≡ unwrap_or (energy_in s) 0
held_energy Vacant = refl
held_energy Idle = refl
held_energy (Open serial) = refl
held_energy (OpenWithEnergy serial energy) = refl

abbrev pub interval_of : UnitRow → Interval
interval_of row = record { reading = row.reading.measured; serial = serial_in row.state; energy = energy_in row.state; amounts = row.amounts }

abbrev pub open_entry : UnitRow → Entry
open_entry row = record { kind = row.kind; bids = held_bids row.bids; interval = Some (interval_of row) }

entry_in_lem : (s : State) (kind : Kind) (bids : List (Option Bid)) (reading : Measured) (amounts : List ℕ) → holds_open s ≡ true
    → entry_in s kind bids reading amounts ≡ Some (record { kind = kind; bids = bids; interval = Some (record { reading = reading; serial = serial_in s; energy = energy_in s; amounts = amounts }) })
entry_in_lem Vacant kind bids reading amounts o = let clash : ◌≡◌ {A = ℕ} 0 1 = cc in absurd (omega arith)
entry_in_lem Idle kind bids reading amounts o = let clash : ◌≡◌ {A = ℕ} 0 1 = cc in absurd (omega arith)
entry_in_lem (Open serial) kind bids reading amounts o = refl
entry_in_lem (OpenWithEnergy serial energy) kind bids reading amounts o = refl

pub entry_open : (row : UnitRow) → holds_open row.state ≡ true → entry_of row ≡ Some (open_entry row)
entry_open row = entry_in_lem row.state row.kind (held_bids row.bids) row.reading.measured row.amounts

-- what is open in the book is open in the row
open_in : (s : State) (kind : Kind) (bids : List (Option Bid)) (reading : Measured) (amounts : List ℕ) → is_open (entry_in s kind bids reading amounts) ≡ true → holds_open s ≡ true
open_in Vacant kind bids reading amounts o = o
open_in Idle kind bids reading amounts o = o
open_in (Open serial) kind bids reading amounts o = refl
open_in (OpenWithEnergy serial energy) kind bids reading amounts o = refl

pub row_open : (row : UnitRow) → is_open (entry_of row) ≡ true → holds_open row.state ≡ true
row_open row = open_in row.state row.kind (held_bids row.bids) row.reading.measured row.amounts

-- an energy is taken while the interval is open
pub takes_energy : (s n : State) (energy : ℕ) → Ok n ≡ stepped s (Energy energy) → (holds_open s ≡ true) × (n ≡ OpenWithEnergy (serial_in s) energy)
takes_energy Vacant n energy e = let clash : ◌≡◌ {A = ℕ} 0 1 = cc in absurd (omega arith)
takes_energy Idle n energy e = let clash : ◌≡◌ {A = ℕ} 0 1 = cc in absurd (omega arith)
takes_energy (Open serial) n energy e = (refl, cc)
takes_energy (OpenWithEnergy serial old) n energy e = (refl, cc)

-- an energy is held where the checks say so
held_in : (s : State) (kind : Kind) (bids : List (Option Bid)) (reading : Measured) (amounts : List ℕ) → first_of (held_faults (entry_in s kind bids reading amounts)) ≡ None → (holds_open s ≡ true) × (is_some (energy_in s) ≡ true)
held_in Vacant kind bids reading amounts o = let clash : ◌≡◌ {A = ℕ} 0 1 = cc in absurd (omega arith)
held_in Idle kind bids reading amounts o = let clash : ◌≡◌ {A = ℕ} 0 1 = cc in absurd (omega arith)
held_in (Open serial) kind bids reading amounts o = let clash : ◌≡◌ {A = ℕ} 0 1 = cc in absurd (omega arith)
held_in (OpenWithEnergy serial energy) kind bids reading amounts o = (refl, refl)

pub row_held : (row : UnitRow) → first_of (held_faults (entry_of row)) ≡ None → (holds_open row.state ≡ true) × (is_some (energy_in row.state) ≡ true)
row_held row = held_in row.state row.kind (held_bids row.bids) row.reading.measured row.amounts

amount_in : (s : State) (kind : Kind) (bids : List (Option Bid)) (reading : Measured) (amounts : List ℕ) (service a : ℕ)
    → entry_in s kind bids reading (set amounts service a) ≡ option_map (on_interval (with_amount_of service a)) (entry_in s kind bids reading amounts)
amount_in Vacant kind bids reading amounts service a = refl
amount_in Idle kind bids reading amounts service a = refl
amount_in (Open serial) kind bids reading amounts service a = refl
amount_in (OpenWithEnergy serial energy) kind bids reading amounts service a = refl

-- the calls of an interval, at a row whose limits are asked about
module _ (allowed : Row → Bool) (row : UnitRow) (unit : ℕ) where
  abbrev fixed_terms : Terms
  fixed_terms = terms_of row.kind (held_bids row.bids) row.reading.measured

  abbrev EnergyTried : ℕ → UnitRow → Result (Unit {0}) Refusal → Type 0
  EnergyTried energy after = Tried ((28, not (is_open (entry_of row))) ∷ []) (broken_at allowed unit energy (entry_of row)) (kind_in (entry_of row)) (option_map (on_interval (with_energy energy)) (entry_of row)) row after

  pub energy_refused : (n : State) (energy : ℕ) (refusal : Refusal) (asked : Row) → Ok n ≡ stepped row.state (Energy energy) → asked ≡ plant_row unit energy row
      → Named (breaks allowed row.terms.terms asked) row.kind (told refusal) → EnergyTried energy row (Err refusal)
  energy_refused n energy refusal asked e is named =
      let o = (takes_energy row.state n energy e).0 in
      let named' = subst (λ (r : Row). Named (breaks allowed fixed_terms r) row.kind (told refusal)) is (subst (λ (t : Terms). Named (breaks allowed t asked) row.kind (told refusal)) (terms_fixed row o) named) in
      (subst (λ (x : Option Entry). Declines (first_of ((28, not (is_open x)) ∷ [])) (broken_at allowed unit energy x) (kind_in x) (told refusal)) (sym (entry_open row o)) named', refl)

  pub energy_taken : (n : State) (energy : ℕ) (asked : Row) → Ok n ≡ stepped row.state (Energy energy) → asked ≡ plant_row unit energy row
      → Borne (breaks allowed row.terms.terms asked)
      → (first_of ((28, not (is_open (entry_of row))) ∷ []) ≡ None) × Borne (broken_at allowed unit energy (entry_of row)) × (entry_in n row.kind (held_bids row.bids) row.reading.measured row.amounts ≡ option_map (on_interval (with_energy energy)) (entry_of row))
  energy_taken n energy asked e is borne =
      let o = (takes_energy row.state n energy e).0 in
      let borne' : Borne (breaks allowed fixed_terms (plant_row unit energy row)) = subst (λ (r : Row). Borne (breaks allowed fixed_terms r)) is (subst (λ (t : Terms). Borne (breaks allowed t asked)) (terms_fixed row o) borne) in
      subst (λ (x : Option Entry). (first_of ((28, not (is_open x)) ∷ []) ≡ None) × Borne (broken_at allowed unit energy x) × (entry_in n row.kind (held_bids row.bids) row.reading.measured row.amounts ≡ option_map (on_interval (with_energy energy)) x))
      (sym (entry_open row o)) (refl, borne', rw (takes_energy row.state n energy e).1 refl)

  held_row_lem : plant_row unit (energy_of row.state) row ≡ held_row unit (open_entry row) (interval_of row)
  held_row_lem = ap (λ (energy : ℕ). plant_row unit energy row) (held_energy row.state)

  module _ (none : first_of (held_faults (entry_of row)) ≡ None) where
    row_is_open : entry_of row ≡ Some (open_entry row)
    row_is_open = entry_open row (row_held row none).0

    fixed : row.terms.terms ≡ fixed_terms
    fixed = terms_fixed row (row_held row none).0

    module _ (service a : ℕ) where
      abbrev amount_faults : Option Entry → List Finding
      amount_faults entry = held_faults entry ++ ((30, not (is_live service entry)) ∷ [])

      abbrev AmountTried : UnitRow → Result (Unit {0}) Refusal → Type 0
      AmountTried after = Tried (amount_faults (entry_of row)) (broken_with allowed unit service a (entry_of row)) (kind_in (entry_of row)) (option_map (on_interval (with_amount_of service a)) (entry_of row)) row after

      faults_by : (b : Bool) → live (offer_at row.terms.terms service) ≡ b → first_of (amount_faults (entry_of row)) ≡ cond (not b) (Some 30) None
      faults_by b l =
          let l' : live (offer_at fixed_terms service) ≡ b = subst (λ (t : Terms). live (offer_at t service) ≡ b) fixed l in
          subst (λ (x : Option Entry). first_of (amount_faults x) ≡ cond (not b) (Some 30) None) (sym row_is_open) (rw ((row_held row none).1, l') refl)

      pub amount_not_live : live (offer_at row.terms.terms service) ≡ false → AmountTried row (Err NotLive)
      amount_not_live l = (subst (λ (x : Option ℕ). Declines x (broken_with allowed unit service a (entry_of row)) (kind_in (entry_of row)) (plain 30)) (sym (faults_by false l)) refl, refl)

      module _ (is_live_now : live (offer_at row.terms.terms service) ≡ true) (asked : Row) (is : asked ≡ with_amount (plant_row unit (energy_of row.state) row) service a) where
        asked_row : asked ≡ with_amount (held_row unit (open_entry row) (interval_of row)) service a
        asked_row = is ∙ ap (λ (r : Row). with_amount r service a) held_row_lem

        pub amount_refused : (refusal : Refusal) → Named (breaks allowed row.terms.terms asked) row.kind (told refusal) → AmountTried row (Err refusal)
        amount_refused refusal named =
            let named' = subst (λ (r : Row). Named (breaks allowed fixed_terms r) row.kind (told refusal)) asked_row (subst (λ (t : Terms). Named (breaks allowed t asked) row.kind (told refusal)) fixed named) in (
              subst (λ (x : Option ℕ). Declines x (broken_with allowed unit service a (entry_of row)) (kind_in (entry_of row)) (told refusal)) (sym (faults_by true is_live_now))
                  (subst (λ (x : Option Entry). Named (broken_with allowed unit service a x) (kind_in x) (told refusal)) (sym row_is_open) named'),
              refl,
            )

        pub amount_taken : Borne (breaks allowed row.terms.terms asked)
            → (first_of (amount_faults (entry_of row)) ≡ None) × Borne (broken_with allowed unit service a (entry_of row)) × (entry_in row.state row.kind (held_bids row.bids) row.reading.measured (set row.amounts service a) ≡ option_map (on_interval (with_amount_of service a)) (entry_of row))
        amount_taken borne = (
          faults_by true is_live_now,
          subst (λ (x : Option Entry). Borne (broken_with allowed unit service a x)) (sym row_is_open) (subst (λ (r : Row). Borne (breaks allowed fixed_terms r)) asked_row (subst (λ (t : Terms). Borne (breaks allowed t asked)) fixed borne)),
          amount_in row.state row.kind (held_bids row.bids) row.reading.measured row.amounts service a,
        )

    module _ (asked : Row) (is : asked ≡ plant_row unit (energy_of row.state) row) where
      pub is_borne : BearsRow allowed unit (entry_of row) → Borne (breaks allowed row.terms.terms asked)
      is_borne bears = subst (λ (t : Terms). Borne (breaks allowed t asked)) (sym fixed) (subst (λ (r : Row). Borne (breaks allowed fixed_terms r)) (sym (is ∙ held_row_lem))
          (subst (BearsRow allowed unit) row_is_open bears (row_held row none).1))

      pub figure_given : (service : ℕ) (given : Figure) → FigureAt allowed row.terms.terms asked service given → FigureIn allowed unit service (entry_of row) given
      figure_given service given f = subst (λ (x : Option Entry). FigureIn allowed unit service x given) (sym row_is_open)
          (subst (λ (r : Row). FigureAt allowed fixed_terms r service given) (is ∙ held_row_lem) (subst (λ (t : Terms). FigureAt allowed t asked service given) fixed f))

      pub figures_given : (table : Option (List Figure)) (r : Result (List Figure) Refusal) → r ≡ ok_or table NoEnergy → AllFigures allowed row.terms.terms asked table → BearsRow allowed unit (entry_of row)
          → Asked (held_faults (entry_of row)) (λ table. (service : ℕ) → service < 10 → FigureIn allowed unit service (entry_of row) (get_or table service no_figure)) r
      figures_given None r e all bears = absurd (all (is_borne bears))
      figures_given (Some table) r e all bears = rw e (none, λ service l. figure_given service (get_or table service no_figure) (all.1 service l))

  pub probe_given : (service energy : ℕ) (asked : Row) (given : Option Figure) → asked ≡ plant_row unit energy row → Probed allowed row.terms.terms asked service given → is_open (entry_of row) ≡ true → ProbedIn allowed unit service energy (entry_of row) given
  probe_given service energy asked given is p o =
      let o' = row_open row o in
      subst (λ (x : Option Entry). ProbedIn allowed unit service energy x given) (sym (entry_open row o'))
      (subst (λ (r : Row). Probed allowed fixed_terms r service given) is (subst (λ (t : Terms). Probed allowed t asked service given) (terms_fixed row o') p))

pub trapezium_given : (row : UnitRow) (service : ℕ) (given : Option Trapezium) → given ≡ option_map (λ bid. trapezium_of row.kind service bid row.reading.measured) (get_or (held_bids row.bids) service None) → is_open (entry_of row) ≡ true → given ≡ trapezium_in service (entry_of row)
trapezium_given row service given is o = subst (λ (x : Option Entry). given ≡ trapezium_in service x) (sym (entry_open row (row_open row o))) is
