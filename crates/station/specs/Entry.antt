-- What the book has of one unit: its kind and bids, and of an open interval the reading, the serial, the energy and the amounts.
use Rattle.std.specs.Prelude.{◌≡◌, ℕ, Bool, true, false, not, List, [], ◌∷◌, replicate, pos, is_some, Some, None, Option, nat_eq, slice_index_or, slice_set}
use Rattle.std.specs.Option.{option_map, unwrap_or}
use Rattle.fcas.specs.Checks.{Finding}
use Rattle.fcas.specs.Reading.{forecast_faults}
use Rattle.fcas.specs.Trapezium.{trapezium_of}
use Rattle.fcas.specs.declared.bid.Bid.{Bid}
use Rattle.fcas.specs.declared.kind.Kind.{Kind}
use Rattle.fcas.specs.declared.kind.Kind.TheVariants.{Generator}
use Rattle.fcas.specs.declared.reading.Measured.{Measured}
use Rattle.fcas.specs.declared.trapezium.Trapezium.{Trapezium}
use Rattle.limits.specs.Figure.{FigureAt, Probed}
use Rattle.limits.specs.Limit.{Borne, breaks, offer_at}
use Rattle.limits.specs.Offer.{live}
use Rattle.limits.specs.Row.{with_amount}
use Rattle.limits.specs.Terms.{terms_of}
use Rattle.limits.specs.declared.figure.Figure.{Figure}
use Rattle.limits.specs.declared.limit.Limit.{Limit}
use Rattle.limits.specs.declared.row.Row.{Row}
use Rattle.limits.specs.declared.terms.Terms.{Terms}

-- An open interval: the reading in whole kilowatts, the serial of its pass, the energy once one is set, and ten amounts.
pub record Interval : Type 0 where
  pub reading : Measured
  pub serial : ℕ
  pub energy : Option ℕ
  pub amounts : List ℕ

-- An enrolled unit.
pub record Entry : Type 0 where
  pub kind : Kind
  pub bids : List (Option Bid)
  pub interval : Option Interval

-- What holds of a unit while its interval is open, and what else.
abbrev pub during : {X : Type 0} → X → (Entry → Interval → X) → Option Entry → X
during other says None = other
during other says (Some entry) = elim entry.interval [ None ↦ other | Some interval ↦ says entry interval ]

-- The same of a statement.
abbrev pub During : Type 0 → (Entry → Interval → Type 0) → Option Entry → Type 0
During other says None = other
During other says (Some entry) = elim entry.interval [ None ↦ other | Some interval ↦ says entry interval ]

-- The numbers by which the limits of an open interval are reckoned.
abbrev pub terms_in : Entry → Interval → Terms
terms_in entry interval = terms_of entry.kind entry.bids interval.reading

-- The row of a unit at an energy, and at the energy that is held.
abbrev pub row_at : ℕ → Entry → Interval → ℕ → Row
row_at unit entry interval energy = record { unit = unit; kind = entry.kind; energy = pos energy; amounts = interval.amounts }

abbrev pub held_row : ℕ → Entry → Interval → Row
held_row unit entry interval = row_at unit entry interval (unwrap_or interval.energy 0)

-- A unit has a bid for a service, or none.
abbrev pub bid_of : Option Entry → ℕ → Option Bid
bid_of None service = None
bid_of (Some entry) service = slice_index_or entry.bids service None

-- An interval is open.
abbrev pub is_open : Option Entry → Bool
is_open = during false (λ _ _. true)

-- The kind of an open unit.
abbrev pub kind_in : Option Entry → Kind
kind_in = during Generator (λ entry _. entry.kind)

-- The effective trapezium of a service of an open unit; nothing without a bid.
abbrev pub trapezium_in : ℕ → Option Entry → Option Trapezium
trapezium_in service = during None (λ entry interval. option_map (λ bid. trapezium_of entry.kind service bid interval.reading) (slice_index_or entry.bids service None))

-- Which limits break in an open unit at another energy, or with another amount of a service at the energy that is held.
abbrev pub broken_at : (Row → Bool) → ℕ → ℕ → Option Entry → Limit → Bool
broken_at allowed unit energy entry limit = during false (λ entry interval. breaks allowed (terms_in entry interval) (row_at unit entry interval energy) limit) entry

abbrev pub broken_with : (Row → Bool) → ℕ → ℕ → ℕ → Option Entry → Limit → Bool
broken_with allowed unit service amount entry limit = during false (λ entry interval. breaks allowed (terms_in entry interval) (with_amount (held_row unit entry interval) service amount) limit) entry

-- A row that holds an energy breaks no limit.
abbrev pub BearsRow : (Row → Bool) → ℕ → Option Entry → Type 0
BearsRow allowed unit = During (Unit {0}) (λ entry interval. is_some interval.energy ≡ true → Borne (breaks allowed (terms_in entry interval) (held_row unit entry interval)))

-- The figure of a service at the energy that is held, and at another.
abbrev pub FigureIn : (Row → Bool) → ℕ → ℕ → Option Entry → Figure → Type 0
FigureIn allowed unit service entry told = During ⊥ (λ entry interval. FigureAt allowed (terms_in entry interval) (held_row unit entry interval) service told) entry

abbrev pub ProbedIn : (Row → Bool) → ℕ → ℕ → ℕ → Option Entry → Option Figure → Type 0
ProbedIn allowed unit service energy entry told = During ⊥ (λ entry interval. Probed allowed (terms_in entry interval) (row_at unit entry interval energy) service told) entry

-- A unit with no interval open can be retired, bid for and opened: 22 and 23.
abbrev pub idle_faults : Option Entry → List Finding
idle_faults unit = (22, not (is_some unit)) ∷ (23, is_open unit) ∷ []

-- A semi-scheduled unit wants its forecast: 24.
abbrev pub open_faults : Measured → Option Entry → List Finding
open_faults reading None = []
open_faults reading (Some entry) = forecast_faults entry.kind reading

-- The interval is open under this serial.
abbrev pub is_under : ℕ → Option Entry → Bool
is_under serial = during false (λ _ interval. nat_eq interval.serial serial)

abbrev pub has_energy : Option Entry → Bool
has_energy = during false (λ _ interval. is_some interval.energy)

abbrev pub is_live : ℕ → Option Entry → Bool
is_live service = during false (λ entry interval. live (offer_at (terms_in entry interval) service))

-- A unit just enrolled.
abbrev pub enrolled : Kind → Entry
enrolled kind = record { kind = kind; bids = replicate 10 None; interval = None }

-- A unit with another bid for a service, or none.
abbrev pub with_bid : ℕ → Option Bid → Entry → Entry
with_bid service bid entry = record { kind = entry.kind; bids = slice_set entry.bids service bid; interval = entry.interval }

-- A unit with another interval, or none.
abbrev pub with_interval : Option Interval → Entry → Entry
with_interval interval entry = record { kind = entry.kind; bids = entry.bids; interval = interval }

-- A unit with its interval changed.
abbrev pub on_interval : (Interval → Interval) → Entry → Entry
on_interval f entry = with_interval (option_map f entry.interval) entry

-- An interval just opened.
abbrev pub opened : Measured → ℕ → Interval
opened reading serial = record { reading = reading; serial = serial; energy = None; amounts = replicate 10 0 }

-- An interval with another energy, or with another amount of a service.
abbrev pub with_energy : ℕ → Interval → Interval
with_energy energy interval = record { reading = interval.reading; serial = interval.serial; energy = Some energy; amounts = interval.amounts }

abbrev pub with_amount_of : ℕ → ℕ → Interval → Interval
with_amount_of service amount interval = record { reading = interval.reading; serial = interval.serial; energy = interval.energy; amounts = slice_set interval.amounts service amount }
