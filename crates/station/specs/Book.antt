-- The book of a station: what its past comes to, by the arguments of the making and of the calls alone.
use Rattle.std.specs.Prelude.{ℕ, zero, suc, ◌+◌, Bool, false, cond, not, ◌&&◌, ◌||◌, List, [], ◌∷◌, ◌++◌, replicate, is_some, Some, None, Option, ◌==◌, nat_lt, slice_index_or, slice_set}
use Rattle.std.specs.Option.{option_map}
use Rattle.fcas.specs.Bid.{bid_faults}
use Rattle.fcas.specs.Checks.{Finding, first_of}
use Rattle.fcas.specs.Kind.{kind_faults}
use Rattle.fcas.specs.Reading.{measured_of, reading_faults}
use Rattle.fcas.specs.Power.{power_faults}
use Rattle.fcas.specs.Service.{service_faults}
use Rattle.fcas.specs.declared.kind.Kind.{Kind}
use Rattle.fcas.specs.declared.kind.Kind.TheVariants.{Generator, SemiScheduled, Load, DemandResponse}
use Rattle.limits.specs.declared.limit.Limit.{Limit}
use Rattle.limits.specs.declared.limit.Limit.TheVariants.{Availability, Upper, Lower, RampUp, RampDown, Plant}
use Rattle.limits.specs.declared.row.Row.{Row}
use Rattle.station.specs.Entry.{BearsRow, Entry, Interval, bid_of, broken_at, broken_with, enrolled, has_energy, idle_faults, is_live, is_open, is_under, on_interval, open_faults, opened, with_amount_of, with_bid, with_energy, with_interval}
use Rattle.station.specs.declared.call.Call.{Call}
use Rattle.station.specs.declared.call.Call.TheVariants.{Enrol, Retire, Bid, Withdraw, Open, Energy, Amount, Figure, Probe, Trapezium, Close, Abandon, Lapse}
use Rattle.station.specs.declared.pass.PassNumbers.{PassNumbers}

-- The station's number, the serial of its next pass (the first serial and one more for each open so far), and its units.
pub record Book : Type 0 where
  pub number : ℕ
  pub next : ℕ
  pub units : List (Option Entry)

abbrev pub unit_at : Book → ℕ → Option Entry
unit_at book unit = slice_index_or book.units unit None

-- The book of a station just made: it has no units.
abbrev pub blank : ℕ → ℕ → Book
blank number first = record { number = number; next = first; units = replicate 24 None }

-- A unit's number is at most 23.
abbrev pub unit_faults : ℕ → List Finding
unit_faults unit = (1, nat_lt 23 unit) ∷ []

-- A pass is known by the station's number and by the serial under which its unit is open.
abbrev pub pass_faults : Book → PassNumbers → List Finding
pass_faults book pass = (28, not (pass.station == book.number && is_under pass.serial (unit_at book pass.unit))) ∷ []

-- An energy is held.
abbrev pub energy_faults : Book → PassNumbers → List Finding
energy_faults book pass = (29, not (has_energy (unit_at book pass.unit))) ∷ []

-- The checks of a call in their order, each with its number and whether it fails. The limits are no part of them.
abbrev pub checks : Book → Call → List Finding
checks book (Enrol unit kind) = unit_faults unit ++ kind_faults kind ++ ((21, is_some (unit_at book unit)) ∷ [])
checks book (Retire unit) = unit_faults unit ++ idle_faults (unit_at book unit)
checks book (Bid unit service bid) = unit_faults unit ++ service_faults service ++ bid_faults bid ++ idle_faults (unit_at book unit)
checks book (Withdraw unit service) = unit_faults unit ++ service_faults service ++ idle_faults (unit_at book unit) ++ ((26, not (is_some (bid_of (unit_at book unit) service))) ∷ [])
checks book (Open unit reading) = unit_faults unit ++ reading_faults reading ++ idle_faults (unit_at book unit) ++ open_faults (measured_of reading) (unit_at book unit) ++ ((25, (book.next == 18446744073709551615)) ∷ [])
checks book (Energy pass energy) = power_faults energy ++ pass_faults book pass
checks book (Amount pass service amount) = service_faults service ++ power_faults amount ++ pass_faults book pass ++ energy_faults book pass ++ ((30, not (is_live service (unit_at book pass.unit))) ∷ [])
checks book (Figure pass service) = service_faults service ++ pass_faults book pass ++ energy_faults book pass
checks book (Probe pass service energy) = service_faults service ++ power_faults energy ++ pass_faults book pass
checks book (Trapezium pass service) = service_faults service ++ pass_faults book pass
checks book (Close pass places) = (8, nat_lt places 10) ∷ pass_faults book pass ++ energy_faults book pass
checks book (Abandon pass) = pass_faults book pass
checks book (Lapse unit) = unit_faults unit ++ ((22, not (is_some (unit_at book unit))) ∷ (27, not (is_open (unit_at book unit))) ∷ [])

-- Which limits the row breaks that a call asks for. Only an energy or an amount asks for one.
abbrev pub broken_by : (Row → Bool) → Book → Call → Limit → Bool
broken_by allowed book (Enrol unit kind) limit = false
broken_by allowed book (Retire unit) limit = false
broken_by allowed book (Bid unit service bid) limit = false
broken_by allowed book (Withdraw unit service) limit = false
broken_by allowed book (Open unit reading) limit = false
broken_by allowed book (Energy pass energy) limit = broken_at allowed pass.unit energy (unit_at book pass.unit) limit
broken_by allowed book (Amount pass service amount) limit = broken_with allowed pass.unit service amount (unit_at book pass.unit) limit
broken_by allowed book (Figure pass service) limit = false
broken_by allowed book (Probe pass service energy) limit = false
broken_by allowed book (Trapezium pass service) limit = false
broken_by allowed book (Close pass places) limit = false
broken_by allowed book (Abandon pass) limit = false
broken_by allowed book (Lapse unit) limit = false

-- Every row that holds an energy breaks no limit.
abbrev pub Bears : (Row → Bool) → Book → Type 0
Bears allowed book = (unit : ℕ) → BearsRow allowed unit (unit_at book unit)

-- Some limit of the services below a number breaks; some limit of a row does.
abbrev pub some_below : ℕ → (Limit → Bool) → Bool
some_below zero broken = false
some_below (suc n) broken = broken (Availability n) || (broken (Upper n) || (broken (Lower n) || some_below n broken))

abbrev pub some_breaks : (Limit → Bool) → Bool
some_breaks broken = some_below 10 broken || (broken RampUp || (broken RampDown || broken Plant))

-- A call passes when none of its checks fails and the row that it asks for breaks no limit.
abbrev pub passes : (Row → Bool) → Book → Call → Bool
passes allowed book call = not (is_some (first_of (checks book call))) && not (some_breaks (broken_by allowed book call))

-- The kind of a number.
abbrev pub kind_of : ℕ → Kind
kind_of number = cond (number == 0) Generator (cond (number == 1) SemiScheduled (cond (number == 2) Load DemandResponse))

-- The book with another entry for a unit.
abbrev pub enter : Book → ℕ → Option Entry → Book
enter book unit entry = record { number = book.number; next = book.next; units = slice_set book.units unit entry }

-- The book with a unit's entry changed, or with its interval changed.
abbrev pub change : Book → ℕ → (Entry → Entry) → Book
change book unit f = enter book unit (option_map f (unit_at book unit))

abbrev pub change_interval : Book → ℕ → (Interval → Interval) → Book
change_interval book unit f = change book unit (on_interval f)

-- The serial of the next pass is one more.
abbrev pub raised : Book → Book
raised book = record { number = book.number; next = book.next + 1; units = book.units }

-- What a call that passes writes.
abbrev pub written : Book → Call → Book
written book (Enrol unit kind) = enter book unit (Some (enrolled (kind_of kind)))
written book (Retire unit) = enter book unit None
written book (Bid unit service bid) = change book unit (with_bid service (Some bid))
written book (Withdraw unit service) = change book unit (with_bid service None)
written book (Open unit reading) = raised (change book unit (with_interval (Some (opened (measured_of reading) book.next))))
written book (Energy pass energy) = change_interval book pass.unit (with_energy energy)
written book (Amount pass service amount) = change_interval book pass.unit (with_amount_of service amount)
written book (Figure pass service) = book
written book (Probe pass service energy) = book
written book (Trapezium pass service) = book
written book (Close pass places) = change book pass.unit (with_interval None)
written book (Abandon pass) = change book pass.unit (with_interval None)
written book (Lapse unit) = change book unit (with_interval None)

-- The book after one call more: only a call that passes writes in it.
abbrev pub after : (Row → Bool) → Book → Call → Book
after allowed book call = cond (passes allowed book call) (written book call) book

-- The book after a list of calls, the latest first.
abbrev pub book_after : (Row → Bool) → Book → List Call → Book
book_after allowed book [] = book
book_after allowed book (call ∷ earlier) = after allowed (book_after allowed book earlier) call
