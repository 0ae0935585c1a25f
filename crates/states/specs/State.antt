-- The states of a row, and what an event makes of each.
use Rattle.std.specs.Prelude.{ℕ, Bool, true, false, Some, None, Ok, Err, Option, Result}
use Rattle.states.specs.declared.refusal.Refusal.{Refusal}
use Rattle.states.specs.declared.refusal.Refusal.TheVariants.{AlreadyEnrolled, NotEnrolled, IntervalOpen, NoInterval, PassUnknown, NoEnergy}
use Rattle.states.specs.declared.state.Event.{Event}
use Rattle.states.specs.declared.state.Event.TheVariants.{Enrol, Retire, Rebid, Open as Opens, Energy, AtEnergy, End}
use Rattle.states.specs.declared.state.State.{State}
use Rattle.states.specs.declared.state.State.TheVariants.{Vacant, Idle, Open, OpenWithEnergy}

-- An interval is open in the state of a row.
abbrev pub holds_open : State → Bool
holds_open Vacant = false
holds_open Idle = false
holds_open (Open serial) = true
holds_open (OpenWithEnergy serial energy) = true

-- The energy that is held, 0 where none is.
abbrev pub energy_of : State → ℕ
energy_of Vacant = 0
energy_of Idle = 0
energy_of (Open serial) = 0
energy_of (OpenWithEnergy serial energy) = energy

abbrev pub while_open : ℕ → Option ℕ → Event → Result State Refusal
while_open serial energy Enrol = Err AlreadyEnrolled
while_open serial energy Retire = Err IntervalOpen
while_open serial energy Rebid = Err IntervalOpen
while_open serial energy (Opens next) = Err IntervalOpen
while_open serial energy (Energy new) = Ok (OpenWithEnergy serial new)
while_open serial None AtEnergy = Err NoEnergy
while_open serial (Some energy) AtEnergy = Ok (OpenWithEnergy serial energy)
while_open serial energy End = Ok Idle

-- The table of states and events. No part of the promises, which speak of the book.
abbrev pub stepped : State → Event → Result State Refusal
stepped Vacant Enrol = Ok Idle
stepped Vacant Retire = Err NotEnrolled
stepped Vacant Rebid = Err NotEnrolled
stepped Vacant (Opens serial) = Err NotEnrolled
stepped Vacant (Energy energy) = Err PassUnknown
stepped Vacant AtEnergy = Err PassUnknown
stepped Vacant End = Err NotEnrolled
stepped Idle Enrol = Err AlreadyEnrolled
stepped Idle Retire = Ok Vacant
stepped Idle Rebid = Ok Idle
stepped Idle (Opens serial) = Ok (Open serial)
stepped Idle (Energy energy) = Err PassUnknown
stepped Idle AtEnergy = Err PassUnknown
stepped Idle End = Err NoInterval
stepped (Open serial) event = while_open serial None event
stepped (OpenWithEnergy serial energy) event = while_open serial (Some energy) event
