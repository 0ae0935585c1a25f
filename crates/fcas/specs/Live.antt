-- Which services of a unit are live, and the ground that keeps another out.
use Rattle.std.specs.Prelude.{ℕ, Bool, true, false, not, ◌&&◌, ◌||◌, List, [], ◌∷◌, ℤ, pos, negsuc, Some, None, Option, ◌==◌, nat_lt}
use Rattle.fcas.specs.Bid.{some_above}
use Rattle.fcas.specs.Checks.{first_true}
use Rattle.fcas.specs.Service.{regulating}
use Rattle.fcas.specs.Trapezium.{at_most, forecast_of, effective_enablement_min, effective_enablement_max, effective_max_availability}
use Rattle.fcas.specs.declared.bid.Bid.{Bid}
use Rattle.fcas.specs.declared.kind.Kind.{Kind}
use Rattle.fcas.specs.declared.live.Ground.{Ground}
use Rattle.fcas.specs.declared.live.Ground.TheVariants.{NoBid, NoAvailability, NoBand, EnergyMaxTooLow, OutsideEnablement, AgcIsOff}
use Rattle.fcas.specs.declared.reading.AgcStatus.{AgcStatus}
use Rattle.fcas.specs.declared.reading.AgcStatus.TheVariants.{NotTold, On, Off}
use Rattle.fcas.specs.declared.reading.Measured.{Measured}

-- The number by which a ground is known.
abbrev pub ground_number : Ground → ℕ
ground_number NoBid = 11
ground_number NoAvailability = 12
ground_number NoBand = 13
ground_number EnergyMaxTooLow = 14
ground_number OutsideEnablement = 15
ground_number AgcIsOff = 16

-- The energy maximum; of a semi-scheduled unit the lesser of it and the forecast.
abbrev pub energy_available : Kind → Measured → ℕ
energy_available kind m = at_most (forecast_of kind m) m.energy_max

-- The greater of a power and 0.
abbrev pub not_below_zero : ℤ → ℕ
not_below_zero (pos n) = n
not_below_zero (negsuc n) = 0

-- A status that is not told counts as on.
abbrev pub is_off : AgcStatus → Bool
is_off NotTold = false
is_off On = false
is_off Off = true

-- The grounds against a service that is bid, and whether each holds.
abbrev pub grounds_against : Kind → ℕ → Bid → Measured → List (Ground × Bool)
grounds_against kind service bid m =
    (NoAvailability, (effective_max_availability kind service bid m == 0))
    ∷ (NoBand, not (some_above 0 bid.bands))
    ∷ (EnergyMaxTooLow, nat_lt (energy_available kind m) (effective_enablement_min service bid m))
    ∷ (OutsideEnablement, nat_lt (not_below_zero m.initial) (effective_enablement_min service bid m) || nat_lt (effective_enablement_max kind service bid m) (not_below_zero m.initial))
    ∷ (AgcIsOff, regulating service && is_off m.agc_status)
    ∷ []

-- The lowest ground against a service. Where there is none, the service is live.
abbrev pub ground_of : Kind → ℕ → Option Bid → Measured → Option Ground
ground_of kind service None m = Some NoBid
ground_of kind service (Some bid) m = first_true (grounds_against kind service bid m)
