-- When a reading is taken, and what it says in whole kilowatts.
use Rattle.std.specs.Prelude.{ℕ, Bool, cond, not, ◌&&◌, List, [], ◌∷◌, is_some, ◌==◌, nat_le, nat_lt}
use Rattle.fcas.specs.Checks.{Finding}
use Rattle.fcas.specs.Kilowatts.{zero_mw, most_ramp_mw, most_mw, least_mw, within, within_if, kilowatts_of, kilowatts_if}
use Rattle.fcas.specs.declared.kind.Kind.{Kind}
use Rattle.fcas.specs.declared.kind.Kind.TheVariants.{Generator, SemiScheduled, Load, DemandResponse}
use Rattle.fcas.specs.declared.reading.AgcStatus.{AgcStatus}
use Rattle.fcas.specs.declared.reading.AgcStatus.TheVariants.{NotTold, On, Off}
use Rattle.fcas.specs.declared.reading.Measured.{Measured}
use Rattle.fcas.specs.declared.reading.Reading.{Reading}

-- Every float that is present, the energy maximum and the status are in range.
abbrev pub in_range : Reading → Bool
in_range r =
    within least_mw most_mw r.initial
    && within_if zero_mw most_mw r.agc_lower
    && within_if zero_mw most_mw r.agc_upper
    && within_if zero_mw most_ramp_mw r.ramp_up
    && within_if zero_mw most_ramp_mw r.ramp_down
    && within_if zero_mw most_mw r.uigf
    && nat_le r.energy_max 4000000
    && nat_le r.agc_status 2

abbrev pub reading_faults : Reading → List Finding
reading_faults r = (6, not (in_range r)) ∷ []

-- A status above 2 is none.
abbrev pub agc_status_faults : ℕ → List Finding
agc_status_faults number = (6, nat_lt 2 number) ∷ []

-- 0 is not told, 1 is on and 2 is off.
abbrev pub agc_status_of : ℕ → AgcStatus
agc_status_of number = cond (number == 0) NotTold (cond (number == 1) On Off)

-- A reading in whole kilowatts.
abbrev pub measured_of : Reading → Measured
measured_of r = record {
  initial = kilowatts_of r.initial;
  agc_lower = kilowatts_if r.agc_lower;
  agc_upper = kilowatts_if r.agc_upper;
  ramp_up = kilowatts_if r.ramp_up;
  ramp_down = kilowatts_if r.ramp_down;
  uigf = kilowatts_if r.uigf;
  energy_max = r.energy_max;
  agc_status = agc_status_of r.agc_status;
}

-- A semi-scheduled unit is not opened without its forecast.
abbrev pub forecast_faults : Kind → Measured → List Finding
forecast_faults Generator m = []
forecast_faults SemiScheduled m = (24, not (is_some m.uigf)) ∷ []
forecast_faults Load m = []
forecast_faults DemandResponse m = []
