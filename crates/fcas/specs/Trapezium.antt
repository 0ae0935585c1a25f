-- The effective trapezium: a bid's, scaled by the unit's reading.
use Rattle.std.specs.Prelude.{ℕ, ◌-◌, ◌*◌, ◌/◌, min, max, cond, ℤ, pos, negsuc, ◌+ℤ◌, ◌-ℤ◌, ◌*ℤ◌, neg_ℤ, Some, None, Option, ◌==◌}
use Rattle.std.specs.Option.{option_map}
use Rattle.fcas.specs.Kind.{upward, downward}
use Rattle.fcas.specs.Service.{regulating}
use Rattle.fcas.specs.declared.bid.Bid.{Bid}
use Rattle.fcas.specs.declared.kind.Kind.{Kind}
use Rattle.fcas.specs.declared.kind.Kind.TheVariants.{Generator, SemiScheduled, Load, DemandResponse}
use Rattle.fcas.specs.declared.reading.Measured.{Measured}
use Rattle.fcas.specs.declared.trapezium.Trapezium.{Trapezium}

-- An AGC limit or a ramp that is zero or absent counts for nothing.
abbrev pub unless_zero : Option ℕ → Option ℕ
unless_zero None = None
unless_zero (Some limit) = cond (limit == 0) None (Some limit)

-- The greater of a number and a limit, if there is one.
abbrev pub at_least : Option ℕ → ℕ → ℕ
at_least None number = number
at_least (Some limit) number = max number limit

-- The lesser of a number and a limit, if there is one.
abbrev pub at_most : Option ℕ → ℕ → ℕ
at_most None number = number
at_most (Some limit) number = min number limit

-- The AGC limits bear on the regulating services only.
abbrev pub lower_limit : ℕ → Measured → Option ℕ
lower_limit service m = cond (regulating service) (unless_zero m.agc_lower) None

abbrev pub upper_limit : ℕ → Measured → Option ℕ
upper_limit service m = cond (regulating service) (unless_zero m.agc_upper) None

-- The ramp up bears on the upward service of the kind, and the ramp down on the downward one.
abbrev pub ramp_of : Kind → ℕ → Measured → Option ℕ
ramp_of kind service m = cond (service == upward kind) (unless_zero m.ramp_up) (cond (service == downward kind) (unless_zero m.ramp_down) None)

-- The forecast bears on every service of a semi-scheduled unit, and on no other kind. A forecast of zero counts.
abbrev pub forecast_of : Kind → Measured → Option ℕ
forecast_of Generator m = None
forecast_of SemiScheduled m = m.uigf
forecast_of Load m = None
forecast_of DemandResponse m = None

abbrev pub effective_enablement_min : ℕ → Bid → Measured → ℕ
effective_enablement_min service bid m = at_least (lower_limit service m) bid.enablement_min

abbrev pub effective_enablement_max : Kind → ℕ → Bid → Measured → ℕ
effective_enablement_max kind service bid m = at_most (forecast_of kind m) (at_most (upper_limit service m) bid.enablement_max)

-- At most what the ramp gives in the five minutes of an interval.
abbrev pub effective_max_availability : Kind → ℕ → Bid → Measured → ℕ
effective_max_availability kind service bid m = at_most (option_map (λ ramp. 5 * ramp) (ramp_of kind service m)) bid.max_availability

-- What the bid's slopes rise over: the upper slope is `upper_run_of` over the bid's maximum availability, the lower one `lower_run_of` over it.
abbrev pub upper_run_of : Bid → ℕ
upper_run_of bid = bid.enablement_max - bid.high_breakpoint

abbrev pub lower_run_of : Bid → ℕ
lower_run_of bid = bid.low_breakpoint - bid.enablement_min

-- The greatest whole number that is not above z / d.
abbrev pub rounded_down : ℤ → ℕ → ℤ
rounded_down (pos n) d = pos (n / d)
rounded_down (negsuc n) d = negsuc (n / d)

-- The least whole number that is not below z / d.
abbrev pub rounded_up : ℤ → ℕ → ℤ
rounded_up z d = neg_ℤ (rounded_down (neg_ℤ z) d)

-- The high breakpoint, for a bid's maximum availability and upper run and the effective enablement maximum and maximum availability: the enablement maximum less the slope times the availability, rounded down. It may lie below zero. A bid of no availability has no slope, and the two are equal.
abbrev pub effective_high_breakpoint : ℕ → ℕ → ℕ → ℕ → ℤ
effective_high_breakpoint bid_availability run enablement availability =
    cond (bid_availability == 0) (pos enablement) (rounded_down (pos bid_availability *ℤ pos enablement -ℤ pos run *ℤ pos availability) bid_availability)

-- The low breakpoint, likewise: the enablement minimum and the lower slope times the availability, rounded up.
abbrev pub effective_low_breakpoint : ℕ → ℕ → ℕ → ℕ → ℤ
effective_low_breakpoint bid_availability run enablement availability =
    cond (bid_availability == 0) (pos enablement) (rounded_up (pos bid_availability *ℤ pos enablement +ℤ pos run *ℤ pos availability) bid_availability)

-- The five effective numbers of a service.
abbrev pub trapezium_of : Kind → ℕ → Bid → Measured → Trapezium
trapezium_of kind service bid m = record {
  enablement_min = effective_enablement_min service bid m;
  low_breakpoint = effective_low_breakpoint bid.max_availability (lower_run_of bid) (effective_enablement_min service bid m) (effective_max_availability kind service bid m);
  high_breakpoint = effective_high_breakpoint bid.max_availability (upper_run_of bid) (effective_enablement_max kind service bid m) (effective_max_availability kind service bid m);
  enablement_max = effective_enablement_max kind service bid m;
  max_availability = effective_max_availability kind service bid m;
}
