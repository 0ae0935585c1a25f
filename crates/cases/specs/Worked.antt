-- Worked cases of the rules, computed from the definitions that the contracts use. Bids are in kilowatts; a float is written by its bits, its value in megawatts behind it.
use Rattle.std.specs.Prelude.{◌≡◌, ℕ, List, [], ◌∷◌, pos, Some, None, from_bits}
use Rattle.std.specs.Float.{binary64}
use Rattle.fcas.specs.declared.bid.Bid.{Bid}
use Rattle.fcas.specs.declared.kind.Kind.TheVariants.{Generator, SemiScheduled}
use Rattle.fcas.specs.declared.reading.Reading.{Reading}
use Rattle.fcas.specs.declared.trapezium.Trapezium.{Trapezium}
use Rattle.std.specs.Option.{option_map}
use Rattle.fcas.specs.Live.{ground_number, ground_of}
use Rattle.fcas.specs.Reading.{measured_of}
use Rattle.fcas.specs.Trapezium.{trapezium_of}

-- One band above zero.
abbrev one_band : List ℕ
one_band = 1 ∷ 0 ∷ 0 ∷ 0 ∷ 0 ∷ 0 ∷ 0 ∷ 0 ∷ 0 ∷ 0 ∷ []

-- A scheduled generator at 450 MW, its AGC limits 280 and 670 MW, its ramps 3 and 2 MW a minute.
abbrev pub generator : Reading
generator = record {
  initial = from_bits binary64 0x407c_2000_0000_0000;  -- 450
  agc_lower = Some (from_bits binary64 0x4071_8000_0000_0000);  -- 280
  agc_upper = Some (from_bits binary64 0x4084_f000_0000_0000);  -- 670
  ramp_up = Some (from_bits binary64 0x4008_0000_0000_0000);  -- 3
  ramp_down = Some (from_bits binary64 0x4000_0000_0000_0000);  -- 2
  uigf = None;
  energy_max = 690000;
  agc_status = 1;
}

-- Its bids for raise and for lower regulation.
abbrev pub raise_bid : Bid
raise_bid = record { enablement_min = 300000; low_breakpoint = 300000; high_breakpoint = 590000; enablement_max = 680000; max_availability = 100000; bands = one_band }

abbrev pub lower_bid : Bid
lower_bid = record { enablement_min = 300000; low_breakpoint = 400000; high_breakpoint = 690000; enablement_max = 690000; max_availability = 100000; bands = one_band }

-- A wind farm at 50 MW with a forecast of 15 MW, and its bid for fast raise, whose enablement minimum is 20 MW.
abbrev pub wind_farm : Reading
wind_farm = record {
  initial = from_bits binary64 0x4049_0000_0000_0000;  -- 50
  agc_lower = None;
  agc_upper = None;
  ramp_up = None;
  ramp_down = None;
  uigf = Some (from_bits binary64 0x402e_0000_0000_0000);  -- 15
  energy_max = 100000;
  agc_status = 0;
}

abbrev pub wind_bid : Bid
wind_bid = record { enablement_min = 20000; low_breakpoint = 20000; high_breakpoint = 90000; enablement_max = 100000; max_availability = 10000; bands = one_band }

-- The effective trapeziums of the two.
abbrev pub raise_trapezium : Trapezium
raise_trapezium = record { enablement_min = 300000; low_breakpoint = pos 300000; high_breakpoint = pos 656500; enablement_max = 670000; max_availability = 15000 }

abbrev pub lower_trapezium : Trapezium
lower_trapezium = record { enablement_min = 300000; low_breakpoint = pos 310000; high_breakpoint = pos 670000; enablement_max = 670000; max_availability = 10000 }

pub record Worked : Type 0 where
  pub raise : trapezium_of Generator 4 raise_bid (measured_of generator) ≡ raise_trapezium
  pub lower : trapezium_of Generator 9 lower_bid (measured_of generator) ≡ lower_trapezium
  pub wind : option_map ground_number (ground_of SemiScheduled 1 (Some wind_bid) (measured_of wind_farm)) ≡ Some 14
