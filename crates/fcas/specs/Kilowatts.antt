-- A power in megawatts, a 64-bit float, in whole kilowatts. A float literal is written by its bits, as the code's constants are.
use Rattle.std.specs.Prelude.{ℕ, Bool, true, ◌&&◌, ℤ, Some, None, Option, from_bits, unsigned_abs, Float}
use Rattle.std.specs.Float.Ieee.{mul, le, to_signed}
use Rattle.std.specs.Float.{float_round, binary64}
use Rattle.std.specs.Option.{option_map}

-- 0.0, 800.0, 1000.0, 4000.0 and -4000.0
abbrev pub zero_mw : Float
zero_mw = from_bits binary64 0

abbrev pub most_ramp_mw : Float
most_ramp_mw = from_bits binary64 0x4089_0000_0000_0000

abbrev pub thousand : Float
thousand = from_bits binary64 0x408f_4000_0000_0000

abbrev pub most_mw : Float
most_mw = from_bits binary64 0x40af_4000_0000_0000

abbrev pub least_mw : Float
least_mw = from_bits binary64 0xc0af_4000_0000_0000

-- A float lies from low to high. One that is not a number lies nowhere.
abbrev pub within : Float → Float → Float → Bool
within low high x = le low x && le x high

-- An absent float is in every range.
abbrev pub within_if : Float → Float → Option Float → Bool
within_if low high None = true
within_if low high (Some x) = within low high x

-- One multiplication by 1,000, rounded once.
abbrev pub thousandfold : Float → Float
thousandfold x = mul binary64 x thousand

-- The nearest whole number, an exact half going away from zero.
abbrev pub nearest_whole : Float → Float
nearest_whole x = float_round binary64 x

-- The whole kilowatts of a power in megawatts.
unfoldable pub kilowatts_of : Float → ℤ
kilowatts_of x = to_signed 63 (nearest_whole (thousandfold x))

-- The same of a power that may be absent and is not negative.
abbrev pub kilowatts_if : Option Float → Option ℕ
kilowatts_if = option_map (λ x. unsigned_abs (kilowatts_of x))
