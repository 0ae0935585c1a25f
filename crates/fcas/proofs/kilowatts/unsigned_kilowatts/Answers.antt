use Rattle.std.proofs.Common.{◌≡◌, ℕ, ◌≤◌, ℤ, pos, arith, w32, Fits, to_z, of_z, rules}
use Rattle.std.proofs.lemmas.Int.{ints}
use Rattle.fcas.proofs.Ranges.{power_in_widest, unsigned_power}
use Rattle.fcas.proofs.kilowatts.unsigned_kilowatts.Goals as goal

settled : (z : ℤ) (q : ℕ) → z ≡ pos q → q ≤ 4000000 → to_z w32 (of_z w32 z) ≡ pos q
settled z q e h = omega (arith, ints)

fits : (q : ℕ) → q ≤ 4000000 → Fits w32 q
fits q h = search rules

pub kilowatts-requires : goal.kilowatts-requires
kilowatts-requires c = power_in_widest c.args.megawatts c.requires

pub overflow_cast-result : goal.overflow_cast-result
overflow_cast-result c = search (rules, unsigned_power, settled, fits)
