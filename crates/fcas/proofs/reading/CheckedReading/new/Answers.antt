use Rattle.std.proofs.Common.{rules}
use Rattle.fcas.proofs.InRange.{parts, power_if, ramp_if, ramp_in_range}
use Rattle.fcas.proofs.reading.CheckedReading.new.Goals as goal

pub kilowatts_if_present-requires : goal.kilowatts_if_present-requires
kilowatts_if_present-requires c = search (rules, parts)

pub kilowatts_if_present-requires-2 : goal.kilowatts_if_present-requires-2
kilowatts_if_present-requires-2 c = search (rules, parts)

pub kilowatts_if_present-requires-3 : goal.kilowatts_if_present-requires-3
kilowatts_if_present-requires-3 c = search (rules, parts, ramp_in_range)

pub kilowatts_if_present-requires-4 : goal.kilowatts_if_present-requires-4
kilowatts_if_present-requires-4 c = search (rules, parts, ramp_in_range)

pub kilowatts_if_present-requires-5 : goal.kilowatts_if_present-requires-5
kilowatts_if_present-requires-5 c = search (rules, parts)

pub invariant_of-result : goal.invariant_of-result
invariant_of-result c = search (rules, parts, power_if, ramp_if)
