-- The market's names, and what is said of kinds, grounds and refusals, in bytes.
use Rattle.std.specs.Prelude.{ℕ, List, codes}
use Rattle.fcas.specs.declared.kind.Kind.{Kind}
use Rattle.fcas.specs.declared.kind.Kind.TheVariants.{Generator, SemiScheduled, Load, DemandResponse}
use Rattle.fcas.specs.declared.live.Ground.{Ground}
use Rattle.fcas.specs.declared.live.Ground.TheVariants.{NoBid, NoAvailability, NoBand, EnergyMaxTooLow, OutsideEnablement, AgcIsOff}
use Rattle.fcas.specs.declared.refusal.Refusal.{Refusal}
use Rattle.fcas.specs.declared.refusal.Refusal.TheVariants.{KindUnknown, ServiceUnknown, BidTooLarge, BidFalls, ReadingOutOfRange, PowerTooLarge, ForecastMissing}
use Rattle.fcas.specs.declared.service.Service.{Service}
use Rattle.fcas.specs.declared.service.Service.TheVariants.{Raise1Sec, Raise6Sec, Raise60Sec, Raise5Min, RaiseReg, Lower1Sec, Lower6Sec, Lower60Sec, Lower5Min, LowerReg}

-- The market's name of a service.
abbrev pub service_name : Service → List ℕ
service_name Raise1Sec = codes "RAISE1SEC"
service_name Raise6Sec = codes "RAISE6SEC"
service_name Raise60Sec = codes "RAISE60SEC"
service_name Raise5Min = codes "RAISE5MIN"
service_name RaiseReg = codes "RAISEREG"
service_name Lower1Sec = codes "LOWER1SEC"
service_name Lower6Sec = codes "LOWER6SEC"
service_name Lower60Sec = codes "LOWER60SEC"
service_name Lower5Min = codes "LOWER5MIN"
service_name LowerReg = codes "LOWERREG"

-- What a kind is called.
abbrev pub kind_words : Kind → List ℕ
kind_words Generator = codes "scheduled generator"
kind_words SemiScheduled = codes "semi-scheduled generator"
kind_words Load = codes "scheduled load"
kind_words DemandResponse = codes "wholesale demand response unit"

-- What keeps a service out.
abbrev pub ground_words : Ground → List ℕ
ground_words NoBid = codes "no bid"
ground_words NoAvailability = codes "effective max availability is 0"
ground_words NoBand = codes "no band is above 0"
ground_words EnergyMaxTooLow = codes "available energy is below enablement min"
ground_words OutsideEnablement = codes "initial is outside the enablement limits"
ground_words AgcIsOff = codes "AGC is off"

-- Why what was handed over is not taken.
abbrev pub refusal_words : Refusal → List ℕ
refusal_words KindUnknown = codes "a kind is at most 3"
refusal_words ServiceUnknown = codes "a service is at most 9"
refusal_words BidTooLarge = codes "a number of a bid is at most 4000000 kW"
refusal_words BidFalls = codes "the first four numbers of a bid never fall"
refusal_words ReadingOutOfRange = codes "a number of the reading is out of its range"
refusal_words PowerTooLarge = codes "an energy or an amount is at most 4000000 kW"
refusal_words ForecastMissing = codes "a semi-scheduled unit needs its forecast"
