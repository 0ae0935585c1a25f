-- The ten services: 0 to 3 are very fast, fast, slow and delayed raise and 4 is raise regulation; 5 to 9 are the same five for lower.
use Rattle.std.specs.Prelude.{ℕ, Bool, ◌||◌, List, [], ◌∷◌, ◌==◌, nat_lt}
use Rattle.fcas.specs.Checks.{Finding}
use Rattle.fcas.specs.declared.service.Service.{Service}
use Rattle.fcas.specs.declared.service.Service.TheVariants.{Raise1Sec, Raise6Sec, Raise60Sec, Raise5Min, RaiseReg, Lower1Sec, Lower6Sec, Lower60Sec, Lower5Min, LowerReg}

-- The number by which a service is handed over.
abbrev pub service_number : Service → ℕ
service_number Raise1Sec = 0
service_number Raise6Sec = 1
service_number Raise60Sec = 2
service_number Raise5Min = 3
service_number RaiseReg = 4
service_number Lower1Sec = 5
service_number Lower6Sec = 6
service_number Lower60Sec = 7
service_number Lower5Min = 8
service_number LowerReg = 9

-- A number above 9 is no service.
abbrev pub service_faults : ℕ → List Finding
service_faults number = (3, nat_lt 9 number) ∷ []

-- The two regulating services; the other eight are contingency services.
abbrev pub regulating : ℕ → Bool
regulating service = service == 4 || service == 9
