-- What a refusal says.
use Rattle.std.specs.Prelude.{◌≡◌, ℕ, Bool, Some, None, Option}
use Rattle.fcas.specs.Checks.{refusal_number}
use Rattle.fcas.specs.declared.kind.Kind.{Kind}
use Rattle.limits.specs.Limit.{First, limit_by, limit_number}
use Rattle.limits.specs.declared.limit.Limit.{Limit}
use Rattle.states.specs.declared.refusal.Refusal.{Refusal}
use Rattle.states.specs.declared.refusal.Refusal.TheVariants.{UnitUnknown, Unfit, TableTooShort, AlreadyEnrolled, NotEnrolled, IntervalOpen, SerialsSpent, NoBid, NoInterval, PassUnknown, NoEnergy, NotLive, LimitBroken}

-- Its number, and the ground and by of the limit where one broke.
pub record Told : Type 0 where
  pub number : ℕ
  pub limit : Option (ℕ × ℕ)

-- A refusal with a number alone.
abbrev pub plain : ℕ → Told
plain n = record { number = n; limit = None }

abbrev pub told : Refusal → Told
told UnitUnknown = plain 1
told (Unfit refusal) = plain (refusal_number refusal)
told TableTooShort = plain 8
told AlreadyEnrolled = plain 21
told NotEnrolled = plain 22
told IntervalOpen = plain 23
told SerialsSpent = plain 25
told NoBid = plain 26
told NoInterval = plain 27
told PassUnknown = plain 28
told NoEnergy = plain 29
told NotLive = plain 30
told (LimitBroken limit by) = record { number = 31; limit = Some (limit, by) }

-- What is said of a limit that breaks.
abbrev pub limit_told : Kind → Limit → Told
limit_told kind limit = record { number = 31; limit = Some (limit_number limit, limit_by kind limit) }

-- The limit that is named is the first that breaks.
pub record Named (broken : Limit → Bool) (kind : Kind) (said : Told) : Type 0 where
  pub limit : Limit
  pub first : First broken limit
  pub says : said ≡ limit_told kind limit
