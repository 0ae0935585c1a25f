-- How the first broken limit is found and figures are worked out: each limit caps the amount of a service, and the first least cap stands. No part of the promises.
use Rattle.std.specs.Prelude.{◌≡◌, ℕ, ◌+◌, ◌/◌, ◌<◌, ◌≤◌, min, Bool, true, false, cond, List, ◌-ℤ◌, Some, None, Option, ◌==◌, nat_lt, slice_index_or, unsigned_abs}
use Rattle.fcas.specs.Kind.{upward, downward}
use Rattle.fcas.specs.Service.{regulating}
use Rattle.fcas.specs.declared.kind.Kind.{Kind}
use Rattle.limits.specs.Limit.{exceeded, offer_at, place, sides_of}
use Rattle.limits.specs.Row.{amount, with_amount}
use Rattle.limits.specs.declared.limit.Limit.{Limit}
use Rattle.limits.specs.declared.limit.Limit.TheVariants.{Availability, Upper, Lower, RampUp, RampDown, Plant}
use Rattle.limits.specs.declared.limit.Sides.{Sides}
use Rattle.limits.specs.declared.narrowing.Best.{Best}
use Rattle.limits.specs.declared.row.Row.{Row}
use Rattle.limits.specs.declared.terms.Terms.{Terms}

-- The first of the limits of the whole row, by whether each breaks.
abbrev pub first_of_row : Bool → Bool → Bool → Option Limit
first_of_row rises falls allows = cond rises (Some RampUp) (cond falls (Some RampDown) (cond allows None (Some Plant)))

-- What one kilowatt of a service takes from the room of a limit.
abbrev pub coefficient_of : Terms → Limit → ℕ → ℕ
coefficient_of terms (Availability service) s = cond (s == service) 1 0
coefficient_of terms (Upper service) s = cond (s == service) (offer_at terms service).upper_run (cond (regulating service) 0 (cond (s == upward terms.kind) (offer_at terms service).bid_availability 0))
coefficient_of terms (Lower service) s = cond (s == service) (offer_at terms service).lower_run (cond (regulating service) 0 (cond (s == downward terms.kind) (offer_at terms service).bid_availability 0))
coefficient_of terms RampUp s = cond (s == upward terms.kind) 1 0
coefficient_of terms RampDown s = cond (s == downward terms.kind) 1 0
coefficient_of terms Plant s = 0

-- The greatest amount, up to 4,000,001, that room leaves beside the amount held; nothing where the service takes none of it.
abbrev pub cap_of : ℕ → ℕ → ℕ → Option ℕ
cap_of held room coefficient = cond (coefficient == 0) None (Some (min (held + room / coefficient) 4000001))

-- The cap of a limit with these sides.
abbrev pub cap_by : Option Sides → ℕ → ℕ → Option ℕ
cap_by None held coefficient = None
cap_by (Some sides) held coefficient = cap_of held (unsigned_abs (sides.greater -ℤ sides.lesser)) coefficient

-- A cap takes the place of the least so far where it is less.
abbrev pub narrowed_to : Best → Option ℕ → Limit → Best
narrowed_to best None limit = best
narrowed_to best (Some cap) limit = cond (nat_lt cap best.most) (record { most = cap; limit = limit }) best

-- The other service that takes from the room of a limit: regulation moves the energy that a contingency service is reckoned from.
abbrev pub joint_of : Kind → Limit → Option ℕ
joint_of kind (Availability service) = None
joint_of kind (Upper service) = cond (regulating service) None (Some (upward kind))
joint_of kind (Lower service) = cond (regulating service) None (Some (downward kind))
joint_of kind RampUp = None
joint_of kind RampDown = None
joint_of kind Plant = None

-- What a limit makes of the least so far of one service: nothing where the row breaks the limit.
abbrev pub Narrowed : Option Sides → ℕ → ℕ → Best → Limit → Option Best → Type 0
Narrowed sides held coefficient best limit None = exceeded sides ≡ true
Narrowed sides held coefficient best limit (Some after) = (exceeded sides ≡ false) × (after ≡ narrowed_to best (cap_by sides held coefficient) limit)

-- The place of a service that is none.
abbrev pub no_best : Best
no_best = record { most = 0; limit = Availability 0 }

-- What a limit makes of the least so far of every service: nothing where the row breaks the limit.
abbrev pub NarrowedAll : Terms → Row → Limit → List Best → List Best → Option (Unit {0}) → Type 0
NarrowedAll terms row limit before after None = exceeded (sides_of terms row limit) ≡ true
NarrowedAll terms row limit before after (Some done) = (exceeded (sides_of terms row limit) ≡ false)
    × ((s : ℕ) → s < 10 → slice_index_or after s no_best ≡ narrowed_to (slice_index_or before s no_best) (cap_by (sides_of terms row limit) (amount row s) (coefficient_of terms limit s)) limit)

-- No limit before a place breaks.
abbrev pub Below : (Limit → Bool) → ℕ → Type 0
Below broken n = (limit : Limit) → place limit < n → broken limit ≡ false

-- Of the limits before n none breaks up to the least, above it its limit does, and at the next amount that is the first.
pub record Held (broken : ℕ → Limit → Bool) (n : ℕ) (best : Best) : Type 0 where
  pub within : best.most ≤ 4000001
  pub low : (a : ℕ) → a ≤ best.most → Below (broken a) n
  pub high : (a : ℕ) → best.most < a → a ≤ 4000001 → broken a best.limit ≡ true
  pub before : best.most ≤ 4000000 → Below (broken (best.most + 1)) (place best.limit)

-- What is exceeded as the amount of one service goes.
abbrev pub exceeded_with : Terms → Row → ℕ → ℕ → Limit → Bool
exceeded_with terms row s a limit = exceeded (sides_of terms (with_amount row s a) limit)

-- The least of one service after all limits that have sides; nothing where the row exceeds one of them.
abbrev pub Least : Terms → Row → ℕ → Option Best → Type 0
Least terms row s None = (limit : Limit) × (exceeded (sides_of terms row limit) ≡ true)
Least terms row s (Some best) = Held (exceeded_with terms row s) 32 best

-- The same of all ten.
abbrev pub LeastOfAll : Terms → Row → Option (List Best) → Type 0
LeastOfAll terms row None = (limit : Limit) × (exceeded (sides_of terms row limit) ≡ true)
LeastOfAll terms row (Some best) = ((s : ℕ) → s < 10 → Held (exceeded_with terms row s) 32 (slice_index_or best s no_best)) × Below (λ limit. exceeded (sides_of terms row limit)) 32
