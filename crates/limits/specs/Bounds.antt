-- Bounds that keep sums and products within 64 bits. They are no part of the rules.
use Rattle.std.specs.Prelude.{◌≤◌, ℤ, pos, negsuc, ◌≤ℤ◌, Some, None, Option}
use Rattle.limits.specs.declared.limit.Sides.{Sides}
use Rattle.limits.specs.declared.terms.Offer.{Offer}

-- An energy with an amount added or taken away.
pub record Moved (z : ℤ) : Type 0 where
  pub low : negsuc 7999999 ≤ℤ z
  pub high : z ≤ℤ pos 8000000

-- A power times that.
pub record Product (z : ℤ) : Type 0 where
  pub low : negsuc 31999999999999 ≤ℤ z
  pub high : z ≤ℤ pos 32000000000000

-- Both sides of a limit.
pub record Bounded (sides : Sides) : Type 0 where
  pub lesser_low : negsuc 63999999999999 ≤ℤ sides.lesser
  pub lesser_high : sides.lesser ≤ℤ pos 64000000000000
  pub greater_low : negsuc 63999999999999 ≤ℤ sides.greater
  pub greater_high : sides.greater ≤ℤ pos 64000000000000

abbrev pub BoundedIf : Option Sides → Type 0
BoundedIf None = Unit {0}
BoundedIf (Some sides) = Bounded sides

-- The powers of an offer.
pub record Powers (offer : Offer) : Type 0 where
  pub availability : offer.bid_availability ≤ 4000000
  pub upper_run : offer.upper_run ≤ 4000000
  pub lower_run : offer.lower_run ≤ 4000000
  pub min : offer.enablement_min ≤ 4000000
  pub max : offer.enablement_max ≤ 4000000
  pub effective : offer.max_availability ≤ 4000000
