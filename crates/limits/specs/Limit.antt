-- The limits of a row, their order, and the first that breaks.
use Rattle.std.specs.Prelude.{◌≡◌, ℕ, ◌+◌, ◌*◌, ◌<◌, Bool, true, false, cond, not, List, [], ◌∷◌, ℤ, pos, ◌+ℤ◌, ◌-ℤ◌, ◌*ℤ◌, Some, None, Option, int_lt, slice_index_or}
use Rattle.std.specs.Option.{option_map}
use Rattle.fcas.specs.Kind.{upward, downward}
use Rattle.fcas.specs.Service.{regulating}
use Rattle.fcas.specs.declared.kind.Kind.{Kind}
use Rattle.limits.specs.Offer.{live}
use Rattle.limits.specs.Row.{amount}
use Rattle.limits.specs.Terms.{no_offer}
use Rattle.limits.specs.declared.limit.Limit.{Limit}
use Rattle.limits.specs.declared.limit.Limit.TheVariants.{Availability, Upper, Lower, RampUp, RampDown, Plant}
use Rattle.limits.specs.declared.limit.Sides.{Sides}
use Rattle.limits.specs.declared.row.Row.{Row}
use Rattle.limits.specs.declared.terms.Offer.{Offer}
use Rattle.limits.specs.declared.terms.Terms.{Terms}

-- The number of a limit in the rules. A service has three: that of its availability, and an upper and a lower one, which differ for regulating and contingency services.
abbrev pub limit_number : Limit → ℕ
limit_number (Availability service) = 1
limit_number (Upper service) = cond (regulating service) 2 4
limit_number (Lower service) = cond (regulating service) 3 5
limit_number RampUp = 6
limit_number RampDown = 7
limit_number Plant = 8

-- The limits of a service, in their order.
abbrev pub limits_of : ℕ → List Limit
limits_of s = Availability s ∷ Upper s ∷ Lower s ∷ []

-- The service by which a limit is named; 10 stands for the plant.
abbrev pub limit_by : Kind → Limit → ℕ
limit_by kind (Availability service) = service
limit_by kind (Upper service) = service
limit_by kind (Lower service) = service
limit_by kind RampUp = upward kind
limit_by kind RampDown = downward kind
limit_by kind Plant = 10

-- What a service has to offer.
abbrev pub offer_at : Terms → ℕ → Offer
offer_at terms service = slice_index_or terms.offers service no_offer

-- A limit of a service is in force while the service is live.
abbrev pub while_live : {X : Type 0} → Offer → Option X → Option X
while_live offer limit = cond (live offer) limit None

-- The sides of an upper limit. With M the bid's maximum availability, u the run of its upper slope and X the effective enablement maximum: M energy + u amount <= M X.
abbrev pub upper_sides : Offer → ℤ → ℕ → Sides
upper_sides offer energy a = record {
  lesser = pos offer.bid_availability *ℤ energy +ℤ pos offer.upper_run *ℤ pos a;
  greater = pos offer.bid_availability *ℤ pos offer.enablement_max;
}

-- The sides of a lower limit. With l the run of the lower slope and N the effective enablement minimum: M N <= M energy - l amount.
abbrev pub lower_sides : Offer → ℤ → ℕ → Sides
lower_sides offer energy a = record {
  lesser = pos offer.bid_availability *ℤ pos offer.enablement_min;
  greater = pos offer.bid_availability *ℤ energy -ℤ pos offer.lower_run *ℤ pos a;
}

-- The energy with the amount of the upward service added, or that of the downward service taken away.
abbrev pub raised : Terms → Row → ℤ
raised terms row = row.energy +ℤ pos (amount row (upward terms.kind))

abbrev pub lowered : Terms → Row → ℤ
lowered terms row = row.energy -ℤ pos (amount row (downward terms.kind))

-- The two sides of a limit that is in force: it holds while the lesser is at most the greater. A contingency service is reckoned from the energy that regulation may have moved; the plant's limit has no sides.
abbrev pub sides_of : Terms → Row → Limit → Option Sides
sides_of terms row (Availability service) = while_live (offer_at terms service) (Some (record { lesser = pos (amount row service); greater = pos (offer_at terms service).max_availability }))
sides_of terms row (Upper service) = while_live (offer_at terms service) (Some (upper_sides (offer_at terms service) (cond (regulating service) row.energy (raised terms row)) (amount row service)))
sides_of terms row (Lower service) = while_live (offer_at terms service) (Some (lower_sides (offer_at terms service) (cond (regulating service) row.energy (lowered terms row)) (amount row service)))
sides_of terms row RampUp = while_live (offer_at terms (upward terms.kind)) (option_map (λ rise. record { lesser = raised terms row; greater = terms.initial +ℤ pos rise }) terms.rise)
sides_of terms row RampDown = while_live (offer_at terms (downward terms.kind)) (option_map (λ fall. record { lesser = terms.initial -ℤ pos fall; greater = lowered terms row }) terms.fall)
sides_of terms row Plant = None

-- A limit that is in force is exceeded.
abbrev pub exceeded : Option Sides → Bool
exceeded None = false
exceeded (Some sides) = int_lt sides.greater sides.lesser

-- A limit breaks at a row. The plant's breaks where the plant does not allow the row.
unfoldable pub breaks : (Row → Bool) → Terms → Row → Limit → Bool
breaks allowed terms row (Availability service) = exceeded (sides_of terms row (Availability service))
breaks allowed terms row (Upper service) = exceeded (sides_of terms row (Upper service))
breaks allowed terms row (Lower service) = exceeded (sides_of terms row (Lower service))
breaks allowed terms row RampUp = exceeded (sides_of terms row RampUp)
breaks allowed terms row RampDown = exceeded (sides_of terms row RampDown)
breaks allowed terms row Plant = not (allowed row)

-- Where a limit stands in the order: the services, in each its three limits, then the ramps and the plant.
abbrev pub place : Limit → ℕ
place (Availability service) = 3 * service
place (Upper service) = 3 * service + 1
place (Lower service) = 3 * service + 2
place RampUp = 30
place RampDown = 31
place Plant = 32

-- A row is borne when no limit breaks.
abbrev pub Borne : (Limit → Bool) → Type 0
Borne broken = (limit : Limit) → broken limit ≡ false

-- The first limit that breaks: it does, and none before it.
pub record First (broken : Limit → Bool) (limit : Limit) : Type 0 where
  pub here : broken limit ≡ true
  pub before : (other : Limit) → place other < place limit → broken other ≡ false

-- What a search for the first broken limit gives: nothing exactly where the row is borne.
abbrev pub Finds : (Limit → Bool) → Option Limit → Type 0
Finds broken None = Borne broken
Finds broken (Some limit) = First broken limit

-- The same of the limits before a place.
abbrev pub FindsBefore : ℕ → (Limit → Bool) → Option Limit → Type 0
FindsBefore n broken None = (limit : Limit) → place limit < n → broken limit ≡ false
FindsBefore n broken (Some limit) = First broken limit
