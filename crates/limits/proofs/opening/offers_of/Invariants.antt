use Rattle.std.proofs.Common.{◌≡◌, ℕ, ◌<◌, true, length, get_or, None}
use Rattle.std.specs.Option.{option_map}
use Rattle.limits.specs.Terms.{in_bounds, no_offer, offer_of}
use Rattle.limits.proofs.opening.offers_of.Given as goal

abbrev pub invariant-loop-service : goal.invariant-loop-service
invariant-loop-service l =
    (length l.offers ≡ 10)
    × ((s : ℕ) → s < l.service-index → get_or l.offers s no_offer ≡ offer_of l.opening.kind l.opening.reading.measured s (option_map (λ checked. checked.bid) (get_or l.bids s None)))
    × ((s : ℕ) → s < l.service-index → in_bounds (get_or l.offers s no_offer) ≡ true)
