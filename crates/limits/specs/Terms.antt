-- The numbers by which a unit's limits are reckoned, fixed as the interval opens.
use Rattle.std.specs.Prelude.{ℕ, suc, ◌*◌, Bool, true, ◌&&◌, List, [], ◌∷◌, Some, None, Option, nat_le}
use Rattle.std.specs.Option.{option_map}
use Rattle.fcas.specs.Live.{ground_of}
use Rattle.fcas.specs.Trapezium.{effective_enablement_min, effective_enablement_max, effective_max_availability, upper_run_of, lower_run_of, unless_zero}
use Rattle.fcas.specs.declared.bid.Bid.{Bid}
use Rattle.fcas.specs.declared.bid.CheckedBid.{CheckedBid}
use Rattle.fcas.specs.declared.kind.Kind.{Kind}
use Rattle.fcas.specs.declared.reading.Measured.{Measured}
use Rattle.fcas.specs.declared.live.Ground.TheVariants.{NoBid}
use Rattle.limits.specs.declared.terms.Offer.{Offer}
use Rattle.limits.specs.declared.terms.Terms.{Terms}

-- A service that is not bid.
abbrev pub no_offer : Offer
no_offer = record { kept_out = Some NoBid; bid_availability = 0; upper_run = 0; lower_run = 0; enablement_min = 0; enablement_max = 0; max_availability = 0 }

-- What a service has to offer: the ground that keeps it out, if there is one, the bid's maximum availability and the runs of its slopes, and the effective numbers.
abbrev pub offer_of : Kind → Measured → ℕ → Option Bid → Offer
offer_of kind m service None = no_offer
offer_of kind m service (Some bid) = record {
  kept_out = ground_of kind service (Some bid) m;
  bid_availability = bid.max_availability;
  upper_run = upper_run_of bid;
  lower_run = lower_run_of bid;
  enablement_min = effective_enablement_min service bid m;
  enablement_max = effective_enablement_max kind service bid m;
  max_availability = effective_max_availability kind service bid m;
}

-- The offers of the services from one on, for the bids of each.
abbrev pub offers_from : Kind → Measured → ℕ → List (Option Bid) → List Offer
offers_from kind m service [] = []
offers_from kind m service (bid ∷ more) = offer_of kind m service bid ∷ offers_from kind m (suc service) more

-- The terms of a unit: the ramps are what they give in five minutes, where they are told and not zero.
abbrev pub terms_of : Kind → List (Option Bid) → Measured → Terms
terms_of kind bids m = record {
  kind = kind;
  initial = m.initial;
  rise = option_map (λ ramp. 5 * ramp) (unless_zero m.ramp_up);
  fall = option_map (λ ramp. 5 * ramp) (unless_zero m.ramp_down);
  offers = offers_from kind m 0 bids;
}

-- The six powers of an offer are at most 4,000,000 kW.
abbrev pub in_bounds : Offer → Bool
in_bounds offer =
    nat_le offer.bid_availability 4000000
    && nat_le offer.upper_run 4000000
    && nat_le offer.lower_run 4000000
    && nat_le offer.enablement_min 4000000
    && nat_le offer.enablement_max 4000000
    && nat_le offer.max_availability 4000000

abbrev pub all_in_bounds : List Offer → Bool
all_in_bounds [] = true
all_in_bounds (offer ∷ more) = in_bounds offer && all_in_bounds more

-- The bids of checked bids.
abbrev pub held_bids : List (Option CheckedBid) → List (Option Bid)
held_bids [] = []
held_bids (bid ∷ more) = option_map (λ checked. checked.bid) bid ∷ held_bids more
