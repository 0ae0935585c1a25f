use Rattle.std.proofs.Common.{◌≡◌, ℕ, ◌<◌, true, length, get_or, None, Option, sym, ap, subst, ◌∙◌, zero-add, arith, length-set}
use Rattle.std.specs.Option.{option_map}
use Rattle.std.proofs.lemmas.List.{get_or_default}
use Rattle.fcas.specs.declared.bid.CheckedBid.{CheckedBid}
use Rattle.limits.specs.Terms.{in_bounds, no_offer, offer_of}
use Rattle.limits.proofs.Offers.{all_in_bounds_lem, offers_are}
use Rattle.limits.proofs.Places.{place_more}
use Rattle.limits.proofs.Services.{service_at}
use Rattle.limits.proofs.opening.offers_of.Goals as goal

pub loop-service-preserved : goal.loop-service-preserved
loop-service-preserved c =
    let at : c.number-place.result ≡ c.loop-service.service-index = c.number-place.ensures.value ∙ service_at c.loop-service.service-index _ c.loop-service-test.true in
    let within : c.number-place.result < length c.loop-service.offers = omega (arith, c.loop-service.invariant.0, c.number-place.ensures.one_of_ten) in
    let read = get_or_default c.args.bids.now c.number-place.result c.index-bids-place.result None (omega (arith, c.told-bids, c.number-place.ensures.one_of_ten)) in
    let known : c.offer_of.result ≡ offer_of c.args.opening.now.kind c.args.opening.now.reading.measured c.number-place.result (option_map (λ checked. checked.bid) (get_or c.args.bids.now c.number-place.result None)) = c.offer_of.ensures.value
    ∙ ap (λ (n : ℕ). offer_of c.args.opening.now.kind c.args.opening.now.reading.measured n (option_map (λ checked. checked.bid) (get_or c.args.bids.now c.number-place.result c.index-bids-place.result))) (sym c.number-place.ensures.value)
    ∙ ap (λ (b : Option CheckedBid). offer_of c.args.opening.now.kind c.args.opening.now.reading.measured c.number-place.result (option_map (λ checked. checked.bid) b)) read in (
      length-set c.loop-service.offers c.number-place.result c.offer_of.result ∙ c.loop-service.invariant.0,
      rw (← at) (place_more (λ s o. o ≡ offer_of c.args.opening.now.kind c.args.opening.now.reading.measured s (option_map (λ checked. checked.bid) (get_or c.args.bids.now s None))) no_offer c.loop-service.offers c.number-place.result c.offer_of.result within
          (subst (λ (n : ℕ). (s : ℕ) → s < n → get_or c.loop-service.offers s no_offer ≡ offer_of c.args.opening.now.kind c.args.opening.now.reading.measured s (option_map (λ checked. checked.bid) (get_or c.args.bids.now s None))) (sym at) c.loop-service.invariant.1) known),
      rw (← at) (place_more (λ s o. in_bounds o ≡ true) no_offer c.loop-service.offers c.number-place.result c.offer_of.result within
          (subst (λ (n : ℕ). (s : ℕ) → s < n → in_bounds (get_or c.loop-service.offers s no_offer) ≡ true) (sym at) c.loop-service.invariant.2) c.offer_of.ensures.bound),
    )

pub returns : goal.returns
returns c = record {
  value = offers_are c.args.opening.now.kind c.args.opening.now.reading.measured 0 c.args.bids.now c.loop-service.offers (c.loop-service.invariant.0 ∙ sym c.told-bids)
      (λ s l. c.loop-service.invariant.1 s (omega (arith, l, c.told-bids, c.loop-service-test.false)) ∙ ap (λ (n : ℕ). offer_of c.args.opening.now.kind c.args.opening.now.reading.measured n (option_map (λ checked. checked.bid) (get_or c.args.bids.now s None))) (sym (zero-add s)));
  bound = all_in_bounds_lem c.loop-service.offers (λ s l. c.loop-service.invariant.2 s (omega (arith, l, c.loop-service.invariant.0, c.loop-service-test.false)));
}
