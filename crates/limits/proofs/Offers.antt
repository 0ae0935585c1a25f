-- The offers of ten services, from that of each.
use Rattle.std.proofs.Common.{◌≡◌, ℕ, suc, ◌+◌, ◌<◌, true, List, [], ◌∷◌, length, get_or, None, Option, refl, ap, ◌∙◌, arith}
use Rattle.std.proofs.lemmas.Bool.{and_from}
use Rattle.std.specs.Option.{option_map}
use Rattle.fcas.specs.declared.bid.CheckedBid.{CheckedBid}
use Rattle.fcas.specs.declared.kind.Kind.{Kind}
use Rattle.fcas.specs.declared.reading.Measured.{Measured}
use Rattle.limits.specs.Terms.{all_in_bounds, held_bids, in_bounds, no_offer, offer_of, offers_from}
use Rattle.limits.specs.declared.terms.Offer.{Offer}

module _ (kind : Kind) (m : Measured) where
  pub offers_are : (start : ℕ) (bids : List (Option CheckedBid)) (offers : List Offer) → length offers ≡ length bids
      → ((s : ℕ) → s < length bids → get_or offers s no_offer ≡ offer_of kind m (start + s) (option_map (λ checked. checked.bid) (get_or bids s None))) → offers ≡ offers_from kind m start (held_bids bids)
  offers_are start [] [] e each = refl
  offers_are start [] (o ∷ os) e each = absurd (omega (arith, e))
  offers_are start (b ∷ bs) [] e each = absurd (omega (arith, e))
  offers_are start (b ∷ bs) (o ∷ os) e each =
      let first : start + 0 ≡ start = omega arith in
      ap (λ (x : Offer). x ∷ os) (each 0 (omega arith) ∙ ap (λ (n : ℕ). offer_of kind m n (option_map (λ checked. checked.bid) b)) first)
      ∙ ap (λ (xs : List Offer). offer_of kind m start (option_map (λ checked. checked.bid) b) ∷ xs)
      (offers_are (suc start) bs os (omega (arith, e)) (λ s l.
      let next : start + suc s ≡ suc start + s = omega arith in
      each (suc s) (omega arith) ∙ ap (λ (n : ℕ). offer_of kind m n (option_map (λ checked. checked.bid) (get_or bs s None))) next))

pub all_in_bounds_lem : (offers : List Offer) → ((s : ℕ) → s < length offers → in_bounds (get_or offers s no_offer) ≡ true) → all_in_bounds offers ≡ true
all_in_bounds_lem [] each = refl
all_in_bounds_lem (o ∷ os) each = and_from (in_bounds o) (all_in_bounds os) (each 0 (omega arith)) (all_in_bounds_lem os (λ s l. each (suc s) (omega arith)))
