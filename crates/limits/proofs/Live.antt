-- What is known of a service that is live.
use Rattle.std.proofs.Common.{◌≡◌, Bool, true, false, cond, Some, None, ap}
use Rattle.limits.specs.Limit.{while_live}
use Rattle.limits.specs.Offer.{live}
use Rattle.limits.specs.declared.terms.Offer.{Offer}

pub live_with : {X : Type 0} (known offer : Offer) (f : Offer → X) → Some offer ≡ while_live known (Some known) → Some (f offer) ≡ while_live known (Some (f known))
live_with known offer f e = go (live known) e
  where
    go : (b : Bool) → Some offer ≡ cond b (Some known) None → Some (f offer) ≡ cond b (Some (f known)) None
    go true h = let same : offer ≡ known = cc in ap (λ (o : Offer). Some (f o)) same
    go false h = cc
