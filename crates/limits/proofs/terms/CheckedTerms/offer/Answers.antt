use Rattle.std.proofs.Common.{◌≡◌, sym, subst, rules}
use Rattle.limits.specs.Bounds.{Powers}
use Rattle.limits.specs.Limit.{offer_at}
use Rattle.limits.specs.declared.terms.Offer.{Offer}
use Rattle.limits.proofs.InBounds.{powers_at}
use Rattle.limits.proofs.terms.CheckedTerms.offer.Goals as goal

pub returns-clause-powers : goal.returns-clause-powers
returns-clause-powers c =
    let at : c.unwrap_or.result ≡ offer_at c.args.self.now.terms c.args.service = search rules in
    subst (λ (o : Offer). Powers o) (sym at) (powers_at c.args.self.now.terms.offers c.args.service c.args.self.now.offers_in_range)
