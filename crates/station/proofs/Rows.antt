-- Rows read as entries.
use Rattle.std.proofs.Common.{◌≡◌, ℕ, zero, suc, ◌<◌, List, [], ◌∷◌, length, get_or, set, is_some, Some, None, Option, refl, ap, arith}
use Rattle.std.specs.Option.{option_map}
use Rattle.fcas.specs.declared.bid.Bid.{Bid}
use Rattle.fcas.specs.declared.bid.CheckedBid.{CheckedBid}
use Rattle.limits.specs.Terms.{held_bids}

abbrev pub bare : Option CheckedBid → Option Bid
bare = option_map (λ checked. checked.bid)

pub held_set : (bids : List (Option CheckedBid)) (i : ℕ) (bid : Option CheckedBid) → held_bids (set bids i bid) ≡ set (held_bids bids) i (bare bid)
held_set [] i bid = refl
held_set (x ∷ bids) zero bid = refl
held_set (x ∷ bids) (suc i) bid = ap {B = List (Option Bid)} (λ t. bare x ∷ t) (held_set bids i bid)

pub held_at : (bids : List (Option CheckedBid)) (i : ℕ) (d : Option CheckedBid) → i < length bids → get_or (held_bids bids) i None ≡ bare (get_or bids i d)
held_at [] i d l = absurd (omega arith)
held_at (x ∷ bids) zero d l = refl
held_at (x ∷ bids) (suc i) d l = held_at bids i d (omega arith)

pub bare_some : (bid : Option CheckedBid) → is_some (bare bid) ≡ is_some bid
bare_some None = refl
bare_some (Some bid) = refl
