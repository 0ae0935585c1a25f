-- What the tests of a whole list say of each of its elements.
use Rattle.std.proofs.Common.{◌≡◌, ℕ, zero, suc, ◌≤◌, true, false, ltb, List, [], ◌∷◌, get_or, set, arith}
use Rattle.std.proofs.lemmas.Bool.{and_parts, or_from, or_parts, le-ltb, leb-true, ltb-false}
use Rattle.fcas.specs.Bid.{some_above}
use Rattle.limits.specs.Bounds.{Powers}
use Rattle.limits.specs.Terms.{no_offer, in_bounds, all_in_bounds}
use Rattle.limits.specs.declared.terms.Offer.{Offer}

powers : (offer : Offer) → in_bounds offer ≡ true → Powers offer
powers offer e =
    let p5 = and_parts _ _ e in
    let p4 = and_parts _ _ p5.0 in
    let p3 = and_parts _ _ p4.0 in
    let p2 = and_parts _ _ p3.0 in
    let p1 = and_parts _ _ p2.0 in
    record {
      availability = leb-true _ _ p1.0;
      upper_run = leb-true _ _ p1.1;
      lower_run = leb-true _ _ p2.1;
      min = leb-true _ _ p3.1;
      max = leb-true _ _ p4.1;
      effective = leb-true _ _ p5.1;
    }

pub no_powers : Powers no_offer
no_powers = record { availability = omega arith; upper_run = omega arith; lower_run = omega arith; min = omega arith; max = omega arith; effective = omega arith }

pub powers_at : (offers : List Offer) (i : ℕ) → all_in_bounds offers ≡ true → Powers (get_or offers i no_offer)
powers_at [] i e = no_powers
powers_at (x ∷ xs) zero e = powers x (and_parts (in_bounds x) (all_in_bounds xs) e).0
powers_at (x ∷ xs) (suc i) e = powers_at xs i (and_parts (in_bounds x) (all_in_bounds xs) e).1

pub none_above_set : (limit : ℕ) (numbers : List ℕ) (i x : ℕ) → x ≤ limit → some_above limit numbers ≡ false → some_above limit (set numbers i x) ≡ false
none_above_set limit [] i x l e = e
none_above_set limit (y ∷ ys) zero x l e = or_from (ltb limit x) (some_above limit ys) (le-ltb limit x l) (or_parts (ltb limit y) (some_above limit ys) e).1
none_above_set limit (y ∷ ys) (suc i) x l e =
    let p = or_parts (ltb limit y) (some_above limit ys) e in
    or_from (ltb limit y) (some_above limit (set ys i x)) p.0 (none_above_set limit ys i x l p.1)
