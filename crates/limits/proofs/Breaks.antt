-- `breaks`, by the sides of a limit.
use Rattle.std.proofs.Common.{◌≡◌, ℕ, ◌<◌, ◌≤◌, Bool, true, false, length, Some, None, Option, sym, refl, ap, ◌∙◌, subst, ⊎_elim, arith}
use Rattle.std.proofs.lemmas.List.{get_or_past}
use Rattle.std.proofs.lemmas.Bool.{cases_lt, both_ways, not_from_false, not_from_true}
use Rattle.std.specs.Option.{option_or}
use Rattle.limits.specs.Limit.{Finds, FindsBefore, First, breaks, exceeded, offer_at, place, sides_of, while_live}
use Rattle.limits.specs.Narrowing.{Below, first_of_row}
use Rattle.limits.specs.Terms.{no_offer}
use Rattle.limits.specs.declared.limit.Limit.{Limit}
use Rattle.limits.specs.declared.limit.Limit.TheVariants.{Availability, Upper, Lower, RampUp, RampDown, Plant}
use Rattle.limits.specs.declared.limit.Sides.{Sides}
use Rattle.limits.specs.declared.row.Row.{Row}
use Rattle.limits.specs.declared.terms.Offer.{Offer}
use Rattle.limits.specs.declared.terms.Terms.{Terms}
use Rattle.limits.proofs.Orders.{TenOnly, after_services, after_ramp_up, after_ramp_down}

-- a limit of what is no service
dead : (offer : Offer) (limit : Option Sides) → offer ≡ no_offer → exceeded (while_live offer limit) ≡ false
dead offer limit e = subst (λ (o : Offer). exceeded (while_live o limit) ≡ false) (sym e) refl

module _ (terms : Terms) (row : Row) (ten : length terms.offers ≡ 10) where
  past : (s : ℕ) → 10 ≤ s → offer_at terms s ≡ no_offer
  past s l = get_or_past terms.offers s no_offer (omega (arith, ten))

  pub ten_sides : TenOnly (λ limit. exceeded (sides_of terms row limit))
  ten_sides = record {
    availability = λ s l. dead (offer_at terms s) _ (past s l);
    upper = λ s l. dead (offer_at terms s) _ (past s l);
    lower = λ s l. dead (offer_at terms s) _ (past s l);
  }

  -- so what is exceeded stands before the plant's limit
  pub exceeded_place : (limit : Limit) → exceeded (sides_of terms row limit) ≡ true → place limit < 32
  exceeded_place (Availability s) e = ⊎_elim (λ (l : s < 10). omega arith) (λ (l : 10 ≤ s). absurd (both_ways _ (ten_sides.availability s l) e)) (cases_lt s 10)
  exceeded_place (Upper s) e = ⊎_elim (λ (l : s < 10). omega arith) (λ (l : 10 ≤ s). absurd (both_ways _ (ten_sides.upper s l) e)) (cases_lt s 10)
  exceeded_place (Lower s) e = ⊎_elim (λ (l : s < 10). omega arith) (λ (l : 10 ≤ s). absurd (both_ways _ (ten_sides.lower s l) e)) (cases_lt s 10)
  exceeded_place RampUp e = omega arith
  exceeded_place RampDown e = omega arith
  exceeded_place Plant e = absurd (both_ways false refl e)

  module _ (allowed : Row → Bool) where
    -- every limit but the plant's breaks where it is exceeded
    pub breaks_is : (limit : Limit) → (limit ≡ Plant → ⊥) → breaks allowed terms row limit ≡ exceeded (sides_of terms row limit)
    unfolding breaks
    breaks_is (Availability s) h = refl
    breaks_is (Upper s) h = refl
    breaks_is (Lower s) h = refl
    breaks_is RampUp h = refl
    breaks_is RampDown h = refl
    breaks_is Plant h = absurd (h refl)

    early : (limit : Limit) → place limit < 32 → limit ≡ Plant → ⊥
    early limit l e = omega (arith, l, ap place e)

    pub ten_breaks : TenOnly (breaks allowed terms row)
    unfolding breaks
    ten_breaks = record { availability = ten_sides.availability; upper = ten_sides.upper; lower = ten_sides.lower }

    pub below_breaks : (n : ℕ) → n ≤ 32 → Below (λ limit. exceeded (sides_of terms row limit)) n → Below (breaks allowed terms row) n
    below_breaks n m below limit l = breaks_is limit (early limit (omega arith)) ∙ below limit l

    pub first_breaks : (limit : Limit) → First (λ limit. exceeded (sides_of terms row limit)) limit → First (breaks allowed terms row) limit
    first_breaks limit first =
        let l = exceeded_place limit first.here in
        record {
          here = breaks_is limit (early limit l) ∙ first.here;
          before = below_breaks (place limit) (omega arith) first.before;
        }

    -- none of the limits that stand before the ramp downward, or before the plant's, breaks
    before_ramp_down : Below (λ limit. exceeded (sides_of terms row limit)) 30 → exceeded (sides_of terms row RampUp) ≡ false → Below (breaks allowed terms row) 31
    unfolding breaks
    before_ramp_down below up = after_services (breaks allowed terms row) ten_breaks (below_breaks 30 (omega arith) below) up

    before_plant : Below (breaks allowed terms row) 31 → exceeded (sides_of terms row RampDown) ≡ false → Below (breaks allowed terms row) 32
    unfolding breaks
    before_plant below down = after_ramp_up (breaks allowed terms row) ten_breaks below down

    pub borne : Below (breaks allowed terms row) 32 → allowed row ≡ true → (limit : Limit) → breaks allowed terms row limit ≡ false
    unfolding breaks
    borne below here = after_ramp_down (breaks allowed terms row) ten_breaks below (not_from_true _ here)

    -- the first of the row's limits, where no service's breaks, and so the first of all
    first_of_row_lem : (u d p : Bool) → Below (λ limit. exceeded (sides_of terms row limit)) 30 → u ≡ exceeded (sides_of terms row RampUp) → d ≡ exceeded (sides_of terms row RampDown) → p ≡ allowed row → Finds (breaks allowed terms row) (first_of_row u d p)
    unfolding breaks
    first_of_row_lem true d p below e f g = record { here = sym e; before = below_breaks 30 (omega arith) below }
    first_of_row_lem false true p below e f g = record { here = sym f; before = before_ramp_down below (sym e) }
    first_of_row_lem false false true below e f g = borne (before_plant (before_ramp_down below (sym e)) (sym f)) (sym g)
    first_of_row_lem false false false below e f g = record { here = not_from_false _ (sym g); before = before_plant (before_ramp_down below (sym e)) (sym f) }

    pub first_of_all : (services : Option Limit) (u d p : Bool) → FindsBefore 30 (λ limit. exceeded (sides_of terms row limit)) services → u ≡ exceeded (sides_of terms row RampUp) → d ≡ exceeded (sides_of terms row RampDown) → p ≡ allowed row → Finds (breaks allowed terms row) (option_or services (first_of_row u d p))
    first_of_all None u d p h e f g = first_of_row_lem u d p h e f g
    first_of_all (Some limit) u d p h e f g = first_breaks limit h
