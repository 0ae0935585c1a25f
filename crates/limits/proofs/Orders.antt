-- The order of the limits, for any test of them.
use Rattle.std.proofs.Common.{◌≡◌, ℕ, zero, suc, ◌+◌, ◌*◌, ◌<◌, ◌≤◌, Bool, false, List, get_or, sym, refl, ap, ◌∙◌, subst, ⊎_elim, arith}
use Rattle.std.proofs.lemmas.Bool.{cases_lt}
use Rattle.limits.specs.Limit.{limits_of, place}
use Rattle.limits.specs.Narrowing.{Below}
use Rattle.limits.specs.declared.limit.Limit.{Limit}
use Rattle.limits.specs.declared.limit.Limit.TheVariants.{Availability, Upper, Lower, RampUp, RampDown, Plant}

place_in : (s i : ℕ) (d : Limit) → i < 3 → place (get_or (limits_of s) i d) ≡ 3 * s + i
place_in s zero d h = omega arith
place_in s (suc zero) d h = refl
place_in s (suc (suc zero)) d h = refl
place_in s (suc (suc (suc i))) d h = absurd (omega arith)

pub place_of : (limits : List Limit) (s i : ℕ) (d : Limit) → limits ≡ limits_of s → i < 3 → place (get_or limits i d) ≡ 3 * s + i
place_of limits s i d e h = ap (λ (xs : List Limit). place (get_or xs i d)) e ∙ place_in s i d h

-- a number's triple and rest are its own
triple : (a s i j : ℕ) → i < 3 → j < 3 → 3 * a + j ≡ 3 * s + i → (a ≡ s) × (j ≡ i)
triple a s i j h k e = (omega arith, omega arith)

-- what stands at a place of a service is its limit
at_place : (limit : Limit) (s i : ℕ) (d : Limit) → s < 10 → i < 3 → place limit ≡ 3 * s + i → limit ≡ get_or (limits_of s) i d
at_place (Availability a) s i d m h e = let t = triple a s i 0 h (omega arith) (omega arith) in subst (λ (j : ℕ). Availability a ≡ get_or (limits_of s) j d) t.1 (ap Availability t.0)
at_place (Upper a) s i d m h e = let t = triple a s i 1 h (omega arith) e in subst (λ (j : ℕ). Upper a ≡ get_or (limits_of s) j d) t.1 (ap Upper t.0)
at_place (Lower a) s i d m h e = let t = triple a s i 2 h (omega arith) e in subst (λ (j : ℕ). Lower a ≡ get_or (limits_of s) j d) t.1 (ap Lower t.0)
at_place RampUp s i d m h e = absurd (omega arith)
at_place RampDown s i d m h e = absurd (omega arith)
at_place Plant s i d m h e = absurd (omega arith)

-- one limit of a service more
pub below_more : (f : Limit → Bool) (limits : List Limit) (s i : ℕ) (d : Limit) → limits ≡ limits_of s → s < 10 → i < 3 → Below f (3 * s + i) → f (get_or limits i d) ≡ false → Below f (3 * s + (i + 1))
below_more f limits s i d these m h below here limit l =
    ⊎_elim
    (λ (p : place limit < 3 * s + i). below limit p)
    (λ (p : 3 * s + i ≤ place limit).
    let e : place limit ≡ 3 * s + i = omega arith in
    subst (λ (x : Limit). f x ≡ false) (sym (at_place limit s i d m h e ∙ ap (λ (xs : List Limit). get_or xs i d) (sym these))) here)
    (cases_lt (place limit) (3 * s + i))

-- the three limits of a service more
pub below_three : (f : Limit → Bool) (limits : List Limit) (s : ℕ) (d : Limit) → limits ≡ limits_of s → s < 10 → Below f (3 * s) → f (get_or limits 0 d) ≡ false → f (get_or limits 1 d) ≡ false → f (get_or limits 2 d) ≡ false → Below f (3 * (s + 1))
below_three f limits s d these m below a u w =
    let start : 3 * s ≡ 3 * s + 0 = omega arith in
    let end : 3 * s + (2 + 1) ≡ 3 * (s + 1) = omega arith in
    let below₁ = below_more f limits s 0 d these m (omega arith) (subst (λ (n : ℕ). Below f n) start below) a in
    let below₂ = below_more f limits s 1 d these m (omega arith) below₁ u in
    subst (λ (n : ℕ). Below f n) end (below_more f limits s 2 d these m (omega arith) below₂ w)

-- What is no service has no limit that breaks.
pub record TenOnly (f : Limit → Bool) : Type 0 where
  pub availability : (s : ℕ) → 10 ≤ s → f (Availability s) ≡ false
  pub upper : (s : ℕ) → 10 ≤ s → f (Upper s) ≡ false
  pub lower : (s : ℕ) → 10 ≤ s → f (Lower s) ≡ false

module _ (f : Limit → Bool) (ten : TenOnly f) where
  by_ten : (s n : ℕ) (limit : Limit) → (s < 10 → place limit < n) → (10 ≤ s → f limit ≡ false) → Below f n → f limit ≡ false
  by_ten s n limit near far below = ⊎_elim (λ (l : s < 10). below limit (near l)) far (cases_lt s 10)

  pub after_services : Below f 30 → f RampUp ≡ false → Below f 31
  after_services below here (Availability s) l = by_ten s 30 (Availability s) (λ m. omega arith) (ten.availability s) below
  after_services below here (Upper s) l = below (Upper s) (omega arith)
  after_services below here (Lower s) l = below (Lower s) (omega arith)
  after_services below here RampUp l = here
  after_services below here RampDown l = absurd (omega (arith, l))
  after_services below here Plant l = absurd (omega (arith, l))

  pub after_ramp_up : Below f 31 → f RampDown ≡ false → Below f 32
  after_ramp_up below here (Availability s) l = below (Availability s) (omega arith)
  after_ramp_up below here (Upper s) l = by_ten s 31 (Upper s) (λ m. omega arith) (ten.upper s) below
  after_ramp_up below here (Lower s) l = below (Lower s) (omega arith)
  after_ramp_up below here RampUp l = below RampUp (omega arith)
  after_ramp_up below here RampDown l = here
  after_ramp_up below here Plant l = absurd (omega (arith, l))

  pub after_ramp_down : Below f 32 → f Plant ≡ false → (limit : Limit) → f limit ≡ false
  after_ramp_down below here (Availability s) = by_ten s 32 (Availability s) (λ m. omega arith) (ten.availability s) below
  after_ramp_down below here (Upper s) = by_ten s 32 (Upper s) (λ m. omega arith) (ten.upper s) below
  after_ramp_down below here (Lower s) = by_ten s 32 (Lower s) (λ m. omega arith) (ten.lower s) below
  after_ramp_down below here RampUp = below RampUp (omega arith)
  after_ramp_down below here RampDown = below RampDown (omega arith)
  after_ramp_down below here Plant = here
