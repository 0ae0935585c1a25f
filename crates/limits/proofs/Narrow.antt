-- A limit narrows the least so far by its cap.
use Rattle.std.proofs.Common.{◌≡◌, ℕ, ◌+◌, ◌*◌, ◌<◌, false, List, length, get_or, Some, None, Option, sym, subst, arith}
use Rattle.limits.specs.Limit.{exceeded, limits_of, sides_of}
use Rattle.limits.specs.Narrowing.{Held, Least, Narrowed, cap_by, coefficient_of, exceeded_with, narrowed_to}
use Rattle.limits.specs.Row.{amount, with_amount}
use Rattle.limits.specs.declared.limit.Limit.{Limit}
use Rattle.limits.specs.declared.limit.Limit.TheVariants.{RampUp, RampDown}
use Rattle.limits.specs.declared.narrowing.Best.{Best}
use Rattle.limits.specs.declared.row.Row.{Row}
use Rattle.limits.specs.declared.terms.Terms.{Terms}
use Rattle.limits.proofs.Breaks.{ten_sides}
use Rattle.limits.proofs.Caps.{UptoIf, capped}
use Rattle.limits.proofs.Held.{held_service, held_rise, held_fall}
use Rattle.limits.proofs.Linear.{linear}
use Rattle.limits.proofs.Orders.{TenOnly}

module _ (terms : Terms) (row : Row) (s : ℕ) (within : s < length row.amounts) where
  -- the cap of a limit that the row does not exceed
  abbrev pub cap_at : Limit → Option ℕ
  cap_at limit = cap_by (sides_of terms row limit) (amount row s) (coefficient_of terms limit s)

  capped_at : (limit : Limit) → exceeded (sides_of terms row limit) ≡ false → UptoIf (λ a. exceeded_with terms row s a limit) (cap_at limit)
  capped_at limit fits = capped (amount row s) (coefficient_of terms limit s) (sides_of terms row limit) (λ a. sides_of terms (with_amount row s a) limit) fits (λ a. linear terms row s a within limit)

  pub at_service : (limits : List Limit) (own i : ℕ) (d : Limit) (best after : Best) → limits ≡ limits_of own → own < 10 → i < 3 → Held (exceeded_with terms row s) (3 * own + i) best → exceeded (sides_of terms row (get_or limits i d)) ≡ false → after ≡ narrowed_to best (cap_at (get_or limits i d)) (get_or limits i d) → Held (exceeded_with terms row s) (3 * own + (i + 1)) after
  at_service limits own i d best after these l m h fits e =
      subst (λ (b : Best). Held (exceeded_with terms row s) (3 * own + (i + 1)) b) (sym e) (held_service (exceeded_with terms row s) limits own i d best (cap_at (get_or limits i d)) these l m h (capped_at (get_or limits i d) fits))

  module _ (ten : length terms.offers ≡ 10) where
    only_ten : (a : ℕ) → TenOnly (exceeded_with terms row s a)
    only_ten a = ten_sides terms (with_amount row s a) ten

    pub at_rise : (best after : Best) → Held (exceeded_with terms row s) 30 best → exceeded (sides_of terms row RampUp) ≡ false → after ≡ narrowed_to best (cap_at RampUp) RampUp → Held (exceeded_with terms row s) 31 after
    at_rise best after h fits e = subst (λ (b : Best). Held (exceeded_with terms row s) 31 b) (sym e) (held_rise (exceeded_with terms row s) only_ten best (cap_at RampUp) h (capped_at RampUp fits))

    pub at_fall : (best after : Best) → Held (exceeded_with terms row s) 31 best → exceeded (sides_of terms row RampDown) ≡ false → after ≡ narrowed_to best (cap_at RampDown) RampDown → Held (exceeded_with terms row s) 32 after
    at_fall best after h fits e = subst (λ (b : Best). Held (exceeded_with terms row s) 32 b) (sym e) (held_fall (exceeded_with terms row s) only_ten best (cap_at RampDown) h (capped_at RampDown fits))

    -- the last of the limits with sides
    pub least_at : (best : Best) (found : Option Best) → Held (exceeded_with terms row s) 31 best → Narrowed (sides_of terms row RampDown) (amount row s) (coefficient_of terms RampDown s) best RampDown found → Least terms row s found
    least_at best None h e = (RampDown, e)
    least_at best (Some after) h e = at_fall best after h e.0 e.1

  pub held_place : (m n : ℕ) (best : Best) → m ≡ n → Held (exceeded_with terms row s) m best → Held (exceeded_with terms row s) n best
  held_place m n best e h = subst (λ (k : ℕ). Held (exceeded_with terms row s) k best) e h

  -- the three limits of a service, one after the other
  pub held_three : (limits : List Limit) (own : ℕ) (d : Limit) → limits ≡ limits_of own → own < 10 → (b b₁ b₂ b₃ : Best) → Held (exceeded_with terms row s) (3 * own) b
      → exceeded (sides_of terms row (get_or limits 0 d)) ≡ false → b₁ ≡ narrowed_to b (cap_at (get_or limits 0 d)) (get_or limits 0 d)
      → exceeded (sides_of terms row (get_or limits 1 d)) ≡ false → b₂ ≡ narrowed_to b₁ (cap_at (get_or limits 1 d)) (get_or limits 1 d)
      → exceeded (sides_of terms row (get_or limits 2 d)) ≡ false → b₃ ≡ narrowed_to b₂ (cap_at (get_or limits 2 d)) (get_or limits 2 d)
      → Held (exceeded_with terms row s) (3 * (own + 1)) b₃
  held_three limits own d these l b b₁ b₂ b₃ h fa ea fu eu fl el =
      let start : 3 * own ≡ 3 * own + 0 = omega arith in
      let end : 3 * own + (2 + 1) ≡ 3 * (own + 1) = omega arith in
      let h₁ = at_service limits own 0 d b b₁ these l (omega arith) (held_place (3 * own) (3 * own + 0) b start h) fa ea in
      let h₂ = at_service limits own 1 d b₁ b₂ these l (omega arith) h₁ fu eu in
      held_place (3 * own + (2 + 1)) (3 * (own + 1)) b₃ end (at_service limits own 2 d b₂ b₃ these l (omega arith) h₂ fl el)
