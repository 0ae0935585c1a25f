-- What a plant limit answers.
use Rattle.std.specs.Prelude.{◌≡◌, ℕ, ◌≤◌, Bool, true, false, Some, None, Option}

-- a is the greatest amount from 0 to 4,000,000 that passes.
pub record Most (passes : ℕ → Bool) (a : ℕ) : Type 0 where
  pub within : a ≤ 4000000
  pub here : passes a ≡ true
  pub most : (b : ℕ) → b ≤ 4000000 → passes b ≡ true → b ≤ a

-- The greatest amount of a service that passes; nothing where not even 0 does, or where the service is above 9.
abbrev pub Greatest : (ℕ → Bool) → ℕ → Option ℕ → Type 0
Greatest passes service None = service ≤ 9 → passes 0 ≡ false
Greatest passes service (Some a) = (service ≤ 9) × Most passes a
