-- What one amount does to the sums of a governor share.
use Rattle.std.specs.Prelude.{◌≡◌, ℕ, zero, suc, ◌+◌, ◌-◌, ◌<◌, ◌≤◌, Bool, true, ◌&&◌, List, [], ◌∷◌, length, pos, ◌-ℤ◌, int_le, nat_le, refl}
use Rattle.std.proofs.Common.{arith, sym, ap, ◌∙◌, subst}
use Rattle.std.proofs.Math.Bool.{and_comm}
use Rattle.std.proofs.lemmas.Int.{ints}
use Rattle.std.proofs.lemmas.Bool.{and_from, and_parts, le-leb, leb-true}
use Rattle.std.proofs.lemmas.Bool.Decides.{nat_tests}
use Rattle.limits.specs.Row.{amount, with_amount}
use Rattle.limits.specs.declared.row.Row.{Row}
use Rattle.plants.specs.GovernorShare.{lowers, raises, share_allows}
use Rattle.plants.specs.declared.governor_share.GovernorShare.{GovernorShare}
use Rattle.plants.specs.Amounts.{lowered_le, of_amounts}

pub share_lowering : (plant : GovernorShare) (row : Row) (s a : ℕ) → a ≤ amount row s → share_allows plant row ≡ true → share_allows plant (with_amount row s a) ≡ true
share_lowering plant row s a l h =
    let both = and_parts (nat_le (raises row) plant.raise) (nat_le (lowers row) plant.lower) h in
    let f : (i : ℕ) → amount (with_amount row s a) i ≤ amount row i = λ i. lowered_le row.amounts s a i l in
    and_from _ _
    (le-leb (raises (with_amount row s a)) plant.raise (omega (arith, f 0, f 1, f 2, f 3, f 4, leb-true (raises row) plant.raise both.0)))
    (le-leb (lowers (with_amount row s a)) plant.lower (omega (arith, f 5, f 6, f 7, f 8, f 9, leb-true (lowers row) plant.lower both.1)))

-- a list of ten, by its elements, and a number below five
by_ten : (P : List ℕ → Type 0) → ((a b c d e f g h i j : ℕ) → P (a ∷ b ∷ c ∷ d ∷ e ∷ f ∷ g ∷ h ∷ i ∷ j ∷ [])) → (xs : List ℕ) → length xs ≡ 10 → P xs
by_ten P q [] n = absurd (omega arith)
by_ten P q (a ∷ []) n = absurd (omega arith)
by_ten P q (a ∷ b ∷ []) n = absurd (omega arith)
by_ten P q (a ∷ b ∷ c ∷ []) n = absurd (omega arith)
by_ten P q (a ∷ b ∷ c ∷ d ∷ []) n = absurd (omega arith)
by_ten P q (a ∷ b ∷ c ∷ d ∷ e ∷ []) n = absurd (omega arith)
by_ten P q (a ∷ b ∷ c ∷ d ∷ e ∷ f ∷ []) n = absurd (omega arith)
by_ten P q (a ∷ b ∷ c ∷ d ∷ e ∷ f ∷ g ∷ []) n = absurd (omega arith)
by_ten P q (a ∷ b ∷ c ∷ d ∷ e ∷ f ∷ g ∷ h ∷ []) n = absurd (omega arith)
by_ten P q (a ∷ b ∷ c ∷ d ∷ e ∷ f ∷ g ∷ h ∷ i ∷ []) n = absurd (omega arith)
by_ten P q (a ∷ b ∷ c ∷ d ∷ e ∷ f ∷ g ∷ h ∷ i ∷ j ∷ []) n = q a b c d e f g h i j
by_ten P q (a ∷ b ∷ c ∷ d ∷ e ∷ f ∷ g ∷ h ∷ i ∷ j ∷ k ∷ ks) n = absurd (omega arith)

under_five : (P : ℕ → Type 0) → P 0 → P 1 → P 2 → P 3 → P 4 → (s : ℕ) → s < 5 → P s
under_five P a b c d e zero l = a
under_five P a b c d e (suc zero) l = b
under_five P a b c d e (suc (suc zero)) l = c
under_five P a b c d e (suc (suc (suc zero))) l = d
under_five P a b c d e (suc (suc (suc (suc zero)))) l = e
under_five P a b c d e (suc (suc (suc (suc (suc s))))) l = absurd (omega arith)

-- a raise amount moves the sum of raises alone, and a lower amount that of lowers
abbrev Raised : Row → ℕ → ℕ → Type 0
Raised row a s = (raises (with_amount row s a) + amount row s ≡ raises row + a) × (lowers (with_amount row s a) ≡ lowers row)

abbrev Lowered : Row → ℕ → ℕ → Type 0
Lowered row a t = (lowers (with_amount row (t + 5) a) + amount row (t + 5) ≡ lowers row + a) × (raises (with_amount row (t + 5) a) ≡ raises row)

raise_moves : (row : Row) (s a : ℕ) → length row.amounts ≡ 10 → s < 5 → Raised row a s
raise_moves row s v n l =
    by_ten (λ xs. Raised (of_amounts row xs) v s)
    (λ a b c d e f g h i j.
    under_five (Raised (of_amounts row (a ∷ b ∷ c ∷ d ∷ e ∷ f ∷ g ∷ h ∷ i ∷ j ∷ [])) v)
    (omega arith, refl) (omega arith, refl) (omega arith, refl) (omega arith, refl) (omega arith, refl) s l)
    row.amounts n

lower_moves : (row : Row) (t a : ℕ) → length row.amounts ≡ 10 → t < 5 → Lowered row a t
lower_moves row t v n l =
    by_ten (λ xs. Lowered (of_amounts row xs) v t)
    (λ a b c d e f g h i j.
    under_five (Lowered (of_amounts row (a ∷ b ∷ c ∷ d ∷ e ∷ f ∷ g ∷ h ∷ i ∷ j ∷ [])) v)
    (omega arith, refl) (omega arith, refl) (omega arith, refl) (omega arith, refl) (omega arith, refl) t l)
    row.amounts n

-- what is left of a share
left_is : (a share together held after : ℕ) → after + held ≡ together + a → int_le (pos a) (pos share -ℤ (pos together -ℤ pos held)) ≡ nat_le after share
left_is a share together held after e = grind (arith, ints, nat_tests)

-- what the raise side and the lower side leave to one of their services, each with the other side as it stands
pub raise_left : (plant : GovernorShare) (row : Row) (s together held : ℕ) → length row.amounts ≡ 10 → s < 5 → together ≡ raises row → held ≡ amount row s → (a : ℕ) → (int_le (pos a) (pos plant.raise -ℤ (pos together -ℤ pos held)) && nat_le (lowers row) plant.lower) ≡ share_allows plant (with_amount row s a)
raise_left plant row s together held n l e f a =
    let h = raise_moves row s a n l in
    ap (λ (b : Bool). b && nat_le (lowers row) plant.lower) (left_is a plant.raise together held (raises (with_amount row s a)) (omega (arith, h.0)))
    ∙ ap (λ (k : ℕ). nat_le (raises (with_amount row s a)) plant.raise && nat_le k plant.lower) (sym h.1)

pub lower_left : (plant : GovernorShare) (row : Row) (s together held : ℕ) → length row.amounts ≡ 10 → 5 ≤ s → s ≤ 9 → together ≡ lowers row → held ≡ amount row s → (a : ℕ) → (int_le (pos a) (pos plant.lower -ℤ (pos together -ℤ pos held)) && nat_le (raises row) plant.raise) ≡ share_allows plant (with_amount row s a)
lower_left plant row s together held n k l e f a =
    let t : (s - 5) + 5 ≡ s = omega arith in
    let h = subst (λ (x : ℕ). (lowers (with_amount row x a) + amount row x ≡ lowers row + a) × (raises (with_amount row x a) ≡ raises row)) t (lower_moves row (s - 5) a n (omega arith)) in
    and_comm (int_le (pos a) (pos plant.lower -ℤ (pos together -ℤ pos held))) (nat_le (raises row) plant.raise)
    ∙ ap (λ (b : Bool). nat_le (raises row) plant.raise && b) (left_is a plant.lower together held (lowers (with_amount row s a)) (omega (arith, h.0)))
    ∙ ap (λ (k : ℕ). nat_le k plant.raise && nat_le (lowers (with_amount row s a)) plant.lower) (sym h.1)
