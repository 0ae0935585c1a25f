-- The ranges of a reading, in megawatts and in whole kilowatts.
use Rattle.std.proofs.Common.{◌≡◌, ℕ, zero, suc, ◌+◌, ◌*◌, ◌^◌, ◌≤◌, Bool, true, false, ◌&&◌, ◌||◌, T, eqb, ltb, ◌⊎◌, ℤ, pos, negsuc, neg_ℤ, ◌≤ℤ◌, sym, refl, subst, inl, inr, zero-le, le_trans, le_of_eq, le_of_suc-le-suc, not-suc-le-zero, mul-le-mul_right, zero-lt-suc, eq-or-lt_of_le, mul-pos, mul-one, arith, lit≤, le→leb, lt→ltb}
use lib.Signed.{le_z_yes}
use lib.Ieee.{Float, nan, inf, fin, up, down, le, of_bits}
use lib.Ieee.Fits.{eq→eqb, down_pos, and_i}
use Rattle.fcas.specs.Kilowatts.{zero_mw, most_ramp_mw, most_mw, least_mw, within, thousandfold, nearest_whole, kilowatts_of}
use Rattle.fcas.proofs.Sizes.{Size, between, up_to}
use Rattle.std.proofs.lemmas.Bool.{and_from, and_parts}
use Rattle.fcas.proofs.Rounding.{left_positive, or_l, right_positive, kilowatts_signed, Castable, castable}

-- ---- the test of a range, in its two parts

holds : (b : Bool) → b ≡ true → T b
holds b e = subst (λ (x : Bool). T x) (sym e) tt

is_true : (b : Bool) → T b → b ≡ true
is_true true t = refl
is_true false t = absurd t

parts : (lo hi x : Float) → within lo hi x ≡ true → T (le lo x) × T (le x hi)
parts lo hi x e = let p = and_parts (le lo x) (le x hi) e in (holds (le lo x) p.0, holds (le x hi) p.1)

-- ---- what each range says of a float's sign and size
either_way : (x : Float) → within least_mw most_mw x ≡ true → Size true 4000 x ⊎ Size false 4000 x
unfolding of_bits
either_way x e = let p = parts least_mw most_mw x e in between 4000 4000 (fin true 125 (pos 5)) (fin false 125 (pos 5)) x (refl, refl) (refl, refl) p.0 p.1

power : (x : Float) → within zero_mw most_mw x ≡ true → Size true 0 x ⊎ Size false 4000 x
unfolding of_bits
power x e = let p = parts zero_mw most_mw x e in up_to 4000 (fin false 125 (pos 5)) x (refl, refl) p.0 p.1

ramp : (x : Float) → within zero_mw most_ramp_mw x ≡ true → Size true 0 x ⊎ Size false 800 x
unfolding of_bits
ramp x e = let p = parts zero_mw most_ramp_mw x e in up_to 800 (fin false 25 (pos 5)) x (refl, refl) p.0 p.1

-- ---- the kilowatts of a float in the widest range
at_least_neg : (q n : ℕ) → q ≤ n → neg_ℤ (pos n) ≤ℤ neg_ℤ (pos q)
at_least_neg zero zero h = le_z_yes tt
at_least_neg zero (suc n) h = le_z_yes tt
at_least_neg (suc q) zero h = absurd (not-suc-le-zero h)
at_least_neg (suc q) (suc n) h = le_z_yes (le→leb q n (le_of_suc-le-suc h))

neg_at_most : (q n : ℕ) → neg_ℤ (pos q) ≤ℤ pos n
neg_at_most zero n = le_z_yes (le→leb 0 n zero-le)
neg_at_most (suc q) n = le_z_yes tt

bounded : (x : Float) → Size true 4000 x ⊎ Size false 4000 x → (negsuc 3999999 ≤ℤ kilowatts_of x) × (kilowatts_of x ≤ℤ pos 4000000)
bounded x (inl h) =
    let w = kilowatts_signed true 4000 x (lit≤ tt) h in
    subst (λ (z : ℤ). (negsuc 3999999 ≤ℤ z) × (z ≤ℤ pos 4000000)) (sym w.2) (at_least_neg w.0 4000000 w.1, neg_at_most w.0 4000000)
bounded x (inr h) =
    let w = kilowatts_signed false 4000 x (lit≤ tt) h in
    subst (λ (z : ℤ). (negsuc 3999999 ≤ℤ z) × (z ≤ℤ pos 4000000)) (sym w.2) (le_z_yes tt, le_z_yes (le→leb w.0 4000000 w.1))

pub kilowatts_bounded : (x : Float) → within least_mw most_mw x ≡ true → (negsuc 3999999 ≤ℤ kilowatts_of x) × (kilowatts_of x ≤ℤ pos 4000000)
kilowatts_bounded x e = bounded x (either_way x e)

castable_sized : (x : Float) → Size true 4000 x ⊎ Size false 4000 x → Castable (nearest_whole (thousandfold x))
castable_sized x (inl h) = castable true 4000 x (lit≤ tt) h
castable_sized x (inr h) = castable false 4000 x (lit≤ tt) h

pub kilowatts_castable : (x : Float) → within least_mw most_mw x ≡ true → Castable (nearest_whole (thousandfold x))
kilowatts_castable x e = castable_sized x (either_way x e)

-- ---- those of a float that is not negative
unsigned : (k : ℕ) (x : Float) → k * 1000 ≤ 2 ^ 53 → Size true 0 x ⊎ Size false k x → (q : ℕ) × (q ≤ k * 1000) × (kilowatts_of x ≡ pos q)
unsigned k x K (inl h) =
    let w = kilowatts_signed true 0 x (lit≤ tt) h in
    let none : w.0 ≡ 0 = omega (arith, w.1) in
    (0, zero-le, subst (λ (q : ℕ). kilowatts_of x ≡ neg_ℤ (pos q)) none w.2)
unsigned k x K (inr h) = kilowatts_signed false k x K h

pub unsigned_power : (x : Float) → within zero_mw most_mw x ≡ true → (q : ℕ) × (q ≤ 4000000) × (kilowatts_of x ≡ pos q)
unsigned_power x e = unsigned 4000 x (lit≤ tt) (power x e)

pub unsigned_ramp : (x : Float) → within zero_mw most_ramp_mw x ≡ true → (q : ℕ) × (q ≤ 800000) × (kilowatts_of x ≡ pos q)
unsigned_ramp x e = unsigned 800 x (lit≤ tt) (ramp x e)

-- ---- the smaller ranges lie in the wider ones

or_r : (a b : Bool) → T b → T (a || b)
or_r true b t = tt
or_r false b t = t

le_test : (a b : ℕ) → a ≤ b → T (ltb a b || (eqb a b && true))
le_test a b h = elim (eq-or-lt_of_le h) [ inl p ↦ or_r (ltb a b) (eqb a b && true) (and_i (eqb a b) true (eq→eqb p) tt) | inr q ↦ or_l (ltb a b) (eqb a b && true) (lt→ltb a b q) ]

ge_test : (a b : ℕ) → b ≤ a → T (ltb b a || (eqb a b && true))
ge_test a b h = elim (eq-or-lt_of_le h) [ inl p ↦ or_r (ltb b a) (eqb a b && true) (and_i (eqb a b) true (eq→eqb (sym p)) tt) | inr q ↦ or_l (ltb b a) (eqb a b && true) (lt→ltb b a q) ]

widen : (a n k d : ℕ) → n ≤ k → a ≤ n * d → a * 1 ≤ k * d
widen a n k d h g = le_trans (le_of_eq (mul-one a)) (le_trans g (mul-le-mul_right d h))

low_test : (s : Bool) (n : ℕ) (x : Float) → n ≤ 4000 → Size s n x → T (le least_mw x)
unfolding le of_bits
low_test s n nan h z = absurd z
low_test s n (inf t) h z = absurd z
low_test s n (fin true m e) h z = ge_test (4000 * down e) (m * up e * 1) (widen (m * up e) n 4000 (down e) h z.1)
low_test s n (fin false m e) h z = or_l (ltb 0 (4000 * down e + m * up e * 1)) _ (lt→ltb 0 (4000 * down e + m * up e * 1) (left_positive (4000 * down e) (m * up e * 1) (mul-pos (zero-lt-suc 3999) (down_pos e))))

high_test : (s : Bool) (n : ℕ) (x : Float) → n ≤ 4000 → Size s n x → T (le x most_mw)
unfolding le of_bits
high_test s n nan h z = absurd z
high_test s n (inf t) h z = absurd z
high_test s n (fin true m e) h z = or_l (ltb 0 (m * up e * 1 + 4000 * down e)) _ (lt→ltb 0 (m * up e * 1 + 4000 * down e) (right_positive (m * up e * 1) (4000 * down e) (mul-pos (zero-lt-suc 3999) (down_pos e))))
high_test s n (fin false m e) h z = le_test (m * up e * 1) (4000 * down e) (widen (m * up e) n 4000 (down e) h z.1)

pub power_in_widest : (x : Float) → within zero_mw most_mw x ≡ true → within least_mw most_mw x ≡ true
power_in_widest x e = go (power x e)
  where
    go : Size true 0 x ⊎ Size false 4000 x → within least_mw most_mw x ≡ true
    go (inl z) = and_from (le least_mw x) (le x most_mw) (is_true _ (low_test true 0 x zero-le z)) (and_parts (le zero_mw x) (le x most_mw) e).1
    go (inr z) = and_from (le least_mw x) (le x most_mw) (is_true _ (low_test false 4000 x (lit≤ tt) z)) (and_parts (le zero_mw x) (le x most_mw) e).1

pub ramp_is_power : (x : Float) → within zero_mw most_ramp_mw x ≡ true → within zero_mw most_mw x ≡ true
ramp_is_power x e = go (ramp x e)
  where
    go : Size true 0 x ⊎ Size false 800 x → within zero_mw most_mw x ≡ true
    go (inl z) = and_from (le zero_mw x) (le x most_mw) (and_parts (le zero_mw x) (le x most_ramp_mw) e).0 (is_true _ (high_test true 0 x zero-le z))
    go (inr z) = and_from (le zero_mw x) (le x most_mw) (and_parts (le zero_mw x) (le x most_ramp_mw) e).0 (is_true _ (high_test false 800 x (lit≤ tt) z))
