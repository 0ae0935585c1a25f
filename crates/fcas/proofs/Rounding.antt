-- The kilowatts of a float of a known sign and size: a whole number of that sign, of at most a thousand times the size, which a cast to 64 bits keeps.
use Rattle.std.proofs.Common.{◌≡◌, ℕ, zero, suc, ◌+◌, ◌*◌, ◌^◌, ◌<◌, ◌≤◌, Bool, true, false, ◌||◌, T, ltb, ℤ, pos, neg_ℤ, sym, refl, ap, ◌∙◌, subst, le_trans, le_of_eq, le_of_suc-le-suc, lt_of_le_of_lt, le_of_lt, mul-le-mul_right, zero-lt-suc, suc-mul, div-lt_iff_lt-mul, mul-lt-mul_of_pos_right, mul-pos, mul-one, mul_right_comm, mul_left_comm, arith, le→leb, lt→ltb}
use lib.Ieee.{Float, nan, inf, fin, binary64, up, down, round, mul, lt, le, of_int, of_bits, to_signed, in_float}
use lib.Ieee.Fits.{down_pos}
use lib.Ieee.Exact.{HasValue}
use lib.Ieee.Back.{round_whole, positive_back, negative_back}
use Rattle.std.specs.Float.{round_with, ratio_round_half_up}
use Rattle.fcas.specs.Kilowatts.{thousand, thousandfold, nearest_whole, kilowatts_of}
use Rattle.fcas.proofs.Sizes.{Size, round_sized}

-- ---- the product
is_thousand : thousand ≡ fin false 125 (pos 3)
unfolding of_bits
is_thousand = refl

scaled : (a n d : ℕ) → a ≤ n * d → a * 1000 ≤ n * 1000 * (d * 1)
scaled a n d h = le_trans (mul-le-mul_right 1000 h) (le_of_eq (mul_right_comm n d 1000 ∙ ap (λ (z : ℕ). n * 1000 * z) (sym (mul-one d))))

product_sized : (s : Bool) (n : ℕ) (x : Float) → n * 1000 ≤ 2 ^ 53 → Size s n x → Size s (n * 1000) (mul binary64 x (fin false 125 (pos 3)))
unfolding mul
product_sized s n nan N h = absurd h
product_sized s n (inf t) N h = absurd h
product_sized s n (fin true m e) N h =
    subst (λ (t : Bool). Size t (n * 1000) (round binary64 true (m * up e * 1000) (down e * 1))) h.0
    (round_sized true (n * 1000) (m * up e * 1000) (down e * 1) N (mul-pos (down_pos e) (zero-lt-suc 0)) (scaled (m * up e) n (down e) h.1))
product_sized s n (fin false m e) N h =
    subst (λ (t : Bool). Size t (n * 1000) (round binary64 false (m * up e * 1000) (down e * 1))) h.0
    (round_sized false (n * 1000) (m * up e * 1000) (down e * 1) N (mul-pos (down_pos e) (zero-lt-suc 0)) (scaled (m * up e) n (down e) h.1))

thousandfold_sized : (s : Bool) (n : ℕ) (x : Float) → n * 1000 ≤ 2 ^ 53 → Size s n x → Size s (n * 1000) (thousandfold x)
thousandfold_sized s n x N h = subst (λ (z : Float). Size s (n * 1000) (mul binary64 x z)) (sym is_thousand) (product_sized s n x N h)

-- ---- the nearest whole number
half_lt : (a n d x : ℕ) → 0 < d → a ≤ x → x ≡ n * d → 2 * a + d < suc n * (2 * d)
half_lt a n d x D h e =
    let p : suc n * (2 * d) ≡ 2 * (n * d) + 2 * d = suc-mul n (2 * d) ∙ ap (λ (z : ℕ). z + 2 * d) (mul_left_comm n 2 d) in
    omega arith

half_le : (a n d : ℕ) → 0 < d → a ≤ n * d → ratio_round_half_up a d ≤ n
half_le a n d D h = le_of_suc-le-suc ((div-lt_iff_lt-mul (mul-pos (zero-lt-suc 1) D)).1 (half_lt a n d (n * d) D h refl))

-- y is the float of the whole number q, of the sign s, of at most n
pub record Whole (s : Bool) (n : ℕ) (y : Float) : Type 0 where
  pub number : ℕ
  pub most : number ≤ n
  pub is : y ≡ round binary64 s number 1

nearest_whole_lem : (s : Bool) (n : ℕ) (y : Float) → Size s n y → Whole s n (nearest_whole y)
unfolding round_with
nearest_whole_lem s n nan h = absurd h
nearest_whole_lem s n (inf t) h = absurd h
nearest_whole_lem s n (fin true m e) h = record {
  number = ratio_round_half_up (m * up e) (down e);
  most = half_le (m * up e) n (down e) (down_pos e) h.1;
  is = ap (λ (t : Bool). round binary64 t (ratio_round_half_up (m * up e) (down e)) 1) h.0;
}
nearest_whole_lem s n (fin false m e) h = record {
  number = ratio_round_half_up (m * up e) (down e);
  most = half_le (m * up e) n (down e) (down_pos e) h.1;
  is = ap (λ (t : Bool). round binary64 t (ratio_round_half_up (m * up e) (down e)) 1) h.0;
}

pub whole_kilowatts : (s : Bool) (n : ℕ) (x : Float) → n * 1000 ≤ 2 ^ 53 → Size s n x → Whole s (n * 1000) (nearest_whole (thousandfold x))
whole_kilowatts s n x N h = nearest_whole_lem s (n * 1000) (thousandfold x) (thousandfold_sized s n x N h)

-- ---- the cast
abbrev pub signed : Bool → ℕ → ℤ
signed false n = pos n
signed true n = neg_ℤ (pos n)

below_63 : (q : ℕ) → q ≤ 2 ^ 53 → q < 2 ^ 63
below_63 q h = omega arith

cast : (s : Bool) (q : ℕ) → q ≤ 2 ^ 53 → to_signed 63 (round binary64 s q 1) ≡ signed s q
unfolding of_int in_float
cast false q h = (positive_back binary64 63 q (le→leb q (2 ^ 53) h) (below_63 q h)).1
cast true zero h = unfold round to_signed in refl
cast true (suc k) h = (negative_back binary64 63 k (le→leb (suc k) (2 ^ 53) h) (le_of_lt (below_63 (suc k) h))).1

pub kilowatts_signed : (s : Bool) (n : ℕ) (x : Float) → n * 1000 ≤ 2 ^ 53 → Size s n x → (q : ℕ) × (q ≤ n * 1000) × (kilowatts_of x ≡ signed s q)
unfolding kilowatts_of
kilowatts_signed s n x N h =
    let w = whole_kilowatts s n x N h in
    (w.number, w.most, ap (to_signed 63) w.is ∙ cast s w.number (le_trans w.most N))

-- ---- which loses nothing: the number lies inside the range of 64 bits
pub or_l : (a b : Bool) → T a → T (a || b)
or_l true b t = tt
or_l false b t = absurd t

pub left_positive : (a b : ℕ) → 0 < a → 0 < a + b
left_positive a b h = omega arith

pub right_positive : (a b : ℕ) → 0 < b → 0 < a + b
right_positive a b h = omega arith

above_least : (s : Bool) (q : ℕ) (y : Float) → q ≤ 2 ^ 53 → HasValue y s q 1 → T (le (fin true 1 (pos 63)) y)
unfolding le
above_least s q nan h v = absurd v
above_least s q (inf t) h v = absurd v
above_least s q (fin true m e) h v = or_l (ltb (m * up e * 1) (9223372036854775808 * down e)) _ (lt→ltb (m * up e * 1) (9223372036854775808 * down e) (lt_of_le_of_lt (le_of_eq v.1) (mul-lt-mul_of_pos_right (below_63 q h) (down_pos e))))
above_least s q (fin false m e) h v = or_l (ltb 0 (9223372036854775808 * down e + m * up e * 1)) _ (lt→ltb 0 (9223372036854775808 * down e + m * up e * 1) (left_positive (9223372036854775808 * down e) (m * up e * 1) (mul-pos (zero-lt-suc 9223372036854775807) (down_pos e))))

below_most : (s : Bool) (q : ℕ) (y : Float) → q ≤ 2 ^ 53 → HasValue y s q 1 → T (lt y (fin false 1 (pos 63)))
unfolding lt
below_most s q nan h v = absurd v
below_most s q (inf t) h v = absurd v
below_most s q (fin true m e) h v = lt→ltb 0 (m * up e * 1 + 9223372036854775808 * down e) (right_positive (m * up e * 1) (9223372036854775808 * down e) (mul-pos (zero-lt-suc 9223372036854775807) (down_pos e)))
below_most s q (fin false m e) h v = lt→ltb (m * up e * 1) (9223372036854775808 * down e) (lt_of_le_of_lt (le_of_eq v.1) (mul-lt-mul_of_pos_right (below_63 q h) (down_pos e)))

abbrev pub Castable : Float → Type 0
Castable y = T (le (fin true 1 (pos 63)) y) × T (lt y (fin false 1 (pos 63)))

pub castable : (s : Bool) (n : ℕ) (x : Float) → n * 1000 ≤ 2 ^ 53 → Size s n x → Castable (nearest_whole (thousandfold x))
castable s n x N h =
    let w = whole_kilowatts s n x N h in
    let q : w.number ≤ 2 ^ 53 = le_trans w.most N in
    let v = round_whole binary64 s w.number q in
    subst (λ (y : Float). Castable y) (sym w.is) (above_least s w.number _ q v, below_most s w.number _ q v)
