-- Floats by sign and size, and what the nearest float of a fraction is then.
use Rattle.std.proofs.Common.{◌≡◌, ℕ, zero, suc, ◌+◌, ◌-◌, ◌*◌, ◌/◌, ◌%◌, ◌^◌, ◌<◌, ◌≤◌, Bool, true, false, cond, ◌&&◌, ◌||◌, T, eqb, ltb, ◌⊎◌, pos, sym, refl, ap, ◌∙◌, subst, inl, inr, true≢false, le_trans, le_of_eq, le_of_lt, zero-lt-suc, mul-one, mul_right_comm, le_of_mul-le-mul_right, eqb→eq, ltb→lt}
use Prim.Native.Nat.{compare}
use lib.Ieee.{Float, nan, inf, fin, Format, binary64, prec, emax, low, up, down, size, nearest, odd, units, round, le}
use lib.Ieee.Fits.{round_is, down_pos, and_l}
use lib.Ieee.Exact.{HasValue}
use lib.Ieee.Order.{round_mono}
use lib.Ieee.Back.{round_whole}
use Rattle.std.specs.Float.{float_with_sign}

-- Finite, of the sign s, and of a size of n at most.
abbrev pub Size : Bool → ℕ → Float → Type 0
Size s n nan = ⊥
Size s n (inf t) = ⊥
Size s n (fin t m e) = (t ≡ s) × (m * up e ≤ n * down e)

-- ---- the nearest float of a negative fraction is that of the positive one, with the sign
odd_signed : (d : ℕ) (s : Bool) (q k l : ℕ) → odd d s q k l ≡ float_with_sign s (odd d false q k l)
unfolding odd float_with_sign
odd_signed d s zero k l = refl
odd_signed d s (suc q) k l = refl

units_signed : (f : Format) (s : Bool) (q k : ℕ) → units f s q k ≡ float_with_sign s (units f false q k)
unfolding units float_with_sign
units_signed f s q k = go (ltb (q * 2 ^ k) (2 ^ (low f + suc (emax f))))
  where
    go : (b : Bool) → cond b (odd (suc (prec f)) s q k (low f)) (inf s) ≡ float_with_sign s (cond b (odd (suc (prec f)) false q k (low f)) (inf false))
    go true = odd_signed (suc (prec f)) s q k (low f)
    go false = refl

round_signed : (f : Format) (s : Bool) (a b : ℕ) → round f s a b ≡ float_with_sign s (round f false a b)
round_signed f s a b =
    let n = a * 2 ^ low f in
    let k = size (n / b) - prec f in
    round_is f s a b
    ∙ units_signed f s (nearest (n / (b * 2 ^ k)) (compare (n % (b * 2 ^ k) * 2) (b * 2 ^ k))) k
    ∙ ap (float_with_sign s) (sym (round_is f false a b))

-- ---- what a comparison of floats says of their sizes
or_split : (a b : Bool) → T (a || b) → T a ⊎ T b
or_split true b t = inl tt
or_split false b t = inr t

at_most_lem : (a b : ℕ) (c : Bool) → T (ltb a b || (eqb a b && c)) → a ≤ b
at_most_lem a b c t = elim (or_split (ltb a b) (eqb a b && c) t) [ inl u ↦ le_of_lt (ltb→lt a b u) | inr u ↦ le_of_eq (eqb→eq a b (and_l (eqb a b) c u)) ]

at_least_lem : (a b : ℕ) (c : Bool) → T (ltb b a || (eqb a b && c)) → b ≤ a
at_least_lem a b c t = elim (or_split (ltb b a) (eqb a b && c) t) [ inl u ↦ le_of_lt (ltb→lt b a u) | inr u ↦ le_of_eq (sym (eqb→eq a b (and_l (eqb a b) c u))) ]

-- x / de ≤ y / dd, and y / dd is n
cancel : (x de y dd n : ℕ) → 0 < dd → y * 1 ≡ n * dd → x * dd ≤ y * de → x ≤ n * de
cancel x de y dd n D e h =
    le_of_mul-le-mul_right
    (le_trans h (le_of_eq (ap (λ (z : ℕ). z * de) (sym (mul-one y) ∙ e) ∙ mul_right_comm n dd de))) D

-- below a float of the value n
sized : (s : Bool) (n : ℕ) (y z : Float) → HasValue z false n 1 → T (le (float_with_sign false y) z) → Size s n (float_with_sign s y)
unfolding le float_with_sign
sized s n nan z v h = absurd h
sized s n (inf t) nan v h = absurd h
sized s n (inf t) (inf u) v h = absurd v
sized s n (inf t) (fin u k d) v h = absurd h
sized s n (fin t m e) nan v h = absurd h
sized s n (fin t m e) (inf u) v h = absurd v
sized s n (fin t m e) (fin true k d) v h = absurd (true≢false v.0)
sized s n (fin t m e) (fin false k d) v h =
    (refl, cancel (m * up e) (down e) (k * up d) (down d) n (down_pos d) v.1 (at_most_lem (m * up e * down d) (k * up d * down e) true h))

-- a fraction of n at most is rounded to n at most, for an n up to which the format has every whole number
pub round_sized : (s : Bool) (n a b : ℕ) → n ≤ 2 ^ 53 → 0 < b → a ≤ n * b → Size s n (round binary64 s a b)
round_sized s n a b N B h =
    subst (λ (z : Float). Size s n z) (sym (round_signed binary64 s a b))
    (sized s n (round binary64 false a b) (round binary64 false n 1) (round_whole binary64 false n N)
    (subst (λ (z : Float). T (le z (round binary64 false n 1))) (round_signed binary64 false a b)
    (round_mono binary64 a b n 1 B (zero-lt-suc 0) (le_trans (le_of_eq (mul-one a)) h))))

-- from -n to k
pub between : (n k : ℕ) (lo hi x : Float) → HasValue lo true n 1 → HasValue hi false k 1 → T (le lo x) → T (le x hi) → Size true n x ⊎ Size false k x
unfolding le
between n k nan hi x v w g h = absurd v
between n k (inf u) hi x v w g h = absurd v
between n k (fin false a b) hi x v w g h = absurd (true≢false (sym v.0))
between n k (fin true a b) nan x v w g h = absurd w
between n k (fin true a b) (inf u) x v w g h = absurd w
between n k (fin true a b) (fin true c d) x v w g h = absurd (true≢false w.0)
between n k (fin true a b) (fin false c d) nan v w g h = absurd h
between n k (fin true a b) (fin false c d) (inf true) v w g h = absurd g
between n k (fin true a b) (fin false c d) (inf false) v w g h = absurd h
between n k (fin true a b) (fin false c d) (fin true m e) v w g h =
    inl (refl, cancel (m * up e) (down e) (a * up b) (down b) n (down_pos b) v.1 (at_least_lem (a * up b * down e) (m * up e * down b) true g))
between n k (fin true a b) (fin false c d) (fin false m e) v w g h =
    inr (refl, cancel (m * up e) (down e) (c * up d) (down d) k (down_pos d) w.1 (at_most_lem (m * up e * down d) (c * up d * down e) true h))

-- from 0 to k; what is called negative here is -0.0
pub up_to : (k : ℕ) (hi x : Float) → HasValue hi false k 1 → T (le (fin false 0 (pos 0)) x) → T (le x hi) → Size true 0 x ⊎ Size false k x
unfolding le
up_to k nan x w g h = absurd w
up_to k (inf u) x w g h = absurd w
up_to k (fin true c d) x w g h = absurd (true≢false w.0)
up_to k (fin false c d) nan w g h = absurd h
up_to k (fin false c d) (inf true) w g h = absurd g
up_to k (fin false c d) (inf false) w g h = absurd h
up_to k (fin false c d) (fin true m e) w g h =
    inl (refl, le_of_eq (sym (mul-one (m * up e)) ∙ sym (eqb→eq (0 * down e) (m * up e * 1) (and_l (eqb (0 * down e) (m * up e * 1)) (false || eqb (0 * down e) 0) g))))
up_to k (fin false c d) (fin false m e) w g h =
    inr (refl, cancel (m * up e) (down e) (c * up d) (down d) k (down_pos d) w.1 (at_most_lem (m * up e * down d) (c * up d * down e) true h))
