-- The cap of a limit: it holds at the amounts up to it, and breaks at every one above.
use Rattle.std.proofs.Common.{◌≡◌, ℕ, ◌+◌, ◌*◌, ◌/◌, ◌<◌, ◌≤◌, min, Bool, true, false, eqb, ℤ, pos, ◌+ℤ◌, ◌-ℤ◌, nat_abs, ◌≤ℤ◌, Some, None, Option, sym, refl, ap, subst, ⊎_elim, mul_comm, zero-mul, mul-add, arith}
use lib.Signed.{lt_z, pos-nat_abs, yes_non_neg}
use Rattle.std.proofs.lemmas.Nat.{div-add-mod', mod_below, mul-le}
use Rattle.std.proofs.lemmas.Int.{ints}
use Rattle.std.proofs.lemmas.Bool.{cases_eq, cond-true, cond-false, eq-eqb, ne_eqb}
use Rattle.limits.specs.Limit.{exceeded}
use Rattle.limits.specs.Narrowing.{cap_by, cap_of}
use Rattle.limits.specs.declared.limit.Sides.{Sides}
use Rattle.limits.proofs.Linear.{StepsIf}

-- A test fails up to the cap and passes above it, as far as 4,000,001; without a cap it fails everywhere.
pub record Upto (breaks : ℕ → Bool) (cap : ℕ) : Type 0 where
  pub within : cap ≤ 4000001
  pub low : (a : ℕ) → a ≤ cap → breaks a ≡ false
  pub high : (a : ℕ) → cap < a → a ≤ 4000001 → breaks a ≡ true

abbrev pub UptoIf : (ℕ → Bool) → Option ℕ → Type 0
UptoIf breaks None = (a : ℕ) → a ≤ 4000001 → breaks a ≡ false
UptoIf breaks (Some cap) = Upto breaks cap

-- ---- quotients
under : (held room c a : ℕ) → 0 < c → a ≤ held + room / c → c * a ≤ c * held + room
under held room c a p l =
    let m : c * a ≤ c * (held + room / c) = mul-le c a c (held + room / c) (omega arith) l in
    omega (arith, m, mul-add c held (room / c), div-add-mod' room c, mul_comm c (room / c))

over : (held room c a : ℕ) → 0 < c → held + room / c < a → c * held + room < c * a
over held room c a p l =
    let m : c * (held + room / c + 1) ≤ c * a = mul-le c (held + room / c + 1) c a (omega arith) (omega arith) in
    omega (arith, m, mul-add c (held + room / c) 1, mul-add c held (room / c), div-add-mod' room c, mod_below room c p, mul_comm c (room / c))

-- ---- rooms
room_is : (g l : ℤ) → lt_z g l ≡ false → g -ℤ l ≡ pos (nat_abs (g -ℤ l))
room_is g l h =
    let le : pos 0 ≤ℤ (g -ℤ l) = grind (arith, ints) in
    sym (pos-nat_abs (g -ℤ l) (yes_non_neg le))

holds : (g l g' l' : ℤ) (n x y : ℕ) → g -ℤ l ≡ pos n → (g' -ℤ l') +ℤ pos x ≡ (g -ℤ l) +ℤ pos y → x ≤ y + n → lt_z g' l' ≡ false
holds g l g' l' n x y e f h = grind (arith, ints)

fails : (g l g' l' : ℤ) (n x y : ℕ) → g -ℤ l ≡ pos n → (g' -ℤ l') +ℤ pos x ≡ (g -ℤ l) +ℤ pos y → y + n < x → lt_z g' l' ≡ true
fails g l g' l' n x y e f h = grind (arith, ints)

-- ---- the cap of a limit
module _ (held c : ℕ) where
  none_breaks : (a : ℕ) (t : Option Sides) → StepsIf c held a None t → exceeded t ≡ false
  none_breaks a None h = refl
  none_breaks a (Some t) h = absurd h

  module _ (s : Sides) (fits : exceeded (Some s) ≡ false) where
    holds_at : (a : ℕ) (t : Option Sides) → StepsIf c held a (Some s) t → c * a ≤ c * held + nat_abs (s.greater -ℤ s.lesser) → exceeded t ≡ false
    holds_at a None h l = refl
    holds_at a (Some t) h l = holds s.greater s.lesser t.greater t.lesser _ (c * a) (c * held) (room_is s.greater s.lesser fits) h l

    fails_at : (a : ℕ) (t : Option Sides) → StepsIf c held a (Some s) t → c * held + nat_abs (s.greater -ℤ s.lesser) < c * a → exceeded t ≡ true
    fails_at a None h l = absurd h
    fails_at a (Some t) h l = fails s.greater s.lesser t.greater t.lesser _ (c * a) (c * held) (room_is s.greater s.lesser fits) h l

    module _ (t : ℕ → Option Sides) (steps : (a : ℕ) → StepsIf c held a (Some s) (t a)) where
      free : c ≡ 0 → UptoIf (λ a. exceeded (t a)) (cap_of held (nat_abs (s.greater -ℤ s.lesser)) c)
      free e =
          subst (λ (o : Option ℕ). UptoIf (λ a. exceeded (t a)) o) (sym (cond-true (eqb c 0) None (Some (min (held + nat_abs (s.greater -ℤ s.lesser) / c) 4000001)) (eq-eqb c 0 e)))
          (λ a l. holds_at a (t a) (steps a) (omega (arith, ap (λ (x : ℕ). x * a) e, zero-mul a)))

      bound : (c ≡ 0 → ⊥) → Upto (λ a. exceeded (t a)) (min (held + nat_abs (s.greater -ℤ s.lesser) / c) 4000001)
      bound ne =
          let p : 0 < c = omega arith in
          record {
            within = omega arith;
            low = λ a l. holds_at a (t a) (steps a) (under held _ c a p (omega (arith, l)));
            high = λ a l m. fails_at a (t a) (steps a) (over held _ c a p (omega (arith, l, m)));
          }

      capped_some : UptoIf (λ a. exceeded (t a)) (cap_of held (nat_abs (s.greater -ℤ s.lesser)) c)
      capped_some =
          ⊎_elim free
          (λ (ne : c ≡ 0 → ⊥). subst (λ (o : Option ℕ). UptoIf (λ a. exceeded (t a)) o) (sym (cond-false (eqb c 0) None (Some (min (held + nat_abs (s.greater -ℤ s.lesser) / c) 4000001)) (ne_eqb c 0 ne))) (bound ne))
          (cases_eq c 0)

  pub capped : (s : Option Sides) (t : ℕ → Option Sides) → exceeded s ≡ false → ((a : ℕ) → StepsIf c held a s (t a)) → UptoIf (λ a. exceeded (t a)) (cap_by s held c)
  capped None t fits steps = λ a l. none_breaks a (t a) (steps a)
  capped (Some s) t fits steps = capped_some s fits t steps
