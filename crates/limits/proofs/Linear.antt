-- The room of a limit falls in step with each amount: by the coefficient of its service for each kilowatt.
use Rattle.std.proofs.Common.{◌≡◌, ℕ, ◌+◌, ◌*◌, ◌<◌, Bool, true, false, cond, eqb, length, ℤ, pos, ◌+ℤ◌, ◌-ℤ◌, ◌*ℤ◌, Some, None, Option, sym, refl, ap, ◌∙◌, subst, ⊎_elim, zero-mul, mul-add, arith}
use borrow.Author.Differences.{up, down, sum_is_lem}
use Rattle.std.proofs.lemmas.List.{get_or-set_same, get_or-set_other}
use Rattle.std.proofs.lemmas.Int.{ints}
use Rattle.std.proofs.lemmas.Bool.{cases_eq, cond-true, cond-false, eq-eqb, ne_eqb}
use Rattle.std.specs.Option.{option_map}
use Rattle.fcas.specs.Kind.{upward, downward}
use Rattle.fcas.specs.Service.{regulating}
use Rattle.limits.specs.Limit.{lowered, lower_sides, offer_at, raised, sides_of, upper_sides, while_live}
use Rattle.limits.specs.Narrowing.{coefficient_of}
use Rattle.limits.specs.Offer.{live}
use Rattle.limits.specs.Row.{amount, with_amount}
use Rattle.limits.specs.declared.limit.Limit.{Limit}
use Rattle.limits.specs.declared.limit.Limit.TheVariants.{Availability, Upper, Lower, RampUp, RampDown, Plant}
use Rattle.limits.specs.declared.limit.Sides.{Sides}
use Rattle.limits.specs.declared.row.Row.{Row}
use Rattle.limits.specs.declared.terms.Offer.{Offer}
use Rattle.limits.specs.declared.terms.Terms.{Terms}
use Rattle.limits.proofs.Joint.{apart, upward_regulates, downward_regulates}

-- From the sides at the amount held to those at the amount a, the room loses c for each kilowatt.
abbrev pub Steps : ℕ → ℕ → ℕ → Sides → Sides → Type 0
Steps c held a s t = (t.greater -ℤ t.lesser) +ℤ pos (c * a) ≡ (s.greater -ℤ s.lesser) +ℤ pos (c * held)

abbrev pub StepsIf : ℕ → ℕ → ℕ → Option Sides → Option Sides → Type 0
StepsIf c held a None None = Unit {0}
StepsIf c held a None (Some t) = ⊥
StepsIf c held a (Some s) None = ⊥
StepsIf c held a (Some s) (Some t) = Steps c held a s t

-- ---- the forms that a limit may have
unmoved : (c held a : ℕ) (s : Sides) → c ≡ 0 → Steps c held a s s
unmoved c held a s e = subst (λ (k : ℕ). Steps k held a s s) (sym e) (rw (zero-mul a, zero-mul held))

lesser_moves : (g p : ℤ) (n m : ℕ) → (g -ℤ (p +ℤ pos m)) +ℤ pos m ≡ (g -ℤ (p +ℤ pos n)) +ℤ pos n
lesser_moves g p n m = omega (arith, ints)

lesser_moves_first : (g p q : ℤ) (n m : ℕ) → (g -ℤ ((p +ℤ pos m) +ℤ q)) +ℤ pos m ≡ (g -ℤ ((p +ℤ pos n) +ℤ q)) +ℤ pos n
lesser_moves_first g p q n m = omega (arith, ints)

greater_moves : (g p : ℤ) (n m : ℕ) → ((p -ℤ pos m) -ℤ g) +ℤ pos m ≡ ((p -ℤ pos n) -ℤ g) +ℤ pos n
greater_moves g p n m = omega (arith, ints)

greater_moves_first : (g p q : ℤ) (n m : ℕ) → (((p -ℤ pos m) -ℤ q) -ℤ g) +ℤ pos m ≡ (((p -ℤ pos n) -ℤ q) -ℤ g) +ℤ pos n
greater_moves_first g p q n m = omega (arith, ints)

-- m * (z + a) and m * (z - a) in parts
spread : (m w v d u a : ℕ) → w + v + d ≡ u + a → m * w + m * v + m * d ≡ m * u + m * a
spread m w v d u a e = sym (ap (λ (x : ℕ). x + m * d) (mul-add m w v)) ∙ sym (mul-add m (w + v) d) ∙ ap (λ (x : ℕ). m * x) e ∙ mul-add m u a

times_add : (m : ℕ) (z : ℤ) (a : ℕ) → pos m *ℤ (z +ℤ pos a) ≡ pos m *ℤ z +ℤ pos (m * a)
times_add m z a =
    let s = sum_is_lem z (pos a) in
    let t = spread m (down (z +ℤ pos a)) (up z) a (up (z +ℤ pos a)) (down z) (omega arith) in
    omega (arith, ints)

times_sub : (m : ℕ) (z : ℤ) (a : ℕ) → pos m *ℤ (z -ℤ pos a) ≡ pos m *ℤ z -ℤ pos (m * a)
times_sub m z a =
    let t = spread m (up (z -ℤ pos a)) (down z) a (down (z -ℤ pos a)) (up z) (omega (arith, ints)) in
    omega (arith, ints)

module _ (offer : Offer) (held a : ℕ) where
  upper_own : (z : ℤ) → Steps offer.upper_run held a (upper_sides offer z held) (upper_sides offer z a)
  upper_own z = lesser_moves (pos offer.bid_availability *ℤ pos offer.enablement_max) (pos offer.bid_availability *ℤ z) (offer.upper_run * held) (offer.upper_run * a)

  upper_joint : (e : ℤ) (x : ℕ) → Steps offer.bid_availability held a (upper_sides offer (e +ℤ pos held) x) (upper_sides offer (e +ℤ pos a) x)
  upper_joint e x =
      rw (times_add offer.bid_availability e a, times_add offer.bid_availability e held)
      (lesser_moves_first (pos offer.bid_availability *ℤ pos offer.enablement_max) (pos offer.bid_availability *ℤ e) (pos offer.upper_run *ℤ pos x) (offer.bid_availability * held) (offer.bid_availability * a))

  lower_own : (z : ℤ) → Steps offer.lower_run held a (lower_sides offer z held) (lower_sides offer z a)
  lower_own z = greater_moves (pos offer.bid_availability *ℤ pos offer.enablement_min) (pos offer.bid_availability *ℤ z) (offer.lower_run * held) (offer.lower_run * a)

  lower_joint : (e : ℤ) (x : ℕ) → Steps offer.bid_availability held a (lower_sides offer (e -ℤ pos held) x) (lower_sides offer (e -ℤ pos a) x)
  lower_joint e x =
      rw (times_sub offer.bid_availability e a, times_sub offer.bid_availability e held)
      (greater_moves_first (pos offer.bid_availability *ℤ pos offer.enablement_min) (pos offer.bid_availability *ℤ e) (pos offer.lower_run *ℤ pos x) (offer.bid_availability * held) (offer.bid_availability * a))

one_taken : (g p : ℤ) (n m : ℕ) → (g -ℤ (p +ℤ pos m)) +ℤ pos (1 * m) ≡ (g -ℤ (p +ℤ pos n)) +ℤ pos (1 * n)
one_taken g p n m = omega (arith, ints)

one_taken_alone : (g n m : ℕ) → (pos g -ℤ pos m) +ℤ pos (1 * m) ≡ (pos g -ℤ pos n) +ℤ pos (1 * n)
one_taken_alone g n m = omega (arith, ints)

one_given : (g p : ℤ) (n m : ℕ) → ((p -ℤ pos m) -ℤ g) +ℤ pos (1 * m) ≡ ((p -ℤ pos n) -ℤ g) +ℤ pos (1 * n)
one_given g p n m = omega (arith, ints)

-- ---- liveness does not depend on the row
while_live_lem : (offer : Offer) (c held a : ℕ) (s t : Option Sides) → StepsIf c held a s t → StepsIf c held a (while_live offer s) (while_live offer t)
while_live_lem offer c held a s t h = go (live offer)
  where
    go : (b : Bool) → StepsIf c held a (cond b s None) (cond b t None)
    go true = h
    go false = tt

module _ (terms : Terms) (row : Row) (s a : ℕ) (within : s < length row.amounts) where
  abbrev held : ℕ
  held = amount row s

  abbrev after : Row
  after = with_amount row s a

  here : (b : ℕ) → b ≡ s → amount after b ≡ a
  here b e = subst (λ (x : ℕ). amount after x ≡ a) (sym e) (get_or-set_same row.amounts s a 0 within)

  was : (b : ℕ) → b ≡ s → amount row b ≡ held
  was b e = ap (amount row) e

  elsewhere : (b : ℕ) → (b ≡ s → ⊥) → amount after b ≡ amount row b
  elsewhere b ne = get_or-set_other row.amounts s b a 0 ne

  -- the sides of a limit at amounts and energies that are known
  known_upper : (offer : Offer) (z z' y y' : ℤ) (x x' w w' c k : ℕ) → y ≡ z → y' ≡ z' → w ≡ x → w' ≡ x' → c ≡ k → Steps k held a (upper_sides offer z x) (upper_sides offer z' x') → Steps c held a (upper_sides offer y w) (upper_sides offer y' w')
  known_upper offer z z' y y' x x' w w' c k e e' f f' g h = rw (e, e', f, f', g) h

  known_lower : (offer : Offer) (z z' y y' : ℤ) (x x' w w' c k : ℕ) → y ≡ z → y' ≡ z' → w ≡ x → w' ≡ x' → c ≡ k → Steps k held a (lower_sides offer z x) (lower_sides offer z' x') → Steps c held a (lower_sides offer y w) (lower_sides offer y' w')
  known_lower offer z z' y y' x x' w w' c k e e' f f' g h = rw (e, e', f, f', g) h

  -- a service's own limit, and one that it has no part in
  own_coefficient : (b run other : ℕ) → b ≡ s → cond (eqb s b) run other ≡ run
  own_coefficient b run other e = cond-true (eqb s b) run other (eq-eqb s b (sym e))

  other_coefficient : (b run other : ℕ) → (b ≡ s → ⊥) → cond (eqb s b) run other ≡ other
  other_coefficient b run other ne = cond-false (eqb s b) run other (ne_eqb s b (λ e. ne (sym e)))

  availability_steps : (b : ℕ) → StepsIf (coefficient_of terms (Availability b) s) held a (sides_of terms row (Availability b)) (sides_of terms after (Availability b))
  availability_steps b =
      while_live_lem (offer_at terms b) _ held a _ _
      (⊎_elim
      (λ (e : b ≡ s). rw (own_coefficient b 1 0 e, here b e, was b e) (one_taken_alone (offer_at terms b).max_availability held a))
      (λ (ne : b ≡ s → ⊥). rw (other_coefficient b 1 0 ne, elsewhere b ne) (unmoved 0 held a (record { lesser = pos (amount row b); greater = pos (offer_at terms b).max_availability }) refl))
      (cases_eq b s))

  raised_same : (upward terms.kind ≡ s → ⊥) → raised terms after ≡ raised terms row
  raised_same ne = ap (λ (n : ℕ). row.energy +ℤ pos n) (elsewhere (upward terms.kind) ne)

  lowered_same : (downward terms.kind ≡ s → ⊥) → lowered terms after ≡ lowered terms row
  lowered_same ne = ap (λ (n : ℕ). row.energy -ℤ pos n) (elsewhere (downward terms.kind) ne)

  upper_steps : (b : ℕ) → StepsIf (coefficient_of terms (Upper b) s) held a (sides_of terms row (Upper b)) (sides_of terms after (Upper b))
  upper_steps b = while_live_lem (offer_at terms b) _ held a _ _ (go (regulating b) refl)
    where
      go : (r : Bool) → regulating b ≡ r
          → Steps (cond (eqb s b) (offer_at terms b).upper_run (cond r 0 (cond (eqb s (upward terms.kind)) (offer_at terms b).bid_availability 0))) held a
          (upper_sides (offer_at terms b) (cond r row.energy (raised terms row)) (amount row b)) (upper_sides (offer_at terms b) (cond r row.energy (raised terms after)) (amount after b))
      go true p =
          ⊎_elim
          (λ (e : b ≡ s). known_upper (offer_at terms b) _ _ _ _ held a _ _ _ _ refl refl (was b e) (here b e) (own_coefficient b _ _ e) (upper_own (offer_at terms b) held a row.energy))
          (λ (ne : b ≡ s → ⊥). known_upper (offer_at terms b) _ _ _ _ (amount row b) (amount row b) _ _ _ 0 refl refl refl (elsewhere b ne) (other_coefficient b _ _ ne) (unmoved 0 held a (upper_sides (offer_at terms b) row.energy (amount row b)) refl))
          (cases_eq b s)
      go false p =
          ⊎_elim
          (λ (e : b ≡ s). known_upper (offer_at terms b) (raised terms row) (raised terms row) _ _ held a _ _ _ _ refl (raised_same (λ u. apart b _ p (upward_regulates terms.kind) (e ∙ sym u))) (was b e) (here b e) (own_coefficient b _ _ e) (upper_own (offer_at terms b) held a (raised terms row)))
          (λ (ne : b ≡ s → ⊥).
          ⊎_elim
          (λ (u : upward terms.kind ≡ s). known_upper (offer_at terms b) (row.energy +ℤ pos held) (row.energy +ℤ pos a) _ _ (amount row b) (amount row b) _ _ _ _
          (ap (λ (n : ℕ). row.energy +ℤ pos n) (was _ u)) (ap (λ (n : ℕ). row.energy +ℤ pos n) (here _ u)) refl (elsewhere b ne) (other_coefficient b _ _ ne ∙ own_coefficient _ _ _ u) (upper_joint (offer_at terms b) held a row.energy (amount row b)))
          (λ (nu : upward terms.kind ≡ s → ⊥). known_upper (offer_at terms b) (raised terms row) (raised terms row) _ _ (amount row b) (amount row b) _ _ _ 0 refl (raised_same nu) refl (elsewhere b ne) (other_coefficient b _ _ ne ∙ other_coefficient _ _ _ nu) (unmoved 0 held a (upper_sides (offer_at terms b) (raised terms row) (amount row b)) refl))
          (cases_eq (upward terms.kind) s))
          (cases_eq b s)

  lower_steps : (b : ℕ) → StepsIf (coefficient_of terms (Lower b) s) held a (sides_of terms row (Lower b)) (sides_of terms after (Lower b))
  lower_steps b = while_live_lem (offer_at terms b) _ held a _ _ (go (regulating b) refl)
    where
      go : (r : Bool) → regulating b ≡ r
          → Steps (cond (eqb s b) (offer_at terms b).lower_run (cond r 0 (cond (eqb s (downward terms.kind)) (offer_at terms b).bid_availability 0))) held a
          (lower_sides (offer_at terms b) (cond r row.energy (lowered terms row)) (amount row b)) (lower_sides (offer_at terms b) (cond r row.energy (lowered terms after)) (amount after b))
      go true p =
          ⊎_elim
          (λ (e : b ≡ s). known_lower (offer_at terms b) _ _ _ _ held a _ _ _ _ refl refl (was b e) (here b e) (own_coefficient b _ _ e) (lower_own (offer_at terms b) held a row.energy))
          (λ (ne : b ≡ s → ⊥). known_lower (offer_at terms b) _ _ _ _ (amount row b) (amount row b) _ _ _ 0 refl refl refl (elsewhere b ne) (other_coefficient b _ _ ne) (unmoved 0 held a (lower_sides (offer_at terms b) row.energy (amount row b)) refl))
          (cases_eq b s)
      go false p =
          ⊎_elim
          (λ (e : b ≡ s). known_lower (offer_at terms b) (lowered terms row) (lowered terms row) _ _ held a _ _ _ _ refl (lowered_same (λ u. apart b _ p (downward_regulates terms.kind) (e ∙ sym u))) (was b e) (here b e) (own_coefficient b _ _ e) (lower_own (offer_at terms b) held a (lowered terms row)))
          (λ (ne : b ≡ s → ⊥).
          ⊎_elim
          (λ (u : downward terms.kind ≡ s). known_lower (offer_at terms b) (row.energy -ℤ pos held) (row.energy -ℤ pos a) _ _ (amount row b) (amount row b) _ _ _ _
          (ap (λ (n : ℕ). row.energy -ℤ pos n) (was _ u)) (ap (λ (n : ℕ). row.energy -ℤ pos n) (here _ u)) refl (elsewhere b ne) (other_coefficient b _ _ ne ∙ own_coefficient _ _ _ u) (lower_joint (offer_at terms b) held a row.energy (amount row b)))
          (λ (nu : downward terms.kind ≡ s → ⊥). known_lower (offer_at terms b) (lowered terms row) (lowered terms row) _ _ (amount row b) (amount row b) _ _ _ 0 refl (lowered_same nu) refl (elsewhere b ne) (other_coefficient b _ _ ne ∙ other_coefficient _ _ _ nu) (unmoved 0 held a (lower_sides (offer_at terms b) (lowered terms row) (amount row b)) refl))
          (cases_eq (downward terms.kind) s))
          (cases_eq b s)

  rise_steps : (rise : Option ℕ) → StepsIf (coefficient_of terms RampUp s) held a (option_map (λ x. record { lesser = raised terms row; greater = terms.initial +ℤ pos x }) rise) (option_map (λ x. record { lesser = raised terms after; greater = terms.initial +ℤ pos x }) rise)
  rise_steps None = tt
  rise_steps (Some x) =
      ⊎_elim
      (λ (u : upward terms.kind ≡ s). rw (own_coefficient (upward terms.kind) 1 0 u, here (upward terms.kind) u, was (upward terms.kind) u) (one_taken (terms.initial +ℤ pos x) row.energy held a))
      (λ (nu : upward terms.kind ≡ s → ⊥). rw (other_coefficient (upward terms.kind) 1 0 nu, raised_same nu) (unmoved 0 held a (record { lesser = raised terms row; greater = terms.initial +ℤ pos x }) refl))
      (cases_eq (upward terms.kind) s)

  fall_steps : (fall : Option ℕ) → StepsIf (coefficient_of terms RampDown s) held a (option_map (λ x. record { lesser = terms.initial -ℤ pos x; greater = lowered terms row }) fall) (option_map (λ x. record { lesser = terms.initial -ℤ pos x; greater = lowered terms after }) fall)
  fall_steps None = tt
  fall_steps (Some x) =
      ⊎_elim
      (λ (u : downward terms.kind ≡ s). rw (own_coefficient (downward terms.kind) 1 0 u, here (downward terms.kind) u, was (downward terms.kind) u) (one_given (terms.initial -ℤ pos x) row.energy held a))
      (λ (nu : downward terms.kind ≡ s → ⊥). rw (other_coefficient (downward terms.kind) 1 0 nu, lowered_same nu) (unmoved 0 held a (record { lesser = terms.initial -ℤ pos x; greater = lowered terms row }) refl))
      (cases_eq (downward terms.kind) s)

  -- so it is for every limit
  pub linear : (limit : Limit) → StepsIf (coefficient_of terms limit s) held a (sides_of terms row limit) (sides_of terms after limit)
  linear (Availability b) = availability_steps b
  linear (Upper b) = upper_steps b
  linear (Lower b) = lower_steps b
  linear RampUp = while_live_lem (offer_at terms (upward terms.kind)) _ held a _ _ (rise_steps terms.rise)
  linear RampDown = while_live_lem (offer_at terms (downward terms.kind)) _ held a _ _ (fall_steps terms.fall)
  linear Plant = tt
