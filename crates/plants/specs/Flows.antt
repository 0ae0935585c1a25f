-- What one amount does to the flow through a connection.
use Rattle.std.specs.Prelude.{◌≡◌, ℕ, ◌+◌, ◌<◌, ◌≤◌, Bool, true, false, ◌||◌, length, ℤ, pos, ◌+ℤ◌, ◌-ℤ◌, ◌==◌, ◌≢◌, int_le, nat_eq, refl}
use Rattle.std.proofs.Common.{arith, ⊎_elim, sym, ap, ◌∙◌, subst}
use Rattle.std.proofs.lemmas.List.{get_or-set_same, get_or-set_other}
use Rattle.std.proofs.lemmas.Int.{ints}
use Rattle.std.proofs.lemmas.Bool.{eqb-false, eqb-true, or_cases, or_parts}
use Rattle.fcas.specs.Kind.{upward}
use Rattle.fcas.specs.declared.kind.Kind.{Kind}
use Rattle.fcas.specs.declared.kind.Kind.TheVariants.{Generator, SemiScheduled, Load, DemandResponse}
use Rattle.limits.specs.Row.{amount, with_amount}
use Rattle.limits.specs.declared.row.Row.{Row}
use Rattle.plants.specs.ConnectionCap.{cap_allows, cap_of_unit, delayed, flow}
use Rattle.plants.specs.declared.connection_cap.ConnectionCap.{ConnectionCap}
use Rattle.plants.specs.Amounts.{lowered_le}

flow_falls : (e : ℤ) (x y x' y' c : ℕ) → x' ≤ x → y' ≤ y → int_le (e +ℤ pos (x + y)) (pos c) ≡ true → int_le (e +ℤ pos (x' + y')) (pos c) ≡ true
flow_falls e x y x' y' c l m h = grind (arith, ints)

pub cap_lowering : (plant : ConnectionCap) (row : Row) (s a : ℕ) → a ≤ amount row s → cap_allows plant row ≡ true → cap_allows plant (with_amount row s a) ≡ true
cap_lowering plant row s a l h =
    flow_falls row.energy (amount row (upward row.kind)) (amount row (delayed row.kind)) _ _ (cap_of_unit plant row.unit)
    (lowered_le row.amounts s a (upward row.kind) l) (lowered_le row.amounts s a (delayed row.kind) l) h

apart : (kind : Kind) → upward kind ≢ delayed kind
apart Generator e = omega (arith, e)
apart SemiScheduled e = omega (arith, e)
apart Load e = omega (arith, e)
apart DemandResponse e = omega (arith, e)

-- two orders of one difference
le_true : (a b c d : ℤ) → b -ℤ a ≡ d -ℤ c → int_le c d ≡ true → int_le a b ≡ true
le_true a b c d e h = grind (arith, ints)

le_false : (a b c d : ℤ) → b -ℤ a ≡ d -ℤ c → int_le c d ≡ false → int_le a b ≡ false
le_false a b c d e h = grind (arith, ints)

same_order : (a b c d : ℤ) → b -ℤ a ≡ d -ℤ c → int_le a b ≡ int_le c d
same_order a b c d e = by (int_le c d) refl
  where
    by : (t : Bool) → int_le c d ≡ t → int_le a b ≡ t
    by true h = le_true a b c d e h
    by false h = le_false a b c d e h

-- the room of the first or the second of the two, and of neither
first_takes : (e : ℤ) (x y a c : ℕ) → int_le (pos a) ((pos c -ℤ (e +ℤ pos (x + y))) +ℤ pos x) ≡ int_le (e +ℤ pos (a + y)) (pos c)
first_takes e x y a c = same_order (pos a) _ _ (pos c) (omega (arith, ints))

second_takes : (e : ℤ) (x y a c : ℕ) → int_le (pos a) ((pos c -ℤ (e +ℤ pos (x + y))) +ℤ pos y) ≡ int_le (e +ℤ pos (x + a)) (pos c)
second_takes e x y a c = same_order (pos a) _ _ (pos c) (omega (arith, ints))

neither_takes : (e : ℤ) (x y c : ℕ) → int_le (pos 0) ((pos c -ℤ (e +ℤ pos (x + y))) +ℤ pos 0) ≡ int_le (e +ℤ pos (x + y)) (pos c)
neither_takes e x y c = same_order (pos 0) ((pos c -ℤ (e +ℤ pos (x + y))) +ℤ pos 0) (e +ℤ pos (x + y)) (pos c) (omega (arith, ints))

module _ (plant : ConnectionCap) (row : Row) (s : ℕ) (within : s < length row.amounts) where
  abbrev u : ℕ
  u = upward row.kind

  abbrev d : ℕ
  d = delayed row.kind

  here : (a b : ℕ) → s ≡ b → amount (with_amount row s a) b ≡ a
  here a b f = subst (λ (x : ℕ). amount (with_amount row s a) x ≡ a) f (get_or-set_same row.amounts s a 0 within)

  elsewhere : (a b : ℕ) → (s ≢ b) → amount (with_amount row s a) b ≡ amount row b
  elsewhere a b ne = get_or-set_other row.amounts s b a 0 (λ f. ne (sym f))

  -- the room of a service that adds to the flow
  pub room_adds : (s == upward row.kind || s == delayed row.kind) ≡ true → (a : ℕ) → int_le (pos a) ((pos (cap_of_unit plant row.unit) -ℤ flow row) +ℤ pos (amount row s)) ≡ cap_allows plant (with_amount row s a)
  room_adds t a =
      ⊎_elim
      (λ (f : nat_eq s u ≡ true).
      let e = eqb-true s u f in
      rw (ap (amount row) e, here a u e, elsewhere a d (λ g. apart row.kind (sym e ∙ g))) (first_takes row.energy (amount row u) (amount row d) a (cap_of_unit plant row.unit)))
      (λ (g : nat_eq s d ≡ true).
      let e = eqb-true s d g in
      rw (ap (amount row) e, here a d e, elsewhere a u (λ f. apart row.kind (sym f ∙ e))) (second_takes row.energy (amount row u) (amount row d) a (cap_of_unit plant row.unit)))
      (or_cases (s == u) (s == d) t)

  -- one that does not leaves the flow as it is
  pub flow_beside : (s == upward row.kind || s == delayed row.kind) ≡ false → (a : ℕ) → cap_allows plant row ≡ cap_allows plant (with_amount row s a)
  flow_beside t a =
      let p = or_parts (s == u) (s == d) t in
      rw (elsewhere a u (eqb-false s u p.0), elsewhere a d (eqb-false s d p.1))

  -- and has its room
  pub room_else : (s == upward row.kind || s == delayed row.kind) ≡ false → (a : ℕ) → int_le (pos 0) ((pos (cap_of_unit plant row.unit) -ℤ flow row) +ℤ pos 0) ≡ cap_allows plant (with_amount row s a)
  room_else t a = neither_takes row.energy (amount row u) (amount row d) (cap_of_unit plant row.unit) ∙ flow_beside t a
