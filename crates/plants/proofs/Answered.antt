-- The greatest amount that passes, of tests that are made from others.
use Rattle.std.proofs.Common.{◌≡◌, ℕ, ◌<◌, ◌≤◌, List, length, get_or, Bor, min, ℤ, pos, int_le, Bool, true, ◌&&◌, Some, None, Option, sym, ap, ◌∙◌, arith, w64, SFits, to_z, of_z}
use Rattle.std.specs.Option.{option_copied}
use Rattle.std.specs.Slice.{IsItemAt}
use Rattle.std.proofs.lemmas.Int.{to_z-of_z}
use Rattle.std.proofs.lemmas.Bool.{and_from, and_parts}
use Rattle.limits.specs.Plant.{Greatest, Most}

-- the same test in other words
pub greatest_same : (p q : ℕ → Bool) → ((a : ℕ) → p a ≡ q a) → (s : ℕ) (r : Option ℕ) → Greatest p s r → Greatest q s r
greatest_same p q e s None h = λ l. sym (e 0) ∙ h l
greatest_same p q e s (Some a) h = (h.0, record { within = h.1.within; here = sym (e a) ∙ h.1.here; most = λ b l k. h.1.most b l (e b ∙ k) })

-- what passes both of two tests that fall
pub both_most : (p q : ℕ → Bool) → ((a b : ℕ) → a ≤ b → p b ≡ true → p a ≡ true) → ((a b : ℕ) → a ≤ b → q b ≡ true → q a ≡ true) → (m n r : ℕ) → r ≡ min m n → Most p m → Most q n → Most (λ a. p a && q a) r
both_most p q f g m n r e h k = record {
  within = omega (arith, h.within);
  here = and_from (p r) (q r) (f r m (omega arith) h.here) (g r n (omega arith) k.here);
  most = λ b l t. let parts = and_parts (p b) (q b) t in omega (arith, h.most b l parts.0, k.most b l parts.1);
}

-- the same for a room that went through 64 bits
pub greatest_of_room : (q : ℕ → Bool) (s : ℕ) (found : Option ℕ) (room z : ℤ) → SFits w64 room → room ≡ z → ((a : ℕ) → int_le (pos a) z ≡ q a) → Greatest (λ a. int_le (pos a) (to_z w64 (of_z w64 room))) s found → Greatest q s found
greatest_of_room q s found room z fits e same h = greatest_same (λ a. int_le (pos a) (to_z w64 (of_z w64 room))) q (λ a. ap (λ (x : ℤ). int_le (pos a) x) (to_z-of_z w64 room fits ∙ e) ∙ same a) s found h

-- an element that `get` found
pub element : (xs : List ℕ) (i j a : ℕ) (r : Option (Bor ℕ)) → IsItemAt xs j r → j ≡ i → option_copied r ≡ Some a → (i < length xs) × (a ≡ get_or xs i 0)
element xs i j a None h f e = absurd cc
element xs i j a (Some x) h f e =
    let within : j < length xs = h.3.0 in
    let here : x.now ≡ get_or xs j 0 = h.4 (omega arith) 0 in
    let same : x.now ≡ a = cc in
    (omega (arith, within), sym same ∙ here ∙ ap (λ (k : ℕ). get_or xs k 0) f)
