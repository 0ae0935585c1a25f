-- Some number of a list is above a limit, seen place by place.
use Rattle.std.proofs.Common.{◌≡◌, ℕ, zero, suc, ◌<◌, ◌≤◌, Bool, true, false, ◌||◌, ltb, List, [], ◌∷◌, length, get_or, refl, ap, ◌∙◌, le_of_suc-le-suc, arith}
use Rattle.std.proofs.lemmas.Bool.Decides.{nat_tests}
use Rattle.fcas.specs.Bid.{some_above}

or_true : (a b : Bool) → b ≡ true → (a || b) ≡ true
or_true true b e = refl
or_true false b e = e

pub above_at : (limit : ℕ) (numbers : List ℕ) (i : ℕ) → i < length numbers → limit < get_or numbers i 0 → some_above limit numbers ≡ true
above_at limit [] i h above = absurd (omega (arith, h))
above_at limit (x ∷ xs) zero h above = let e : ltb limit x ≡ true = grind (arith, nat_tests) in ap (λ b. b || some_above limit xs) e
above_at limit (x ∷ xs) (suc i) h above = or_true (ltb limit x) (some_above limit xs) (above_at limit xs i (le_of_suc-le-suc h) above)

pub none_above : (limit : ℕ) (numbers : List ℕ) → ((k : ℕ) → k < length numbers → get_or numbers k 0 ≤ limit) → some_above limit numbers ≡ false
none_above limit [] below = refl
none_above limit (x ∷ xs) below =
    let here : x ≤ limit = below 0 (omega arith) in
    let e : ltb limit x ≡ false = grind (arith, nat_tests) in
    ap (λ b. b || some_above limit xs) e ∙ none_above limit xs (λ k h. below (suc k) (omega arith))
