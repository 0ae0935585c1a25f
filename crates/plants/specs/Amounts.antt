-- One amount of a row put anew.
use Rattle.std.specs.Prelude.{◌≡◌, ℕ, zero, suc, ◌<◌, ◌≤◌, Bool, true, List, [], ◌∷◌, length, slice_index, slice_set}
use Rattle.std.proofs.Common.{arith, ⊎_elim, sym, ◌∙◌, subst}
use Rattle.std.proofs.lemmas.List.{get_or-set_same, set_past, set-set}
use Rattle.std.proofs.lemmas.Bool.{cases_lt}
use Rattle.limits.specs.Row.{amount, with_amount}
use Rattle.limits.specs.declared.row.Row.{Row}

-- lowering one amount raises none
pub lowered_le : (xs : List ℕ) (s a i : ℕ) → a ≤ slice_index xs s → slice_index (slice_set xs s a) i ≤ slice_index xs i
lowered_le [] s a i l = omega arith
lowered_le (x ∷ xs) zero a zero l = l
lowered_le (x ∷ xs) zero a (suc i) l = omega arith
lowered_le (x ∷ xs) (suc s) a zero l = omega arith
lowered_le (x ∷ xs) (suc s) a (suc i) l = lowered_le xs s a i l

abbrev pub of_amounts : Row → List ℕ → Row
of_amounts row xs = record { unit = row.unit; kind = row.kind; energy = row.energy; amounts = xs }

-- where an allowed row with one amount lowered is allowed, less of a service is allowed where more is
pub falls : (allowed : Row → Bool) (s : ℕ) → ((r : Row) (a : ℕ) → a ≤ amount r s → allowed r ≡ true → allowed (with_amount r s a) ≡ true) → (row : Row) (a b : ℕ) → a ≤ b → allowed (with_amount row s b) ≡ true → allowed (with_amount row s a) ≡ true
falls allowed s lowering row a b l h =
    ⊎_elim
    (λ (m : s < length row.amounts).
    subst (λ (xs : List ℕ). allowed (of_amounts row xs) ≡ true) (set-set row.amounts s b a)
    (lowering (with_amount row s b) a (subst (λ (x : ℕ). a ≤ x) (sym (get_or-set_same row.amounts s b 0 m)) l) h))
    (λ (m : length row.amounts ≤ s). subst (λ (xs : List ℕ). allowed (of_amounts row xs) ≡ true) (set_past row.amounts s b m ∙ sym (set_past row.amounts s a m)) h)
    (cases_lt s (length row.amounts))
