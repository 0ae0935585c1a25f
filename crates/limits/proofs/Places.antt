-- A table that is filled place by place.
use Rattle.std.proofs.Common.{◌≡◌, ℕ, ◌+◌, ◌<◌, List, length, get_or, set, sym, subst, ⊎_elim, arith}
use Rattle.std.proofs.lemmas.List.{get_or-set_same, get_or-set_other}
use Rattle.std.proofs.lemmas.Bool.{cases_eq}

-- one place more
pub place_more : {X : Type 0} (P : ℕ → X → Type 0) (d : X) (table : List X) (n : ℕ) (x : X) → n < length table → ((s : ℕ) → s < n → P s (get_or table s d)) → P n x → (s : ℕ) → s < n + 1 → P s (get_or (set table n x) s d)
place_more {X} P d table n x within below here s l =
    ⊎_elim
    (λ (e : s ≡ n). subst (λ (k : ℕ). P k (get_or (set table n x) k d)) (sym e) (subst (λ (y : X). P n y) (sym (get_or-set_same table n x d within)) here))
    (λ (ne : s ≡ n → ⊥). subst (λ (y : X). P s y) (sym (get_or-set_other table n s x d ne)) (below s (omega (arith, l))))
    (cases_eq s n)
