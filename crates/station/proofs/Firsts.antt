-- The first fault of a list that is made of parts, and the refusal that says it.
use Rattle.std.proofs.Common.{◌≡◌, ℕ, Bool, true, false, cond, List, [], ◌∷◌, ◌++◌, IsErrAnd, Some, None, Ok, Err, Option, Result, refl, ap, arith}
use Rattle.fcas.specs.Checks.{Finding, first_of}
use Rattle.states.specs.declared.refusal.Refusal.{Refusal}

skip : (b : Bool) (n : ℕ) (x y z : Option ℕ) → cond b (Some n) x ≡ None → (x ≡ None → y ≡ z) → cond b (Some n) y ≡ z
skip true n x y z e f = let clash : ◌≡◌ {A = ℕ} 0 1 = cc in absurd (omega arith)
skip false n x y z e f = f e

pub first_skip : (xs ys : List Finding) → first_of xs ≡ None → first_of (xs ++ ys) ≡ first_of ys
first_skip [] ys e = refl
first_skip (x ∷ xs) ys e = skip x.1 x.0 (first_of xs) (first_of (xs ++ ys)) (first_of ys) e (first_skip xs ys)

stop : (b : Bool) (m n : ℕ) (x y : Option ℕ) → cond b (Some m) x ≡ Some n → (x ≡ Some n → y ≡ Some n) → cond b (Some m) y ≡ Some n
stop true m n x y e f = e
stop false m n x y e f = f e

pub first_stop : (xs ys : List Finding) (n : ℕ) → first_of xs ≡ Some n → first_of (xs ++ ys) ≡ Some n
first_stop [] ys n e = let clash : ◌≡◌ {A = ℕ} 0 1 = cc in absurd (omega arith)
first_stop (x ∷ xs) ys n e = stop x.1 x.0 n (first_of xs) (first_of (xs ++ ys)) e (first_stop xs ys n)

-- what `?` hands on is the refusal that it got
pub handed_on : {X : Type 0} (r : Result X Refusal) (refusal : Refusal) → IsErrAnd r (λ e. e ≡ refusal) → r ≡ Err refusal
handed_on (Ok x) refusal e = elim e [ ]
handed_on {X} (Err y) refusal e = ap {B = Result X Refusal} Err e
