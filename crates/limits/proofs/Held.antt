-- The first least of the caps of the limits before a place.
use Rattle.std.proofs.Common.{◌≡◌, ℕ, ◌+◌, ◌*◌, ◌<◌, ◌≤◌, Bool, false, ltb, List, get_or, Some, None, Option, sym, refl, subst, ⊎_elim, arith}
use Rattle.std.proofs.lemmas.Bool.{cases_lt, cond-true, cond-false, lt-ltb, le-ltb}
use Rattle.limits.specs.Limit.{limits_of, place}
use Rattle.limits.specs.Narrowing.{Below, Held, narrowed_to}
use Rattle.limits.specs.declared.limit.Limit.{Limit}
use Rattle.limits.specs.declared.limit.Limit.TheVariants.{RampUp, RampDown}
use Rattle.limits.specs.declared.narrowing.Best.{Best}
use Rattle.limits.proofs.Caps.{UptoIf}
use Rattle.limits.proofs.Orders.{TenOnly, place_of, below_more, after_services, after_ramp_up}

module _ (f : ℕ → Limit → Bool) where
  -- one limit more
  held_step : (n m : ℕ) (limit : Limit) (best : Best) (cap : Option ℕ) → place limit ≡ n → ((a : ℕ) → Below (f a) n → f a limit ≡ false → Below (f a) m) → Held f n best → UptoIf (λ a. f a limit) cap → Held f m (narrowed_to best cap limit)
  held_step n m limit best None e more h u = record {
    within = h.within;
    low = λ a l. more a (h.low a l) (u a (omega (arith, l, h.within)));
    high = h.high;
    before = h.before;
  }
  held_step n m limit best (Some cap) e more h u =
      ⊎_elim
      (λ (l : cap < best.most).
      subst (λ (b : Best). Held f m b) (sym (cond-true (ltb cap best.most) (record { most = cap; limit = limit }) best (lt-ltb cap best.most l))) (record {
        within = u.within;
        low = λ a k. more a (h.low a (omega (arith, k, l))) (u.low a k);
        high = u.high;
        before = λ k. subst (λ (p : ℕ). Below (f (cap + 1)) p) (sym e) (h.low (cap + 1) (omega (arith, l)));
      }))
      (λ (l : best.most ≤ cap).
      subst (λ (b : Best). Held f m b) (sym (cond-false (ltb cap best.most) (record { most = cap; limit = limit }) best (le-ltb cap best.most l))) (record {
        within = h.within;
        low = λ a k. more a (h.low a k) (u.low a (omega (arith, k, l)));
        high = h.high;
        before = h.before;
      }))
      (cases_lt cap best.most)

  pub held_service : (limits : List Limit) (s i : ℕ) (d : Limit) (best : Best) (cap : Option ℕ) → limits ≡ limits_of s → s < 10 → i < 3 → Held f (3 * s + i) best → UptoIf (λ a. f a (get_or limits i d)) cap → Held f (3 * s + (i + 1)) (narrowed_to best cap (get_or limits i d))
  held_service limits s i d best cap these l m h u = held_step (3 * s + i) (3 * s + (i + 1)) (get_or limits i d) best cap (place_of limits s i d these m) (λ a. below_more (f a) limits s i d these l m) h u

  module _ (ten : (a : ℕ) → TenOnly (f a)) where
    pub held_rise : (best : Best) (cap : Option ℕ) → Held f 30 best → UptoIf (λ a. f a RampUp) cap → Held f 31 (narrowed_to best cap RampUp)
    held_rise best cap h u = held_step 30 31 RampUp best cap refl (λ a. after_services (f a) (ten a)) h u

    pub held_fall : (best : Best) (cap : Option ℕ) → Held f 31 best → UptoIf (λ a. f a RampDown) cap → Held f 32 (narrowed_to best cap RampDown)
    held_fall best cap h u = held_step 31 32 RampDown best cap refl (λ a. after_ramp_up (f a) (ten a)) h u
