-- The plant's limit comes last, and settles the figure.
use Rattle.std.proofs.Common.{◌≡◌, ℕ, ◌+◌, ◌<◌, ◌≤◌, Bool, true, false, cond, ltb, List, length, pos, Some, None, sym, ap, ◌∙◌, subst, ⊎_elim, arith}
use Rattle.std.proofs.lemmas.List.{get_or-set_same, set-set}
use Rattle.std.proofs.lemmas.Bool.{both_ways, cases_Bool, cases_lt, cond-true, cond-false, le-ltb, lt-ltb, ltb-false, not_from_false}
use Rattle.limits.specs.Figure.{GreatestBorne, breaks_with}
use Rattle.limits.specs.Limit.{Borne, breaks, exceeded, offer_at, place, while_live}
use Rattle.limits.specs.Narrowing.{Held, exceeded_with, narrowed_to}
use Rattle.limits.specs.Plant.{Most}
use Rattle.limits.specs.Offer.{live}
use Rattle.limits.specs.Row.{amount, with_amount}
use Rattle.limits.specs.declared.limit.Limit.{Limit}
use Rattle.limits.specs.declared.limit.Limit.TheVariants.{Availability, Plant}
use Rattle.limits.specs.declared.narrowing.Best.{Best}
use Rattle.limits.specs.declared.row.Row.{Row}
use Rattle.limits.specs.declared.terms.Offer.{Offer}
use Rattle.limits.specs.declared.terms.Terms.{Terms}
use Rattle.limits.proofs.Breaks.{below_breaks, borne, breaks_is, exceeded_place}

-- a row with an amount put twice has the second
pub put_twice : (row : Row) (s a b : ℕ) → with_amount (with_amount row s a) s b ≡ with_amount row s b
put_twice row s a b = ap (λ (xs : List ℕ). record { unit = row.unit; kind = row.kind; energy = row.energy; amounts = xs }) (set-set row.amounts s a b)

-- the first limit of a live service bounds its amount
within_live : (offer : Offer) (x : ℕ) → live offer ≡ true → exceeded (while_live offer (Some (record { lesser = pos x; greater = pos offer.max_availability }))) ≡ false → x ≤ offer.max_availability
within_live offer x live h = ltb-false offer.max_availability x (subst (λ (b : Bool). exceeded (cond b (Some (record { lesser = pos x; greater = pos offer.max_availability })) None) ≡ false) live h)

module _ (allowed : Row → Bool) (terms : Terms) (row : Row) (s : ℕ) (within : s < length row.amounts) (ten : length terms.offers ≡ 10) where
  pub live_bound : (n : ℕ) (best : Best) → s < 10 → 32 ≤ n → live (offer_at terms s) ≡ true → Held (exceeded_with terms row s) n best → best.most ≤ (offer_at terms s).max_availability
  live_bound n best l m live h =
      subst (λ (x : ℕ). x ≤ (offer_at terms s).max_availability) (get_or-set_same row.amounts s best.most 0 within)
      (within_live (offer_at terms s) _ live (h.low best.most (omega arith) (Availability s) (omega arith)))

  module _ (lowering : (r : Row) (a : ℕ) → a ≤ amount r s → allowed r ≡ true → allowed (with_amount r s a) ≡ true) where
    -- less of a service is allowed where more is
    pub falls : (a b : ℕ) → a ≤ b → allowed (with_amount row s b) ≡ true → allowed (with_amount row s a) ≡ true
    falls a b l h =
        subst (λ (r : Row). allowed r ≡ true) (put_twice row s b a)
        (lowering (with_amount row s b) a (subst (λ (x : ℕ). a ≤ x) (sym (get_or-set_same row.amounts s b 0 within)) l) h)

    module _ (best : Best) (small : best.most ≤ 4000000) (held : Held (exceeded_with terms row s) 32 best) (m : ℕ) (most : Most (λ a. allowed (with_amount row s a)) m) where
      pub borne_at : (a : ℕ) → a ≤ best.most → a ≤ m → Borne (breaks_with allowed terms row s a)
      borne_at a l k = borne terms (with_amount row s a) ten allowed (below_breaks terms (with_amount row s a) ten allowed 32 (omega arith) (held.low a l)) (falls a m k most.here)

      not_plant : (a : ℕ) (limit : Limit) → exceeded_with terms row s a limit ≡ true → limit ≡ Plant → ⊥
      not_plant a limit h e = omega (arith, exceeded_place terms (with_amount row s a) ten limit h, ap place e)

      broken_at_lem : (a : ℕ) → best.most < a → a ≤ 4000001 → breaks_with allowed terms row s a best.limit ≡ true
      broken_at_lem a l k = breaks_is terms (with_amount row s a) ten allowed best.limit (not_plant a best.limit (held.high a l k)) ∙ held.high a l k

      refused_at : (a : ℕ) → m < a → a ≤ 4000000 → breaks_with allowed terms row s a Plant ≡ true
      unfolding breaks
      refused_at a l k =
          ⊎_elim
          (λ (e : allowed (with_amount row s a) ≡ true). absurd (omega (arith, l, most.most a k e)))
          (λ (e : allowed (with_amount row s a) ≡ false). not_from_false _ e)
          (cases_Bool (allowed (with_amount row s a)))

      by_plant : m < best.most → GreatestBorne (breaks_with allowed terms row s) m Plant
      by_plant l = record {
        within = most.within;
        borne = borne_at m (omega (arith, l)) (omega arith);
        others = λ b k none ne. ⊎_elim (λ (x : m < b). absurd (both_ways _ (none Plant) (refused_at b x k))) (λ (x : b ≤ m). omega arith) (cases_lt m b);
        next = record {
          here = refused_at (m + 1) (omega arith) (omega (arith, l, small));
          before = below_breaks terms (with_amount row s (m + 1)) ten allowed 32 (omega arith) (held.low (m + 1) (omega (arith, l)));
        };
      }

      by_limit : best.most ≤ m → GreatestBorne (breaks_with allowed terms row s) best.most best.limit
      by_limit l = record {
        within = small;
        borne = borne_at best.most (omega arith) l;
        others = λ b k none ne. ⊎_elim (λ (x : best.most < b). absurd (both_ways _ (none best.limit) (broken_at_lem b x (omega (arith, k))))) (λ (x : b ≤ best.most). omega arith) (cases_lt best.most b);
        next = record {
          here = broken_at_lem (best.most + 1) (omega arith) (omega (arith, small));
          before = below_breaks terms (with_amount row s (best.most + 1)) ten allowed (place best.limit) (omega (arith, exceeded_place terms (with_amount row s (best.most + 1)) ten best.limit (held.high (best.most + 1) (omega arith) (omega (arith, small))))) (held.before small);
        };
      }

      pub settled : GreatestBorne (breaks_with allowed terms row s) (narrowed_to best (Some m) Plant).most (narrowed_to best (Some m) Plant).limit
      settled =
          ⊎_elim
          (λ (l : m < best.most). subst (λ (b : Best). GreatestBorne (breaks_with allowed terms row s) b.most b.limit) (sym (cond-true (ltb m best.most) (record { most = m; limit = Plant }) best (lt-ltb m best.most l))) (by_plant l))
          (λ (l : best.most ≤ m). subst (λ (b : Best). GreatestBorne (breaks_with allowed terms row s) b.most b.limit) (sym (cond-false (ltb m best.most) (record { most = m; limit = Plant }) best (le-ltb m best.most l))) (by_limit l))
          (cases_lt m best.most)
