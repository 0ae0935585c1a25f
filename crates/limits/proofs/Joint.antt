-- At most two services take from the room of a limit.
use Rattle.std.proofs.Common.{◌≡◌, ℕ, ◌<◌, Bool, true, false, cond, eqb, List, get_or, Some, None, Option, sym, refl, ap, ◌∙◌, subst, ⊎_elim}
use Rattle.std.proofs.lemmas.Bool.{cases_eq, cond-true, cond-false, eq-eqb, ne_eqb, both_ways}
use Rattle.fcas.specs.Kind.{upward, downward}
use Rattle.fcas.specs.Service.{regulating}
use Rattle.fcas.specs.declared.kind.Kind.{Kind}
use Rattle.fcas.specs.declared.kind.Kind.TheVariants.{Generator, SemiScheduled, Load, DemandResponse}
use Rattle.limits.specs.Limit.{limit_by}
use Rattle.limits.specs.Narrowing.{cap_by, coefficient_of, joint_of, narrowed_to, no_best}
use Rattle.limits.specs.declared.limit.Limit.{Limit}
use Rattle.limits.specs.declared.limit.Limit.TheVariants.{Availability, Upper, Lower, RampUp, RampDown, Plant}
use Rattle.limits.specs.declared.limit.Sides.{Sides}
use Rattle.limits.specs.declared.narrowing.Best.{Best}
use Rattle.limits.specs.declared.terms.Terms.{Terms}

-- the upward and the downward service regulate
pub upward_regulates : (kind : Kind) → regulating (upward kind) ≡ true
upward_regulates Generator = refl
upward_regulates SemiScheduled = refl
upward_regulates Load = refl
upward_regulates DemandResponse = refl

pub downward_regulates : (kind : Kind) → regulating (downward kind) ≡ true
downward_regulates Generator = refl
downward_regulates SemiScheduled = refl
downward_regulates Load = refl
downward_regulates DemandResponse = refl

-- so they are no contingency service
pub apart : (a b : ℕ) → regulating a ≡ false → regulating b ≡ true → a ≡ b → ⊥
apart a b f g e = both_ways (regulating b) (subst (λ (x : ℕ). regulating x ≡ false) e f) g

-- a service that is neither the limit's own nor the joint one takes nothing
takes_none : (own t : ℕ) (r : Bool) (s run whole : ℕ) → eqb s own ≡ false → (r ≡ false → eqb s t ≡ false) → cond (eqb s own) run (cond r 0 (cond (eqb s t) whole 0)) ≡ 0
takes_none own t true s run whole e f = cond-false (eqb s own) run _ e
takes_none own t false s run whole e f = cond-false (eqb s own) run _ e ∙ cond-false (eqb s t) whole 0 (f refl)

module _ (terms : Terms) (s : ℕ) where
  pub others_take_none : (limit : Limit) (joint : Option ℕ) → joint_of terms.kind limit ≡ joint → (s ≡ limit_by terms.kind limit → ⊥) → ((j : ℕ) → joint ≡ Some j → s ≡ j → ⊥) → coefficient_of terms limit s ≡ 0
  others_take_none (Availability own) joint e ne nj = cond-false (eqb s own) 1 0 (ne_eqb s own ne)
  others_take_none (Upper own) joint e ne nj = takes_none own (upward terms.kind) (regulating own) s _ _ (ne_eqb s own ne) (λ f. ne_eqb s _ (nj _ (sym e ∙ cond-false (regulating own) None (Some (upward terms.kind)) f)))
  others_take_none (Lower own) joint e ne nj = takes_none own (downward terms.kind) (regulating own) s _ _ (ne_eqb s own ne) (λ f. ne_eqb s _ (nj _ (sym e ∙ cond-false (regulating own) None (Some (downward terms.kind)) f)))
  others_take_none RampUp joint e ne nj = cond-false (eqb s (upward terms.kind)) 1 0 (ne_eqb s _ ne)
  others_take_none RampDown joint e ne nj = cond-false (eqb s (downward terms.kind)) 1 0 (ne_eqb s _ ne)
  others_take_none Plant joint e ne nj = refl

-- the joint service is another than the limit's own
pub joint_apart : (kind : Kind) (limit : Limit) (j : ℕ) → joint_of kind limit ≡ Some j → j ≡ limit_by kind limit → ⊥
joint_apart kind (Availability own) j e f = cc
joint_apart kind (Upper own) j e f = go (regulating own) refl e
  where
    go : (r : Bool) → regulating own ≡ r → cond r None (Some (upward kind)) ≡ Some j → ⊥
    go true p h = cc
    go false p h = let u : upward kind ≡ j = cc in apart own (upward kind) p (upward_regulates kind) (sym (u ∙ f))
joint_apart kind (Lower own) j e f = go (regulating own) refl e
  where
    go : (r : Bool) → regulating own ≡ r → cond r None (Some (downward kind)) ≡ Some j → ⊥
    go true p h = cc
    go false p h = let u : downward kind ≡ j = cc in apart own (downward kind) p (downward_regulates kind) (sym (u ∙ f))
joint_apart kind RampUp j e f = cc
joint_apart kind RampDown j e f = cc
joint_apart kind Plant j e f = cc

-- what takes nothing is not capped
pub uncapped : (sides : Option Sides) (held c : ℕ) (best : Best) (limit : Limit) → c ≡ 0 → narrowed_to best (cap_by sides held c) limit ≡ best
uncapped None held c best limit e = refl
uncapped (Some sides) held c best limit e = subst (λ (x : ℕ). narrowed_to best (cap_by (Some sides) held x) limit ≡ best) (sym e) refl

-- The least so far of each service after a limit: its own service and the joint one are narrowed, and no other needs to be.
module _ (terms : Terms) (limit : Limit) (sides : Option Sides) (held : ℕ → ℕ) (before : List Best) where
  abbrev Right : ℕ → Best → Type 0
  Right s best = best ≡ narrowed_to (get_or before s no_best) (cap_by sides (held s) (coefficient_of terms limit s)) limit

  -- the place of a service after its cap was put to it, and before
  abbrev put : List Best → ℕ → Option ℕ → ℕ → Best
  put list place cap s = cond (eqb s place) (narrowed_to (get_or list s no_best) cap limit) (get_or list s no_best)

  put_here : (list : List Best) (place s : ℕ) (cap : Option ℕ) → s ≡ place → cap ≡ cap_by sides (held place) (coefficient_of terms limit place) → get_or list s no_best ≡ get_or before s no_best → Right s (put list place cap s)
  put_here list place s cap e k same =
      cond-true (eqb s place) _ _ (eq-eqb s place e)
      ∙ ap (λ (b : Best). narrowed_to b cap limit) same
      ∙ ap (λ (x : Option ℕ). narrowed_to (get_or before s no_best) x limit) (k ∙ ap (λ (x : ℕ). cap_by sides (held x) (coefficient_of terms limit x)) (sym e))

  put_elsewhere : (list : List Best) (place s : ℕ) (cap : Option ℕ) → (s ≡ place → ⊥) → put list place cap s ≡ get_or list s no_best
  put_elsewhere list place s cap ne = cond-false (eqb s place) _ _ (ne_eqb s place ne)

  pub one_narrowed : (own : ℕ) (cap : Option ℕ) (after : List Best) → own ≡ limit_by terms.kind limit → joint_of terms.kind limit ≡ None → cap ≡ cap_by sides (held own) (coefficient_of terms limit own)
      → ((s : ℕ) → s < 10 → get_or after s no_best ≡ put before own cap s) → (s : ℕ) → s < 10 → Right s (get_or after s no_best)
  one_narrowed own cap after o j k is s l =
      ⊎_elim
      (λ (e : s ≡ own). is s l ∙ put_here before own s cap e k refl)
      (λ (ne : s ≡ own → ⊥). is s l ∙ put_elsewhere before own s cap ne
      ∙ sym (uncapped sides (held s) _ _ limit (others_take_none terms s limit None j (λ e. ne (e ∙ sym o)) (λ i h same. cc))))
      (cases_eq s own)

  pub two_narrowed : (own other : ℕ) (cap cap' : Option ℕ) (mid after : List Best) → own ≡ limit_by terms.kind limit → joint_of terms.kind limit ≡ Some other
      → cap ≡ cap_by sides (held own) (coefficient_of terms limit own) → cap' ≡ cap_by sides (held other) (coefficient_of terms limit other)
      → ((s : ℕ) → s < 10 → get_or mid s no_best ≡ put before own cap s) → ((s : ℕ) → s < 10 → get_or after s no_best ≡ put mid other cap' s) → (s : ℕ) → s < 10 → Right s (get_or after s no_best)
  two_narrowed own other cap cap' mid after o j k k' is is' s l =
      ⊎_elim
      (λ (e : s ≡ other). is' s l ∙ put_here mid other s cap' e k' (is s l ∙ put_elsewhere before own s cap (λ f. joint_apart terms.kind limit other j (sym e ∙ f ∙ o))))
      (λ (ne : s ≡ other → ⊥).
      is' s l ∙ put_elsewhere mid other s cap' ne
      ∙ ⊎_elim
      (λ (e : s ≡ own). is s l ∙ put_here before own s cap e k refl)
      (λ (nf : s ≡ own → ⊥). is s l ∙ put_elsewhere before own s cap nf
      ∙ sym (uncapped sides (held s) _ _ limit (others_take_none terms s limit (Some other) j (λ e. nf (e ∙ sym o)) (λ i h f. ne (f ∙ sym (same i h))))))
      (cases_eq s own))
      (cases_eq s other)
    where
      same : (i : ℕ) → Some other ≡ Some i → other ≡ i
      same i h = cc
