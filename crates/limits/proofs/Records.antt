-- The records of figures, from what settles them.
use Rattle.std.proofs.Common.{◌≡◌, ℕ, ◌+◌, Bool, true, false, not, length, MatchBool, sym, ap, ◌∙◌, subst, arith}
use Rattle.std.proofs.lemmas.Bool.{both_ways, not_from_false}
use Rattle.fcas.specs.declared.kind.Kind.{Kind}
use Rattle.limits.specs.Figure.{GreatestBorne, LiveFigure}
use Rattle.limits.specs.Limit.{Borne, First, breaks, exceeded, limit_by, limit_number, place, sides_of}
use Rattle.limits.specs.Offer.{live}
use Rattle.limits.specs.declared.figure.Figure.{Figure}
use Rattle.limits.specs.declared.limit.Limit.{Limit}
use Rattle.limits.specs.declared.limit.Limit.TheVariants.{Plant}
use Rattle.limits.specs.declared.narrowing.Best.{Best}
use Rattle.limits.specs.declared.row.Row.{Row}
use Rattle.limits.specs.declared.terms.Offer.{Offer}
use Rattle.limits.specs.declared.terms.Terms.{Terms}
use Rattle.limits.proofs.Breaks.{breaks_is, exceeded_place}

-- a live service's record
pub live_figure : (kind : Kind) (broken : ℕ → Limit → Bool) (best after : Best) (f : Figure) → after ≡ best → GreatestBorne broken best.most best.limit → f.figure ≡ after.most → f.ground ≡ limit_number after.limit → f.by ≡ limit_by kind after.limit → LiveFigure kind broken f
live_figure kind broken best after f e h figure ground by = record {
  limit = best.limit;
  greatest = subst (λ (a : ℕ). GreatestBorne broken a best.limit) (sym (figure ∙ ap (λ (b : Best). b.most) e)) h;
  ground = ground ∙ ap (λ (b : Best). limit_number b.limit) e;
  by = by ∙ ap (λ (b : Best). limit_by kind b.limit) e;
}

-- the same limits under another name
pub greatest_same : (f g : ℕ → Limit → Bool) → ((a : ℕ) → f a ≡ g a) → (a : ℕ) (limit : Limit) → GreatestBorne f a limit → GreatestBorne g a limit
greatest_same f g e a limit h = record {
  within = h.within;
  borne = subst (λ (b : Limit → Bool). Borne b) (e a) h.borne;
  others = λ b l none. h.others b l (subst (λ (x : Limit → Bool). Borne x) (sym (e b)) none);
  next = subst (λ (b : Limit → Bool). First b limit) (e (a + 1)) h.next;
}

pub is_live : (offer known : Offer) → offer ≡ known → live offer ≡ true → live known ≡ true
is_live offer known e h = subst (λ (o : Offer). live o ≡ true) e h

pub when_live : (b : Bool) (P Q : Type 0) → b ≡ true → P → MatchBool b P Q
when_live b P Q e p = subst (λ (x : Bool). MatchBool x P Q) (sym e) p

-- a row that exceeds a limit, or that the plant does not allow, is not borne
pub not_borne : (allowed : Row → Bool) (terms : Terms) (row : Row) → length terms.offers ≡ 10 → (limit : Limit) → exceeded (sides_of terms row limit) ≡ true → Borne (breaks allowed terms row) → ⊥
not_borne allowed terms row ten limit h none =
    both_ways (breaks allowed terms row limit) (none limit) (breaks_is terms row ten allowed limit (λ e. omega (arith, exceeded_place terms row ten limit h, ap place e)) ∙ h)

pub not_allowed : (allowed : Row → Bool) (terms : Terms) (row : Row) → allowed row ≡ false → Borne (breaks allowed terms row) → ⊥
unfolding breaks
not_allowed allowed terms row h none = both_ways (not (allowed row)) (none Plant) (not_from_false _ h)
