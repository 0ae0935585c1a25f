-- A limit that breaks is one of those in the order.
use Rattle.std.proofs.Common.{◌≡◌, ℕ, zero, suc, ◌<◌, ◌≤◌, Bool, true, false, ◌||◌, List, [], ◌∷◌, length, get_or, Option, refl, ap, ◌∙◌, subst, ⊎_elim, arith}
use Rattle.std.proofs.lemmas.Bool.{cases_lt}
use Rattle.fcas.specs.declared.bid.Bid.{Bid}
use Rattle.fcas.specs.declared.bid.CheckedBid.{CheckedBid}
use Rattle.fcas.specs.declared.kind.Kind.{Kind}
use Rattle.fcas.specs.declared.reading.Measured.{Measured}
use Rattle.limits.specs.Limit.{breaks, offer_at}
use Rattle.limits.specs.Terms.{held_bids, no_offer, offers_from, terms_of}
use Rattle.limits.specs.declared.limit.Limit.{Limit}
use Rattle.limits.specs.declared.limit.Limit.TheVariants.{Availability, Upper, Lower, RampUp, RampDown, Plant}
use Rattle.limits.specs.declared.row.Row.{Row}
use Rattle.limits.specs.declared.terms.Offer.{Offer}
use Rattle.limits.specs.declared.terms.Terms.{Terms}
use Rattle.station.specs.Book.{some_below, some_breaks}
use Rattle.station.specs.Entry.{broken_at, broken_with}
use Rattle.station.specs.View.{entry_in, entry_of}
use Rattle.station.specs.declared.row.UnitRow.{UnitRow}
use Rattle.states.specs.declared.state.State.{State}
use Rattle.states.specs.declared.state.State.TheVariants.{Vacant, Idle, Open, OpenWithEnergy}

or_left : (a b : Bool) → a ≡ true → (a || b) ≡ true
or_left true b e = refl
or_left false b e = let clash : ◌≡◌ {A = ℕ} 0 1 = cc in absurd (omega arith)

or_right : (a b : Bool) → b ≡ true → (a || b) ≡ true
or_right true b e = refl
or_right false b e = e

no_offer_lem : (offers : List Offer) (s : ℕ) → length offers ≤ s → get_or offers s no_offer ≡ no_offer
no_offer_lem [] s l = refl
no_offer_lem (x ∷ offers) zero l = absurd (omega arith)
no_offer_lem (x ∷ offers) (suc s) l = no_offer_lem offers s (omega arith)

module _ (broken : Limit → Bool) where
  -- each limit of a service below n
  below_one : (n s : ℕ) → s < n → (broken (Availability s) || (broken (Upper s) || broken (Lower s))) ≡ true → some_below n broken ≡ true
  below_one zero s l e = absurd (omega arith)
  below_one (suc n) s l e = ⊎_elim
      (λ (k : s < n). or_right (broken (Availability n)) _ (or_right (broken (Upper n)) _ (or_right (broken (Lower n)) _ (below_one n s k e))))
      (λ (k : n ≤ s).
      let same : s ≡ n = omega arith in
      here n (subst (λ (m : ℕ). (broken (Availability m) || (broken (Upper m) || broken (Lower m))) ≡ true) same e))
      (cases_lt s n)
    where
      three : (a b c d : Bool) → (a || (b || c)) ≡ true → (a || (b || (c || d))) ≡ true
      three true b c d h = refl
      three false true c d h = refl
      three false false true d h = refl
      three false false false d h = let clash : ◌≡◌ {A = ℕ} 0 1 = cc in absurd (omega arith)

      here : (m : ℕ) → (broken (Availability m) || (broken (Upper m) || broken (Lower m))) ≡ true → (broken (Availability m) || (broken (Upper m) || (broken (Lower m) || some_below m broken))) ≡ true
      here m h = three (broken (Availability m)) (broken (Upper m)) (broken (Lower m)) (some_below m broken) h

  abbrev of_service : ℕ → Bool
  of_service s = broken (Availability s) || (broken (Upper s) || broken (Lower s))

  -- a limit that breaks shows, where those of services above nine never break
  module _ (none : (s : ℕ) → 10 ≤ s → of_service s ≡ false) where
    of_services : (s : ℕ) → of_service s ≡ true → some_breaks broken ≡ true
    of_services s e = ⊎_elim
        (λ (l : s < 10). or_left (some_below 10 broken) _ (below_one 10 s l e))
        (λ (l : 10 ≤ s). let f = none s l in let clash : ◌≡◌ {A = ℕ} 0 1 = cc in absurd (omega arith))
        (cases_lt s 10)

    pub shows : (limit : Limit) → broken limit ≡ true → some_breaks broken ≡ true
    shows (Availability s) e = of_services s (or_left (broken (Availability s)) _ e)
    shows (Upper s) e = of_services s (or_right (broken (Availability s)) _ (or_left (broken (Upper s)) _ e))
    shows (Lower s) e = of_services s (or_right (broken (Availability s)) _ (or_right (broken (Upper s)) _ e))
    shows RampUp e = or_right (some_below 10 broken) _ (or_left (broken RampUp) _ e)
    shows RampDown e = or_right (some_below 10 broken) _ (or_right (broken RampUp) _ (or_left (broken RampDown) _ e))
    shows Plant e = or_right (some_below 10 broken) _ (or_right (broken RampUp) _ (or_right (broken RampDown) _ e))

module _ (allowed : Row → Bool) (terms : Terms) (row : Row) (ten : length terms.offers ≡ 10) where
  none_above : (s : ℕ) → 10 ≤ s → of_service (breaks allowed terms row) s ≡ false
  unfolding breaks
  none_above s l =
      let none : offer_at terms s ≡ no_offer = no_offer_lem terms.offers s (omega (arith, ten)) in
      rw none refl

  pub breaks_show : (limit : Limit) → breaks allowed terms row limit ≡ true → some_breaks (breaks allowed terms row) ≡ true
  breaks_show = shows (breaks allowed terms row) none_above

offers_count : (kind : Kind) (m : Measured) (n : ℕ) (bids : List (Option Bid)) → length (offers_from kind m n bids) ≡ length bids
offers_count kind m n [] = refl
offers_count kind m n (bid ∷ bids) = ap suc (offers_count kind m (suc n) bids)

held_count : (bids : List (Option CheckedBid)) → length (held_bids bids) ≡ length bids
held_count [] = refl
held_count (bid ∷ bids) = ap suc (held_count bids)

module _ (allowed : Row → Bool) (unit : ℕ) (kind : Kind) (bids : List (Option Bid)) (reading : Measured) (amounts : List ℕ) (ten : length (offers_from kind reading 0 bids) ≡ 10) where
  at_energy : (s : State) (energy : ℕ) (limit : Limit) → broken_at allowed unit energy (entry_in s kind bids reading amounts) limit ≡ true → some_breaks (broken_at allowed unit energy (entry_in s kind bids reading amounts)) ≡ true
  at_energy Vacant energy limit e = let clash : ◌≡◌ {A = ℕ} 0 1 = cc in absurd (omega arith)
  at_energy Idle energy limit e = let clash : ◌≡◌ {A = ℕ} 0 1 = cc in absurd (omega arith)
  at_energy (Open serial) energy limit e = breaks_show allowed (terms_of kind bids reading) _ ten limit e
  at_energy (OpenWithEnergy serial held) energy limit e = breaks_show allowed (terms_of kind bids reading) _ ten limit e

  with_amount_lem : (s : State) (service a : ℕ) (limit : Limit) → broken_with allowed unit service a (entry_in s kind bids reading amounts) limit ≡ true → some_breaks (broken_with allowed unit service a (entry_in s kind bids reading amounts)) ≡ true
  with_amount_lem Vacant service a limit e = let clash : ◌≡◌ {A = ℕ} 0 1 = cc in absurd (omega arith)
  with_amount_lem Idle service a limit e = let clash : ◌≡◌ {A = ℕ} 0 1 = cc in absurd (omega arith)
  with_amount_lem (Open serial) service a limit e = breaks_show allowed (terms_of kind bids reading) _ ten limit e
  with_amount_lem (OpenWithEnergy serial held) service a limit e = breaks_show allowed (terms_of kind bids reading) _ ten limit e

-- the same of a row
module _ (allowed : Row → Bool) (unit : ℕ) (row : UnitRow) where
  ten_offers : length (offers_from row.kind row.reading.measured 0 (held_bids row.bids)) ≡ 10
  ten_offers = offers_count row.kind row.reading.measured 0 (held_bids row.bids) ∙ held_count row.bids ∙ row.ten_bids

  pub energy_shows : (energy : ℕ) (limit : Limit) → broken_at allowed unit energy (entry_of row) limit ≡ true → some_breaks (broken_at allowed unit energy (entry_of row)) ≡ true
  energy_shows = at_energy allowed unit row.kind (held_bids row.bids) row.reading.measured row.amounts ten_offers row.state

  pub amount_shows : (service a : ℕ) (limit : Limit) → broken_with allowed unit service a (entry_of row) limit ≡ true → some_breaks (broken_with allowed unit service a (entry_of row)) ≡ true
  amount_shows = with_amount_lem allowed unit row.kind (held_bids row.bids) row.reading.measured row.amounts ten_offers row.state
