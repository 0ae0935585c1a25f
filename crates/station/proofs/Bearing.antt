-- Rows that hold an energy stay borne: the book after a call that was answered right.
use Rattle.std.proofs.Common.{◌≡◌, ℕ, zero, suc, Bool, true, false, cond, not, ◌&&◌, ◌⊎◌, List, [], ◌∷◌, ◌++◌, get_or, set, is_some, Some, None, Option, sym, refl, ap, ◌∙◌, subst, inl, inr, ⊎_elim, arith}
use Rattle.std.specs.Option.{option_map}
use Rattle.fcas.specs.Bid.{bid_faults}
use Rattle.fcas.specs.Checks.{Finding, first_of}
use Rattle.fcas.specs.Reading.{measured_of}
use Rattle.fcas.specs.Service.{service_faults}
use Rattle.fcas.specs.declared.bid.Bid.{Bid}
use Rattle.fcas.specs.declared.kind.Kind.{Kind}
use Rattle.limits.specs.Limit.{Borne}
use Rattle.limits.specs.declared.limit.Limit.{Limit}
use Rattle.limits.specs.declared.row.Row.{Row}
use Rattle.station.specs.Book.{Bears, Book, after, broken_by, checks, enter, passes, some_breaks, unit_at, unit_faults, written}
use Rattle.station.specs.Entry.{BearsRow, Entry, Interval, bid_of, broken_at, broken_with, idle_faults, is_open, on_interval, opened, with_amount_of, with_bid, with_energy, with_interval}
use Rattle.station.specs.Right.{Right, Settles, accepted}
use Rattle.station.specs.Turn.{Rests}
use Rattle.station.specs.declared.call.Answer.{Answer}
use Rattle.station.specs.declared.call.Answer.TheVariants.{Closed, Done, Opened, Probed, Refused, Returned, Figure as Figured, Trapezium as Scaled}
use Rattle.station.specs.declared.call.Call.{Call}
use Rattle.station.specs.declared.call.Call.TheVariants.{Enrol, Retire, Bid as Bids, Withdraw, Open, Energy, Amount, Figure as FigureCall, Probe, Trapezium as TrapeziumCall, Close, Abandon, Lapse}

-- what a place holds after another was written
get_set : (xs : List (Option Entry)) (i j : ℕ) (x : Option Entry) → (get_or (set xs i x) j None ≡ get_or xs j None) ⊎ ((j ≡ i) × (get_or (set xs i x) j None ≡ x))
get_set [] i j x = inl refl
get_set (y ∷ xs) zero zero x = inr (refl, refl)
get_set (y ∷ xs) zero (suc j) x = inl refl
get_set (y ∷ xs) (suc i) zero x = inl refl
get_set (y ∷ xs) (suc i) (suc j) x = ⊎_elim
    (λ (e : get_or (set xs i x) j None ≡ get_or xs j None). inl e)
    (λ (e : (j ≡ i) × (get_or (set xs i x) j None ≡ x)). inr (ap suc e.0, e.1))
    (get_set xs i j x)

-- the later of two lists of checks
rest_by : (b : Bool) (n : ℕ) (x y : Option ℕ) → cond b (Some n) x ≡ None → (x ≡ None → y ≡ None) → y ≡ None
rest_by true n x y e f = let clash : ◌≡◌ {A = ℕ} 0 1 = cc in absurd (omega arith)
rest_by false n x y e f = f e

first_rest : (xs ys : List Finding) → first_of (xs ++ ys) ≡ None → first_of ys ≡ None
first_rest [] ys e = e
first_rest (x ∷ xs) ys e = rest_by x.1 x.0 (first_of (xs ++ ys)) (first_of ys) e (first_rest xs ys)

front_by : (b : Bool) (n : ℕ) (x y : Option ℕ) → cond b (Some n) x ≡ None → (x ≡ None → y ≡ None) → cond b (Some n) y ≡ None
front_by true n x y e f = let clash : ◌≡◌ {A = ℕ} 0 1 = cc in absurd (omega arith)
front_by false n x y e f = f e

first_front : (xs ys : List Finding) → first_of (xs ++ ys) ≡ None → first_of xs ≡ None
first_front [] ys e = refl
first_front (x ∷ xs) ys e = front_by x.1 x.0 (first_of (xs ++ ys)) (first_of xs) e (first_front xs ys)

not_open : (x : Option Entry) → first_of (idle_faults x) ≡ None → is_open x ≡ false
not_open x e = by (not (is_some x)) (is_open x) e
  where
    by : (a b : Bool) → first_of ((22, a) ∷ (23, b) ∷ []) ≡ None → b ≡ false
    by true b f = let clash : ◌≡◌ {A = ℕ} 0 1 = cc in absurd (omega arith)
    by false true f = let clash : ◌≡◌ {A = ℕ} 0 1 = cc in absurd (omega arith)
    by false false f = refl

taken : (broken : Limit → Bool) (kind : Kind) (answer : Answer) → accepted answer ≡ true → Settles broken kind answer → Borne broken
taken broken kind Done a h = h
taken broken kind (Opened pass) a h = elim h [ ]
taken broken kind (Figured told) a h = elim h [ ]
taken broken kind (Probed told) a h = elim h [ ]
taken broken kind (Scaled trapezium) a h = elim h [ ]
taken broken kind (Closed table) a h = elim h [ ]
taken broken kind (Refused refusal) a h = let clash : ◌≡◌ {A = ℕ} 0 1 = cc in absurd (omega arith)
taken broken kind (Returned refusal pass) a h = elim h [ ]

module _ (allowed : Row → Bool) (u : ℕ) where
  ended : (x : Option Entry) → BearsRow allowed u (option_map (with_interval None) x)
  ended None = tt
  ended (Some entry) = tt

  begun : (x : Option Entry) (interval : Interval) → interval.energy ≡ None → BearsRow allowed u (option_map (with_interval (Some interval)) x)
  begun None interval e = tt
  begun (Some entry) interval e = λ some. let clash : ◌≡◌ {A = ℕ} 0 1 = cc in absurd (omega arith)

  rebid : (x : Option Entry) (service : ℕ) (bid : Option Bid) → is_open x ≡ false → BearsRow allowed u (option_map (with_bid service bid) x)
  rebid None service bid o = tt
  rebid (Some entry) service bid o = by entry.interval o
    where
      by : (interval : Option Interval) → is_open (Some (record { kind = entry.kind; bids = entry.bids; interval = interval })) ≡ false → BearsRow allowed u (Some (record { kind = entry.kind; bids = set entry.bids service bid; interval = interval }))
      by None o = tt
      by (Some interval) o = let clash : ◌≡◌ {A = ℕ} 0 1 = cc in absurd (omega arith)

  energised : (x : Option Entry) (energy : ℕ) → Borne (broken_at allowed u energy x) → BearsRow allowed u (option_map (on_interval (with_energy energy)) x)
  energised None energy borne = tt
  energised (Some entry) energy borne = by entry.interval borne
    where
      by : (interval : Option Interval) → Borne (broken_at allowed u energy (Some (record { kind = entry.kind; bids = entry.bids; interval = interval }))) → BearsRow allowed u (Some (record { kind = entry.kind; bids = entry.bids; interval = option_map (with_energy energy) interval }))
      by None borne = tt
      by (Some interval) borne = λ _. borne

  amounted : (x : Option Entry) (service a : ℕ) → Borne (broken_with allowed u service a x) → BearsRow allowed u (option_map (on_interval (with_amount_of service a)) x)
  amounted None service a borne = tt
  amounted (Some entry) service a borne = by entry.interval borne
    where
      by : (interval : Option Interval) → Borne (broken_with allowed u service a (Some (record { kind = entry.kind; bids = entry.bids; interval = interval }))) → BearsRow allowed u (Some (record { kind = entry.kind; bids = entry.bids; interval = option_map (with_amount_of service a) interval }))
      by None borne = tt
      by (Some interval) borne = λ _. borne

module _ (allowed : Row → Bool) (book : Book) (bears : Bears allowed book) where
  entered : (v : ℕ) (x : Option Entry) → BearsRow allowed v x → Bears allowed (enter book v x)
  entered v x h u = ⊎_elim
      (λ (e : get_or (set book.units v x) u None ≡ get_or book.units u None). subst (BearsRow allowed u) (sym e) (bears u))
      (λ (e : (u ≡ v) × (get_or (set book.units v x) u None ≡ x)). subst (BearsRow allowed u) (sym e.1) (subst (λ (w : ℕ). BearsRow allowed w x) (sym e.0) h))
      (get_set book.units v u x)

  bears_written : (call : Call) (answer : Answer) → first_of (checks book call) ≡ None → accepted answer ≡ true → Right allowed book call answer → Bears allowed (written book call)
  bears_written (Enrol unit kind) answer none heard right = entered unit _ tt
  bears_written (Retire unit) answer none heard right = entered unit _ tt
  bears_written (Bids unit service bid) answer none heard right = entered unit _ (rebid allowed unit (unit_at book unit) service (Some bid) (not_open (unit_at book unit) (first_rest (unit_faults unit ++ service_faults service ++ bid_faults bid) (idle_faults (unit_at book unit)) none)))
  bears_written (Withdraw unit service) answer none heard right = entered unit _ (rebid allowed unit (unit_at book unit) service None
      (not_open (unit_at book unit) (first_front (idle_faults (unit_at book unit)) ((26, not (is_some (bid_of (unit_at book unit) service))) ∷ []) (first_rest (unit_faults unit ++ service_faults service) (idle_faults (unit_at book unit) ++ ((26, not (is_some (bid_of (unit_at book unit) service))) ∷ [])) none))))
  bears_written (Open unit reading) answer none heard right = entered unit _ (begun allowed unit (unit_at book unit) (opened (measured_of reading) book.next) refl)
  bears_written (Energy pass energy) answer none heard right = entered pass.unit _ (energised allowed pass.unit (unit_at book pass.unit) energy (taken _ _ answer heard (right.given none)))
  bears_written (Amount pass service a) answer none heard right = entered pass.unit _ (amounted allowed pass.unit (unit_at book pass.unit) service a (taken _ _ answer heard (right.given none)))
  bears_written (FigureCall pass service) answer none heard right = bears
  bears_written (Probe pass service energy) answer none heard right = bears
  bears_written (TrapeziumCall pass service) answer none heard right = bears
  bears_written (Close pass places) answer none heard right = entered pass.unit _ (ended allowed pass.unit (unit_at book pass.unit))
  bears_written (Abandon pass) answer none heard right = entered pass.unit _ (ended allowed pass.unit (unit_at book pass.unit))
  bears_written (Lapse unit) answer none heard right = entered unit _ (ended allowed unit (unit_at book unit))

  pub bears_after : (call : Call) (answer : Answer) → Right allowed book call answer → Bears allowed (after allowed book call)
  bears_after call answer right = by (first_of (checks book call)) refl (not (some_breaks (broken_by allowed book call))) refl
    where
      by : (o : Option ℕ) → first_of (checks book call) ≡ o → (b : Bool) → not (some_breaks (broken_by allowed book call)) ≡ b → Bears allowed (cond (not (is_some o) && b) (written book call) book)
      by None e true f =
          let all : passes allowed book call ≡ true = rw (e, f) refl in
          bears_written call answer e (right.exactly ∙ all) right
      by None e false f = bears
      by (Some n) e b f = bears

  pub rests : (call : Call) → Rests allowed book call
  rests (Enrol unit kind) = tt
  rests (Retire unit) = tt
  rests (Bids unit service bid) = tt
  rests (Withdraw unit service) = tt
  rests (Open unit reading) = tt
  rests (Energy pass energy) = tt
  rests (Amount pass service a) = tt
  rests (FigureCall pass service) = bears
  rests (Probe pass service energy) = tt
  rests (TrapeziumCall pass service) = tt
  rests (Close pass places) = bears
  rests (Abandon pass) = tt
  rests (Lapse unit) = tt
