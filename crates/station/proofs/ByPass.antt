-- The calls that take a pass.
use Rattle.std.proofs.Common.{◌≡◌, ℕ, zero, suc, ◌<◌, ◌≤◌, Bool, true, false, cond, not, ◌&&◌, ltb, List, [], ◌∷◌, ◌++◌, length, get_or, take, drop, set, is_some, IsErrAnd, Some, None, Ok, Err, Option, Result, sym, refl, ap, ◌∙◌, subst, arith}
use Rattle.std.proofs.lemmas.Bool.{le-ltb}
use Rattle.std.specs.Option.{option_map}
use Rattle.fcas.specs.Checks.{Finding, first_of}
use Rattle.fcas.specs.Service.{service_faults}
use Rattle.fcas.specs.declared.trapezium.Trapezium.{Trapezium}
use Rattle.fcas.specs.Power.{power_faults}
use Rattle.limits.specs.Figure.{no_figure}
use Rattle.limits.specs.declared.figure.Figure.{Figure}
use Rattle.limits.specs.declared.row.Row.{Row}
use Rattle.station.specs.Book.{Bears, checks, energy_faults, pass_faults, passes, some_breaks, unit_at, written}
use Rattle.station.specs.Entry.{BearsRow, Entry, FigureIn, ProbedIn, broken_at, broken_with, has_energy, is_live, is_open, kind_in, on_interval, trapezium_in, with_amount_of, with_energy, with_interval}
use Rattle.station.specs.Lent.{Lent, Refuses, Tried, held_faults}
use Rattle.states.specs.Refusal.{plain, told}
use Rattle.station.specs.Turn.{Turn, done, figured, probed_by, scaled}
use Rattle.station.specs.View.{entry_of, view_of}
use Rattle.station.specs.declared.call.Answer.{Answer}
use Rattle.station.specs.declared.call.Answer.TheVariants.{Closed, Done, Probed, Returned, Figure as Figured, Trapezium as Scaled}
use Rattle.station.specs.declared.call.Call.TheVariants.{Energy, Amount, Figure as FigureCall, Probe, Trapezium as TrapeziumCall, Close, Abandon}
use Rattle.station.specs.declared.pass.PassNumbers.{PassNumbers}
use Rattle.states.specs.declared.refusal.Refusal.{Refusal}
use Rattle.station.specs.declared.row.UnitRow.{UnitRow}
use Rattle.station.specs.declared.station.Station.{Station}
use Rattle.station.proofs.Broken.{amount_shows, energy_shows}
use Rattle.station.proofs.Firsts.{first_skip, first_stop}
use Rattle.station.proofs.Passes.{known_open}
use Rattle.station.proofs.Turns.{by_refusal, by_trial, heeded, lent, lent_view, none_breaks, turned_away, under_rests, unit_is, with_rows}

pub same_told : {X : Type 0} (r : Result X Refusal) (refusal : Refusal) → IsErrAnd r (λ e. e ≡ refusal) → IsErrAnd r (λ e. told e ≡ told refusal)
same_told (Ok x) refusal e = e
same_told (Err y) refusal e = ap told e

open_held : (entry : Option Entry) (rest : List Finding) → is_open entry ≡ true → first_of (held_faults entry ++ rest) ≡ first_of (((29, not (has_energy entry)) ∷ []) ++ rest)
open_held entry rest o = rw o refl

-- a refusal by the first of two lists of checks
refused_early : (xs ys : List Finding) (refusal : Refusal) → Refuses xs refusal → Refuses (xs ++ ys) refusal
refused_early xs ys refusal e = by (first_of xs) refl e
  where
    by : (o : Option ℕ) → first_of xs ≡ o → option_map plain o ≡ Some (told refusal) → option_map plain (first_of (xs ++ ys)) ≡ Some (told refusal)
    by None f h = let clash : ◌≡◌ {A = ℕ} 0 1 = cc in absurd (omega arith)
    by (Some n) f h = ap (option_map plain) (first_stop xs ys n f) ∙ h

module _ {P : Type 0} (allowed : P → Row → Bool) (s : Station P) (pass : PassNumbers) (u : ℕ) (same : u ≡ pass.unit) (d : UnitRow) (l : u < length s.rows) (known : first_of (pass_faults (view_of s) pass) ≡ None) where
  abbrev ok : Row → Bool
  ok = allowed s.plant

  -- the pass by the unit that was found
  abbrev found : PassNumbers
  found = record { station = pass.station; unit = u; serial = pass.serial }

  is_pass : found ≡ pass
  is_pass = ap (λ (v : ℕ). record { station = pass.station; unit = v; serial = pass.serial }) same

  known' : first_of (pass_faults (view_of s) found) ≡ None
  known' = subst (λ (p : PassNumbers). first_of (pass_faults (view_of s) p) ≡ None) (sym is_pass) known

  abbrev row : UnitRow
  row = get_or s.rows u d

  at : unit_at (view_of s) u ≡ entry_of row
  at = unit_is allowed s u d row l

  opened : is_open (entry_of row) ≡ true
  opened = ap is_open (sym at) ∙ known_open (view_of s) found known'

  bears_row : Bears ok (view_of s) → BearsRow ok u (entry_of row)
  bears_row bears = subst (BearsRow ok u) at (bears u)

  -- the checks that are left once the pass is known
  abbrev passed : (Option Entry → List Finding) → List Finding
  passed rest = pass_faults (view_of s) found ++ energy_faults (view_of s) found ++ rest (unit_at (view_of s) u)

  held_left : (rest : Option Entry → List Finding) → first_of (passed rest) ≡ first_of (held_faults (entry_of row) ++ rest (entry_of row))
  held_left rest = first_skip (pass_faults (view_of s) found) (energy_faults (view_of s) found ++ rest (unit_at (view_of s) u)) known'
      ∙ ap (λ (x : Option Entry). first_of (((29, not (has_energy x)) ∷ []) ++ rest x)) at ∙ sym (open_held (entry_of row) (rest (entry_of row)) opened)

  pub energy_turn : (energy : ℕ) (row' : UnitRow) (r : Result (Unit {0}) Refusal) → first_of (power_faults energy) ≡ None
      → Tried ((28, not (is_open (entry_of row))) ∷ []) (broken_at ok u energy (entry_of row)) (kind_in (entry_of row)) (option_map (on_interval (with_energy energy)) (entry_of row)) row row' r
      → Turn allowed s (Energy pass energy) (done r) (with_rows s (set s.rows u row'))
  energy_turn energy row' r power tried = subst (λ (p : PassNumbers). Turn allowed s (Energy p energy) (done r) (with_rows s (set s.rows u row'))) is_pass
      (by_trial allowed s (Energy found energy) refl u d row' l (broken_at ok u energy) (option_map (on_interval (with_energy energy))) refl (λ answer h. h) refl r ((28, not (is_open (entry_of row))) ∷ [])
      (first_skip (power_faults energy) (pass_faults (view_of s) found) power ∙ known' ∙ sym none) (energy_shows ok u row energy) tried)
    where
      none : first_of ((28, not (is_open (entry_of row))) ∷ []) ≡ None
      none = rw opened refl

  pub amount_turn : (service a : ℕ) (row' : UnitRow) (r : Result (Unit {0}) Refusal) → first_of (service_faults service) ≡ None → first_of (power_faults a) ≡ None
      → Tried (held_faults (entry_of row) ++ ((30, not (is_live service (entry_of row))) ∷ [])) (broken_with ok u service a (entry_of row)) (kind_in (entry_of row)) (option_map (on_interval (with_amount_of service a)) (entry_of row)) row row' r
      → Turn allowed s (Amount pass service a) (done r) (with_rows s (set s.rows u row'))
  amount_turn service a row' r number power tried = subst (λ (p : PassNumbers). Turn allowed s (Amount p service a) (done r) (with_rows s (set s.rows u row'))) is_pass
      (by_trial allowed s (Amount found service a) refl u d row' l (broken_with ok u service a) (option_map (on_interval (with_amount_of service a))) refl (λ answer h. h) refl r (held_faults (entry_of row) ++ ((30, not (is_live service (entry_of row))) ∷ []))
      (first_skip (service_faults service) (power_faults a ++ passed (λ x. (30, not (is_live service x)) ∷ [])) number ∙ first_skip (power_faults a) (passed (λ x. (30, not (is_live service x)) ∷ [])) power ∙ held_left (λ x. (30, not (is_live service x)) ∷ [])) (amount_shows ok u row service a) tried)

  pub abandon_turn : (row' : UnitRow) (r : Result (Unit {0}) Refusal)
      → Lent ((22, not (is_some (entry_of row))) ∷ (27, not (is_open (entry_of row))) ∷ []) (option_map (with_interval None) (entry_of row)) row row' r
      → Turn allowed s (Abandon pass) (done r) (with_rows s (set s.rows u row'))
  abandon_turn row' (Ok x) turn = subst (λ (p : PassNumbers). Turn allowed s (Abandon p) Done (with_rows s (set s.rows u row'))) is_pass
      (heeded allowed s (Abandon found) Done (lent allowed s u d row' l) known' (none_breaks (λ _. false) (λ _. refl)) refl (λ _. refl) (lent_view allowed s u d row' l _ (turn.1 ∙ ap (option_map (with_interval None)) (sym at))) refl)
  abandon_turn row' (Err refusal) turn = absurd (never (entry_of row) opened turn.0)
    where
      never : (entry : Option Entry) → is_open entry ≡ true → option_map plain (first_of ((22, not (is_some entry)) ∷ (27, not (is_open entry)) ∷ [])) ≡ Some (told refusal) → ⊥
      never None o e = let clash : ◌≡◌ {A = ℕ} 0 1 = cc in omega arith
      never (Some entry) o e = let clash : ◌≡◌ {A = ℕ} 0 1 = cc (rw o at e) in omega arith

  figure_checks : (service : ℕ) → first_of (service_faults service) ≡ None → first_of (checks (view_of s) (FigureCall found service)) ≡ first_of (held_faults (entry_of row))
  figure_checks service number = first_skip (service_faults service) (passed (λ _. [])) number ∙ held_left (λ _. [])

  pub figure_refused : (service : ℕ) (r : Result Figure Refusal) (refusal : Refusal) → first_of (service_faults service) ≡ None → IsErrAnd r (λ e. e ≡ refusal) → (BearsRow ok u (entry_of row) → Refuses (held_faults (entry_of row)) refusal)
      → Turn allowed s (FigureCall pass service) (figured r) s
  figure_refused service r refusal number said refuses = subst (λ (p : PassNumbers). Turn allowed s (FigureCall p service) (figured r) s) is_pass
      (under_rests allowed s (FigureCall found service) (figured r) s (λ _. refl) refl (λ bears. by_refusal allowed s (FigureCall found service) refl figured (λ _. refl) r (told refusal) (same_told r refusal said)
      (ap (option_map plain) (figure_checks service number) ∙ refuses (bears_row bears))))

  pub figure_turn : (service : ℕ) (given : Figure) → first_of (service_faults service) ≡ None → (BearsRow ok u (entry_of row) → (first_of (held_faults (entry_of row)) ≡ None) × FigureIn ok u service (entry_of row) given)
      → Turn allowed s (FigureCall pass service) (Figured given) s
  figure_turn service given number gives = subst (λ (p : PassNumbers). Turn allowed s (FigureCall p service) (Figured given) s) is_pass
      (under_rests allowed s (FigureCall found service) (Figured given) s (λ _. refl) refl (λ bears. heeded allowed s (FigureCall found service) (Figured given) s (figure_checks service number ∙ (gives (bears_row bears)).0) (none_breaks (λ _. false) (λ _. refl)) refl
      (λ _. subst (λ (x : Option Entry). FigureIn ok u service x given) (sym at) (gives (bears_row bears)).1) refl refl))

  pub probe_turn : (service energy : ℕ) (given : Option Figure) → first_of (service_faults service) ≡ None → first_of (power_faults energy) ≡ None → (is_open (entry_of row) ≡ true → ProbedIn ok u service energy (entry_of row) given)
      → Turn allowed s (Probe pass service energy) (Probed given) s
  probe_turn service energy given number power gives = subst (λ (p : PassNumbers). Turn allowed s (Probe p service energy) (Probed given) s) is_pass
      (heeded allowed s (Probe found service energy) (Probed given) s (first_skip (service_faults service) (power_faults energy ++ pass_faults (view_of s) found) number ∙ first_skip (power_faults energy) (pass_faults (view_of s) found) power ∙ known') (none_breaks (λ _. false) (λ _. refl)) refl
      (λ _. subst (λ (x : Option Entry). ProbedIn ok u service energy x given) (sym at) (gives opened)) refl refl)

  pub trapezium_turn : (service : ℕ) (given : Option Trapezium) → first_of (service_faults service) ≡ None → (is_open (entry_of row) ≡ true → given ≡ trapezium_in service (entry_of row))
      → Turn allowed s (TrapeziumCall pass service) (Scaled given) s
  trapezium_turn service given number gives = subst (λ (p : PassNumbers). Turn allowed s (TrapeziumCall p service) (Scaled given) s) is_pass
      (heeded allowed s (TrapeziumCall found service) (Scaled given) s (first_skip (service_faults service) (pass_faults (view_of s) found) number ∙ known') (none_breaks (λ _. false) (λ _. refl)) refl
      (λ _. ap {B = Answer} Scaled (gives opened ∙ ap (trapezium_in service) (sym at))) refl refl)

  close_checks : (places : ℕ) → first_of ((8, ltb places 10) ∷ []) ≡ None → first_of (checks (view_of s) (Close found places)) ≡ first_of (held_faults (entry_of row))
  close_checks places enough = first_skip ((8, ltb places 10) ∷ []) (passed (λ _. [])) enough ∙ held_left (λ _. [])

  pub close_refused : (places : ℕ) (refusal : Refusal) → first_of ((8, ltb places 10) ∷ []) ≡ None → (BearsRow ok u (entry_of row) → Refuses (held_faults (entry_of row)) refusal)
      → Turn allowed s (Close pass places) (Returned refusal pass) s
  close_refused places refusal enough refuses = subst (λ (p : PassNumbers). Turn allowed s (Close p places) (Returned refusal p) s) is_pass
      (under_rests allowed s (Close found places) (Returned refusal found) s (λ _. refl) refl (λ bears. turned_away allowed s (Close found places) (Returned refusal found) (told refusal) refl refl
      (ap (option_map plain) (close_checks places enough) ∙ refuses (bears_row bears))))

  pub close_turn : (places : ℕ) (row' : UnitRow) (table : List Figure) → first_of ((8, ltb places 10) ∷ []) ≡ None → length table ≡ 10
      → (BearsRow ok u (entry_of row) → (first_of (held_faults (entry_of row)) ≡ None) × ((service : ℕ) → service < 10 → FigureIn ok u service (entry_of row) (get_or table service no_figure)) × (entry_of row' ≡ option_map (with_interval None) (entry_of row)))
      → Turn allowed s (Close pass places) (Closed table) (with_rows s (set s.rows u row'))
  close_turn places row' table enough ten gives = subst (λ (p : PassNumbers). Turn allowed s (Close p places) (Closed table) (with_rows s (set s.rows u row'))) is_pass
      (under_rests allowed s (Close found places) (Closed table) (lent allowed s u d row' l) (λ e. let clash : ◌≡◌ {A = ℕ} 0 1 = cc in absurd (omega arith)) refl (λ bears.
      heeded allowed s (Close found places) (Closed table) (lent allowed s u d row' l) (close_checks places enough ∙ (gives (bears_row bears)).0) (none_breaks (λ _. false) (λ _. refl)) refl
      (λ _. (ten, λ service k. subst (λ (x : Option Entry). FigureIn ok u service x (get_or table service no_figure)) (sym at) ((gives (bears_row bears)).1 service k)))
      (lent_view allowed s u d row' l _ ((gives (bears_row bears)).2 ∙ ap (option_map (with_interval None)) (sym at))) refl))

-- a pass that is not known
module _ {P : Type 0} (allowed : P → Row → Bool) (s : Station P) (pass : PassNumbers) where
  pub unknown_amount : (service a : ℕ) (r : Result (Unit {0}) Refusal) (refusal : Refusal) → first_of (service_faults service) ≡ None → first_of (power_faults a) ≡ None → IsErrAnd r (λ e. e ≡ refusal) → Refuses (pass_faults (view_of s) pass) refusal
      → Turn allowed s (Amount pass service a) (done r) s
  unknown_amount service a r refusal number power said refuses =
      let rest = energy_faults (view_of s) pass ++ ((30, not (is_live service (unit_at (view_of s) pass.unit))) ∷ []) in
      by_refusal allowed s (Amount pass service a) refl done (λ _. refl) r (told refusal) (same_told r refusal said)
      (ap (option_map plain) (first_skip (service_faults service) (power_faults a ++ pass_faults (view_of s) pass ++ rest) number ∙ first_skip (power_faults a) (pass_faults (view_of s) pass ++ rest) power) ∙ refused_early (pass_faults (view_of s) pass) rest refusal refuses)

  pub unknown_figure : (service : ℕ) (r : Result Figure Refusal) (refusal : Refusal) → first_of (service_faults service) ≡ None → IsErrAnd r (λ e. e ≡ refusal) → Refuses (pass_faults (view_of s) pass) refusal
      → Turn allowed s (FigureCall pass service) (figured r) s
  unknown_figure service r refusal number said refuses = by_refusal allowed s (FigureCall pass service) refl figured (λ _. refl) r (told refusal) (same_told r refusal said)
      (ap (option_map plain) (first_skip (service_faults service) (pass_faults (view_of s) pass ++ energy_faults (view_of s) pass) number) ∙ refused_early (pass_faults (view_of s) pass) (energy_faults (view_of s) pass) refusal refuses)

  pub unknown_probe : (service energy : ℕ) (r : Result (Option Figure) Refusal) (refusal : Refusal) → first_of (service_faults service) ≡ None → first_of (power_faults energy) ≡ None → IsErrAnd r (λ e. e ≡ refusal) → Refuses (pass_faults (view_of s) pass) refusal
      → Turn allowed s (Probe pass service energy) (probed_by r) s
  unknown_probe service energy r refusal number power said refuses = by_refusal allowed s (Probe pass service energy) refl probed_by (λ _. refl) r (told refusal) (same_told r refusal said)
      (ap (option_map plain) (first_skip (service_faults service) (power_faults energy ++ pass_faults (view_of s) pass) number ∙ first_skip (power_faults energy) (pass_faults (view_of s) pass) power) ∙ refuses)

  pub unknown_trapezium : (service : ℕ) (r : Result (Option Trapezium) Refusal) (refusal : Refusal) → first_of (service_faults service) ≡ None → IsErrAnd r (λ e. e ≡ refusal) → Refuses (pass_faults (view_of s) pass) refusal
      → Turn allowed s (TrapeziumCall pass service) (scaled r) s
  unknown_trapezium service r refusal number said refuses = by_refusal allowed s (TrapeziumCall pass service) refl scaled (λ _. refl) r (told refusal) (same_told r refusal said)
      (ap (option_map plain) (first_skip (service_faults service) (pass_faults (view_of s) pass) number) ∙ refuses)

  pub unknown_close : (places : ℕ) (refusal : Refusal) → first_of ((8, ltb places 10) ∷ []) ≡ None → Refuses (pass_faults (view_of s) pass) refusal → Turn allowed s (Close pass places) (Returned refusal pass) s
  unknown_close places refusal enough refuses = turned_away allowed s (Close pass places) (Returned refusal pass) (told refusal) refl refl
      (ap (option_map plain) (first_skip ((8, ltb places 10) ∷ []) (pass_faults (view_of s) pass ++ energy_faults (view_of s) pass) enough) ∙ refused_early (pass_faults (view_of s) pass) (energy_faults (view_of s) pass) refusal refuses)

-- what `?` makes of a refused close
pub enough : (places : ℕ) → 10 ≤ places → first_of ((8, ltb places 10) ∷ []) ≡ None
enough places l = rw (le-ltb places 10 l) refl

front_back : (front rest : List Figure) (n : ℕ) → length front ≡ n → (take n (front ++ rest) ≡ front) × (drop n (front ++ rest) ≡ rest)
front_back [] rest zero e = (refl, refl)
front_back [] rest (suc n) e = absurd (omega (arith, e))
front_back (x ∷ front) rest zero e = absurd (omega (arith, e))
front_back (x ∷ front) rest (suc n) e =
    let both = front_back front rest n (omega (arith, e)) in
    (ap {B = List Figure} (λ t. x ∷ t) both.0, both.1)

-- a table with its front filled
pub filled : (table after figures : List Figure) → length figures ≡ 10 → after ≡ figures ++ drop 10 table → (take 10 after ≡ figures) × (drop 10 after ≡ drop 10 table)
filled table after figures ten e =
    let both = front_back figures (drop 10 table) 10 ten in
    (ap (take 10) e ∙ both.0, ap (drop 10) e ∙ both.1)

-- of a table's length it counts only whether there are ten places
pub same_places : {P : Type 0} (allowed : P → Row → Bool) (s : Station P) (pass : PassNumbers) (a b : ℕ) (answer : Answer) (next : Station P) → ltb a 10 ≡ ltb b 10 → Turn allowed s (Close pass a) answer next → Turn allowed s (Close pass b) answer next
same_places allowed s pass a b answer next same turn =
    let firsts : first_of (checks (view_of s) (Close pass a)) ≡ first_of (checks (view_of s) (Close pass b)) = ap (λ (short : Bool). cond short (Some 8) (first_of (pass_faults (view_of s) pass ++ energy_faults (view_of s) pass))) same in
    let all : passes (allowed s.plant) (view_of s) (Close pass a) ≡ passes (allowed s.plant) (view_of s) (Close pass b) = ap (λ (o : Option ℕ). not (is_some o) && not (some_breaks (λ _. false))) firsts in
    record {
      right = λ rests. record {
        exactly = (turn.right rests).exactly ∙ all;
        refused = λ n e. (turn.right rests).refused n (firsts ∙ e);
        given = λ e. (turn.right rests).given (firsts ∙ e);
      };
      book = λ rests. turn.book rests ∙ ap (λ (heard : Bool). cond heard (written (view_of s) (Close pass b)) (view_of s)) all;
      unchanged = turn.unchanged;
      plant = turn.plant;
    }
