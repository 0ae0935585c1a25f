-- A call that is refused, and one that is accepted.
use Rattle.std.proofs.Common.{◌≡◌, ℕ, zero, suc, ◌<◌, Bool, true, false, List, [], ◌∷◌, ◌++◌, length, get_or, set, is_some, IsErrAnd, Some, None, Ok, Err, Option, Result, sym, refl, ap, ◌∙◌, subst, arith}
use lib.Seq.{set-get_or}
use Rattle.std.specs.Option.{option_map}
use Rattle.fcas.specs.Checks.{Finding, first_of}
use Rattle.fcas.specs.Kind.{kind_number}
use Rattle.fcas.specs.declared.kind.Kind.{Kind}
use Rattle.fcas.specs.declared.kind.Kind.TheVariants.{Generator, SemiScheduled, Load, DemandResponse}
use Rattle.limits.specs.declared.limit.Limit.{Limit}
use Rattle.limits.specs.declared.limit.Limit.TheVariants.{Availability, Upper, Lower, RampUp, RampDown, Plant}
use Rattle.limits.specs.declared.row.Row.{Row}
use Rattle.station.specs.Book.{broken_by, checks, enter, kind_of, passes, some_below, some_breaks, unit_at, written}
use Rattle.station.specs.Entry.{Entry, kind_in}
use Rattle.station.specs.Lent.{Declines, Lent, Tried}
use Rattle.states.specs.Refusal.{Told, plain, told}
use Rattle.station.specs.Right.{Gives, Settles, accepted, handed_back, pass_in, refusal_in}
use Rattle.station.specs.Turn.{Rests, Turn, done}
use Rattle.station.specs.View.{entries_of, entry_of, view_of}
use Rattle.station.specs.declared.call.Answer.{Answer}
use Rattle.station.specs.declared.call.Answer.TheVariants.{Done, Refused}
use Rattle.station.specs.declared.call.Call.{Call}
use Rattle.states.specs.declared.refusal.Refusal.{Refusal}
use Rattle.station.specs.declared.row.UnitRow.{UnitRow}
use Rattle.station.specs.declared.station.Station.{Station}
use Rattle.station.proofs.Firsts.{first_skip}

-- none of the limits breaks where none does
none_below : (n : ℕ) (broken : Limit → Bool) → ((limit : Limit) → broken limit ≡ false) → some_below n broken ≡ false
none_below zero broken none = refl
none_below (suc n) broken none = rw (none (Availability n), none (Upper n), none (Lower n)) (none_below n broken none)

pub none_breaks : (broken : Limit → Bool) → ((limit : Limit) → broken limit ≡ false) → some_breaks broken ≡ false
none_breaks broken none = rw (none_below 10 broken none, none RampUp, none RampDown, none Plant) refl

-- what is said of a refusal is its number
said : (o : Option ℕ) (t : Told) (n : ℕ) → option_map plain o ≡ Some t → o ≡ Some n → ◌≡◌ {A = Option Told} (Some t) (Some (plain n))
said None t n e f = let clash : ◌≡◌ {A = ℕ} 0 1 = cc in absurd (omega arith)
said (Some m) t n e f = cc

says_some : (o : Option ℕ) (t : Told) → option_map plain o ≡ Some t → is_some o ≡ true
says_some None t e = let clash : ◌≡◌ {A = ℕ} 0 1 = cc in absurd (omega arith)
says_some (Some m) t e = refl

not_none : (o : Option ℕ) (t : Told) → option_map plain o ≡ Some t → o ≡ None → ⊥
not_none None t e f = let clash : ◌≡◌ {A = ℕ} 0 1 = cc in omega arith
not_none (Some m) t e f = let clash : ◌≡◌ {A = ℕ} 0 1 = cc in omega arith

some_none : (o : Option ℕ) (n : ℕ) → o ≡ None → o ≡ Some n → ⊥
some_none o n e f = let clash : ◌≡◌ {A = ℕ} 0 1 = cc in omega arith

true_false : true ≡ false → ⊥
true_false e = let clash : ◌≡◌ {A = ℕ} 0 1 = cc in omega arith

accepted_refused : (answer : Answer) (t : Told) → refusal_in answer ≡ Some t → accepted answer ≡ false
accepted_refused answer t e = rw e refl

module _ {P : Type 0} (allowed : P → Row → Bool) (s : Station P) (call : Call) where
  abbrev ok : Row → Bool
  ok = allowed s.plant

  -- refused by a check: the station is what it was
  pub turned_away : (answer : Answer) (t : Told) → refusal_in answer ≡ Some t → pass_in answer ≡ handed_back call → option_map plain (first_of (checks (view_of s) call)) ≡ Some t → Turn allowed s call answer s
  turned_away answer t says back e =
      let never : passes ok (view_of s) call ≡ false = rw (says_some (first_of (checks (view_of s) call)) t e) refl in
      record {
        right = λ _. record {
          exactly = accepted_refused answer t says ∙ sym never;
          refused = λ n f. (says ∙ said (first_of (checks (view_of s) call)) t n e f, back);
          given = λ f. absurd (not_none (first_of (checks (view_of s) call)) t e f);
        };
        book = λ _. rw never refl;
        unchanged = λ _. refl;
        plant = refl;
      }

  -- accepted: the book is written
  pub heeded : (answer : Answer) (next : Station P) → first_of (checks (view_of s) call) ≡ None → some_breaks (broken_by ok (view_of s) call) ≡ false → accepted answer ≡ true
      → (Rests ok (view_of s) call → Gives ok (view_of s) call answer) → view_of next ≡ written (view_of s) call → next.plant ≡ s.plant → Turn allowed s call answer next
  heeded answer next none borne heard gives view plant =
      let always : passes ok (view_of s) call ≡ true = rw (none, borne) refl in
      record {
        right = λ rests. record {
          exactly = heard ∙ sym always;
          refused = λ n f. absurd (some_none (first_of (checks (view_of s) call)) n none f);
          given = λ _. gives rests;
        };
        book = λ _. view ∙ rw always refl;
        unchanged = λ no. absurd (true_false (sym heard ∙ no));
        plant = plant;
      }

pub entries_set : (rows : List UnitRow) (i : ℕ) (row : UnitRow) → entries_of (set rows i row) ≡ set (entries_of rows) i (entry_of row)
entries_set [] i row = refl
entries_set (x ∷ rows) zero row = refl
entries_set (x ∷ rows) (suc i) row = ap {B = List (Option Entry)} (λ t. entry_of x ∷ t) (entries_set rows i row)

pub entries_at : (rows : List UnitRow) (i : ℕ) (d : UnitRow) → i < length rows → get_or (entries_of rows) i None ≡ entry_of (get_or rows i d)
entries_at [] i d l = absurd (omega arith)
entries_at (x ∷ rows) zero d l = refl
entries_at (x ∷ rows) (suc i) d l = entries_at rows i d (omega arith)

abbrev pub with_rows : {P : Type 0} → Station P → List UnitRow → Station P
with_rows s rows = record { number = s.number; next = s.next; rows = rows; plant = s.plant }

-- a call that is lent the row of a unit
module _ {P : Type 0} (allowed : P → Row → Bool) (s : Station P) (u : ℕ) (d row' : UnitRow) (l : u < length s.rows) where
  abbrev pub lent : Station P
  lent = with_rows s (set s.rows u row')

  pub unit_is : unit_at (view_of s) u ≡ entry_of (get_or s.rows u d)
  unit_is = entries_at s.rows u d l

  pub lent_view : (entry : Option Entry) → entry_of row' ≡ entry → view_of lent ≡ enter (view_of s) u entry
  lent_view entry e = ap (λ (units : List (Option Entry)). record { number = s.number; next = s.next; units = units }) (entries_set s.rows u row' ∙ ap (set (entries_of s.rows) u) e)

  pub lent_same : row' ≡ get_or s.rows u d → lent ≡ s
  lent_same e = ap (with_rows s) (ap (set s.rows u) e ∙ set-get_or s.rows u d)

  module _ (call : Call) (front : List Finding) (rest : Option Entry → List Finding) (writes : Option Entry → Option Entry) (none : first_of front ≡ None)
      (checked : checks (view_of s) call ≡ front ++ rest (unit_at (view_of s) u)) (back : handed_back call ≡ None) where
    firsts : first_of (checks (view_of s) call) ≡ first_of (rest (entry_of (get_or s.rows u d)))
    firsts = ap first_of checked ∙ first_skip front (rest (unit_at (view_of s) u)) none ∙ ap (λ (x : Option Entry). first_of (rest x)) unit_is

    pub by_unit : (r : Result (Unit {0}) Refusal) → ((limit : Limit) → broken_by (allowed s.plant) (view_of s) call limit ≡ false) → Gives (allowed s.plant) (view_of s) call Done → written (view_of s) call ≡ enter (view_of s) u (writes (unit_at (view_of s) u))
        → Lent (rest (entry_of (get_or s.rows u d))) (writes (entry_of (get_or s.rows u d))) (get_or s.rows u d) row' r → Turn allowed s call (done r) lent
    by_unit (Ok x) borne gives writing turn = heeded allowed s call Done lent (firsts ∙ turn.0) (none_breaks _ borne) refl (λ _. gives)
        (lent_view _ (turn.1 ∙ ap writes (sym unit_is)) ∙ sym writing) refl
    by_unit (Err refusal) borne gives writing turn = subst (λ (t : Station P). Turn allowed s call (Refused refusal) t) (sym (lent_same turn.1))
        (turned_away allowed s call (Refused refusal) (told refusal) refl (sym back) (ap (option_map plain) firsts ∙ turn.0))

kind_numbered : (kind : Kind) → kind_of (kind_number kind) ≡ kind
kind_numbered Generator = refl
kind_numbered SemiScheduled = refl
kind_numbered Load = refl
kind_numbered DemandResponse = refl

pub kind_is : (kind : Kind) (number : ℕ) → kind_number kind ≡ number → kind_of number ≡ kind
kind_is kind number e = ap kind_of (sym e) ∙ kind_numbered kind

-- what rests on a premise is shown under it
pub under_rests : {P : Type 0} (allowed : P → Row → Bool) (s : Station P) (call : Call) (answer : Answer) (next : Station P) → (accepted answer ≡ false → next ≡ s) → next.plant ≡ s.plant
    → (Rests (allowed s.plant) (view_of s) call → Turn allowed s call answer next) → Turn allowed s call answer next
under_rests allowed s call answer next same plant turn = record { right = λ rests. (turn rests).right rests; book = λ rests. (turn rests).book rests; unchanged = same; plant = plant }

module _ {P : Type 0} (allowed : P → Row → Bool) (s : Station P) (call : Call) (back : handed_back call ≡ None) where
  -- what `?` makes of a refusal
  pub by_refusal : {X : Type 0} (f : Result X Refusal → Answer) → ((refusal : Refusal) → f (Err refusal) ≡ Refused refusal) → (r : Result X Refusal) (t : Told) → IsErrAnd r (λ refusal. told refusal ≡ t)
      → option_map plain (first_of (checks (view_of s) call)) ≡ Some t → Turn allowed s call (f r) s
  by_refusal f fits (Ok x) t said first = elim said [ ]
  by_refusal f fits (Err refusal) t said first = subst (λ (answer : Answer). Turn allowed s call answer s) (sym (fits refusal))
      (turned_away allowed s call (Refused refusal) (told refusal) refl (sym back) (first ∙ ap {B = Option Told} Some (sym said)))

  -- a limit broke where every check passed
  pub limited : (refusal : Refusal) → first_of (checks (view_of s) call) ≡ None → some_breaks (broken_by (allowed s.plant) (view_of s) call) ≡ true → Gives (allowed s.plant) (view_of s) call (Refused refusal) → Turn allowed s call (Refused refusal) s
  limited refusal none broke gives =
      let never : passes (allowed s.plant) (view_of s) call ≡ false = rw (none, broke) refl in
      record {
        right = λ _. record {
          exactly = sym never;
          refused = λ n f. absurd (some_none (first_of (checks (view_of s) call)) n none f);
          given = λ _. gives;
        };
        book = λ _. rw never refl;
        unchanged = λ _. refl;
        plant = refl;
      }

  module _ (u : ℕ) (d row' : UnitRow) (l : u < length s.rows) (broken : Option Entry → Limit → Bool) (writes : Option Entry → Option Entry)
      (asks : broken_by (allowed s.plant) (view_of s) call ≡ broken (unit_at (view_of s) u))
      (settles : (answer : Answer) → Settles (broken (unit_at (view_of s) u)) (kind_in (unit_at (view_of s) u)) answer → Gives (allowed s.plant) (view_of s) call answer)
      (writing : written (view_of s) call ≡ enter (view_of s) u (writes (unit_at (view_of s) u))) where
    abbrev row : UnitRow
    row = get_or s.rows u d

    at : unit_at (view_of s) u ≡ entry_of row
    at = unit_is allowed s u d row' l

    settled : (answer : Answer) → Settles (broken (entry_of row)) (kind_in (entry_of row)) answer → Gives (allowed s.plant) (view_of s) call answer
    settled answer h = settles answer (subst (λ (x : Option Entry). Settles (broken x) (kind_in x) answer) (sym at) h)

    refused_by : (o : Option ℕ) (refusal : Refusal) → first_of (checks (view_of s) call) ≡ o → ((limit : Limit) → broken (entry_of row) limit ≡ true → some_breaks (broken (entry_of row)) ≡ true)
        → Declines o (broken (entry_of row)) (kind_in (entry_of row)) (told refusal) → Turn allowed s call (Refused refusal) s
    refused_by None refusal e some declines = limited refusal e
        (subst (λ (b : Limit → Bool). some_breaks b ≡ true) (sym (asks ∙ ap broken at)) (some declines.limit declines.first.here)) (settled (Refused refusal) declines)
    refused_by (Some n) refusal e some declines = turned_away allowed s call (Refused refusal) (told refusal) refl (sym back) (ap (option_map plain) e ∙ ap {B = Option Told} Some (sym declines))

    -- a call that asks for another row
    pub by_trial : (r : Result (Unit {0}) Refusal) (faults : List Finding) → first_of (checks (view_of s) call) ≡ first_of faults → ((limit : Limit) → broken (entry_of row) limit ≡ true → some_breaks (broken (entry_of row)) ≡ true)
        → Tried faults (broken (entry_of row)) (kind_in (entry_of row)) (writes (entry_of row)) row row' r → Turn allowed s call (done r) (with_rows s (set s.rows u row'))
    by_trial (Ok x) faults e some tried = heeded allowed s call Done (lent allowed s u d row' l) (e ∙ tried.0)
        (subst (λ (b : Limit → Bool). some_breaks b ≡ false) (sym (asks ∙ ap broken at)) (none_breaks (broken (entry_of row)) tried.1)) refl (λ _. settled Done tried.1)
        (lent_view allowed s u d row' l _ (tried.2 ∙ ap writes (sym at)) ∙ sym writing) refl
    by_trial (Err refusal) faults e some tried = subst (λ (t : Station P). Turn allowed s call (Refused refusal) t) (sym (lent_same allowed s u d row' l tried.1))
        (refused_by (first_of faults) refusal e some tried.0)
