-- Whether a pass is known.
use Rattle.std.proofs.Common.{◌≡◌, ℕ, zero, suc, ◌<◌, ◌≤◌, Bool, true, false, cond, not, ◌&&◌, eqb, List, [], ◌∷◌, length, get_or, Some, None, Option, refl, ap, ◌∙◌, arith}
use Rattle.std.proofs.lemmas.Bool.{eq-eqb}
use Rattle.fcas.specs.Checks.{first_of}
use Rattle.station.specs.Book.{Book, pass_faults, unit_at}
use Rattle.station.specs.Entry.{Entry, Interval, is_open, is_under}
use Rattle.station.specs.View.{entries_of, entry_of}
use Rattle.station.specs.declared.pass.PassNumbers.{PassNumbers}
use Rattle.station.specs.declared.row.UnitRow.{UnitRow}
use Rattle.station.proofs.Turns.{entries_at}

-- the check of a pass, by its two halves
check_is : (a b : Bool) → first_of ((28, not (a && b)) ∷ []) ≡ cond a (cond b None (Some 28)) (Some 28)
check_is true true = refl
check_is true false = refl
check_is false b = refl

no_entry : (rows : List UnitRow) (i : ℕ) → length rows ≤ i → get_or (entries_of rows) i None ≡ None
no_entry [] i l = refl
no_entry (row ∷ rows) zero l = absurd (omega arith)
no_entry (row ∷ rows) (suc i) l = no_entry rows i (omega arith)

module _ (number : ℕ) (rows : List UnitRow) (pass : PassNumbers) where
  abbrev book : Book
  book = record { number = number; next = 0; units = entries_of rows }

  abbrev under : Bool
  under = is_under pass.serial (unit_at book pass.unit)

  not_under : (b : Bool) → under ≡ false → first_of ((28, not (b && under)) ∷ []) ≡ Some 28
  not_under true e = rw e refl
  not_under false e = refl

  pub no_unit : length rows ≤ pass.unit → first_of (pass_faults book pass) ≡ Some 28
  no_unit l = not_under (eqb pass.station number) (ap (is_under pass.serial) (no_entry rows pass.unit l))

  module _ (d : UnitRow) (l : pass.unit < length rows) where
    pub other_serial : is_under pass.serial (entry_of (get_or rows pass.unit d)) ≡ false → first_of (pass_faults book pass) ≡ Some 28
    other_serial e = not_under (eqb pass.station number) (ap (is_under pass.serial) (entries_at rows pass.unit d l) ∙ e)

    pub known : pass.station ≡ number → is_under pass.serial (entry_of (get_or rows pass.unit d)) ≡ true → first_of (pass_faults book pass) ≡ None
    known same e =
        let u : under ≡ true = ap (is_under pass.serial) (entries_at rows pass.unit d l) ∙ e in
        check_is (eqb pass.station number) under ∙ rw (eq-eqb pass.station number same, u) refl

-- a pass that is known is that of an open unit
under_open : (serial : ℕ) (entry : Option Entry) → is_under serial entry ≡ true → is_open entry ≡ true
under_open serial None e = e
under_open serial (Some entry) e = by entry.interval e
  where
    by : (interval : Option Interval) → is_under serial (Some (record { kind = entry.kind; bids = entry.bids; interval = interval })) ≡ true → is_open (Some (record { kind = entry.kind; bids = entry.bids; interval = interval })) ≡ true
    by None e = e
    by (Some interval) e = refl

both : (a b : Bool) → first_of ((28, not (a && b)) ∷ []) ≡ None → (a ≡ true) × (b ≡ true)
both true true e = (refl, refl)
both true false e = let clash : ◌≡◌ {A = ℕ} 0 1 = cc in absurd (omega arith)
both false b e = let clash : ◌≡◌ {A = ℕ} 0 1 = cc in absurd (omega arith)

pub known_open : (book : Book) (pass : PassNumbers) → first_of (pass_faults book pass) ≡ None → is_open (unit_at book pass.unit) ≡ true
known_open book pass e = under_open pass.serial (unit_at book pass.unit) (both (eqb pass.station book.number) (is_under pass.serial (unit_at book pass.unit)) e).1
