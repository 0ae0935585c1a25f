-- Which answer to a call is right, by the book as it stands when the call comes.
use Rattle.std.specs.Prelude.{◌≡◌, ℕ, ◌<◌, Bool, not, List, length, is_some, IsSomeAnd, Some, None, Option, slice_index_or}
use Rattle.fcas.specs.Checks.{first_of}
use Rattle.fcas.specs.declared.kind.Kind.{Kind}
use Rattle.limits.specs.Figure.{no_figure}
use Rattle.limits.specs.Limit.{Borne}
use Rattle.limits.specs.declared.figure.Figure.{Figure}
use Rattle.limits.specs.declared.limit.Limit.{Limit}
use Rattle.limits.specs.declared.row.Row.{Row}
use Rattle.station.specs.Book.{Book, broken_by, checks, passes, unit_at}
use Rattle.station.specs.Entry.{FigureIn, ProbedIn, kind_in, trapezium_in}
use Rattle.states.specs.Refusal.{Named, Told, plain, told}
use Rattle.station.specs.declared.call.Answer.{Answer}
use Rattle.station.specs.declared.call.Answer.TheVariants.{Done, Opened, Probed, Closed, Refused, Returned, Figure as Figured, Trapezium as Scaled}
use Rattle.station.specs.declared.call.Call.{Call}
use Rattle.station.specs.declared.call.Call.TheVariants.{Enrol, Retire, Bid, Withdraw, Open, Energy, Amount, Figure as FigureCall, Probe, Trapezium, Close, Abandon, Lapse}
use Rattle.station.specs.declared.pass.PassNumbers.{PassNumbers}

-- What an answer says of a refusal, and the pass that it gives.
abbrev pub refusal_in : Answer → Option Told
refusal_in Done = None
refusal_in (Opened pass) = None
refusal_in (Figured told) = None
refusal_in (Probed told) = None
refusal_in (Scaled trapezium) = None
refusal_in (Closed table) = None
refusal_in (Refused refusal) = Some (told refusal)
refusal_in (Returned refusal pass) = Some (told refusal)

abbrev pub pass_in : Answer → Option PassNumbers
pass_in Done = None
pass_in (Opened pass) = Some pass
pass_in (Figured told) = None
pass_in (Probed told) = None
pass_in (Scaled trapezium) = None
pass_in (Closed table) = None
pass_in (Refused refusal) = None
pass_in (Returned refusal pass) = Some pass

abbrev pub accepted : Answer → Bool
accepted answer = not (is_some (refusal_in answer))

-- A close that is refused hands back the pass that it took.
abbrev pub handed_back : Call → Option PassNumbers
handed_back (Enrol unit kind) = None
handed_back (Retire unit) = None
handed_back (Bid unit service bid) = None
handed_back (Withdraw unit service) = None
handed_back (Open unit reading) = None
handed_back (Energy pass energy) = None
handed_back (Amount pass service amount) = None
handed_back (FigureCall pass service) = None
handed_back (Probe pass service energy) = None
handed_back (Trapezium pass service) = None
handed_back (Close pass places) = Some pass
handed_back (Abandon pass) = None
handed_back (Lapse unit) = None

-- An energy or an amount is taken where the new row is borne; else the first limit that breaks is named.
abbrev pub Settles : (Limit → Bool) → Kind → Answer → Type 0
Settles broken kind Done = Borne broken
Settles broken kind (Opened pass) = ⊥
Settles broken kind (Figured told) = ⊥
Settles broken kind (Probed told) = ⊥
Settles broken kind (Scaled trapezium) = ⊥
Settles broken kind (Closed table) = ⊥
Settles broken kind (Refused refusal) = Named broken kind (told refusal)
Settles broken kind (Returned refusal pass) = ⊥

-- The figure, the probed figure or the ten figures that an answer gives.
abbrev pub figure_in : Answer → Option Figure
figure_in (Figured told) = Some told
figure_in Done = None
figure_in (Opened pass) = None
figure_in (Probed told) = None
figure_in (Scaled trapezium) = None
figure_in (Closed table) = None
figure_in (Refused refusal) = None
figure_in (Returned refusal pass) = None

abbrev pub probed_in : Answer → Option (Option Figure)
probed_in (Probed told) = Some told
probed_in Done = None
probed_in (Opened pass) = None
probed_in (Figured told) = None
probed_in (Scaled trapezium) = None
probed_in (Closed table) = None
probed_in (Refused refusal) = None
probed_in (Returned refusal pass) = None

abbrev pub table_in : Answer → Option (List Figure)
table_in (Closed table) = Some table
table_in Done = None
table_in (Opened pass) = None
table_in (Figured told) = None
table_in (Probed told) = None
table_in (Scaled trapezium) = None
table_in (Refused refusal) = None
table_in (Returned refusal pass) = None

-- What a call gives where none of its checks fails.
abbrev pub Gives : (Row → Bool) → Book → Call → Answer → Type 0
Gives allowed book (Enrol unit kind) answer = answer ≡ Done
Gives allowed book (Retire unit) answer = answer ≡ Done
Gives allowed book (Bid unit service bid) answer = answer ≡ Done
Gives allowed book (Withdraw unit service) answer = answer ≡ Done
Gives allowed book (Open unit reading) answer = answer ≡ Opened (record { station = book.number; unit = unit; serial = book.next })
Gives allowed book (Energy pass energy) answer = Settles (broken_by allowed book (Energy pass energy)) (kind_in (unit_at book pass.unit)) answer
Gives allowed book (Amount pass service amount) answer = Settles (broken_by allowed book (Amount pass service amount)) (kind_in (unit_at book pass.unit)) answer
Gives allowed book (FigureCall pass service) answer = IsSomeAnd (figure_in answer) (FigureIn allowed pass.unit service (unit_at book pass.unit))
Gives allowed book (Probe pass service energy) answer = IsSomeAnd (probed_in answer) (ProbedIn allowed pass.unit service energy (unit_at book pass.unit))
Gives allowed book (Trapezium pass service) answer = answer ≡ Scaled (trapezium_in service (unit_at book pass.unit))
Gives allowed book (Close pass places) answer = IsSomeAnd (table_in answer) (λ table. (length table ≡ 10) × ((service : ℕ) → service < 10 → FigureIn allowed pass.unit service (unit_at book pass.unit) (slice_index_or table service no_figure)))
Gives allowed book (Abandon pass) answer = answer ≡ Done
Gives allowed book (Lapse unit) answer = answer ≡ Done

-- A call is accepted exactly when it passes. Where a check fails, the first that does is named, and a close gives its pass back; where none does, it gives what it should.
pub record Right (allowed : Row → Bool) (book : Book) (call : Call) (answer : Answer) : Type 0 where
  pub exactly : accepted answer ≡ passes allowed book call
  pub refused : (number : ℕ) → first_of (checks book call) ≡ Some number → (refusal_in answer ≡ Some (plain number)) × (pass_in answer ≡ handed_back call)
  pub given : first_of (checks book call) ≡ None → Gives allowed book call answer
