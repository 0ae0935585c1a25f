-- What one call does to a station: the promise of each of the thirteen calls.
use Rattle.std.specs.Prelude.{◌≡◌, Bool, false, List, take, Ok, Err, Option, Result}
use Rattle.fcas.specs.declared.trapezium.Trapezium.{Trapezium}
use Rattle.limits.specs.declared.figure.Figure.{Figure}
use Rattle.limits.specs.declared.row.Row.{Row}
use Rattle.station.specs.Book.{Bears, Book, after}
use Rattle.station.specs.Right.{Right, accepted}
use Rattle.station.specs.View.{view_of}
use Rattle.station.specs.declared.call.Answer.{Answer}
use Rattle.station.specs.declared.call.Answer.TheVariants.{Done, Opened, Probed, Closed, Refused, Figure as Figured, Trapezium as Scaled, Returned as HandedBack}
use Rattle.station.specs.declared.call.Call.{Call}
use Rattle.station.specs.declared.call.Call.TheVariants.{Enrol, Retire, Bid, Withdraw, Open, Energy, Amount, Figure as FigureCall, Probe, Trapezium as TrapeziumCall, Close, Abandon, Lapse}
use Rattle.station.specs.declared.pass.Pass.{Pass}
use Rattle.station.specs.declared.pass.Returned.{Returned}
use Rattle.states.specs.declared.refusal.Refusal.{Refusal}
use Rattle.station.specs.declared.station.Station.{Station}

-- A figure at the held energy is promised of a station whose rows are borne, as all are that the calls lead to; the other calls rest on nothing.
abbrev pub Rests : (Row → Bool) → Book → Call → Type 0
Rests allowed book (Enrol unit kind) = Unit {0}
Rests allowed book (Retire unit) = Unit {0}
Rests allowed book (Bid unit service bid) = Unit {0}
Rests allowed book (Withdraw unit service) = Unit {0}
Rests allowed book (Open unit reading) = Unit {0}
Rests allowed book (Energy pass energy) = Unit {0}
Rests allowed book (Amount pass service amount) = Unit {0}
Rests allowed book (FigureCall pass service) = Bears allowed book
Rests allowed book (Probe pass service energy) = Unit {0}
Rests allowed book (TrapeziumCall pass service) = Unit {0}
Rests allowed book (Close pass places) = Bears allowed book
Rests allowed book (Abandon pass) = Unit {0}
Rests allowed book (Lapse unit) = Unit {0}

-- The answer is right by the book that the station held, and the station then holds that book after the call. Refused, the station is what it was; the plant limit always is.
pub record Turn {P : Type 0} (allowed : P → Row → Bool) (before : Station P) (call : Call) (answer : Answer) (next : Station P) : Type 0 where
  pub right : Rests (allowed before.plant) (view_of before) call → Right (allowed before.plant) (view_of before) call answer
  pub book : Rests (allowed before.plant) (view_of before) call → view_of next ≡ after (allowed before.plant) (view_of before) call
  pub unchanged : accepted answer ≡ false → next ≡ before
  pub plant : next.plant ≡ before.plant

-- The results of the calls as answers.
abbrev pub done : Result (Unit {0}) Refusal → Answer
done (Ok x) = Done
done (Err refusal) = Refused refusal

abbrev pub opened_by : Result Pass Refusal → Answer
opened_by (Ok pass) = Opened pass.numbers
opened_by (Err refusal) = Refused refusal

abbrev pub figured : Result Figure Refusal → Answer
figured (Ok told) = Figured told
figured (Err refusal) = Refused refusal

abbrev pub probed_by : Result (Option Figure) Refusal → Answer
probed_by (Ok told) = Probed told
probed_by (Err refusal) = Refused refusal

abbrev pub scaled : Result (Option Trapezium) Refusal → Answer
scaled (Ok trapezium) = Scaled trapezium
scaled (Err refusal) = Refused refusal

-- A close gives the first ten places of the table.
abbrev pub closed_by : List Figure → Result (Unit {0}) Returned → Answer
closed_by table (Ok x) = Closed (take 10 table)
closed_by table (Err returned) = HandedBack returned.refusal returned.pass.numbers

-- The same before the pass is handed back.
abbrev pub closing : Pass → List Figure → Result (Unit {0}) Refusal → Answer
closing pass table (Ok x) = Closed (take 10 table)
closing pass table (Err refusal) = HandedBack refusal pass.numbers
