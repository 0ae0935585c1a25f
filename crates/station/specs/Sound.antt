-- The law over runs: what holds of a station after any past whatever, under any plant limit.
use Rattle.std.specs.Prelude.{◌≡◌, ℕ, Bool, List, [], ◌∷◌}
use Rattle.limits.specs.declared.row.Row.{Row}
use Rattle.station.specs.Book.{Bears, Book, blank, book_after}
use Rattle.station.specs.Right.{Right}
use Rattle.station.specs.Turn.{Turn}
use Rattle.station.specs.View.{view_of}
use Rattle.station.specs.declared.call.Answer.{Answer}
use Rattle.station.specs.declared.call.Call.{Call}
use Rattle.station.specs.declared.station.Station.{Station}

-- A past: the calls since the making, each with the answer that it got, the latest first.
abbrev pub Past : Type 0
Past = List (Call × Answer)

abbrev pub calls_of : Past → List Call
calls_of [] = []
calls_of (turn ∷ earlier) = turn.0 ∷ calls_of earlier

-- Each answer was right by the book as it stood when its call came.
abbrev pub AllRight : (Row → Bool) → Book → Past → Type 0
AllRight allowed start [] = Unit {0}
AllRight allowed start (turn ∷ earlier) = Right allowed (book_after allowed start (calls_of earlier)) turn.0 turn.1 × AllRight allowed start earlier

-- A station made with a number, a first serial and a plant limit is sound after a past: it holds its units as the book of the calls has them, so that no other row is open; every answer was right; and every row that holds an energy breaks no limit.
pub record Sound {P : Type 0} (allowed : P → Row → Bool) (number first : ℕ) (limit : P) (past : Past) (station : Station P) : Type 0 where
  pub plant : station.plant ≡ limit
  pub rows : view_of station ≡ book_after (allowed limit) (blank number first) (calls_of past)
  pub answers : AllRight (allowed limit) (blank number first) past
  pub borne : Bears (allowed limit) (book_after (allowed limit) (blank number first) (calls_of past))

-- One call more after any past.
abbrev pub Follows : {P : Type 0} → (P → Row → Bool) → Station P → Call → Answer → Station P → Type 0
Follows {P} allowed before call answer next = (number first : ℕ) (limit : P) (past : Past) → Sound allowed number first limit past before → Sound allowed number first limit ((call, answer) ∷ past) next

-- The past of a list of calls with their answers, put upon an earlier one.
abbrev pub upon : Past → List Call → List Answer → Past
upon past [] answers = past
upon past (call ∷ calls) [] = past
upon past (call ∷ calls) (answer ∷ answers) = upon ((call, answer) ∷ past) calls answers

-- A station just made has the book of no calls.
pub record Made {P : Type 0} (number first : ℕ) (limit : P) (station : Station P) : Type 0 where
  pub plant : station.plant ≡ limit
  pub empty : view_of station ≡ blank number first

-- A station to which a past led: made, and then changed by calls each of which kept its promise.
abbrev pub Led : {P : Type 0} → (P → Row → Bool) → ℕ → ℕ → P → Past → Station P → Type 0
Led allowed number first limit [] station = Made number first limit station
Led {P} allowed number first limit (turn ∷ earlier) station = (before : Station P) × Led allowed number first limit earlier before × Turn allowed before turn.0 turn.1 station

-- Every station to which a past led is sound.
abbrev pub Lawful : {P : Type 0} → (P → Row → Bool) → Station P → Type 0
Lawful {P} allowed station = (number first : ℕ) (limit : P) (past : Past) → Led allowed number first limit past station → Sound allowed number first limit past station
