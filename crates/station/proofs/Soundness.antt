-- Every past is sound.
use Rattle.std.proofs.Common.{◌≡◌, ℕ, zero, suc, ◌<◌, Bool, List, [], ◌∷◌, ◌++◌, length, get_or, take, replicate, None, Option, sym, refl, ◌∙◌, subst, arith}
use Rattle.limits.specs.declared.row.Row.{Row}
use Rattle.station.specs.Book.{Bears, Book, after, blank, book_after}
use Rattle.station.specs.Entry.{BearsRow, Entry}
use Rattle.station.specs.Right.{Right}
use Rattle.station.specs.Sound.{Follows, Lawful, Made, Past, Sound, calls_of, upon}
use Rattle.station.specs.Turn.{Turn}
use Rattle.station.specs.View.{view_of}
use Rattle.station.specs.declared.call.Answer.{Answer}
use Rattle.station.specs.declared.call.Call.{Call}
use Rattle.station.specs.declared.station.Station.{Station}
use Rattle.station.proofs.Bearing.{bears_after, rests}

-- a station just made
no_unit : (n u : ℕ) → get_or {A = Option Entry} (replicate n None) u None ≡ None
no_unit zero u = refl
no_unit (suc n) zero = refl
no_unit (suc n) (suc u) = no_unit n u

pub made_sound : {P : Type 0} (allowed : P → Row → Bool) (number first : ℕ) (limit : P) (s : Station P) → Made number first limit s → Sound allowed number first limit [] s
made_sound allowed number first limit s made = record {
  plant = made.plant;
  rows = made.empty;
  answers = tt;
  borne = λ u. subst (BearsRow (allowed limit) u) (sym (no_unit 24 u)) tt;
}

-- one call more
pub follows : {P : Type 0} (allowed : P → Row → Bool) (s : Station P) (call : Call) (answer : Answer) (next : Station P) → Turn allowed s call answer next → Follows allowed s call answer next
follows {P} allowed s call answer next turn number first limit past sound =
    let book = book_after (allowed limit) (blank number first) (calls_of past) in
    let view : view_of s ≡ book = sound.rows in
    let can = rests (allowed limit) book sound.borne call in
    let turn' : (b : Book) (p : P) → view_of s ≡ b → s.plant ≡ p → Bears (allowed p) b → Right (allowed p) b call answer × (view_of next ≡ after (allowed p) b call) = λ b p e f bears.
    let bears' : Bears (allowed s.plant) (view_of s) = subst (λ (x : Book). Bears (allowed s.plant) x) (sym e) (subst (λ (q : P). Bears (allowed q) b) (sym f) bears) in
    let can' = rests (allowed s.plant) (view_of s) bears' call in
    subst (λ (q : P). Right (allowed q) b call answer × (view_of next ≡ after (allowed q) b call)) f
    (subst (λ (x : Book). Right (allowed s.plant) x call answer × (view_of next ≡ after (allowed s.plant) x call)) e (turn.right can', turn.book can')) in
    let both = turn' book limit view sound.plant sound.borne in
    record {
      plant = turn.plant ∙ sound.plant;
      rows = both.1;
      answers = (both.0, sound.answers);
      borne = bears_after (allowed limit) book sound.borne call answer both.0;
    }

-- any chain of the calls' own promises
pub lawful : {P : Type 0} (allowed : P → Row → Bool) (s : Station P) → Lawful allowed s
lawful allowed s number first limit [] led = made_sound allowed number first limit s led
lawful allowed s number first limit (turn ∷ earlier) led = follows allowed led.0 turn.0 turn.1 s led.2 number first limit earlier (lawful allowed led.0 number first limit earlier led.1)

-- a list of calls, run one by one
pub upon_more : (past : Past) (calls : List Call) (answers : List Answer) (i : ℕ) (d : Call) (answer : Answer) → i < length calls → length answers ≡ i
    → upon past (take (suc i) calls) (answers ++ (answer ∷ [])) ≡ (get_or calls i d, answer) ∷ upon past (take i calls) answers
upon_more past [] answers i d answer l e = absurd (omega arith)
upon_more past (call ∷ calls) [] zero d answer l e = refl
upon_more past (call ∷ calls) [] (suc i) d answer l e = absurd (omega (arith, e))
upon_more past (call ∷ calls) (a ∷ answers) zero d answer l e = absurd (omega (arith, e))
upon_more past (call ∷ calls) (a ∷ answers) (suc i) d answer l e = upon_more ((call, a) ∷ past) calls answers i d answer (omega arith) (omega (arith, e))
