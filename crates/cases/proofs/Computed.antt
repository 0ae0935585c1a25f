-- The worked cases, by computation.
use Rattle.std.proofs.Common.{◌≡◌, ℕ, Bool, true, cond, not, Some, None, Ok, Result, refl, ap, ◌∙◌, subst}
use lib.Ieee.{of_bits, mul, le, to_signed}
use Rattle.std.specs.Float.{round_with}
use Rattle.fcas.specs.Bid.{bid_faults}
use Rattle.fcas.specs.Checks.{first_of}
use Rattle.fcas.specs.Kilowatts.{kilowatts_of}
use Rattle.fcas.specs.Reading.{in_range, measured_of, reading_faults}
use Rattle.fcas.specs.Trapezium.{trapezium_of}
use Rattle.fcas.specs.declared.bid.Bid.{Bid}
use Rattle.fcas.specs.declared.kind.Kind.TheVariants.{Generator}
use Rattle.fcas.specs.declared.reading.Reading.{Reading}
use Rattle.fcas.specs.declared.refusal.Refusal.{Refusal}
use Rattle.fcas.specs.declared.trapezium.Trapezium.{Trapezium}
use Rattle.cases.specs.Worked.{Worked, generator}

pub worked : Worked
unfolding kilowatts_of of_bits mul round_with to_signed
worked = record { raise = refl; lower = refl; wind = refl }

in_range_lem : in_range generator ≡ true
unfolding le of_bits
in_range_lem = refl

-- the generator's reading is never refused
pub generator_taken : (r : Reading) (n : ℕ) → r ≡ generator → first_of (reading_faults r) ≡ Some n → ⊥
generator_taken r n e h =
    let refused : None ≡ Some n = subst (λ (b : Bool). cond (not b) (Some 6) None ≡ Some n) (ap in_range e ∙ in_range_lem) h in
    cc

-- a good bid has its trapezium
pub trapezium_known : (service s : ℕ) (bid b : Bid) (t : Trapezium) (r : Result Trapezium Refusal) → service ≡ s → bid ≡ b → first_of (bid_faults b) ≡ None → trapezium_of Generator s b (measured_of generator) ≡ t
    → (first_of (bid_faults bid) ≡ None → r ≡ Ok (trapezium_of Generator service bid (measured_of generator))) → r ≡ Ok t
trapezium_known service s bid b t r es eb good is known =
    known (ap (λ (x : Bid). first_of (bid_faults x)) eb ∙ good)
    ∙ ap (λ (x : ℕ). Ok (trapezium_of Generator x bid (measured_of generator))) es
    ∙ ap (λ (x : Bid). Ok (trapezium_of Generator s x (measured_of generator))) eb
    ∙ ap Ok is
