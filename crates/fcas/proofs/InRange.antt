-- What the one test of a reading says of each of its fields.
use Rattle.std.proofs.Common.{◌≡◌, ◌≤◌, Bool, true, ◌&&◌, leb, Some, None, Option, refl, arith}
use lib.Ieee.{Float}
use Rattle.std.proofs.lemmas.Bool.{and_parts, leb-true}
use Rattle.std.specs.Option.{unwrap_or}
use Rattle.fcas.specs.declared.reading.Reading.{Reading}
use Rattle.fcas.specs.Kilowatts.{zero_mw, most_ramp_mw, most_mw, least_mw, within, within_if, kilowatts_if}
use Rattle.fcas.specs.Reading.{in_range}
use Rattle.fcas.proofs.Ranges.{ramp_is_power, unsigned_power, unsigned_ramp}

pub record Parts (r : Reading) : Type 0 where
  pub lower : within_if zero_mw most_mw r.agc_lower ≡ true
  pub upper : within_if zero_mw most_mw r.agc_upper ≡ true
  pub of_ramp_up : within_if zero_mw most_ramp_mw r.ramp_up ≡ true
  pub of_ramp_down : within_if zero_mw most_ramp_mw r.ramp_down ≡ true
  pub uigf : within_if zero_mw most_mw r.uigf ≡ true
  pub energy : r.energy_max ≤ 4000000

eight : (a b c d e f g h : Bool) → (a && b && c && d && e && f && g && h) ≡ true → (b ≡ true) × (c ≡ true) × (d ≡ true) × (e ≡ true) × (f ≡ true) × (g ≡ true)
eight a b c d e f g h t =
    let p6 = and_parts (a && b && c && d && e && f) g (and_parts (a && b && c && d && e && f && g) h t).0 in
    let p5 = and_parts (a && b && c && d && e) f p6.0 in
    let p4 = and_parts (a && b && c && d) e p5.0 in
    let p3 = and_parts (a && b && c) d p4.0 in
    let p2 = and_parts (a && b) c p3.0 in
    ((and_parts a b p2.0).1, p2.1, p3.1, p4.1, p5.1, p6.1)

pub parts : (r : Reading) → in_range r ≡ true → Parts r
parts r t =
    let p = eight (within least_mw most_mw r.initial) (within_if zero_mw most_mw r.agc_lower) (within_if zero_mw most_mw r.agc_upper) (within_if zero_mw most_ramp_mw r.ramp_up)
    (within_if zero_mw most_ramp_mw r.ramp_down) (within_if zero_mw most_mw r.uigf) (leb r.energy_max 4000000) (leb r.agc_status 2) t in
    record { lower = p.0; upper = p.1; of_ramp_up = p.2; of_ramp_down = p.3; uigf = p.4; energy = leb-true r.energy_max 4000000 p.5 }

-- what is in its range as a float is in its range as kilowatts

pub power_if : (x : Option Float) → within_if zero_mw most_mw x ≡ true → unwrap_or (kilowatts_if x) 0 ≤ 4000000
power_if None e = omega arith
power_if (Some x) e = let p = unsigned_power x e in rw p.2 p.1

pub ramp_if : (x : Option Float) → within_if zero_mw most_ramp_mw x ≡ true → unwrap_or (kilowatts_if x) 0 ≤ 800000
ramp_if None e = omega arith
ramp_if (Some x) e = let p = unsigned_ramp x e in rw p.2 p.1

pub ramp_in_range : (x : Option Float) → within_if zero_mw most_ramp_mw x ≡ true → within_if zero_mw most_mw x ≡ true
ramp_in_range None e = refl
ramp_in_range (Some x) e = ramp_is_power x e
