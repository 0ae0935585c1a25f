use Rattle.std.proofs.Common.{◌≡◌, true, false, T, ℤ, pos, negsuc, ◌≤ℤ◌, sym, ap, ◌∙◌, subst, arith, w32, w64, SFits, to_z, of_z, rules}
use lib.Ieee.{Float, le, lt, fin}
use Rattle.std.proofs.lemmas.Int.{ints}
use Rattle.fcas.specs.Kilowatts.{nearest_whole, thousandfold, kilowatts_of}
use Rattle.fcas.proofs.Ranges.{kilowatts_bounded, kilowatts_castable}
use Rattle.fcas.proofs.kilowatts.kilowatts.Goals as goal

settled : (z k : ℤ) → z ≡ k → negsuc 3999999 ≤ℤ k → k ≤ℤ pos 4000000 → to_z w32 (of_z w32 (to_z w64 (of_z w64 z))) ≡ k
settled z k e lo hi = omega (arith, ints)

fitting : (z k : ℤ) → z ≡ k → negsuc 3999999 ≤ℤ k → k ≤ℤ pos 4000000 → SFits w32 (to_z w64 (of_z w64 z))
fitting z k e lo hi = omega (arith, ints)

-- what is cast is the nearest whole number of the product
whole : (w t x : Float) → w ≡ nearest_whole t → t ≡ thousandfold x → w ≡ nearest_whole (thousandfold x)
whole w t x e f = e ∙ ap nearest_whole f

pub truncating_f64_to_i64-requires : goal.truncating_f64_to_i64-requires
truncating_f64_to_i64-requires c =
    let k = kilowatts_castable c.args.megawatts c.requires in
    record {
      lower_bound = subst (λ (y : Float). T (le (fin true 1 (pos 63)) y)) (sym (whole _ _ _ c.nearest_whole.ensures c.thousandfold.ensures)) k.0;
      upper_bound = subst (λ (y : Float). T (lt y (fin false 1 (pos 63)))) (sym (whole _ _ _ c.nearest_whole.ensures c.thousandfold.ensures)) k.1;
    }

pub overflow_cast-result : goal.overflow_cast-result
unfolding kilowatts_of
overflow_cast-result c = search (rules, kilowatts_bounded, fitting)

pub returns : goal.returns
unfolding kilowatts_of
returns c = search (rules, kilowatts_bounded, settled)
