-- The digits of a number, as the library writes them.
use Rattle.std.proofs.Common.{◌≡◌, ℕ, ◌+◌, ◌^◌, ◌<◌, ltb, [], ◌∷◌, decimal, arith}
use Rattle.std.proofs.lemmas.Fmt.{AppendsLastDigit, decimal_from_appends, length-decimal-le}
use Rattle.std.proofs.lemmas.Bool.{cond-false, cond-true, le-ltb, lt-ltb}
use Rattle.numerals.specs.Numerals.{digits_within, spelling_of}

spells : AppendsLastDigit digits_within
spells = record {
  one = λ k n l. cond-true (ltb n 10) _ _ (lt-ltb n 10 l);
  more = λ k n l. cond-false (ltb n 10) _ _ (le-ltb n 10 l);
}

pub is_decimal : (n : ℕ) → n < 2 ^ 64 → spelling_of n ≡ decimal n
unfolding spelling_of
is_decimal n small = decimal_from_appends digits_within spells 20 n small (length-decimal-le 20 n (omega arith) (omega arith) small)

-- A number below ten is its one digit: an edit that writes it otherwise is refused for what it writes.
pub one_digit : (n : ℕ) → n < 10 → spelling_of n ≡ (48 + n) ∷ []
unfolding spelling_of
one_digit n small = cond-true (ltb n 10) _ _ (lt-ltb n 10 small)
