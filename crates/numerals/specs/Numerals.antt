-- Whole numbers as text.
use Rattle.std.specs.Prelude.{ℕ, zero, suc, ◌+◌, ◌-◌, ◌*◌, ◌/◌, ◌%◌, ◌^◌, Bool, cond, ◌&&◌, List, [], ◌∷◌, ◌++◌, Some, None, Option, nat_le, nat_lt}

-- The bytes of 0 to 9.
abbrev pub is_digit : ℕ → Bool
is_digit byte = nat_le 48 byte && nat_le byte 57

-- The number that decimal digits go on from n to spell; nothing where a byte is no digit.
abbrev pub spelled_from : ℕ → List ℕ → Option ℕ
spelled_from n [] = Some n
spelled_from n (byte ∷ more) = cond (is_digit byte) (spelled_from (n * 10 + (byte - 48)) more) None

-- A number that 64 bits hold.
abbrev pub in_word : Option ℕ → Option ℕ
in_word None = None
in_word (Some n) = cond (nat_lt n (2 ^ 64)) (Some n) None

-- The whole number that a word spells, below 2^64.
abbrev pub whole_of : List ℕ → Option ℕ
whole_of bytes = in_word (spelled_from 0 bytes)

-- The digits of a number that has at most so many: those of its tenth part, and then the last.
abbrev pub digits_within : ℕ → ℕ → List ℕ
digits_within zero n = []
digits_within (suc places) n = cond (nat_lt n 10) ((48 + n) ∷ []) (digits_within places (n / 10) ++ ((48 + n % 10) ∷ []))

-- The shortest digits that spell a number of 64 bits: no zero stands in front, and zero is `0`.
unfoldable pub spelling_of : ℕ → List ℕ
spelling_of n = digits_within 20 n
