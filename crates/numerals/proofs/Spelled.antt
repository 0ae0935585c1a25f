-- Digits read one after another.
use Rattle.std.proofs.Common.{◌≡◌, ℕ, ◌+◌, ◌-◌, ◌*◌, ◌^◌, ◌<◌, ◌≤◌, Bool, true, false, cond, ltb, List, [], ◌∷◌, length, get_or, drop, Some, None, Option, sym, refl, ap, ◌∙◌, arith}
use Rattle.std.proofs.lemmas.List.{drop_more}
use Rattle.std.proofs.lemmas.Bool.{cond-true, cond-false, le-ltb}
use Rattle.std.specs.Char.{is_ascii_digit}
use Rattle.std.proofs.lemmas.Bool.Decides.{nat_tests}
use Rattle.numerals.specs.Numerals.{in_word, is_digit, spelled_from, whole_of}

-- the library's digits
same_digit : (byte : ℕ) → is_ascii_digit byte ≡ is_digit byte
same_digit byte = grind (arith, nat_tests)

-- the number after one digit more
abbrev pub more : ℕ → ℕ → ℕ
more n byte = n * 10 + (byte - 48)

one : (n i : ℕ) (word : List ℕ) → i < length word → spelled_from n (drop i word) ≡ cond (is_digit (get_or word i 0)) (spelled_from (more n (get_or word i 0)) (drop (i + 1) word)) None
one n i word l = ap (spelled_from n) (drop_more word i 0 l)

pub digit : (n i : ℕ) (word : List ℕ) → i < length word → true ≡ is_ascii_digit (get_or word i 0) → spelled_from 0 word ≡ spelled_from n (drop i word) → spelled_from 0 word ≡ spelled_from (more n (get_or word i 0)) (drop (i + 1) word)
digit n i word l d e = e ∙ one n i word l ∙ cond-true (is_digit (get_or word i 0)) _ _ (sym (d ∙ same_digit (get_or word i 0)))

next_large : (d : Bool) (o : Option ℕ) → in_word o ≡ None → in_word (cond d o None) ≡ None
next_large true o e = e
next_large false o e = refl

-- what does not fit 64 bits never does again
too_large : (n : ℕ) (word : List ℕ) → 2 ^ 64 ≤ n → in_word (spelled_from n word) ≡ None
too_large n [] l = cond-false (ltb n (2 ^ 64)) (Some n) None (le-ltb n (2 ^ 64) l)
too_large n (byte ∷ bytes) l = next_large (is_digit byte) (spelled_from (more n byte) bytes) (too_large (more n byte) bytes (omega (arith, l)))

is_large : (m : ℕ) → None ≡ in_word (Some m) → 2 ^ 64 ≤ m
is_large m h = grind (arith, nat_tests)

pub overflow : (n i : ℕ) (word : List ℕ) → i < length word → true ≡ is_ascii_digit (get_or word i 0) → spelled_from 0 word ≡ spelled_from n (drop i word) → None ≡ in_word (Some (more n (get_or word i 0))) → None ≡ whole_of word
overflow n i word l d e h = sym (ap in_word (digit n i word l d e) ∙ too_large (more n (get_or word i 0)) (drop (i + 1) word) (is_large (more n (get_or word i 0)) h))
