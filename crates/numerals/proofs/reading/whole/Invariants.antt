use Rattle.std.proofs.Common.{◌≡◌, ◌^◌, ◌<◌, drop}
use Rattle.numerals.specs.Numerals.{spelled_from}
use Rattle.numerals.proofs.reading.whole.Given as goal

abbrev pub invariant-loop-byte : goal.invariant-loop-byte
invariant-loop-byte l = (spelled_from 0 l.word ≡ spelled_from l.number (drop l.byte-index l.word)) × (l.number < 2 ^ 64)
