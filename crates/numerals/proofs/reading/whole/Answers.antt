use Rattle.std.proofs.Common.{◌∙◌}
use Rattle.numerals.proofs.Spelled.{overflow}
use Rattle.numerals.proofs.reading.whole.Goals as goal

pub returns-in_err-number : goal.returns-in_err-number
returns-in_err-number c = c.from_residual.ensures ∙ overflow c.loop-byte.number c.loop-byte.byte-index c.args.word.now c.loop-byte-test.true c.if-not-is_ascii_digit.ensures.value c.loop-byte.invariant.0 c.in_err-number.ensures
