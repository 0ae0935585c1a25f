use Rattle.cases.proofs.Computed.{generator_taken}
use Rattle.cases.proofs.generator_trapezium.Goals as goal

pub returns-in_err-new : goal.returns-in_err-new
returns-in_err-new c = λ good. absurd (generator_taken _ _ c.generator_reading.ensures c.in_err-new.ensures)
