use Rattle.std.proofs.Common.{rules}
use Rattle.cases.proofs.Computed.{trapezium_known, worked}
use Rattle.cases.proofs.worked_generator.Goals as goal

pub returns : goal.returns
returns c = search (rules, trapezium_known, worked)
