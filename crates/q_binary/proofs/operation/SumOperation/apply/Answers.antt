use Rattle.std.proofs.Common.{rules}
use Rattle.std.proofs.lemmas.Int.{wraps}
use Rattle.q_binary.proofs.operation.SumOperation.apply.Goals as goal

pub returns : goal.returns
returns c = search (rules, wraps)
