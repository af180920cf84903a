use Rattle.std.proofs.Common.{take, All}
use Rattle.std.specs.Int.{w32}
use Rattle.std.specs.Int.RustNames.{FitsSigned}
use Rattle.ipc_codec.proofs.lengths.integers_fit.Given as goal

abbrev pub invariant-loop-x : goal.invariant-loop-x
invariant-loop-x l = All (FitsSigned w32) (take l.x-index l.items)
