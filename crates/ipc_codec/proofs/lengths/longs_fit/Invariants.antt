use Rattle.std.proofs.Common.{take, All}
use Rattle.std.specs.Int.{w64}
use Rattle.std.specs.Int.RustNames.{FitsSigned}
use Rattle.ipc_codec.proofs.lengths.longs_fit.Given as goal

abbrev pub invariant-loop-x : goal.invariant-loop-x
invariant-loop-x l = All (FitsSigned w64) (take l.x-index l.items)
