use Rattle.std.proofs.Common.{◌≡◌, length, take, All}
use Rattle.std.specs.List.{flat_map}
use Rattle.ipc_codec.specs.Lengths.{saturated}
use Rattle.ipc_codec.specs.Written.{vector_bytes, VectorFits}
use Rattle.ipc_codec.proofs.lengths.columns_length.Given as goal

abbrev pub invariant-loop-column : goal.invariant-loop-column
invariant-loop-column l = record {
  total : l.total ≡ saturated (length (flat_map vector_bytes (take l.column-index l.columns)));
  fit : All VectorFits (take l.column-index l.columns);
}
