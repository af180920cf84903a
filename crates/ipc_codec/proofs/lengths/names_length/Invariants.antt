use Rattle.std.proofs.Common.{◌≡◌, length, take, All}
use Rattle.std.specs.List.{flat_map}
use Rattle.q_values.specs.Bytes.{HasNoNul}
use Rattle.ipc_codec.specs.Lengths.{saturated}
use Rattle.ipc_codec.specs.Written.{text_bytes}
use Rattle.ipc_codec.proofs.lengths.names_length.Given as goal

abbrev pub invariant-loop-name : goal.invariant-loop-name
invariant-loop-name l = record {
  total : l.total ≡ saturated (length (flat_map text_bytes (take l.name-index l.names)));
  fit : All HasNoNul (take l.name-index l.names);
}
