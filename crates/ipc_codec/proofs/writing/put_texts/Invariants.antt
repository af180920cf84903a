use Rattle.std.proofs.Common.{◌≡◌, ◌++◌, ◌≤◌, ◌-◌, length, take}
use Rattle.std.specs.List.{flat_map}
use Rattle.ipc_codec.specs.Written.{text_bytes}
use Rattle.ipc_codec.proofs.writing.put_texts.Given as goal

abbrev pub invariant-loop-at : goal.invariant-loop-at
invariant-loop-at l = record {
  written : l.out.items ≡ l.initial.out.items ++ flat_map text_bytes (take l.at l.symbols);
  within : l.at ≤ length l.symbols;
}

abbrev pub decreases-loop-at : goal.decreases-loop-at
decreases-loop-at l = length l.symbols - l.at
