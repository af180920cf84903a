use Rattle.std.proofs.Common.{◌≡◌, ◌++◌, ◌≤◌, ◌-◌, length, take}
use Rattle.std.specs.List.{flat_map}
use Rattle.ipc_codec.specs.Written.{text_bytes}
use Rattle.ipc_codec.proofs.writing.fill_with_texts.Given as goal

abbrev pub invariant-loop-next : goal.invariant-loop-next
invariant-loop-next l = record {
  rises : l.from ≤ l.next;
  inside : l.next ≤ length l.symbols;
  within : l.end ≤ 576;
  written : flat_map text_bytes (take l.next l.symbols) ≡ flat_map text_bytes (take l.from l.symbols) ++ take l.end l.block;
}

abbrev pub decreases-loop-next : goal.decreases-loop-next
decreases-loop-next l = length l.symbols - l.next
