use Rattle.std.proofs.Common.{◌≡◌, ◌+◌, ◌*◌, length, take}
use Rattle.q_values.specs.Tree.{tree, trees, items_of}
use Rattle.ipc_codec.specs.Lengths.{saturated}
use Rattle.ipc_codec.specs.Written.{written_items, AllAtomsFit}
use Rattle.ipc_codec.proofs.ItemsLemmas.{size, size_items}
use Rattle.ipc_codec.proofs.lengths.+lengths.Given as goal

abbrev pub decreases-items_length : goal.decreases-items_length
decreases-items_length l = 2 * size_items (items_of (trees l.items.now)) + 1

abbrev pub decreases-encoded_length : goal.decreases-encoded_length
decreases-encoded_length l = 2 * size (tree l.value.now)

abbrev pub invariant-items_length-loop-i : goal.invariant-items_length-loop-i
invariant-items_length-loop-i l = record {
  total : l.total ≡ saturated (length (written_items (items_of (take l.i (trees l.items)))));
  fit : AllAtomsFit (items_of (take l.i (trees l.items)));
}
