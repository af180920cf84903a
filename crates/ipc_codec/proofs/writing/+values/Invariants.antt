use Rattle.std.proofs.Common.{◌≡◌, ◌++◌, ◌+◌, ◌*◌, take}
use Rattle.q_values.specs.Tree.{tree, trees, items_of}
use Rattle.ipc_codec.specs.Written.{written_items}
use Rattle.ipc_codec.proofs.ItemsLemmas.{size, size_items}
use Rattle.ipc_codec.proofs.writing.+values.Given as goal

abbrev pub decreases-put_items : goal.decreases-put_items
decreases-put_items l = 2 * size_items (items_of (trees l.items.now)) + 1

abbrev pub decreases-put_value : goal.decreases-put_value
decreases-put_value l = 2 * size (tree l.value.now)

abbrev pub invariant-put_items-loop-i : goal.invariant-put_items-loop-i
invariant-put_items-loop-i l = l.out.items ≡ l.initial.out.items ++ written_items (items_of (take l.i (trees l.items)))
