use Rattle.std.proofs.Common.{◌≡◌, ◌-◌, ◌+◌, ◌*◌, ◌≤◌}
use Rattle.q_values.specs.Tree.{trees, items_of}
use Rattle.ipc_codec.specs.Memory.{values_among}
use Rattle.ipc_codec.specs.Reading.{items_at, object_at}
use Rattle.ipc_codec.proofs.FrontLemmas.{behind_items}
use Rattle.ipc_codec.proofs.reading.+objects.Given as goal

abbrev pub decreases-object_in : goal.decreases-object_in
decreases-object_in l = 4 * l.room

abbrev pub decreases-form_in : goal.decreases-form_in
decreases-form_in l = 4 * l.room + 3

abbrev pub decreases-list_in : goal.decreases-list_in
decreases-list_in l = 4 * l.room + 2

abbrev pub decreases-items_in : goal.decreases-items_in
decreases-items_in l = 4 * l.room + 1

abbrev pub decreases-dictionary_in : goal.decreases-dictionary_in
decreases-dictionary_in l = 4 * l.room + 1

abbrev pub invariant-items_in-loop-i : goal.invariant-items_in-loop-i
invariant-items_in-loop-i l = record {
  found : behind_items (trees l.items) (items_at (object_at l.room l.order) (l.count - l.i) l.rest) ≡ items_at (object_at l.room l.order) l.count l.bytes;
  few : l.budget.left + 40 * values_among (items_of (trees l.items)) + 40 * (l.places - l.i) ≤ l.fn.budget.left;
}
