use Rattle.std.proofs.Common.{◌≡◌, ◌-◌, ◌+◌, ◌*◌}
use Rattle.ipc_codec.specs.Extent.{after_items, after_object}
use Rattle.ipc_codec.proofs.reach.+reach.Given as goal

abbrev pub decreases-after_object_of : goal.decreases-after_object_of
decreases-after_object_of l = 3 * l.room

abbrev pub decreases-after_form_of : goal.decreases-after_form_of
decreases-after_form_of l = 3 * l.room + 2

abbrev pub decreases-after_items_of : goal.decreases-after_items_of
decreases-after_items_of l = 3 * l.room + 1

abbrev pub decreases-after_dictionary_of : goal.decreases-after_dictionary_of
decreases-after_dictionary_of l = 3 * l.room + 1

abbrev pub invariant-after_items_of-loop : goal.invariant-after_items_of-loop
invariant-after_items_of-loop l = after_items (after_object l.room l.order) (l.count - l.counter) l.rest ≡ after_items (after_object l.room l.order) l.count l.bytes
