use Rattle.std.proofs.Common.{◌≡◌, map, sym, ap, ◌∙◌}
use Rattle.q_values.specs.Tree.{tree, list, items_of}
use Rattle.ipc_codec.proofs.TreeLemmas.{tree-List}
use Rattle.partition_set.specs.Records.{shape_parts}
use Rattle.partition_set.proofs.TableLemmas.{items-same}
use Rattle.partition_set.proofs.tables.shape_in.Goals as goal

pub returns-in-None-clause-none : goal.returns-in-None-clause-none
returns-in-None-clause-none c = λ shape same.
    (rw c.in-None.is at c.in_ok-shape-in-List.ensures.none) shape
    (items-same (map tree c.as_slice.result.now) (shape_parts shape) (ap (λ ts. list (items_of ts)) c.as_slice.ensures ∙ sym (ap tree c.in-List.is ∙ tree-List c.in-List.parts) ∙ same))
