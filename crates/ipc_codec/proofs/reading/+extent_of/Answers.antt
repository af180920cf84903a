use Rattle.std.proofs.Common.{◌≡◌, ap, sym, ◌∙◌}
use Rattle.q_values.specs.Tree.{tree, trees, items_of, list}
use Rattle.ipc_codec.specs.Reading.{extent}
use Rattle.ipc_codec.proofs.ItemsLemmas.{number_of_items-of}
use Rattle.ipc_codec.proofs.TreeLemmas.{tree-List}
use Rattle.ipc_codec.proofs.reading.+extent_of.Goals as goal

pub returns-in-List : goal.returns-in-List
returns-in-List t c =
    let whole : tree c.args.value.now ≡ list (items_of (trees c.in-List.items)) = ap tree c.in-List.is ∙ tree-List c.in-List.items in
    c.len-in-List.ensures ∙ sym (number_of_items-of (trees c.in-List.items)) ∙ ap extent (sym whole)
