use Rattle.std.proofs.Common.{◌≡◌, ap, ◌∙◌, refl, arith}
use Rattle.q_values.specs.Tree.{Grid, tree, trees, items_of, atom, vector, list, dict, table, keyed, identity, wrong}
use Rattle.ipc_codec.specs.Written.{written}
use Rattle.ipc_codec.proofs.TreeLemmas.{tree-Atom, tree-Vector, tree-List, tree-Dict, tree-Table, tree-Keyed, tree-Identity, tree-Wrong}
use Rattle.ipc_codec.proofs.ItemsLemmas.{size-at}
use Rattle.ipc_codec.proofs.FitLemmas.{AllAtomsFit-more}
use Rattle.ipc_codec.proofs.LengthLemmas.{length_items-more, length-atom, length-list, length-dict, length-keyed, length-plain, length-table, length-identity, length-wrong}
use Rattle.ipc_codec.proofs.lengths.+lengths.Goals as goal

pub items_length-loop-i-init : goal.items_length-loop-i-init
unfolding written
items_length-loop-i-init t c = record { total = refl; fit = tt }

pub items_length-encoded_length-requires : goal.items_length-encoded_length-requires
items_length-encoded_length-requires t c = omega (arith, size-at (trees c.args.items.now) c.loop-i.i (tree c.at.result.now) c.at.ensures)

pub items_length-loop-i-preserved : goal.items_length-loop-i-preserved
items_length-loop-i-preserved t c =
    let ts = trees c.args.items.now in
    let item = tree c.at.result.now in
    record {
      total = c.saturating_add-total.ensures ∙ length_items-more ts c.loop-i.i item c.loop-i.total c.encoded_length.result c.at.ensures c.loop-i.invariant.total c.encoded_length.ensures.value;
      fit = AllAtomsFit-more ts c.loop-i.i item c.at.ensures c.loop-i.invariant.fit c.encoded_length.ensures.fit;
    }

pub encoded_length-returns-in-Atom-clause-value : goal.encoded_length-returns-in-Atom-clause-value
encoded_length-returns-in-Atom-clause-value t c =
    let whole : tree c.args.value.now ≡ atom c.in-Atom.x = ap tree c.in-Atom.is ∙ tree-Atom c.in-Atom.x in
    rw (whole, length-atom c.in-Atom.x) (omega (arith, c.saturating_add.ensures, c.element_length.ensures.value))

pub encoded_length-returns-in-Vector-clause-value : goal.encoded_length-returns-in-Vector-clause-value
encoded_length-returns-in-Vector-clause-value t c =
    let whole : tree c.args.value.now ≡ vector c.in-Vector.vector = ap tree c.in-Vector.is ∙ tree-Vector c.in-Vector.vector in
    rw (whole, length-plain c.in-Vector.vector) c.vector_length.ensures.value

pub encoded_length-returns-in-List-clause-value : goal.encoded_length-returns-in-List-clause-value
encoded_length-returns-in-List-clause-value t c =
    let items = items_of (trees c.in-List.items) in
    let whole : tree c.args.value.now ≡ list items = ap tree c.in-List.is ∙ tree-List c.in-List.items in
    rw (whole, length-list items) (omega (arith, c.saturating_add-in-List.ensures, c.items_length.ensures.value))

pub encoded_length-returns-in-Dict-clause-value : goal.encoded_length-returns-in-Dict-clause-value
encoded_length-returns-in-Dict-clause-value t c =
    let keys = tree c.deref.result.now.keys in
    let values = tree c.deref-in-Dict.result.now.values in
    let whole : tree c.args.value.now ≡ dict keys values = ap tree c.in-Dict.is ∙ tree-Dict c.in-Dict.pair ∙ rw (c.deref.ensures, c.deref-in-Dict.ensures) refl in
    rw (whole, length-dict keys values) (omega (arith, c.saturating_add-in-Dict.ensures, c.saturating_add-in-Dict-2.ensures, c.encoded_length.ensures.value, c.encoded_length-in-Dict.ensures.value))

pub encoded_length-returns-in-Table-clause-value : goal.encoded_length-returns-in-Table-clause-value
encoded_length-returns-in-Table-clause-value t c =
    let grid : Grid = record { names = c.in-Table.table.names; columns = c.in-Table.table.columns } in
    let whole : tree c.args.value.now ≡ table grid = ap tree c.in-Table.is ∙ tree-Table c.in-Table.table in
    rw (whole, length-table grid) c.table_length.ensures.value

pub encoded_length-returns-in-Keyed-clause-value : goal.encoded_length-returns-in-Keyed-clause-value
encoded_length-returns-in-Keyed-clause-value t c =
    let keys : Grid = record { names = c.deref-in-Keyed.result.now.keys.names; columns = c.deref-in-Keyed.result.now.keys.columns } in
    let values : Grid = record { names = c.deref-in-Keyed-2.result.now.values.names; columns = c.deref-in-Keyed-2.result.now.values.columns } in
    let whole : tree c.args.value.now ≡ keyed keys values = ap tree c.in-Keyed.is ∙ tree-Keyed c.in-Keyed.pair ∙ rw (c.deref-in-Keyed.ensures, c.deref-in-Keyed-2.ensures) refl in
    rw (whole, length-keyed keys values) (omega (arith, c.saturating_add-in-Keyed.ensures, c.saturating_add-in-Keyed-2.ensures, c.table_length-in-Keyed.ensures.value, c.table_length-in-Keyed-2.ensures.value))

pub encoded_length-returns-in-Identity-clause-value : goal.encoded_length-returns-in-Identity-clause-value
encoded_length-returns-in-Identity-clause-value t c =
    let whole : tree c.args.value.now ≡ identity = ap tree c.in-Identity.is ∙ tree-Identity in
    rw (whole, length-identity) refl

pub encoded_length-returns-in-Wrong-clause-value : goal.encoded_length-returns-in-Wrong-clause-value
encoded_length-returns-in-Wrong-clause-value t c =
    let whole : tree c.args.value.now ≡ wrong c.in-Wrong.text = ap tree c.in-Wrong.is ∙ tree-Wrong c.in-Wrong.text in
    let one = rw c.as_slice.ensures at c.text_length.ensures in
    rw (whole, length-wrong c.in-Wrong.text) (omega (arith, c.saturating_add-in-Wrong.ensures, one))
