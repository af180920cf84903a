use Rattle.std.proofs.Common.{◌≡◌, map}
use Rattle.q_values.specs.Tree.{Tree, tree, trees, value_step, pair_step, values_step}
use Rattle.std.proofs.Common.{List}
use Rattle.q_values.specs.declared.value.Values.{Values, out-Values, fold_out-Values}

-- the trees of a list are those of its items
pub trees-out : (v : Values) → trees v ≡ map tree (out-Values v).items.items
trees-out v = fold_out-Values Tree (Tree × Tree) (List Tree) value_step pair_step values_step v
