-- The tree of each variant of a value.
use Rattle.std.proofs.Common.{◌≡◌, ◌∙◌, ap, ℕ, List, Box, Global}
use Rattle.q_values.specs.Contents.{Contents}
use Rattle.q_values.specs.Tree.{Tree, items_of, atom, vector, list, dict, table, keyed, identity, wrong, tree, trees, value_step, pair_step, values_step}
use Rattle.q_values.specs.declared.atom.Atom.{Atom}
use Rattle.q_values.specs.declared.value.Value.{Value}
use Rattle.q_values.specs.declared.value.Value.TheFolds.{fold-roll-Value}
use Rattle.q_values.specs.declared.value.Value.TheOpen.{Value-F}
use Rattle.q_values.specs.declared.value.Value as v
use Rattle.q_values.specs.declared.value.Values.{Values}
use Rattle.q_values.specs.declared.value.Pair.{Pair, fold_out-Pair}
use Rattle.q_values.specs.declared.value.KeyedValue.{KeyedValue}
use Rattle.q_values.specs.declared.value.TableValue.{TableValue}

pub tree-Atom : (x : Atom) → tree (v.Atom x) ≡ atom x
unfolding v.roll-Value denote.Hole.Carrier.roll
tree-Atom x = fold-roll-Value Tree (Tree × Tree) (List Tree) value_step pair_step values_step (Value-F.Atom x)

pub tree-List : (x : Values) → tree (v.List x) ≡ list (items_of (trees x))
unfolding v.roll-Value denote.Hole.Carrier.roll
tree-List x = fold-roll-Value Tree (Tree × Tree) (List Tree) value_step pair_step values_step (Value-F.List x)

pub tree-Dict : (x : Box Pair Global) → tree (v.Dict x) ≡ dict (tree x.value.keys) (tree x.value.values)
unfolding v.roll-Value denote.Hole.Carrier.roll
tree-Dict x = fold-roll-Value Tree (Tree × Tree) (List Tree) value_step pair_step values_step (Value-F.Dict x) ∙ ap (λ (p : Tree × Tree). dict p.0 p.1) (fold_out-Pair Tree (Tree × Tree) (List Tree) value_step pair_step values_step x.value)

pub tree-Keyed : (x : Box KeyedValue Global) → tree (v.Keyed x) ≡ keyed (record { names = x.value.keys.names; columns = x.value.keys.columns }) (record { names = x.value.values.names; columns = x.value.values.columns })
unfolding v.roll-Value denote.Hole.Carrier.roll
tree-Keyed x = fold-roll-Value Tree (Tree × Tree) (List Tree) value_step pair_step values_step (Value-F.Keyed x)

pub tree-Wrong : (x : List ℕ) → tree (v.Wrong x) ≡ wrong x
unfolding v.roll-Value denote.Hole.Carrier.roll
tree-Wrong x = fold-roll-Value Tree (Tree × Tree) (List Tree) value_step pair_step values_step (Value-F.Wrong x)

pub tree-Vector : (x : Contents) → tree (v.Vector x) ≡ vector x
unfolding v.roll-Value denote.Hole.Carrier.roll
tree-Vector x = fold-roll-Value Tree (Tree × Tree) (List Tree) value_step pair_step values_step (Value-F.Vector x)

pub tree-Table : (x : TableValue) → tree (v.Table x) ≡ table (record { names = x.names; columns = x.columns })
unfolding v.roll-Value denote.Hole.Carrier.roll
tree-Table x = fold-roll-Value Tree (Tree × Tree) (List Tree) value_step pair_step values_step (Value-F.Table x)

pub tree-Identity : tree v.Identity ≡ identity
unfolding v.roll-Value denote.Hole.Carrier.roll
tree-Identity = fold-roll-Value Tree (Tree × Tree) (List Tree) value_step pair_step values_step Value-F.Identity
