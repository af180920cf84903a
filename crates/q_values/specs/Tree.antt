-- What a value is: its tree, apart from where it lies in memory.
use Rattle.std.specs.Prelude.{ℕ, List, [], ◌∷◌}
use Rattle.q_values.specs.Contents.{Contents}
use Rattle.q_values.specs.declared.atom.Atom.{Atom}
use Rattle.q_values.specs.declared.value.Value.{Value, fold-Value}
use Rattle.q_values.specs.declared.value.Values.{Values, fold-Values}
use Rattle.q_values.specs.declared.value.Value.TheOpen.{Value-F, Pair-F, Values-F}

-- a table's names and columns
pub record Grid : Type 0 where
  pub names : List (List ℕ)
  pub columns : List Contents

mutual
  pub data Tree : Type 0 where
    atom : Atom → Tree
    vector : Contents → Tree
    list : Items → Tree
    dict : Tree → Tree → Tree
    table : Grid → Tree
    keyed : Grid → Grid → Tree
    identity : Tree
    wrong : List ℕ → Tree

  pub data Items : Type 0 where
    no_items : Items
    item : Tree → Items → Items

abbrev pub items_of : List Tree → Items
items_of [] = no_items
items_of (t ∷ ts) = item t (items_of ts)

abbrev pub list_of : Items → List Tree
list_of no_items = []
list_of (item t ts) = t ∷ list_of ts

-- one level of a value, with what it holds already seen as trees
abbrev pub value_step : Value-F Tree (Tree × Tree) (List Tree) → Tree
value_step (Value-F.Atom a) = atom a
value_step (Value-F.Vector v) = vector v
value_step (Value-F.List ts) = list (items_of ts)
value_step (Value-F.Dict pair) = dict pair.value.0 pair.value.1
value_step (Value-F.Table t) = table (record { names = t.names; columns = t.columns })
value_step (Value-F.Keyed k) =
    keyed (record { names = k.value.keys.names; columns = k.value.keys.columns }) (record { names = k.value.values.names; columns = k.value.values.columns })
value_step Value-F.Identity = identity
value_step (Value-F.Wrong text) = wrong text

abbrev pub pair_step : Pair-F Tree (Tree × Tree) (List Tree) → Tree × Tree
pair_step p = (p.keys, p.values)

abbrev pub values_step : Values-F Tree (Tree × Tree) (List Tree) → List Tree
values_step v = v.items.items

-- the tree of a value
abbrev pub tree : Value → Tree
tree = fold-Value Tree (Tree × Tree) (List Tree) value_step pair_step values_step

-- the trees of a list of values
abbrev pub trees : Values → List Tree
trees = fold-Values Tree (Tree × Tree) (List Tree) value_step pair_step values_step
