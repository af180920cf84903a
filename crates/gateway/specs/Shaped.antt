-- Values whose parts fit each other: tables in shape, dictionaries with a value for each key, texts without a 0, few levels.
use Rattle.std.specs.Prelude.{◌≡◌, ◌≤◌}
use Rattle.ipc_codec.specs.Reading.{extent}
use Rattle.ipc_codec.specs.Written.{depth, AreNotBothTables}
use Rattle.q_values.specs.Bytes.{HasNoNul}
use Rattle.q_values.specs.Table.{IsTable, rows_of}
use Rattle.q_values.specs.Tree.{Tree, Items, Grid, atom, vector, list, dict, table, keyed, identity, wrong, no_items, item}

-- a table's names and columns fit each other
abbrev pub IsGrid : Grid → Type 0
IsGrid grid = IsTable grid.names grid.columns

-- tables in shape, dictionaries of two sides of one length, texts of errors without a 0
abbrev mutual
  pub PartsFit : Tree → Type 0
  PartsFit (atom x) = Unit {0}
  PartsFit (vector v) = Unit {0}
  PartsFit (list items) = AllPartsFit items
  PartsFit (dict keys values) = PartsFit keys × PartsFit values × (extent keys ≡ extent values) × AreNotBothTables keys values
  PartsFit (table grid) = IsGrid grid
  PartsFit (keyed keys values) = IsGrid keys × IsGrid values × (rows_of keys.columns ≡ rows_of values.columns)
  PartsFit identity = Unit {0}
  PartsFit (wrong text) = HasNoNul text

  pub AllPartsFit : Items → Type 0
  AllPartsFit no_items = Unit {0}
  AllPartsFit (item t items) = PartsFit t × AllPartsFit items

-- a value that can be written, if its counts are small enough
pub record IsShaped (t : Tree) : Type 0 where
  pub nested : depth t ≤ 64
  pub parts : PartsFit t
