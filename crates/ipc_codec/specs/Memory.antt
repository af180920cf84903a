-- How many values a value holds, and how much memory it may take.
use Rattle.std.specs.Prelude.{ℕ, ◌+◌, ◌*◌}
use Rattle.q_values.specs.Tree.{Tree, Items, atom, vector, list, dict, table, keyed, identity, wrong, no_items, item}

-- the most bytes of memory of a value that is read from n bytes: 20 for each of them, and for each of the 8 before them in
-- a message
abbrev pub memory_for : ℕ → ℕ
memory_for n = 20 * (n + 8)

-- the items of a value's lists and the sides of its dictionaries, and those within them
abbrev mutual
  pub values_within : Tree → ℕ
  values_within (atom x) = 0
  values_within (vector v) = 0
  values_within (list items) = values_among items
  values_within (dict keys values) = 2 + values_within keys + values_within values
  values_within (table grid) = 0
  values_within (keyed keys values) = 0
  values_within identity = 0
  values_within (wrong text) = 0

  -- items, and those within them
  pub values_among : Items → ℕ
  values_among no_items = 0
  values_among (item t items) = 1 + values_within t + values_among items
