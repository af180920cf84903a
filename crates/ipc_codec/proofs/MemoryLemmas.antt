-- How many values are within what was read.
use Rattle.std.proofs.Common.{◌≡◌, ℕ, ◌+◌, ◌≤◌, List, [], ◌∷◌, ◌++◌, ◌==◌, Bool, true, false, Ok, arith}
use Rattle.q_values.specs.Tree.{Tree, items_of, atom, vector, list, dict, table, keyed, identity, wrong}
use Rattle.ipc_codec.specs.Memory.{values_within, values_among}
use Rattle.q_values.specs.Table.{rows_of}
use Rattle.ipc_codec.specs.Reading.{joined, checked, extent}

-- one more item
pub among-push : (ts : List Tree) (t : Tree) → values_among (items_of (ts ++ t ∷ [])) ≡ values_among (items_of ts) + 1 + values_within t
among-push [] t = omega arith
among-push (u ∷ ts) t = omega (arith, among-push ts t)

checked-is : (b : Bool) (left : ℕ) (t u : Tree) → checked b left t ≡ Ok u → t ≡ u
checked-is true left t u e = cc
checked-is false left t u e = absurd cc

either : (b : Bool) (left : ℕ) (keys values t : Tree) → checked b left (dict keys values) ≡ Ok t → values_within t ≤ 2 + values_within keys + values_within values
either b left keys values t e = rw (← (checked-is b left (dict keys values) t e)) (omega arith)

-- a dictionary of two sides has them within, and what is within them
pub joined-few : (left : ℕ) (keys values t : Tree) → joined left keys values ≡ Ok t → values_within t ≤ 2 + values_within keys + values_within values
joined-few left (atom x) values t e = either (extent (atom x) == extent values) left (atom x) values t e
joined-few left (vector v) values t e = either (extent (vector v) == extent values) left (vector v) values t e
joined-few left (list items) values t e = either (extent (list items) == extent values) left (list items) values t e
joined-few left (dict k v) values t e = either (extent (dict k v) == extent values) left (dict k v) values t e
joined-few left (keyed k v) values t e = either (extent (keyed k v) == extent values) left (keyed k v) values t e
joined-few left identity values t e = either (extent identity == extent values) left identity values t e
joined-few left (wrong text) values t e = either (extent (wrong text) == extent values) left (wrong text) values t e
joined-few left (table g) (table h) t e = rw (← (checked-is (rows_of g.columns == rows_of h.columns) left (keyed g h) t e)) (omega arith)
joined-few left (table g) (atom x) t e = either (extent (table g) == extent (atom x)) left (table g) (atom x) t e
joined-few left (table g) (vector v) t e = either (extent (table g) == extent (vector v)) left (table g) (vector v) t e
joined-few left (table g) (list items) t e = either (extent (table g) == extent (list items)) left (table g) (list items) t e
joined-few left (table g) (dict k v) t e = either (extent (table g) == extent (dict k v)) left (table g) (dict k v) t e
joined-few left (table g) (keyed k v) t e = either (extent (table g) == extent (keyed k v)) left (table g) (keyed k v) t e
joined-few left (table g) identity t e = either (extent (table g) == extent identity) left (table g) identity t e
joined-few left (table g) (wrong text) t e = either (extent (table g) == extent (wrong text)) left (table g) (wrong text) t e
