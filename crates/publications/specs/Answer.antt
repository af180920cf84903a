-- The values that answer subscriptions (KX, u.q).
use Rattle.std.specs.Prelude.{ℕ, Option, Some, None, List, [], ◌∷◌, map, find}
use Rattle.std.specs.Str.{bytes_eq}
use Rattle.q_values.specs.Tree.{Tree, atom, list, table, identity, items_of}
use Rattle.q_values.specs.declared.atom.Atom.TheVariants as a
use Rattle.day_rows.specs.declared.schema.Shape.{Shape}
use Rattle.pubsub.specs.Told.{grid_of}

-- a table's name, and the table without rows
abbrev pub pair_tree : Shape → Tree
pair_tree shape = list (items_of (atom (a.Symbol shape.table) ∷ table (grid_of shape []) ∷ []))

-- the answer for a table; there is one for each table of the schema
abbrev pub answer_tree : Option Shape → Tree
answer_tree (Some shape) = pair_tree shape
answer_tree None = identity

-- the answer to a subscription: the pair of the table that is asked for, or those of all tables, in the schema's order
abbrev pub subscription_tree : List Shape → List ℕ → Tree
subscription_tree schema [] = list (items_of (map pair_tree schema))
subscription_tree schema (b ∷ name) = answer_tree (find (λ shape. bytes_eq (b ∷ name) shape.table) schema)
