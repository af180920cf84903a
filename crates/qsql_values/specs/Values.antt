-- The value of an expression over rows, and the rows that phrases keep.
use Rattle.std.specs.Prelude.{ℕ, Bool, true, false, List, [], ◌∷◌, map, unwrap_or, slice_index_or}
use Rattle.std.specs.Simd.Lanes.{zip2}
use Rattle.q_values.specs.Atom.{kind_of}
use Rattle.q_values.specs.Contents.{Contents}
use Rattle.q_values.specs.Tree.{Tree, atom, vector, identity}
use Rattle.q_values.specs.declared.atom.Atom.{Atom}
use Rattle.q_values.specs.declared.atom.Atom.TheVariants as a
use Rattle.q_values.specs.declared.kind.Kind.{Kind}
use Rattle.q_values.specs.declared.kind.Kind.TheVariants as k
use Rattle.day_rows.specs.Rows.{absent}
use Rattle.q_filter.specs.Places.{is_true}
use Rattle.q_verbs.specs.Aggregates.{aggregate_of}
use Rattle.q_verbs.specs.Kinds.{result_kind_of, result_kind1_of}
use Rattle.q_verbs.specs.Like.{matches}
use Rattle.q_verbs.specs.Lists.{unary_of}
use Rattle.q_verbs.specs.Numbers.{worth}
use Rattle.q_verbs.specs.Places.{value_of}
use Rattle.q_verbs.specs.Tests.{lies_within, is_among}
use Rattle.q_verbs.specs.declared.verb.Verb.{Verb}
use Rattle.q_verbs.specs.declared.verb.Verb.TheVariants as v
use Rattle.q_verbs.specs.declared.verb.Verb1.{Verb1}
use Rattle.q_verbs.specs.declared.verb.Verb1.TheVariants as u
use Rattle.qsql_request.specs.Forms.{Form, constant, column, one, two}
use Rattle.qsql_values.specs.Frames.{Frame, column_in}

-- the items of a value: those of a vector, or the atom as a list of one
abbrev pub items_in : Tree → Contents
items_in (atom x) = record { kind = kind_of x; atoms = x ∷ [] }
items_in (vector c) = c
items_in _ = record { kind = k.Boolean; atoms = [] }

-- a result with an item for each of its side: an atom where the side is one
abbrev pub formed_as : Tree → Contents → Tree
formed_as (atom x) c = atom (slice_index_or c.atoms 0 x)
formed_as _ c = vector c

-- a verb with one side that makes a list
abbrev pub listed : Verb1 → Kind → List Atom → Contents
listed verb kind xs = record { kind = kind; atoms = unary_of verb kind xs }

-- its result, in the kind that the verb's table gives
abbrev pub listed_of : Verb1 → Contents → Contents
listed_of verb c = listed verb (unwrap_or (result_kind1_of verb c.kind) c.kind) c.atoms

-- a verb with one side: `not` and `neg` by item, `distinct` a list, each other one atom
abbrev pub value_of_one : Verb1 → Tree → Tree
value_of_one u.Not side = formed_as side (listed_of u.Not (items_in side))
value_of_one u.Neg side = formed_as side (listed_of u.Neg (items_in side))
value_of_one u.Distinct side = vector (listed_of u.Distinct (items_in side))
value_of_one verb side = atom (aggregate_of verb (items_in side).kind (items_in side).atoms)

-- the test of each item
abbrev pub tested : (Atom → Bool) → Tree → Tree
tested test side = formed_as side (record { kind = k.Boolean; atoms = map (λ (x : Atom). a.Boolean (test x)) (items_in side).atoms })

-- a verb by item: an atom goes with each item of the other side
abbrev pub by_item : (Atom → Atom → Atom) → Kind → Tree → Tree → Tree
by_item f kind (atom x) (atom y) = atom (f x y)
by_item f kind (atom x) (vector ys) = vector (record { kind = kind; atoms = map (λ (y : Atom). f x y) ys.atoms })
by_item f kind (vector xs) (atom y) = vector (record { kind = kind; atoms = map (λ (x : Atom). f x y) xs.atoms })
by_item f kind (vector xs) (vector ys) = vector (record { kind = kind; atoms = zip2 f xs.atoms ys.atoms })
by_item f kind left right = identity

-- the kind of a verb's result, by the verb's table
abbrev pub kind_with : Verb → Kind → Kind → Kind
kind_with verb left right = unwrap_or (result_kind_of verb left right) left

abbrev pub by_item_of : Verb → Kind → Kind → Tree → Tree → Tree
by_item_of verb left right = by_item (value_of verb left right (kind_with verb left right)) (kind_with verb left right)

-- one end of the two that `within` has at its right
abbrev pub end_at : ℕ → Tree → Atom
end_at index ends = slice_index_or (items_in ends).atoms index absent

abbrev pub lies_between : Tree → Atom → Bool
lies_between ends x = lies_within (worth (end_at 0 ends)) (worth (end_at 1 ends)) (worth x)

abbrev pub byte_in : Atom → ℕ
byte_in (a.Character b) = b
byte_in _ = 0

-- the bytes of a pattern
abbrev pub text_in : Tree → List ℕ
text_in pattern = map byte_in (items_in pattern).atoms

-- a verb with two sides: `in`, `within` and `like` test the items of the left one, each other goes by item
abbrev pub value_of_two : Verb → Tree → Tree → Tree
value_of_two v.In left right = tested (is_among (items_in right).atoms) left
value_of_two v.Within left right = tested (lies_between right) left
value_of_two v.Like left right = tested (λ (x : Atom). matches (text_in right) (worth x).text) left
value_of_two verb left right = by_item_of verb (items_in left).kind (items_in right).kind left right

-- the value of an expression: a name is each row's field, a literal itself, a verb what it makes of its sides' values. So an
-- expression with the shape rows has an item for each row, and a scalar is an atom
abbrev pub val : Frame → Form → Tree
val frame (constant value) = value
val frame (column name) = vector (column_in frame name)
val frame (one verb side) = value_of_one verb (val frame side)
val frame (two verb left right) = value_of_two verb (val frame left) (val frame right)

-- where a phrase holds
abbrev pub truths : Tree → List Bool
truths value = map is_true (items_in value).atoms

-- the elements at which it is true
abbrev pub selected : {X : Type 0} → List Bool → List X → List X
selected [] xs = []
selected (b ∷ flags) [] = []
selected (true ∷ flags) (x ∷ xs) = x ∷ selected flags xs
selected (false ∷ flags) (x ∷ xs) = selected flags xs

-- the rows at which the phrase holds
abbrev pub rows_where : Form → Frame → Frame
rows_where phrase frame = record frame { rows = selected (truths (val frame phrase)) frame.rows }

-- the rows that the phrases keep, from left to right: each is evaluated over the rows that those before it keep
abbrev pub kept : List Form → Frame → Frame
kept [] frame = frame
kept (phrase ∷ phrases) frame = kept phrases (rows_where phrase frame)
