-- Values while they are computed.
use Rattle.std.specs.Prelude.{◌≡◌, ℕ, ◌<◌, ◌==◌, Bool, true, false, List, length}
use Rattle.q_values.specs.Contents.{Contents}
use Rattle.q_values.specs.Tree.{Tree, atom, vector}
use Rattle.q_values.specs.declared.atom.Atom.{Atom}
use Rattle.q_values.specs.declared.kind.Kind.{Kind}
use Rattle.q_verbs.specs.declared.verb.Verb.{Verb}
use Rattle.q_verbs.specs.declared.verb.Verb.TheVariants as v
use Rattle.q_verbs.specs.declared.verb.Verb1.{Verb1}
use Rattle.q_verbs.specs.declared.verb.Verb1.TheVariants as u
use Rattle.qsql_request.specs.declared.shapes.Shape.{Shape}
use Rattle.qsql_request.specs.declared.shapes.Shape.TheVariants as s
use Rattle.qsql_values.specs.Values.{items_in}
use Rattle.qsql_values.specs.declared.operand.Held.{Held}
use Rattle.qsql_values.specs.declared.operand.Held.TheVariants as h
use Rattle.qsql_values.specs.declared.operand.Operand.{Operand}
use Rattle.qsql_values.specs.declared.operand.Operand.TheVariants as o

-- a vector, lent or made
abbrev pub contents_of : Held → Contents
contents_of (h.Lent v) = v.now
contents_of (h.Made v) = v

-- the value of an operand
abbrev pub operand_tree : Operand → Tree
operand_tree (o.Atom x) = atom x
operand_tree (o.Column c) = vector (contents_of c)

abbrev pub kind_of_tree : Tree → Kind
kind_of_tree t = (items_in t).kind

-- two sides with an item for each of the other's, where neither is an atom
abbrev pub HaveEqualLengths : Tree → Tree → Type 0
HaveEqualLengths (vector xs) (vector ys) = length xs.atoms ≡ length ys.atoms
HaveEqualLengths left right = Unit {0}

-- a value of this shape over n rows
abbrev pub HasShape : ℕ → Shape → Tree → Type 0
HasShape n s.Scalar (atom x) = Unit {0}
HasShape n s.Rows (vector c) = length c.atoms ≡ n
HasShape n s.List (vector c) = Unit {0}
HasShape n shape value = ⊥

-- as many items as the side has, where it is an atom
abbrev pub HasItem : Tree → List Atom → Type 0
HasItem (atom x) xs = 0 < length xs
HasItem side xs = Unit {0}

-- the verbs with one side that keep its form
abbrev pub is_by_item : Verb1 → Bool
is_by_item u.Not = true
is_by_item u.Neg = true
is_by_item _ = false

-- a vector of two items
abbrev pub has_ends : Tree → Bool
has_ends (vector c) = length c.atoms == 2
has_ends _ = false

-- sides that a verb goes over: `within` has two ends at its right, and a verb by item sides of one length
abbrev pub AreSides : Verb → Tree → Tree → Type 0
AreSides v.In left right = Unit {0}
AreSides v.Within left right = has_ends right ≡ true
AreSides v.Like left right = Unit {0}
AreSides verb left right = HaveEqualLengths left right
