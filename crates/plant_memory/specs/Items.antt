-- The items of an update (KX, tick.q, `.u.upd`): their time, their lengths, their kinds, and the columns that they make.
use Rattle.std.specs.Prelude.{ℕ, ℤ, ◌+◌, ◌==◌, Bool, true, false, if◌then◌else◌, ◌&&◌, List, [], ◌∷◌, length, map, replicate, nat_lt, Option, Some, None}
use Rattle.std.specs.List.{list_all, list_any}
use Rattle.q_values.specs.Atom.{kind_of}
use Rattle.q_values.specs.Contents.{Contents}
use Rattle.q_values.specs.Kind.{is}
use Rattle.q_values.specs.Tree.{Tree, atom, vector}
use Rattle.q_values.specs.declared.atom.Atom.{Atom}
use Rattle.q_values.specs.declared.atom.Atom.TheVariants as a
use Rattle.q_values.specs.declared.kind.Kind.{Kind}
use Rattle.q_values.specs.declared.kind.Kind.TheVariants as k

-- the item is an atom or a vector of the kind
abbrev pub is_of_kind : Kind → Tree → Bool
is_of_kind kind (atom x) = is (kind_of x) kind
is_of_kind kind (vector v) = is v.kind kind
is_of_kind kind item = false

-- the length of an item that is a vector
abbrev pub vector_length : Tree → Option ℕ
vector_length (vector v) = Some (length v.atoms)
vector_length item = None

-- the time beside a first item: a vector of its length beside a vector, else an atom
abbrev pub time_beside : ℤ → Option ℕ → Tree
time_beside time None = atom (a.Timespan time)
time_beside time (Some n) = vector (record { kind = k.Timespan; atoms = replicate n (a.Timespan time) })

-- the items, with the time prepended where the first is no timespan
abbrev pub timed : ℤ → List Tree → List Tree
timed time [] = []
timed time (item ∷ items) = if is_of_kind k.Timespan item then item ∷ items else time_beside time (vector_length item) ∷ item ∷ items

-- an item of this length, if it is a vector, fits a first one: beside a vector fit atoms and vectors of its length, beside an
-- atom only atoms
abbrev pub fits_beside : Option ℕ → Option ℕ → Bool
fits_beside None None = true
fits_beside None (Some n) = false
fits_beside (Some n) None = true
fits_beside (Some n) (Some m) = m == n

-- there are items, as many as columns, and each fits the first
abbrev pub have_matching_lengths : ℕ → List Tree → Bool
have_matching_lengths columns [] = false
have_matching_lengths columns (first ∷ items) = (length items + 1 == columns) && list_all (λ item. fits_beside (vector_length first) (vector_length item)) items

-- the index of the first item that isn't of its column's kind; the first of the items has the index `i`
abbrev pub wrong_from : ℕ → List Kind → List Tree → Option ℕ
wrong_from i [] items = None
wrong_from i (kind ∷ kinds) [] = None
wrong_from i (kind ∷ kinds) (item ∷ items) = if is_of_kind kind item then wrong_from (i + 1) kinds items else Some i

-- the symbol is longer than the limit
abbrev pub is_long_symbol : ℕ → Atom → Bool
is_long_symbol limit (a.Symbol bytes) = nat_lt limit (length bytes)
is_long_symbol limit x = false

-- the atoms of an item that is an atom or a vector
abbrev pub atoms_of : Tree → List Atom
atoms_of (atom x) = x ∷ []
atoms_of (vector v) = v.atoms
atoms_of item = []

-- one of the items has a symbol that is longer than the limit
abbrev pub has_long_symbol : ℕ → List Tree → Bool
has_long_symbol limit = list_any (λ item. list_any (is_long_symbol limit) (atoms_of item))

-- the number of rows that items make: one, or as many as the first item has atoms where it is a vector
abbrev pub row_count : List Tree → ℕ
row_count [] = 0
row_count (item ∷ items) = length (atoms_of item)

-- an item as a column of `n` rows: a vector as it is, an atom `n` times; other items make no column
abbrev pub spread : ℕ → Tree → Contents
spread n (atom x) = record { kind = kind_of x; atoms = replicate n x }
spread n (vector v) = v
spread n item = record { kind = k.Boolean; atoms = [] }

-- the columns that items make
abbrev pub columns_of : List Tree → List Contents
columns_of items = map (spread (row_count items)) items
