-- What a message asks for (KX, tick.q: `.u.upd`; u.q: `.u.sub`).
use Rattle.std.specs.Prelude.{ℕ, Bool, false, List, [], ◌∷◌, if◌then◌else◌, map, Option, Some, None, codes}
use Rattle.std.specs.List.{filter_map}
use Rattle.std.specs.Str.{bytes_eq}
use Rattle.q_values.specs.Tree.{Tree, atom, vector, list, list_of}
use Rattle.q_values.specs.declared.atom.Atom.{Atom}
use Rattle.q_values.specs.declared.atom.Atom.TheVariants as a
use Rattle.q_values.specs.declared.kind.Kind.{Kind}
use Rattle.q_values.specs.declared.kind.Kind.TheVariants as k
use Rattle.pubsub.specs.declared.request.SubRequest.{SubRequest}
use Rattle.pubsub.specs.declared.request.Wanted.{Wanted}
use Rattle.pubsub.specs.declared.request.Wanted.TheVariants as w
use Rattle.qsql_request.specs.Forms.{SubForm}

-- what a message asks for
pub data Request : Type 0 where
  -- an update of a table with these items
  update : List ℕ → List Tree → Request
  -- a subscription
  subscribe : SubRequest → Request
  -- an update whose table is no symbol, or whose items are neither a list nor a vector; a subscription whose table is no symbol, or
  -- whose symbols are neither a symbol nor a vector of symbols
  mistyped : Request
  -- a text
  text : List ℕ → Request
  -- a value that is no request
  other : Request

-- the byte of a character
abbrev pub character_of : Atom → Option ℕ
character_of (a.Character x) = Some x
character_of x = None

-- the bytes of a symbol
abbrev pub name_of : Atom → Option (List ℕ)
name_of (a.Symbol x) = Some x
name_of x = None

-- the symbol that a value is
abbrev pub symbol_of : Tree → Option (List ℕ)
symbol_of (atom x) = name_of x
symbol_of t = None

-- the bytes of a vector of characters
abbrev pub characters_of : Kind → List Atom → Option (List ℕ)
characters_of k.Character atoms = Some (filter_map character_of atoms)
characters_of kind atoms = None

-- the bytes of a symbol or of a vector of characters
abbrev pub function_of : Tree → Option (List ℕ)
function_of (atom x) = name_of x
function_of (vector v) = characters_of v.kind v.atoms
function_of t = None

-- the items of a list, or the atoms of a vector
abbrev pub items_in : Tree → Option (List Tree)
items_in (list items) = Some (list_of items)
items_in (vector v) = Some (map atom v.atoms)
items_in t = None

-- an update by its table and its items
abbrev pub update_of : Option (List ℕ) → Option (List Tree) → Request
update_of (Some name) (Some items) = update name items
update_of name items = mistyped

-- whether this function is the one of this name
abbrev pub is_named : List ℕ → Option (List ℕ) → Bool
is_named name None = false
is_named name (Some function) = bytes_eq function name

-- the rows that a symbol asks for: the null symbol for all
abbrev pub wanted_of : List ℕ → Wanted
wanted_of [] = w.Everything
wanted_of (b ∷ name) = w.Symbols ((b ∷ name) ∷ [])

-- the rows that an atom asks for
abbrev pub wanted_by : Option (List ℕ) → Option Wanted
wanted_by (Some name) = Some (wanted_of name)
wanted_by None = None

-- the rows that a vector asks for
abbrev pub wanted_among : Kind → List Atom → Option Wanted
wanted_among k.Symbol atoms = Some (w.Symbols (filter_map name_of atoms))
wanted_among kind atoms = None

-- the rows that a value asks for
abbrev pub wanted_in : Tree → Option Wanted
wanted_in (atom x) = wanted_by (name_of x)
wanted_in (vector v) = wanted_among v.kind v.atoms
wanted_in t = None

-- a subscription by its table and its rows
abbrev pub subscription_of : Option (List ℕ) → Option Wanted → Request
subscription_of (Some tables) (Some symbols) = subscribe (record { tables = tables; symbols = symbols })
subscription_of tables symbols = mistyped

-- what a call of this function asks for
abbrev pub call_of : Option (List ℕ) → Tree → Tree → Request
call_of function second third =
    if is_named (codes ".u.upd") function then update_of (symbol_of second) (items_in third)
    else if is_named (codes ".u.sub") function then subscription_of (symbol_of second) (wanted_in third)
    else other

-- a list of three items is a call
abbrev pub parts_request : List Tree → Request
parts_request (first ∷ second ∷ third ∷ []) = call_of (function_of first) second third
parts_request parts = other

-- a vector is a text where it is of characters, and a call where it is of three symbols
abbrev pub vector_request : Kind → List Atom → Request
vector_request k.Character atoms = text (filter_map character_of atoms)
vector_request k.Symbol atoms = parts_request (map atom atoms)
vector_request kind atoms = other

-- an atom is a text where it is a character
abbrev pub atom_request : Option ℕ → Request
atom_request (Some byte) = text (byte ∷ [])
atom_request None = other

-- what a message with this value asks for
abbrev pub request_of : Tree → Request
request_of (atom x) = atom_request (character_of x)
request_of (vector v) = vector_request v.kind v.atoms
request_of (list items) = parts_request (list_of items)
request_of t = other

-- a subscription to these rows of the one table that is named
abbrev pub single_table : List (List ℕ) → Wanted → Option SubRequest
single_table (tables ∷ []) symbols = Some (record { tables = tables; symbols = symbols })
single_table names symbols = None

-- what a text that subscribes asks for; none where it doesn't name exactly one table
abbrev pub subscription_in : SubForm → Option SubRequest
subscription_in s = single_table s.tables (if s.all then w.Everything else w.Symbols s.names)
