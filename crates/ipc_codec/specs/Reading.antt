-- Reading an object from the front of bytes, up to the first fault from left to right. A fault carries the number of bytes
-- that are left where it is found; `object_of` turns that into an offset.
use Rattle.std.specs.Prelude.{◌≡◌, ℕ, zero, suc, ◌-◌, ◌*◌, ◌==◌, nat_lt, Bool, true, false, ◌&&◌, ◌||◌, if◌then◌else◌}
use Rattle.std.specs.Prelude.{List, [], ◌∷◌, length, drop, map, Option, Some, None, Result, Ok, Err}
use Rattle.std.specs.List.{list_all}
use Rattle.q_values.specs.Contents.{Contents}
use Rattle.q_values.specs.Table.{rows_of}
use Rattle.q_values.specs.Tree.{Tree, Items, Grid, atom, vector, list, dict, table, keyed, identity, wrong, no_items, item}
use Rattle.q_values.specs.declared.atom.Atom.{Atom}
use Rattle.q_values.specs.declared.atom.Atom.TheVariants as a
use Rattle.q_values.specs.declared.kind.Kind.{Kind}
use Rattle.q_values.specs.declared.kind.Kind.TheVariants as k
use Rattle.ipc_codec.specs.declared.fault.Fault.{Fault}
use Rattle.ipc_codec.specs.declared.fault.Fault.TheVariants.{Truncated, BadType, BadShape, NotBuilt, TooDeep}
use Rattle.ipc_codec.specs.declared.fault.Stop.{Stop}
use Rattle.ipc_codec.specs.declared.fault.Stop.TheVariants as s
use Rattle.ipc_codec.specs.declared.form.Form.{Form}
use Rattle.ipc_codec.specs.declared.form.Form.TheVariants as f
use Rattle.ipc_codec.specs.declared.order.Order.{Order}
use Rattle.ipc_codec.specs.declared.refusal.DecodeRefusal.{DecodeRefusal}
use Rattle.ipc_codec.specs.declared.refusal.DecodeRefusal.TheVariants as r
use Rattle.q_values.specs.Kind.{kind_at, width}
use Rattle.ipc_codec.specs.Types.{form_of, symbols_byte}
use Rattle.ipc_codec.specs.Numbers.{number, element, cells}

infixl 10 ◌>>=◌
abbrev pub ◌>>=◌ : {A B : Type 0} → Result A Fault → (A → Result B Fault) → Result B Fault
(Ok x) >>= g = g x
(Err e) >>= g = Err e

-- what a function returned, seen through view, is what this reading gives
abbrev pub Finds : {X Y : Type 0} → (X → Y) → Result X Fault → Result Y Fault → Type 0
Finds view (Ok x) read = read ≡ Ok (view x)
Finds view (Err e) read = read ≡ Err e

-- the same, unless memory ran out
abbrev pub Stops : {Y : Type 0} → Stop → Result Y Fault → Type 0
Stops s.Memory read = Unit {0}
Stops (s.At e) read = read ≡ Err e

abbrev pub Gives : {X Y : Type 0} → (X → Y) → Result X Stop → Result Y Fault → Type 0
Gives view (Ok x) read = read ≡ Ok (view x)
Gives view (Err e) read = Stops e read

-- an attribute byte and a count
unfoldable pub count_at : Order → List ℕ → Result (ℕ × List ℕ) Fault
count_at order [] = Err Truncated
count_at order (attribute ∷ bytes) =
    if nat_lt (length bytes) 4 then Err Truncated else
    (if nat_lt 2147483647 (number order 4 bytes) then Err (BadShape (length bytes)) else Ok (number order 4 bytes, drop 4 bytes))

-- a text that a 0 ends
unfoldable pub text_at : List ℕ → Result (List ℕ × List ℕ) Fault
text_at [] = Err Truncated
text_at (zero ∷ bytes) = Ok ([], bytes)
text_at (suc b ∷ bytes) = do
  text ← text_at bytes
  Ok (suc b ∷ text.0, text.1)

-- n texts
unfoldable pub texts_at : ℕ → List ℕ → Result (List (List ℕ) × List ℕ) Fault
texts_at zero bytes = Ok ([], bytes)
texts_at (suc n) bytes = do
  first ← text_at bytes
  others ← texts_at n first.1
  Ok (first.0 ∷ others.0, others.1)

-- n elements of a kind of fixed width
unfoldable pub cells_at : Order → Kind → ℕ → List ℕ → Result (List Atom × List ℕ) Fault
cells_at order kind n bytes =
    if nat_lt (length bytes) (n * width kind) then Err Truncated
    else Ok (cells (element order kind) (width kind) n bytes, drop (n * width kind) bytes)

unfoldable pub symbols_at : ℕ → List ℕ → Result (List Atom × List ℕ) Fault
symbols_at n bytes = do
  texts ← texts_at n bytes
  Ok (map (λ text. a.Symbol text) texts.0, texts.1)

abbrev pub is_symbol : Kind → Bool
is_symbol k.Symbol = true
is_symbol _ = false

-- n elements
unfoldable pub elements_at : Order → Kind → ℕ → List ℕ → Result (List Atom × List ℕ) Fault
elements_at order kind n bytes = if is_symbol kind then symbols_at n bytes else cells_at order kind n bytes

-- a vector, after its type byte
unfoldable pub vector_at : Order → Kind → List ℕ → Result (Contents × List ℕ) Fault
vector_at order kind bytes = do
  n ← count_at order bytes
  atoms ← elements_at order kind n.0 n.1
  Ok (record { kind = kind; atoms = atoms.0 }, atoms.1)

-- an atom, after its type byte
unfoldable pub atom_at : Order → Kind → List ℕ → Result (Atom × List ℕ) Fault
atom_at order kind bytes =
    if is_symbol kind then (text_at bytes >>= λ text. Ok (a.Symbol text.0, text.1)) else
    (if nat_lt (length bytes) (width kind) then Err Truncated else Ok (element order kind bytes, drop (width kind) bytes))

-- the bytes after a type byte that has to be this one or that one, where `room` more levels may be open
unfoldable pub part_at : ℕ → ℕ → ℕ → List ℕ → Result (List ℕ) Fault
part_at room this that [] = Err Truncated
part_at zero this that (b ∷ bytes) = Err (TooDeep (length (b ∷ bytes)))
part_at (suc room) this that (b ∷ bytes) = if b == this || b == that then Ok bytes else Err (BadShape (length (b ∷ bytes)))

abbrev pub column_by : Order → Option Kind → ℕ → List ℕ → Result (Contents × List ℕ) Fault
column_by order None left bytes = Err (NotBuilt left)
column_by order (Some kind) left bytes = vector_at order kind bytes

-- a column of a table
unfoldable pub column_at : ℕ → Order → List ℕ → Result (Contents × List ℕ) Fault
column_at room order [] = Err Truncated
column_at zero order (b ∷ bytes) = Err (TooDeep (length (b ∷ bytes)))
column_at (suc room) order (b ∷ bytes) = column_by order (kind_at b) (length (b ∷ bytes)) bytes

unfoldable pub columns_at : ℕ → Order → ℕ → List ℕ → Result (List Contents × List ℕ) Fault
columns_at room order zero bytes = Ok ([], bytes)
columns_at room order (suc n) bytes = do
  first ← column_at room order bytes
  others ← columns_at room order n first.1
  Ok (first.0 ∷ others.0, others.1)

-- whether all columns have this number of rows
abbrev pub have_equal_lengths : ℕ → List Contents → Bool
have_equal_lengths rows = list_all (λ column. length column.atoms == rows)

-- whether names and columns make a table
abbrev pub is_grid : List (List ℕ) → List Contents → Bool
is_grid names columns = nat_lt 0 (length columns) && (length names == length columns && have_equal_lengths (rows_of columns) columns)

abbrev pub shaped : ℕ → List (List ℕ) → List Contents → Result Grid Fault
shaped left names columns = if is_grid names columns then Ok (record { names = names; columns = columns }) else Err (BadShape left)

-- a table's names, after the type byte of its dictionary
unfoldable pub names_at : ℕ → Order → List ℕ → Result (List (List ℕ) × List ℕ) Fault
names_at room order bytes = do
  inner ← part_at room symbols_byte symbols_byte bytes
  n ← count_at order inner
  texts_at n.0 n.1

-- a table's columns, after its names
unfoldable pub list_of_columns_at : ℕ → Order → List ℕ → Result (List Contents × List ℕ) Fault
list_of_columns_at room order bytes = do
  inner ← part_at room 0 0 bytes
  n ← count_at order inner
  columns_at (room - 1) order n.0 n.1

-- a table, after its type byte, from which on `left` bytes are left; within it `room` more levels may be open
unfoldable pub grid_at : ℕ → ℕ → Order → List ℕ → Result (Grid × List ℕ) Fault
grid_at left room order [] = Err Truncated
grid_at left room order (attribute ∷ bytes) = do
  inner ← part_at room 99 127 bytes
  names ← names_at (room - 1) order inner
  columns ← list_of_columns_at (room - 1) order names.1
  grid ← shaped left names.0 columns.0
  Ok (grid, columns.1)

-- the number of items that a value has as one side of a dictionary: 1 for an atom, the rows of a table
abbrev mutual
  pub extent : Tree → ℕ
  extent (atom x) = 1
  extent (vector v) = length v.atoms
  extent (list items) = number_of_items items
  extent (dict keys values) = extent keys
  extent (table grid) = rows_of grid.columns
  extent (keyed keys values) = rows_of keys.columns
  extent identity = 1
  extent (wrong text) = 1

  pub number_of_items : Items → ℕ
  number_of_items no_items = zero
  number_of_items (item t items) = suc (number_of_items items)

abbrev pub checked : Bool → ℕ → Tree → Result Tree Fault
checked true left t = Ok t
checked false left t = Err (BadShape left)

-- the dictionary of two sides, which have to be equally long; of two tables it is a keyed table
abbrev pub joined : ℕ → Tree → Tree → Result Tree Fault
joined left (table keys) (table values) = checked (rows_of keys.columns == rows_of values.columns) left (keyed keys values)
joined left keys values = checked (extent keys == extent values) left (dict keys values)

-- the generic null `(::)`, after its type byte
unfoldable pub identity_at : ℕ → List ℕ → Result (Tree × List ℕ) Fault
identity_at left [] = Err Truncated
identity_at left (zero ∷ bytes) = Ok (identity, bytes)
identity_at left (suc b ∷ bytes) = Err (NotBuilt left)

-- n objects
unfoldable pub items_at : (List ℕ → Result (Tree × List ℕ) Fault) → ℕ → List ℕ → Result (Items × List ℕ) Fault
items_at object zero bytes = Ok (no_items, bytes)
items_at object (suc n) bytes = do
  first ← object bytes
  others ← items_at object n first.1
  Ok (item first.0 others.0, others.1)

-- a general list, after its type byte
unfoldable pub list_at : (List ℕ → Result (Tree × List ℕ) Fault) → Order → List ℕ → Result (Tree × List ℕ) Fault
list_at object order bytes = do
  n ← count_at order bytes
  items ← items_at object n.0 n.1
  Ok (list items.0, items.1)

-- a dictionary, after its type byte
unfoldable pub dictionary_at : (List ℕ → Result (Tree × List ℕ) Fault) → ℕ → List ℕ → Result (Tree × List ℕ) Fault
dictionary_at object left bytes = do
  keys ← object bytes
  values ← object keys.1
  both ← joined left keys.0 values.0
  Ok (both, values.1)

-- an object, after its type byte, from which on `left` bytes are left; within it `room` more levels may be open
unfoldable pub object_by : (List ℕ → Result (Tree × List ℕ) Fault) → ℕ → Order → Form → ℕ → List ℕ → Result (Tree × List ℕ) Fault
object_by object room order (f.Atom kind) left bytes = do
  x ← atom_at order kind bytes
  Ok (atom x.0, x.1)
object_by object room order (f.Vector kind) left bytes = do
  x ← vector_at order kind bytes
  Ok (vector x.0, x.1)
object_by object room order f.List left bytes = list_at object order bytes
object_by object room order f.Dictionary left bytes = dictionary_at object left bytes
object_by object room order f.Table left bytes = do
  x ← grid_at left room order bytes
  Ok (table x.0, x.1)
object_by object room order f.Identity left bytes = identity_at left bytes
object_by object room order f.Wrong left bytes = do
  x ← text_at bytes
  Ok (wrong x.0, x.1)
object_by object room order f.Unbuilt left bytes = Err (NotBuilt left)
object_by object room order f.Unknown left bytes = Err (BadType left)

-- an object, where `room` levels may be open, its own included
unfoldable pub object_at : ℕ → Order → List ℕ → Result (Tree × List ℕ) Fault
object_at room order [] = Err Truncated
object_at zero order (b ∷ bytes) = Err (TooDeep (length (b ∷ bytes)))
object_at (suc room) order (b ∷ bytes) = object_by (object_at room order) room order (form_of b) (length (b ∷ bytes)) bytes

-- the refusal for a fault in n bytes
abbrev pub placed : ℕ → Fault → DecodeRefusal
placed n Truncated = r.Truncated n
placed n (BadType left) = r.BadType (n - left)
placed n (BadShape left) = r.BadShape (n - left)
placed n (NotBuilt left) = r.NotBuilt (n - left)
placed n (TooDeep left) = r.TooDeep (n - left)

abbrev pub counted : ℕ → Result (Tree × List ℕ) Fault → Result (Tree × ℕ) DecodeRefusal
counted n (Ok x) = Ok (x.0, n - length x.1)
counted n (Err e) = Err (placed n e)

-- the value and the length in bytes of the object at the front, or the first refusal
unfoldable pub object_of : Order → List ℕ → Result (Tree × ℕ) DecodeRefusal
object_of order bytes = counted (length bytes) (object_at 64 order bytes)

-- that length alone
abbrev pub measured : Result (Tree × ℕ) DecodeRefusal → Result ℕ DecodeRefusal
measured (Ok x) = Ok x.1
measured (Err e) = Err e

-- a refusal of `decode`: the one that reading gives, or out of memory
abbrev pub RefusesObject : Result (Tree × ℕ) DecodeRefusal → DecodeRefusal → Type 0
RefusesObject read r.NoMemory = Unit {0}
RefusesObject read (r.Truncated at) = read ≡ Err (r.Truncated at)
RefusesObject read (r.BadType at) = read ≡ Err (r.BadType at)
RefusesObject read (r.BadShape at) = read ≡ Err (r.BadShape at)
RefusesObject read (r.NotBuilt at) = read ≡ Err (r.NotBuilt at)
RefusesObject read (r.TooDeep at) = read ≡ Err (r.TooDeep at)
