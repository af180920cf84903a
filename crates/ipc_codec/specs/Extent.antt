-- How long an object is, without its value: what `measure` keeps while it goes through the bytes.
use Rattle.std.specs.Prelude.{ℕ, zero, suc, ◌-◌, ◌*◌, ◌==◌, nat_lt, Bool, true, false, ◌&&◌, if◌then◌else◌}
use Rattle.std.specs.Prelude.{List, [], ◌∷◌, length, drop, Option, Some, None, Result, Ok, Err}
use Rattle.q_values.specs.Tree.{Tree, table}
use Rattle.q_values.specs.declared.kind.Kind.{Kind}
use Rattle.ipc_codec.specs.declared.fault.Fault.{Fault}
use Rattle.ipc_codec.specs.declared.fault.Fault.TheVariants.{Truncated, BadType, BadShape, NotBuilt, TooDeep}
use Rattle.ipc_codec.specs.declared.form.Form.{Form}
use Rattle.ipc_codec.specs.declared.form.Form.TheVariants as f
use Rattle.ipc_codec.specs.declared.order.Order.{Order}
use Rattle.ipc_codec.specs.declared.reach.Outline.{Outline}
use Rattle.ipc_codec.specs.declared.reach.Block.{Block}
use Rattle.q_values.specs.Kind.{kind_at, width}
use Rattle.ipc_codec.specs.Types.{form_of, symbols_byte}
use Rattle.ipc_codec.specs.Reading.{◌>>=◌, count_at, text_at, part_at, is_symbol, extent}

-- what is kept of a value: whether it is a table, and its number of items as one side of a dictionary
abbrev pub is_table : Tree → Bool
is_table (table grid) = true
is_table _ = false

abbrev pub outline : Tree → Outline
outline t = record { is_table = is_table t; count = extent t }

-- the bytes after n texts
unfoldable pub after_texts : ℕ → List ℕ → Result (List ℕ) Fault
after_texts zero bytes = Ok bytes
after_texts (suc n) bytes = do
  text ← text_at bytes
  after_texts n text.1

-- the bytes after n elements
unfoldable pub after_elements : Kind → ℕ → List ℕ → Result (List ℕ) Fault
after_elements kind n bytes =
    if is_symbol kind then after_texts n bytes else
    (if nat_lt (length bytes) (n * width kind) then Err Truncated else Ok (drop (n * width kind) bytes))

-- a vector's length and the bytes after it
unfoldable pub after_vector : Order → Kind → List ℕ → Result (ℕ × List ℕ) Fault
after_vector order kind bytes = do
  n ← count_at order bytes
  rest ← after_elements kind n.0 n.1
  Ok (n.0, rest)

unfoldable pub after_atom : Kind → List ℕ → Result (List ℕ) Fault
after_atom kind bytes =
    if is_symbol kind then (text_at bytes >>= λ text. Ok text.1) else
    (if nat_lt (length bytes) (width kind) then Err Truncated else Ok (drop (width kind) bytes))

abbrev pub after_column_by : Order → Option Kind → ℕ → List ℕ → Result (ℕ × List ℕ) Fault
after_column_by order None left bytes = Err (NotBuilt left)
after_column_by order (Some kind) left bytes = after_vector order kind bytes

unfoldable pub after_column : ℕ → Order → List ℕ → Result (ℕ × List ℕ) Fault
after_column room order [] = Err Truncated
after_column zero order (b ∷ bytes) = Err (TooDeep (length (b ∷ bytes)))
after_column (suc room) order (b ∷ bytes) = after_column_by order (kind_at b) (length (b ∷ bytes)) bytes

-- whether n columns all have this number of rows, and the bytes after them
unfoldable pub after_columns : ℕ → Order → ℕ → ℕ → List ℕ → Result (Bool × List ℕ) Fault
after_columns room order rows zero bytes = Ok (true, bytes)
after_columns room order rows (suc n) bytes = do
  first ← after_column room order bytes
  others ← after_columns room order rows n first.1
  Ok (first.0 == rows && others.0, others.1)

-- of n columns: their number, the rows of the first, and whether all have that number of rows
unfoldable pub after_block : ℕ → Order → ℕ → List ℕ → Result (Block × List ℕ) Fault
after_block room order zero bytes = Ok (record { columns = 0; rows = 0; have_equal_lengths = true }, bytes)
after_block room order (suc n) bytes = do
  first ← after_column room order bytes
  others ← after_columns room order first.0 n first.1
  Ok (record { columns = suc n; rows = first.0; have_equal_lengths = others.0 }, others.1)

unfoldable pub after_list_of_columns : ℕ → Order → List ℕ → Result (Block × List ℕ) Fault
after_list_of_columns room order bytes = do
  inner ← part_at room 0 0 bytes
  n ← count_at order inner
  after_block (room - 1) order n.0 n.1

-- the number of names and the bytes after them
unfoldable pub after_names : ℕ → Order → List ℕ → Result (ℕ × List ℕ) Fault
after_names room order bytes = do
  inner ← part_at room symbols_byte symbols_byte bytes
  n ← count_at order inner
  rest ← after_texts n.0 n.1
  Ok (n.0, rest)

abbrev pub is_grid_of : ℕ → Block → Bool
is_grid_of names block = nat_lt 0 block.columns && (names == block.columns && block.have_equal_lengths)

abbrev pub rows_in : ℕ → ℕ → Block → List ℕ → Result (ℕ × List ℕ) Fault
rows_in left names block bytes = if is_grid_of names block then Ok (block.rows, bytes) else Err (BadShape left)

-- the number of rows of a table and the bytes after it
unfoldable pub after_grid : ℕ → ℕ → Order → List ℕ → Result (ℕ × List ℕ) Fault
after_grid left room order [] = Err Truncated
after_grid left room order (attribute ∷ bytes) = do
  inner ← part_at room 99 127 bytes
  names ← after_names (room - 1) order inner
  block ← after_list_of_columns (room - 1) order names.1
  rows_in left names.0 block.0 block.1

unfoldable pub after_identity : ℕ → List ℕ → Result (List ℕ) Fault
after_identity left [] = Err Truncated
after_identity left (zero ∷ bytes) = Ok bytes
after_identity left (suc b ∷ bytes) = Err (NotBuilt left)

-- the bytes after n objects
unfoldable pub after_items : (List ℕ → Result (Outline × List ℕ) Fault) → ℕ → List ℕ → Result (List ℕ) Fault
after_items object zero bytes = Ok bytes
after_items object (suc n) bytes = do
  first ← object bytes
  after_items object n first.1

unfoldable pub after_list : (List ℕ → Result (Outline × List ℕ) Fault) → Order → List ℕ → Result (ℕ × List ℕ) Fault
after_list object order bytes = do
  n ← count_at order bytes
  rest ← after_items object n.0 n.1
  Ok (n.0, rest)

-- the outline of a dictionary or a keyed table of two sides
abbrev pub paired : ℕ → Outline → Outline → Result Outline Fault
paired left keys values = if keys.count == values.count then Ok (record { is_table = false; count = keys.count }) else Err (BadShape left)

unfoldable pub after_dictionary : (List ℕ → Result (Outline × List ℕ) Fault) → ℕ → List ℕ → Result (Outline × List ℕ) Fault
after_dictionary object left bytes = do
  keys ← object bytes
  values ← object keys.1
  both ← paired left keys.0 values.0
  Ok (both, values.1)

-- a value of n items that is no table
abbrev pub plain : ℕ → Outline
plain n = record { is_table = false; count = n }

unfoldable pub after_form : (List ℕ → Result (Outline × List ℕ) Fault) → ℕ → Order → Form → ℕ → List ℕ → Result (Outline × List ℕ) Fault
after_form object room order (f.Atom kind) left bytes = do
  rest ← after_atom kind bytes
  Ok (plain 1, rest)
after_form object room order (f.Vector kind) left bytes = do
  x ← after_vector order kind bytes
  Ok (plain x.0, x.1)
after_form object room order f.List left bytes = do
  x ← after_list object order bytes
  Ok (plain x.0, x.1)
after_form object room order f.Dictionary left bytes = after_dictionary object left bytes
after_form object room order f.Table left bytes = do
  x ← after_grid left room order bytes
  Ok (record { is_table = true; count = x.0 }, x.1)
after_form object room order f.Identity left bytes = do
  rest ← after_identity left bytes
  Ok (plain 1, rest)
after_form object room order f.Wrong left bytes = do
  text ← text_at bytes
  Ok (plain 1, text.1)
after_form object room order f.Unbuilt left bytes = Err (NotBuilt left)
after_form object room order f.Unknown left bytes = Err (BadType left)

-- the outline of the object at the front, and the bytes after it
unfoldable pub after_object : ℕ → Order → List ℕ → Result (Outline × List ℕ) Fault
after_object room order [] = Err Truncated
after_object zero order (b ∷ bytes) = Err (TooDeep (length (b ∷ bytes)))
after_object (suc room) order (b ∷ bytes) = after_form (after_object room order) room order (form_of b) (length (b ∷ bytes)) bytes
