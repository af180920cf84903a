-- The steps of the reader, one definition for each of its functions; each gives what was read and the offset after it. What a
-- text means is said by Grammar.antt alone.
use Rattle.std.specs.Prelude.{◌≡◌, ℕ, zero, suc, ◌+◌, ◌||◌, ◌&&◌, Bool, nat_le, nat_lt, if◌then◌else◌, List, [], ◌∷◌, ◌++◌, length, map}
use Rattle.std.specs.Prelude.{Option, Some, None, Result, Ok, Err, slice_get}
use Rattle.std.specs.List.{list_any}
use Rattle.std.specs.Str.{bytes_eq}
use Rattle.q_values.specs.declared.kind.Kind.{Kind}
use Rattle.q_words.specs.Words.{is_reserved}
use Rattle.day_rows.specs.Schema.{by_name}
use Rattle.day_rows.specs.Sorted.{inserted}
use Rattle.day_rows.specs.declared.schema.Shape.{Shape}
use Rattle.schema_text.specs.Kinds.{kind_named, is_first_kinds, is_first_names}
use Rattle.schema_text.specs.Tokens.{part, first_part, sign_at, word_at, is_sign, is_end}
use Rattle.schema_text.specs.declared.refusal.SchemaRefusal.{SchemaRefusal}
use Rattle.schema_text.specs.declared.refusal.SchemaRefusal.TheVariants as r

infixl 10 ◌>>=◌
abbrev pub ◌>>=◌ : {A B : Type 0} → Result A SchemaRefusal → (A → Result B SchemaRefusal) → Result B SchemaRefusal
(Ok x) >>= f = f x
(Err e) >>= f = Err e

-- a refusal is the one that reading gives, unless it is out of memory
abbrev pub Refuses : {Y : Type 0} → SchemaRefusal → Result Y SchemaRefusal → Type 0
Refuses (r.Parse at) read = read ≡ Err (r.Parse at)
Refuses (r.BadKind at) read = read ≡ Err (r.BadKind at)
Refuses (r.Twice name) read = read ≡ Err (r.Twice name)
Refuses (r.TimeSym table) read = read ≡ Err (r.TimeSym table)
Refuses (r.Reserved name) read = read ≡ Err (r.Reserved name)
Refuses r.Limit read = read ≡ Err r.Limit
Refuses r.NoMemory read = Unit {0}

-- what a function returned, seen by `view`, is what reading gives, unless it is out of memory
abbrev pub Gives : {X Y : Type 0} → (X → Y) → Result X SchemaRefusal → Result Y SchemaRefusal → Type 0
Gives view (Ok x) read = read ≡ Ok (view x)
Gives view (Err e) read = Refuses e read

-- a new name, where `known` says whether there is one like it already, and `count` how many there are
abbrev pub judged_by : Bool → ℕ → ℕ → List ℕ → Result (List ℕ) SchemaRefusal
judged_by known count most name =
    if known then Err (r.Twice name)
    else (if is_reserved name then Err (r.Reserved name)
    else (if nat_le most count || nat_lt 64 (length name) then Err r.Limit
    else Ok name))

-- a new name, which must differ from earlier ones
abbrev pub judged : List (List ℕ) → ℕ → List ℕ → Result (List ℕ) SchemaRefusal
judged earlier most name = judged_by (list_any (bytes_eq name) earlier) (length earlier) most name

-- a new name, and the offset after it
unfoldable pub name_at : List (List ℕ) → ℕ → List ℕ → ℕ → Result (List ℕ × ℕ) SchemaRefusal
name_at earlier most text at = do
  word ← word_at text at
  name ← judged earlier most word.0
  Ok (name, word.2)

abbrev pub kind_or : Option Kind → ℕ → ℕ → Result (Kind × ℕ) SchemaRefusal
kind_or None start end = Err (r.BadKind start)
kind_or (Some kind) start end = Ok (kind, end)

-- a kind, and the offset after its name
unfoldable pub kind_at : List ℕ → ℕ → Result (Kind × ℕ) SchemaRefusal
kind_at text at = do
  word ← word_at text at
  kind_or (kind_named word.0) word.1 word.2

-- the offset after the attribute `g#, where it comes next; else the offset itself
abbrev pub past_attribute : List ℕ → ℕ → ℕ
past_attribute text at =
    if is_sign 96 (slice_get text (part text at)) && (is_sign 103 (slice_get text (part text at + 1)) && is_sign 35 (slice_get text (part text at + 2)))
    then part text at + 3 else at

-- an empty list of a kind: "`" kind "$" "(" ")"
unfoldable pub typed_at : List ℕ → ℕ → Result (Kind × ℕ) SchemaRefusal
typed_at text at = do
  tick ← sign_at 96 text at
  kind ← kind_at text tick
  dollar ← sign_at 36 text kind.1
  left ← sign_at 40 text dollar
  right ← sign_at 41 text left
  Ok (kind.0, right)

-- one more column: its name, ":", and its kind
unfoldable pub column_at : Shape → List ℕ → ℕ → Result (Shape × ℕ) SchemaRefusal
column_at shape text at = do
  name ← name_at shape.names 48 text at
  colon ← sign_at 58 text name.1
  kind ← typed_at text (past_attribute text colon)
  Ok (record shape { names = shape.names ++ name.0 ∷ []; kinds = shape.kinds ++ kind.0 ∷ [] }, kind.1)

-- the columns, where the closing parenthesis must be the next token
unfoldable pub closed_at : Shape → List ℕ → ℕ → Result (Shape × ℕ) SchemaRefusal
closed_at shape text at = do
  end ← sign_at 41 text at
  Ok (shape, end)

-- columns separated by ";", and the offset after the closing parenthesis; at the column after the last `left` the limit is met
unfoldable pub columns_at : ℕ → Shape → List ℕ → ℕ → Result (Shape × ℕ) SchemaRefusal
columns_at zero shape text at = Err r.Limit
columns_at (suc left) shape text at = do
  column ← column_at shape text at
  if is_sign 59 (slice_get text (part text column.1)) then columns_at left column.0 text (part text column.1 + 1) else closed_at column.0 text column.1

-- the offset after a ";", where it comes next; else the offset itself
abbrev pub past_semicolon : List ℕ → ℕ → ℕ
past_semicolon text at = if is_sign 59 (slice_get text (part text at)) then part text at + 1 else at

-- what precedes a table's columns: its name and ":" "(" "[" "]"
unfoldable pub head_at : List (List ℕ) → List ℕ → ℕ → Result (List ℕ × ℕ) SchemaRefusal
head_at earlier text at = do
  name ← name_at earlier 64 text at
  colon ← sign_at 58 text name.1
  left ← sign_at 40 text colon
  opening ← sign_at 91 text left
  closing ← sign_at 93 text opening
  Ok (name.0, closing)

-- a table, and the offset after it
unfoldable pub table_at : List Shape → List ℕ → ℕ → Result (Shape × ℕ) SchemaRefusal
table_at tables text at = do
  head ← head_at (map (λ (table : Shape). table.table) tables) text at
  columns ← columns_at 49 (record { table = head.0; names = []; kinds = [] }) text head.1
  if is_first_names columns.0.names && is_first_kinds columns.0.kinds then Ok (columns.0, past_semicolon text columns.1) else Err (r.TimeSym columns.0.table)

abbrev pub some_tables : List Shape → List ℕ → Result (List Shape) SchemaRefusal
some_tables [] text = Err (r.Parse (length text))
some_tables (table ∷ tables) text = Ok (table ∷ tables)

-- the tables up to the end of the text, sorted by name; at the table after the last `left` the limit is met
unfoldable pub tables_at : ℕ → List Shape → List ℕ → ℕ → Result (List Shape) SchemaRefusal
tables_at zero tables text at = Err r.Limit
tables_at (suc left) tables text at =
    if is_end (slice_get text (part text at)) then some_tables tables text
    else (table_at tables text at >>= (λ table. tables_at left (inserted by_name table.0 tables) text table.1))

-- the schema that a text describes
unfoldable pub schema_of : List ℕ → Result (List Shape) SchemaRefusal
schema_of text = tables_at 65 [] text (first_part text)
