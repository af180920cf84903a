-- The grammar of schema texts. Offsets are in bytes from 0. Blanks and remarks may stand before each sign and each word.
use Rattle.std.specs.Prelude.{◌≡◌, ℕ, suc, ◌+◌, ◌==◌, ◌||◌, ◌&&◌, Bool, true, false, nat_le, nat_lt, List, [], ◌∷◌, ◌++◌, length, map, drop}
use Rattle.std.specs.Prelude.{Some, None, Result, Ok, Err, slice_get, codes}
use Rattle.std.specs.List.{AllByRecursion, list_any}
use Rattle.std.specs.Str.{bytes_eq}
use Rattle.q_values.specs.declared.kind.Kind.{Kind}
use Rattle.q_words.specs.Words.{is_reserved}
use Rattle.day_rows.specs.Schema.{is_word, IsWord, by_name}
use Rattle.day_rows.specs.Sorted.{inserted}
use Rattle.day_rows.specs.declared.schema.Shape.{Shape}
use Rattle.schema_text.specs.Kinds.{kind_named, is_first_kinds, is_first_names}
use Rattle.schema_text.specs.Tokens.{is_sign, is_end, begins_word}
use Rattle.schema_text.specs.declared.refusal.SchemaRefusal.{SchemaRefusal}
use Rattle.schema_text.specs.declared.refusal.SchemaRefusal.TheVariants as r

abbrev pub is_blank : ℕ → Bool
is_blank b = (b == 10) || ((b == 32) || ((b == 9) || (b == 13)))

-- a line's end, or the text's
abbrev pub ends_line : List ℕ → Bool
ends_line [] = true
ends_line (b ∷ bs) = b == 10

-- IsGap start bs n: the bytes begin with exactly n bytes of blanks and remarks. `start` says whether the first is a line's
-- first byte. A remark is a line that begins with `/`.
pub data IsGap : Bool → List ℕ → ℕ → Type 0 where
  at_end : {start : Bool} → IsGap start [] 0
  at_token : {start : Bool} {b : ℕ} {bs : List ℕ} → is_blank b ≡ false → (start && (b == 47)) ≡ false → IsGap start (b ∷ bs) 0
  blank : {start : Bool} {b n : ℕ} {bs : List ℕ} → is_blank b ≡ true → IsGap (b == 10) bs n → IsGap start (b ∷ bs) (suc n)
  remark : {n : ℕ} (line rest : List ℕ) → AllByRecursion (λ b. (b == 10) ≡ false) line → ends_line rest ≡ true → IsGap true rest n
      → IsGap true (47 ∷ line ++ rest) (suc (length line + n))

-- the next sign or word, or the text's end, is at the offset `next`
pub record IsNext (text : List ℕ) (at next : ℕ) : Type 0 where
  pub gap : ℕ
  pub is_gap : IsGap false (drop at text) gap
  pub offset : next ≡ at + gap

-- A part of a text. `P text at (Ok (x, end))`: from the offset `at` on the text has the part, which means x and ends at `end`.
-- `P text at (Err why)`: the first fault from `at` on is why.
abbrev pub Part : Type 0 → Type 1
Part A = List ℕ → ℕ → Result (A × ℕ) SchemaRefusal → Type 0

-- no more text
pub data Means {A : Type 0} (x : A) (text : List ℕ) (at : ℕ) : Result (A × ℕ) SchemaRefusal → Type 0 where
  means : Means x text at (Ok (x, at))

-- one part, then another: the first fault is the one's or else the other's
pub data Then {A B : Type 0} (P : Part A) (Q : A → Part B) (text : List ℕ) (at : ℕ) : Result (B × ℕ) SchemaRefusal → Type 0 where
  first_fails : {why : SchemaRefusal} → P text at (Err why) → Then P Q text at (Err why)
  both : {x : A} {end : ℕ} {outcome : Result (B × ℕ) SchemaRefusal} → P text at (Ok (x, end)) → Q x text end outcome → Then P Q text at outcome

-- a sign, then a part
pub data Sign {B : Type 0} (sign : ℕ) (Q : Part B) (text : List ℕ) (at : ℕ) : Result (B × ℕ) SchemaRefusal → Type 0 where
  unsigned : {next : ℕ} → IsNext text at next → is_sign sign (slice_get text next) ≡ false → Sign sign Q text at (Err (r.Parse next))
  signed : {next : ℕ} {outcome : Result (B × ℕ) SchemaRefusal} → IsNext text at next → is_sign sign (slice_get text next) ≡ true
      → Q text (next + 1) outcome → Sign sign Q text at outcome

-- signs, then a part
abbrev pub Signs : {B : Type 0} → List ℕ → Part B → Part B
Signs [] Q = Q
Signs (sign ∷ signs) Q = Sign sign (Signs signs Q)

-- whether these bytes stand at the offset
abbrev pub stand_at : List ℕ → List ℕ → ℕ → Bool
stand_at [] text at = true
stand_at (b ∷ bs) text at = is_sign b (slice_get text at) && stand_at bs text (at + 1)

-- bytes that may be left out, then a part
pub data Optionally {B : Type 0} (bytes : List ℕ) (Q : Part B) (text : List ℕ) (at : ℕ) : Result (B × ℕ) SchemaRefusal → Type 0 where
  left_out : {next : ℕ} {outcome : Result (B × ℕ) SchemaRefusal} → IsNext text at next → stand_at bytes text next ≡ false
      → Q text at outcome → Optionally bytes Q text at outcome
  present : {next : ℕ} {outcome : Result (B × ℕ) SchemaRefusal} → IsNext text at next → stand_at bytes text next ≡ true
      → Q text (next + length bytes) outcome → Optionally bytes Q text at outcome

-- whether the first byte, if there is one, may belong to a word
abbrev pub goes_on : List ℕ → Bool
goes_on [] = false
goes_on (b ∷ bs) = is_word b

-- the next word: a letter, then all letters, digits and underscores that follow
pub record IsWordAt (text : List ℕ) (at start : ℕ) (word : List ℕ) (end : ℕ) : Type 0 where
  pub next : IsNext text at start
  pub rest : List ℕ
  pub spelled : drop start text ≡ word ++ rest
  pub lawful : IsWord word
  pub whole : goes_on rest ≡ false
  pub offset : end ≡ start + length word

-- the next token is no word
pub record IsNoWord (text : List ℕ) (at start : ℕ) : Type 0 where
  pub next : IsNext text at start
  pub none : begins_word (slice_get text start) ≡ false

-- a new name beside earlier ones, of which there may be `most`
pub data IsNewName (earlier : List (List ℕ)) (most : ℕ) (text : List ℕ) (at : ℕ) : Result (List ℕ × ℕ) SchemaRefusal → Type 0 where
  no_name : {start : ℕ} → IsNoWord text at start → IsNewName earlier most text at (Err (r.Parse start))
  twice : {start end : ℕ} {word : List ℕ} → IsWordAt text at start word end → list_any (bytes_eq word) earlier ≡ true
      → IsNewName earlier most text at (Err (r.Twice word))
  reserved : {start end : ℕ} {word : List ℕ} → IsWordAt text at start word end → list_any (bytes_eq word) earlier ≡ false → is_reserved word ≡ true
      → IsNewName earlier most text at (Err (r.Reserved word))
  too_much : {start end : ℕ} {word : List ℕ} → IsWordAt text at start word end → list_any (bytes_eq word) earlier ≡ false → is_reserved word ≡ false
      → (nat_le most (length earlier) || nat_lt 64 (length word)) ≡ true → IsNewName earlier most text at (Err r.Limit)
  new_name : {start end : ℕ} {word : List ℕ} → IsWordAt text at start word end → list_any (bytes_eq word) earlier ≡ false → is_reserved word ≡ false
      → (nat_le most (length earlier) || nat_lt 64 (length word)) ≡ false → IsNewName earlier most text at (Ok (word, end))

-- the name of a kind that a column may have
pub data IsKind (text : List ℕ) (at : ℕ) : Result (Kind × ℕ) SchemaRefusal → Type 0 where
  no_kind : {start : ℕ} → IsNoWord text at start → IsKind text at (Err (r.Parse start))
  bad_kind : {start end : ℕ} {word : List ℕ} → IsWordAt text at start word end → kind_named word ≡ None → IsKind text at (Err (r.BadKind start))
  of_kind : {start end : ℕ} {word : List ℕ} {kind : Kind} → IsWordAt text at start word end → kind_named word ≡ Some kind → IsKind text at (Ok (kind, end))

-- list = "`" kind "$" "(" ")"
abbrev pub IsList : Part Kind
IsList = Signs (codes "`") (Then IsKind (λ kind. Signs (codes "$()") (Means kind)))

abbrev pub with_column : Shape → List ℕ → Kind → Shape
with_column shape name kind = record shape { names = shape.names ++ name ∷ []; kinds = shape.kinds ++ kind ∷ [] }

-- column = name ":" [ "`g#" ] list; it is added to a table's columns
abbrev pub IsColumn : Shape → Part Shape
IsColumn shape =
    Then (IsNewName shape.names 48) (λ name. Signs (codes ":") (Optionally (codes "`g#") (Then IsList (λ kind. Means (with_column shape name kind)))))

-- columns = column { ";" column } ")"
pub data IsColumns : Shape → List ℕ → ℕ → Result (Shape × ℕ) SchemaRefusal → Type 0 where
  no_column : {shape : Shape} {text : List ℕ} {at : ℕ} {why : SchemaRefusal} → IsColumn shape text at (Err why) → IsColumns shape text at (Err why)
  last_column : {shape grown : Shape} {text : List ℕ} {at end next : ℕ} {outcome : Result (Shape × ℕ) SchemaRefusal}
      → IsColumn shape text at (Ok (grown, end)) → IsNext text end next → is_sign 59 (slice_get text next) ≡ false
      → Signs (codes ")") (Means grown) text end outcome → IsColumns shape text at outcome
  more_columns : {shape grown : Shape} {text : List ℕ} {at end next : ℕ} {outcome : Result (Shape × ℕ) SchemaRefusal}
      → IsColumn shape text at (Ok (grown, end)) → IsNext text end next → is_sign 59 (slice_get text next) ≡ true
      → IsColumns grown text (next + 1) outcome → IsColumns shape text at outcome

-- the end of a definition: the first columns are `time`, a timespan, and `sym`, a symbol, and a ";" may follow
pub data IsEnd (shape : Shape) (text : List ℕ) (at : ℕ) : Result (Shape × ℕ) SchemaRefusal → Type 0 where
  no_time_sym : (is_first_names shape.names && is_first_kinds shape.kinds) ≡ false → IsEnd shape text at (Err (r.TimeSym shape.table))
  time_sym : {outcome : Result (Shape × ℕ) SchemaRefusal} → (is_first_names shape.names && is_first_kinds shape.kinds) ≡ true
      → Optionally (codes ";") (Means shape) text at outcome → IsEnd shape text at outcome

abbrev pub names_of : List Shape → List (List ℕ)
names_of tables = map (λ (table : Shape). table.table) tables

-- head = name ":" "(" "[" "]"
abbrev pub IsHead : List Shape → Part (List ℕ)
IsHead tables = Then (IsNewName (names_of tables) 64) (λ name. Signs (codes ":([]") (Means name))

-- table = head columns [ ";" ]
abbrev pub IsTable : List Shape → Part Shape
IsTable tables = Then (IsHead tables) (λ name. Then (IsColumns (record { table = name; names = []; kinds = [] })) IsEnd)

-- tables = { table }, up to the text's end; each is inserted among the earlier ones by its name
pub data IsTables : List Shape → List ℕ → ℕ → Result (List Shape) SchemaRefusal → Type 0 where
  no_tables : {text : List ℕ} {at next : ℕ} → IsNext text at next → is_end (slice_get text next) ≡ true → IsTables [] text at (Err (r.Parse (length text)))
  no_more : {table : Shape} {tables : List Shape} {text : List ℕ} {at next : ℕ} → IsNext text at next → is_end (slice_get text next) ≡ true
      → IsTables (table ∷ tables) text at (Ok (table ∷ tables))
  no_table : {tables : List Shape} {text : List ℕ} {at next : ℕ} {why : SchemaRefusal} → IsNext text at next → is_end (slice_get text next) ≡ false
      → IsTable tables text at (Err why) → IsTables tables text at (Err why)
  one_more : {tables : List Shape} {table : Shape} {text : List ℕ} {at next end : ℕ} {outcome : Result (List Shape) SchemaRefusal}
      → IsNext text at next → is_end (slice_get text next) ≡ false → IsTable tables text at (Ok (table, end))
      → IsTables (inserted by_name table tables) text end outcome → IsTables tables text at outcome

-- what a text is: a schema, or its first fault
pub record IsText (text : List ℕ) (outcome : Result (List Shape) SchemaRefusal) : Type 0 where
  pub start : ℕ
  pub gap : IsGap true text start
  pub tables : IsTables [] text start outcome

-- the text is the schema, a table for each definition, sorted by name
abbrev pub Spells : List ℕ → List Shape → Type 0
Spells text schema = IsText text (Ok schema)

-- the first fault of the text, from left to right
abbrev pub HasFault : List ℕ → SchemaRefusal → Type 0
HasFault text why = IsText text (Err why)
