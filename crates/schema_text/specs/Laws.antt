-- Laws of the grammar.
use Rattle.std.specs.Prelude.{◌≡◌, ◌≢◌, ℕ, List, [], Result}
use Rattle.day_rows.specs.Schema.{IsSchema}
use Rattle.day_rows.specs.declared.schema.Shape.{Shape}
use Rattle.schema_text.specs.BuiltIn.{built_in_text, built_in_tables}
use Rattle.schema_text.specs.Grammar.{IsText, Spells}
use Rattle.schema_text.specs.Written.{written}
use Rattle.schema_text.specs.declared.refusal.SchemaRefusal.{SchemaRefusal}

-- a text has one reading: it spells one schema and has no fault, or has one fault and spells no schema
abbrev pub OneReading : Type 0
OneReading =
    (text : List ℕ)
    → (some : Result (List Shape) SchemaRefusal) × IsText text some × ((other : Result (List Shape) SchemaRefusal) → IsText text other → other ≡ some)

-- the text that is built in is the schema that is built in
abbrev pub BuiltInIsRead : Type 0
BuiltInIsRead = Spells built_in_text built_in_tables

-- what is written of a schema with a table or more is read back as that schema
abbrev pub WrittenIsRead : Type 0
WrittenIsRead = (schema : List Shape) → IsSchema schema → schema ≢ [] → Spells (written schema) schema
