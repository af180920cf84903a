-- What the reader answers.
use Rattle.std.specs.Prelude.{◌≡◌, ◌⊎◌, ℕ, List, Result, Err}
use Rattle.day_rows.specs.declared.schema.Shape.{Shape}
use Rattle.schema_text.specs.Grammar.{IsText, HasFault}
use Rattle.schema_text.specs.declared.refusal.SchemaRefusal.{SchemaRefusal}
use Rattle.schema_text.specs.declared.refusal.SchemaRefusal.TheVariants as r

-- a refusal is the first fault of the text, unless it is out of memory
abbrev pub IsFaultOf : List ℕ → SchemaRefusal → Type 0
IsFaultOf text (r.Parse at) = HasFault text (r.Parse at)
IsFaultOf text (r.BadKind at) = HasFault text (r.BadKind at)
IsFaultOf text (r.Twice name) = HasFault text (r.Twice name)
IsFaultOf text (r.TimeSym table) = HasFault text (r.TimeSym table)
IsFaultOf text (r.Reserved name) = HasFault text (r.Reserved name)
IsFaultOf text r.Limit = HasFault text r.Limit
IsFaultOf text r.NoMemory = Unit {0}

-- where the text is a schema, or has a fault, no other answer is given, unless memory ran out
abbrev pub GivesOnly : List ℕ → Result (List Shape) SchemaRefusal → Type 0
GivesOnly text result = (outcome : Result (List Shape) SchemaRefusal) → IsText text outcome → (result ≡ outcome) ⊎ (result ≡ Err r.NoMemory)
