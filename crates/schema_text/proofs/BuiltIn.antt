-- The text that is built in.
use Rattle.std.specs.Prelude.{◌⊎◌, Result, Ok, Err, IfOk, IfErr}
use Rattle.std.proofs.Common.{◌≡◌, List, refl, subst, inl, inr}
use Rattle.q_words.specs.Words.{reserved_word}
use Rattle.day_rows.specs.declared.schema.Shape.{Shape}
use Rattle.schema_text.specs.Answers.{GivesOnly}
use Rattle.schema_text.specs.declared.refusal.SchemaRefusal.{SchemaRefusal}
use Rattle.schema_text.specs.declared.refusal.SchemaRefusal.TheVariants as r
use Rattle.schema_text.specs.BuiltIn.{built_in_text, built_in_tables}
use Rattle.schema_text.specs.Grammar.{IsText}
use Rattle.schema_text.specs.Kinds.{kind_named}
use Rattle.schema_text.specs.Laws.{BuiltInIsRead}
use Rattle.schema_text.specs.Reading.{name_at, kind_at, typed_at, column_at, closed_at, columns_at, head_at, table_at, tables_at, schema_of}
use Rattle.schema_text.proofs.Texts.{text-reads}

computed : schema_of built_in_text ≡ Ok built_in_tables
unfolding reserved_word kind_named name_at kind_at typed_at column_at closed_at columns_at head_at table_at tables_at schema_of
computed = refl

pub built_in_read : BuiltInIsRead
built_in_read = subst (IsText built_in_text) computed (text-reads built_in_text)

-- an answer about the built-in text is the built-in schema, unless memory ran out
pub built_in-ok : (result : Result (List Shape) SchemaRefusal) → GivesOnly built_in_text result → IfOk result (λ schema. schema ≡ built_in_tables)
built_in-ok (Ok schema) only = go (only (Ok built_in_tables) built_in_read)
  where
    go : (◌≡◌ {A = Result (List Shape) SchemaRefusal} (Ok schema) (Ok built_in_tables)) ⊎ (◌≡◌ {A = Result (List Shape) SchemaRefusal} (Ok schema) (Err r.NoMemory)) → schema ≡ built_in_tables
    go (inl same) = cc
    go (inr same) = cc
built_in-ok (Err why) only = tt

pub built_in-err : (result : Result (List Shape) SchemaRefusal) → GivesOnly built_in_text result → IfErr result (λ why. why ≡ r.NoMemory)
built_in-err (Ok schema) only = tt
built_in-err (Err why) only = go (only (Ok built_in_tables) built_in_read)
  where
    go : (◌≡◌ {A = Result (List Shape) SchemaRefusal} (Err why) (Ok built_in_tables)) ⊎ (◌≡◌ {A = Result (List Shape) SchemaRefusal} (Err why) (Err r.NoMemory)) → why ≡ r.NoMemory
    go (inl same) = cc
    go (inr same) = cc
