-- Whole texts, with the function that reads them.
use Rattle.std.specs.Prelude.{Result, Ok, Err, IfOk, IfErr, slice_get}
use Rattle.std.proofs.Common.{◌≡◌, ℕ, zero, suc, ◌+◌, ◌<◌, Bool, true, false, cond, List, [], ◌∷◌, length, refl, sym, subst, ◌∙◌, inl, inr, arith}
use Rattle.day_rows.specs.Schema.{by_name}
use Rattle.day_rows.specs.Sorted.{inserted}
use Rattle.day_rows.specs.declared.schema.Shape.{Shape}
use Rattle.schema_text.specs.Grammar.{IsNext, IsTable, IsTables, no_tables, no_more, no_table, one_more, IsText, Spells}
use Rattle.schema_text.specs.Answers.{IsFaultOf, GivesOnly}
use Rattle.schema_text.specs.Laws.{OneReading}
use Rattle.schema_text.specs.Reading.{◌>>=◌, Gives, table_at, some_tables, tables_at, schema_of}
use Rattle.schema_text.specs.Tokens.{part, first_part, is_end}
use Rattle.schema_text.specs.declared.refusal.SchemaRefusal.{SchemaRefusal}
use Rattle.schema_text.specs.declared.refusal.SchemaRefusal.TheVariants as r
use Rattle.schema_text.proofs.Gaps.{gap-reads, gap-only, next-reads, next-only}
use Rattle.schema_text.proofs.Productions.{table-decides, few_tables}
use Rattle.schema_text.proofs.Shapes.{length-inserted}

-- the tables read as the function gives, and as nothing else
record TablesRead (tables : List Shape) (f : List ℕ → ℕ → Result (List Shape) SchemaRefusal) : Type 0 where
  reads : (text : List ℕ) (at : ℕ) → IsTables tables text at (f text at)
  only : (text : List ℕ) (at : ℕ) (outcome : Result (List Shape) SchemaRefusal) → IsTables tables text at outcome → outcome ≡ f text at

after-table : ℕ → List Shape → List ℕ → Shape × ℕ → Result (List Shape) SchemaRefusal
after-table left tables text table = tables_at left (inserted by_name table.0 tables) text table.1

step : ℕ → List Shape → List ℕ → ℕ → Result (List Shape) SchemaRefusal
step left tables text at = cond (is_end (slice_get text (part text at))) (some_tables tables text) (table_at tables text at >>= after-table left tables text)

some-reads : (tables : List Shape) (text : List ℕ) (at : ℕ) → is_end (slice_get text (part text at)) ≡ true → IsTables tables text at (some_tables tables text)
some-reads [] text at h = no_tables (next-reads text at) h
some-reads (table ∷ tables) text at h = no_more (next-reads text at) h

here : {text : List ℕ} {at next : ℕ} (t : Bool) → IsNext text at next → is_end (slice_get text next) ≡ t → is_end (slice_get text (part text at)) ≡ t
here {text} t n h = subst (λ m. is_end (slice_get text m) ≡ t) (next-only n) h

-- what the tables after the next one read as
abbrev More : ℕ → List Shape → Type 0
More left tables = (table : Shape) → length tables < 64 → TablesRead (inserted by_name table tables) (tables_at left (inserted by_name table tables))

tables-only : (left : ℕ) (tables : List Shape) → More left tables → (text : List ℕ) (at : ℕ) (outcome : Result (List Shape) SchemaRefusal)
    → IsTables tables text at outcome → outcome ≡ step left tables text at
unfolding step after-table
tables-only left tables more text at outcome (no_tables n h) = rw (here true n h) refl
tables-only left tables more text at outcome (no_more n h) = rw (here true n h) refl
tables-only left tables more text at outcome (no_table {why = why} n h p) =
    rw (here false n h) (subst (λ found. Err why ≡ (found >>= after-table left tables text)) ((table-decides tables).only text at (Err why) p) refl)
tables-only left tables more text at outcome (one_more {table = table} {end = end} n h p q) =
    rw (here false n h)
    (subst (λ found. outcome ≡ (found >>= after-table left tables text)) ((table-decides tables).only text at (Ok (table, end)) p) ((more table (few_tables tables p)).only text end outcome q))

tables-step : (left : ℕ) (tables : List Shape) → More left tables → TablesRead tables (step left tables)
unfolding step after-table
tables-step left tables more = record { reads = λ text at. go text at (is_end (slice_get text (part text at))) refl; only = tables-only left tables more }
  where
    after : (text : List ℕ) (at : ℕ) (found : Result (Shape × ℕ) SchemaRefusal) → is_end (slice_get text (part text at)) ≡ false → IsTable tables text at found
        → IsTables tables text at (found >>= after-table left tables text)
    after text at (Ok table) h p = one_more (next-reads text at) h p ((more table.0 (few_tables tables p)).reads text table.1)
    after text at (Err why) h p = no_table (next-reads text at) h p

    go : (text : List ℕ) (at : ℕ) (t : Bool) → is_end (slice_get text (part text at)) ≡ t
        → IsTables tables text at (cond t (some_tables tables text) (table_at tables text at >>= after-table left tables text))
    go text at true h = some-reads tables text at h
    go text at false h = after text at (table_at tables text at) h ((table-decides tables).reads text at)

tables-read : (l : ℕ) (tables : List Shape) → length tables + l ≡ 64 → TablesRead tables (tables_at (suc l) tables)
unfolding tables_at step after-table
tables-read zero tables count = tables-step 0 tables (λ table less. absurd (omega (arith, count, less)))
tables-read (suc l) tables count = tables-step (suc l) tables (λ table less. tables-read l (inserted by_name table tables) (omega (arith, count, length-inserted table tables)))

-- a text is what the reader gives
pub text-reads : (text : List ℕ) → IsText text (schema_of text)
unfolding schema_of
text-reads text = record { start = first_part text; gap = gap-reads true text; tables = (tables-read 64 [] refl).reads text (first_part text) }

-- and nothing else
pub text-only : {text : List ℕ} {outcome : Result (List Shape) SchemaRefusal} → IsText text outcome → outcome ≡ schema_of text
unfolding schema_of
text-only {text} {outcome} t = (tables-read 64 [] refl).only text (first_part text) outcome (subst (λ n. IsTables [] text n outcome) (gap-only t.gap) t.tables)

pub gives-ok : (text : List ℕ) (result : Result (List Shape) SchemaRefusal) → Gives (λ schema. schema) result (schema_of text) → IfOk result (λ schema. Spells text schema)
gives-ok text (Ok schema) h = subst (IsText text) h (text-reads text)
gives-ok text (Err why) h = tt

pub gives-err : (text : List ℕ) (result : Result (List Shape) SchemaRefusal) → Gives (λ schema. schema) result (schema_of text) → IfErr result (IsFaultOf text)
gives-err text (Ok schema) h = tt
gives-err text (Err (r.Parse at)) h = subst (IsText text) h (text-reads text)
gives-err text (Err (r.BadKind at)) h = subst (IsText text) h (text-reads text)
gives-err text (Err (r.Twice name)) h = subst (IsText text) h (text-reads text)
gives-err text (Err (r.TimeSym table)) h = subst (IsText text) h (text-reads text)
gives-err text (Err (r.Reserved name)) h = subst (IsText text) h (text-reads text)
gives-err text (Err r.Limit) h = subst (IsText text) h (text-reads text)
gives-err text (Err r.NoMemory) h = tt

pub gives-only : (text : List ℕ) (result : Result (List Shape) SchemaRefusal) → Gives (λ schema. schema) result (schema_of text) → GivesOnly text result
gives-only text (Ok schema) h outcome t = inl (sym h ∙ sym (text-only t))
gives-only text (Err (r.Parse at)) h outcome t = inl (sym h ∙ sym (text-only t))
gives-only text (Err (r.BadKind at)) h outcome t = inl (sym h ∙ sym (text-only t))
gives-only text (Err (r.Twice name)) h outcome t = inl (sym h ∙ sym (text-only t))
gives-only text (Err (r.TimeSym table)) h outcome t = inl (sym h ∙ sym (text-only t))
gives-only text (Err (r.Reserved name)) h outcome t = inl (sym h ∙ sym (text-only t))
gives-only text (Err r.Limit) h outcome t = inl (sym h ∙ sym (text-only t))
gives-only text (Err r.NoMemory) h outcome t = inr refl

-- a text has one reading
pub one-reading : OneReading
one-reading text = (schema_of text, text-reads text, λ other t. text-only t)
