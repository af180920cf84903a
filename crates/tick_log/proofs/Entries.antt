-- The entry that is read, once the pass and the table are.
use Rattle.std.proofs.Common.{◌≡◌, ℕ, ◌-◌, ◌<◌, ◌≤◌, List, Some, Result, Err, sym, ap, subst, ◌∙◌, arith}
use Rattle.std.specs.Prelude.{slice_get}
use Rattle.q_values.specs.Contents.{Contents}
use Rattle.q_values.specs.Table.{rows_of}
use Rattle.q_values.specs.declared.kind.Kind.{Kind}
use Rattle.day_rows.specs.Schema.{IsSchema}
use Rattle.day_rows.specs.declared.entry.Entry.{Entry}
use Rattle.day_rows.specs.declared.schema.Shape.{Shape}
use Rattle.tick_log.specs.Chunk.{most_rows, SpellsChunk, IsChunk}
use Rattle.tick_log.specs.Reading.{IfNoChunk, BeginsWithPass, BeginsWithTable, AreLogged}
use Rattle.tick_log.specs.declared.refusal.ChunkFault.{ChunkFault}
use Rattle.tick_log.specs.declared.refusal.ChunkFault.TheVariants as c
use Rattle.tick_log.proofs.Chunks.{built, leaves_columns, logged_once}

abbrev pub failed : ChunkFault → Result ℕ ChunkFault
failed f = Err f

pub chunk_refuses : {T : Type 0} (r : Result T ChunkFault) (x : ChunkFault) (f : ChunkFault) (N M : Type 0) → r ≡ Err x → x ≡ f → IfNoChunk (failed f) N → (N → M) → IfNoChunk r M
chunk_refuses {T} r x c.NoChunk N M e g n step = let all : r ≡ Err c.NoChunk = cc in rw all (step n)
chunk_refuses {T} r x c.NoMemory N M e g n step = let all : r ≡ Err c.NoMemory = cc in rw all tt

-- the table whose name begins an update
abbrev pub FindsTable : List Shape → ℕ → List ℕ → List ℕ → Type 0
FindsTable schema table rest last = (s : Shape) × (slice_get schema table ≡ Some s) × BeginsWithTable rest s.table last

module _ (schema : List Shape) (before : ℕ) (payload rest last : List ℕ) (by table : ℕ) (shape : Shape) (kinds : List Kind) (lawful : IsSchema schema) (pass : BeginsWithPass payload by rest)
    (found : FindsTable schema table rest last) (at : slice_get schema table ≡ Some shape) (kinds_are : kinds ≡ shape.kinds) where
  begins : BeginsWithTable rest shape.table last
  begins =
      let shapes : Some found.0 ≡ Some shape = sym found.1 ∙ at in
      let same : found.0 ≡ shape = cc in
      subst (λ (s : Shape). BeginsWithTable rest s.table last) same found.2

  pub no_columns : ((cs : List Contents) → AreLogged kinds last cs → ⊥) → (x : Entry) → IsChunk schema before payload x → ⊥
  no_columns none x is =
      let left = leaves_columns schema before payload rest last by table shape lawful pass at begins x is in
      none left.columns (subst (λ (ks : List Kind). AreLogged ks last left.columns) (sym kinds_are) left.logged)

  pub too_many : (columns : List Contents) → AreLogged kinds last columns → most_rows - before < rows_of columns → (x : Entry) → IsChunk schema before payload x → ⊥
  too_many columns logged many x is =
      let left = leaves_columns schema before payload rest last by table shape lawful pass at begins x is in
      let own = subst (λ (ks : List Kind). AreLogged ks last columns) kinds_are logged in
      let same : columns ≡ left.columns = logged_once shape.kinds last columns left.columns own left.logged in
      omega (arith, many, left.rows, ap rows_of same)

  pub entry_found : (columns : List Contents) → AreLogged kinds last columns → before ≤ most_rows → rows_of columns ≤ most_rows - before
      → (s : Shape) × (slice_get schema table ≡ Some s) × SpellsChunk before payload by s columns
  entry_found columns logged low few =
      (shape, at, built before payload rest last by shape columns pass begins (subst (λ (ks : List Kind). AreLogged ks last columns) kinds_are logged) (omega (arith, low, few)))
