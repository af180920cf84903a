use Rattle.std.proofs.Common.{◌≡◌, ℕ, List, Option, slice_get, ap, sym, ◌∙◌, subst}
use Rattle.std.specs.Option.{option_copied}
use Rattle.day_rows.specs.declared.schema.Shape.{Shape}
use Rattle.date_loading.specs.Differences.{DifferFirst, IsLowerName, table_named, sole}
use Rattle.date_loading.specs.Manifests.{tables_of}
use Rattle.date_loading.proofs.DifferenceLemmas.{differ-first}
use Rattle.date_loading.proofs.RecordLemmas.{tables-own, tables-ascend}
use Rattle.date_loading.proofs.tables.judge_tables.Goals as goal

pub returns-clause-refused : goal.returns-clause-refused
returns-clause-refused c =
    let tables = tables_of c.args.records.now in
    let schema = c.args.schema.now in
    let i = c.common_tables-i.result in
    let name = c.in-Some.table.now in
    let kept : option_copied c.table_at-kept.result ≡ slice_get tables i = c.table_at-kept.ensures in
    let given : option_copied c.get-given.result ≡ slice_get schema i = c.get-given.ensures.value in
    let lower : IsLowerName (slice_get tables i) (slice_get schema i) name =
    subst (λ (a : Option Shape). IsLowerName a (slice_get schema i) name) kept
    (subst (λ (b : Option Shape). IsLowerName (option_copied c.table_at-kept.result) b name) given c.in-Some.ensures.some) in
    let first = differ-first tables schema i name (tables-own c.args.records.now c.requires.each) c.get-given.ensures.lawful.each
    (tables-ascend c.args.records.now c.requires.in_order) c.get-given.ensures.lawful.ascends c.common_tables-i.ensures.same
    c.common_tables-i.ensures.next lower in
    let table : c.in_ok-copied.field-0 ≡ name = c.in_ok-copied.ensures ∙ c.bytes.ensures.value in
    let one : c.in_ok-named.field-0 ≡ table_named name (sole (slice_get tables i)) =
    c.in_ok-named.ensures ∙ ap (λ (o : Option Shape). table_named name (sole o)) kept in
    let other : c.in_ok-named-2.field-0 ≡ table_named name (sole (slice_get schema i)) =
    c.in_ok-named-2.ensures ∙ ap (λ (o : Option Shape). table_named name (sole o)) given in
    subst (λ (n : List ℕ). DifferFirst tables schema n c.in_ok-named.field-0 c.in_ok-named-2.field-0) (sym table)
    (subst (λ (x : Shape). DifferFirst tables schema name x c.in_ok-named-2.field-0) (sym one)
    (subst (λ (y : Shape). DifferFirst tables schema name (table_named name (sole (slice_get tables i))) y) (sym other) first))
