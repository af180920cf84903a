use Rattle.std.proofs.Common.{arith, rules, ◌≡◌, ◌∙◌, ◌<◌, sym, true, false, slice_get}
use Rattle.day_rows.specs.Schema.{IsSchema}
use Rattle.schema_text.specs.Tokens.{part, is_end}
use Rattle.schema_text.proofs.Recursion.{tables_at-more, tables_at-none}
use Rattle.schema_text.proofs.Shapes.{schema-inserted}
use Rattle.schema_text.proofs.reading.+read_tables.Goals as goal

pub returns-then-left-eq0-clause-value : goal.returns-then-left-eq0-clause-value
returns-then-left-eq0-clause-value t c = rw c.if-left-eq0.true (tables_at-none c.args.tables.items c.args.text.now c.args.at)

pub returns-then-ends_before-clause-value : goal.returns-then-ends_before-clause-value
returns-then-ends_before-clause-value t c =
    let some : 0 < c.args.left = omega (arith, c.if-left-eq0.false) in
    let end : is_end (slice_get c.args.text.now (part c.args.text.now c.args.at)) ≡ true = rw (← c.next_part.ensures.value) (sym c.ends_before.ensures ∙ c.if-ends_before.true) in
    rw (tables_at-more c.args.left c.args.tables.items c.args.text.now c.args.at some, end) c.some_tables_of.ensures.value

pub returns-in_err-table-clause-value : goal.returns-in_err-table-clause-value
returns-in_err-table-clause-value t c =
    let some : 0 < c.args.left = omega (arith, c.if-left-eq0.false) in
    let end : is_end (slice_get c.args.text.now (part c.args.text.now c.args.at)) ≡ false = rw (← c.next_part.ensures.value) (sym c.ends_before.ensures ∙ c.if-ends_before.false) in
    rw (tables_at-more c.args.left c.args.tables.items c.args.text.now c.args.at some, end, ← c.deref.ensures.value) (search rules)

pub read_tables-requires : goal.read_tables-requires
read_tables-requires t c =
    let fresh = rw c.deref.ensures.value at c.in_ok-table.ensures.fresh in
    let few = rw c.deref.ensures.value at c.in_ok-table.ensures.few in
    let schema : IsSchema c.insert_table.new.tables.items = rw c.in_ok-insert_table.ensures.ok (schema-inserted c.in_ok-table.table c.args.tables.items c.requires.lawful c.in_ok-table.ensures.lawful fresh few) in
    (search rules, (c.in_ok-table.ensures.within, schema))

pub returns-clause-value : goal.returns-clause-value
returns-clause-value t c =
    let some : 0 < c.args.left = omega (arith, c.if-left-eq0.false) in
    let end : is_end (slice_get c.args.text.now (part c.args.text.now c.args.at)) ≡ false = rw (← c.next_part.ensures.value) (sym c.ends_before.ensures ∙ c.if-ends_before.false) in
    let read = rw c.deref.ensures.value at c.in_ok-table.ensures.value in
    rw (tables_at-more c.args.left c.args.tables.items c.args.text.now c.args.at some, end, read, ← c.in_ok-insert_table.ensures.ok) c.read_tables.ensures.value
