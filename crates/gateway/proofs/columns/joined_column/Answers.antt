use Rattle.std.proofs.Common.{List, ℕ, ap, sym, ◌∙◌}
use Rattle.std.proofs.lemmas.List.{take_all}
use Rattle.day_rows.specs.Rows.{column_of}
use Rattle.q_values.specs.Contents.{Contents}
use Rattle.gateway.specs.DateRows.{rows_on}
use Rattle.gateway.proofs.ColumnLemmas.{date_here, column_more}
use Rattle.gateway.proofs.columns.joined_column.Goals as goal

pub column_at-requires-clause-date : goal.column_at-requires-clause-date
column_at-requires-clause-date c = date_here c.args.snapshot.now.frame.first c.args.snapshot.now.entries c.args.dates.now c.loop-k.k-index _ c.requires.dates c.loop-k-test.true

pub append-requires : goal.append-requires
append-requires c = ap (λ (v : Contents). v.kind) c.in_ok-part.ensures ∙ sym (ap (λ (v : Contents). v.kind) c.loop-k.invariant)

pub loop-k-preserved : goal.loop-k-preserved
loop-k-preserved c =
    column_more c.args.snapshot.now.frame.first c.args.snapshot.now.entries c.args.index c.args.column c.args.dates.now c.loop-k.k-index _ c.args.kind c.loop-k.whole c.in_ok-part.part c.append.new.whole
    c.loop-k-test.true c.loop-k.invariant c.in_ok-part.ensures c.in_ok-append.ensures

pub returns : goal.returns
returns c =
    c.loop-k.invariant
    ∙ ap (λ (ds : List ℕ). column_of c.args.kind c.args.column (rows_on ds c.args.snapshot.now.frame.first c.args.snapshot.now.entries c.args.index)) (take_all c.loop-k.k-index c.args.dates.now c.loop-k-test.false)
