use Rattle.std.proofs.Common.{rules, ◌≡◌, List, ℕ, ap, ◌∙◌, w32, to_z, of_z}
use Rattle.std.proofs.lemmas.List.{take_all}
use Rattle.q_values.specs.declared.atom.Atom.{Atom}
use Rattle.q_values.specs.declared.kind.Kind.TheVariants as k
use Rattle.gateway.specs.DateRows.{rows_on}
use Rattle.gateway.specs.TableRows.{dates_of_rows}
use Rattle.gateway.proofs.ColumnLemmas.{dates_more, date_here}
use Rattle.gateway.proofs.columns.date_column.Goals as goal

pub date_at-requires : goal.date_at-requires
date_at-requires c = date_here c.args.snapshot.now.frame.first c.args.snapshot.now.entries c.args.dates.now c.loop-k.k-index _ c.requires.dates c.loop-k-test.true

pub rows_at-requires-clause-date : goal.rows_at-requires-clause-date
rows_at-requires-clause-date c = date_here c.args.snapshot.now.frame.first c.args.snapshot.now.entries c.args.dates.now c.loop-k.k-index _ c.requires.dates c.loop-k-test.true

pub loop-k-preserved : goal.loop-k-preserved
loop-k-preserved c =
    let date : to_z w32 (of_z w32 c.date_at.result) ≡ c.date_at.result = search rules in
    dates_more c.args.snapshot.now.frame.first c.args.snapshot.now.entries c.args.index c.args.dates.now c.loop-k.k-index _ c.loop-k.column.items c.push_dates.new.dates.items c.rows_at.result c.date_at.result
    c.loop-k-test.true c.loop-k.invariant (rw date at c.in_ok-push_dates.ensures) c.rows_at.ensures c.date_at.ensures

pub returns : goal.returns
returns c =
    c.from_column.ensures
    ∙ ap (λ (l : List Atom). record { kind = k.Date; atoms = l }) c.loop-k.invariant
    ∙ ap (λ (ds : List ℕ). dates_of_rows (rows_on ds c.args.snapshot.now.frame.first c.args.snapshot.now.entries c.args.index)) (take_all c.loop-k.k-index c.args.dates.now c.loop-k-test.false)
