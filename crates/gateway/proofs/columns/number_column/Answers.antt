use Rattle.std.proofs.Common.{List, ℕ, ap, ◌∙◌}
use Rattle.std.proofs.lemmas.List.{take_all}
use Rattle.q_values.specs.declared.atom.Atom.{Atom}
use Rattle.q_values.specs.declared.kind.Kind.TheVariants as k
use Rattle.gateway.specs.TableRows.{numbers_on}
use Rattle.gateway.proofs.ColumnLemmas.{numbers_more, date_here}
use Rattle.gateway.proofs.columns.number_column.Goals as goal

pub rows_at-requires-clause-date : goal.rows_at-requires-clause-date
rows_at-requires-clause-date c = date_here c.args.snapshot.now.frame.first c.args.snapshot.now.entries c.args.dates.now c.loop-k.k-index _ c.requires.dates c.loop-k-test.true

pub loop-k-preserved : goal.loop-k-preserved
loop-k-preserved c =
    numbers_more c.args.snapshot.now.frame.first c.args.snapshot.now.entries c.args.index c.args.dates.now c.loop-k.k-index _ c.loop-k.numbers.items c.push_numbers.new.numbers.items c.rows_at.result
    c.loop-k-test.true c.loop-k.invariant c.in_ok-push_numbers.ensures c.rows_at.ensures

pub returns : goal.returns
returns c =
    c.from_column.ensures
    ∙ ap (λ (l : List Atom). record { kind = k.Long; atoms = l }) c.loop-k.invariant
    ∙ ap (λ (ds : List ℕ). numbers_on ds c.args.snapshot.now.frame.first c.args.snapshot.now.entries c.args.index) (take_all c.loop-k.k-index c.args.dates.now c.loop-k-test.false)
