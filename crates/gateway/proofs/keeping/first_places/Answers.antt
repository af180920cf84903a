use Rattle.std.proofs.Common.{◌<◌, ℕ, List, All, ap, ◌∙◌, subst}
use Rattle.qsql_request.specs.Views.{form}
use Rattle.qsql_values.specs.Frames.{rows_at}
use Rattle.gateway.specs.Kept.{table_rows_on}
use Rattle.gateway.proofs.PartLemmas.{first_kept, length_table}
use Rattle.gateway.proofs.keeping.first_places.Goals as goal

pub returns-clause-within : goal.returns-clause-within
returns-clause-within c =
    subst (λ (n : ℕ). All (λ (i : ℕ). i < n) c.in_ok-places.places.items)
    (length_table c.args.dates.now c.args.snapshot.now.frame.first c.args.snapshot.now.entries c.args.index c.args.table.now c.requires.named)
    c.in_ok-places.ensures.within

pub returns-clause-rows : goal.returns-clause-rows
returns-clause-rows c =
    let frame = table_rows_on c.args.dates.now c.args.snapshot.now.frame.first c.args.snapshot.now.entries c.args.index c.args.table.now in
    ap (λ (ps : List ℕ). rows_at ps frame) c.in_ok-places.ensures.places ∙ first_kept c.args.table.now (form c.args.phrase.now) frame c.requires.phrase
