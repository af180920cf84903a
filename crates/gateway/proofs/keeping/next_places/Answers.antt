use Rattle.std.proofs.Common.{◌<◌, ℕ, List, length, All, ap, sym, ◌∙◌, subst}
use Rattle.q_values.specs.Lists.{gathered}
use Rattle.qsql_request.specs.Views.{form}
use Rattle.qsql_values.specs.Frames.{rows_at}
use Rattle.gateway.specs.DateRows.{rows_on}
use Rattle.gateway.specs.Kept.{table_rows_on}
use Rattle.gateway.proofs.PartLemmas.{length_part, next_kept, next_inside}
use Rattle.gateway.proofs.keeping.next_places.Goals as goal

pub places_at-requires : goal.places_at-requires
places_at-requires c =
    subst (All (λ (i : ℕ). i < length c.args.places.now)) (sym c.deref.ensures.value)
    (subst (λ (n : ℕ). All (λ (i : ℕ). i < n) c.in_ok-inner.inner.items)
    (length_part c.args.dates.now c.args.snapshot.now.frame.first c.args.snapshot.now.entries c.args.index c.args.table.now c.args.places.now c.requires.named c.requires.places)
    c.in_ok-inner.ensures.within)

pub returns-clause-within : goal.returns-clause-within
returns-clause-within c =
    let first = c.args.snapshot.now.frame.first in
    let entries = c.args.snapshot.now.entries in
    let are = c.in_ok-found.ensures ∙ ap (gathered c.args.places.now) (c.deref.ensures.value ∙ c.in_ok-inner.ensures.places) in
    subst (All (λ (i : ℕ). i < length (rows_on c.args.dates.now first entries c.args.index))) (sym are)
    (next_inside c.args.dates.now first entries c.args.index c.args.table.now c.args.places.now (form c.args.phrase.now) c.requires.named c.requires.places c.requires.phrase)

pub returns-clause-rows : goal.returns-clause-rows
returns-clause-rows c =
    let first = c.args.snapshot.now.frame.first in
    let entries = c.args.snapshot.now.entries in
    let frame = table_rows_on c.args.dates.now first entries c.args.index c.args.table.now in
    ap (λ (ps : List ℕ). rows_at ps frame) (c.in_ok-found.ensures ∙ ap (gathered c.args.places.now) (c.deref.ensures.value ∙ c.in_ok-inner.ensures.places))
    ∙ next_kept c.args.dates.now first entries c.args.index c.args.table.now c.args.places.now (form c.args.phrase.now) c.requires.named c.requires.places c.requires.phrase
