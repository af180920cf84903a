use Rattle.std.proofs.Common.{◌<◌, ℕ, All, ap, ◌∙◌, subst}
use Rattle.std.specs.Prelude.{option_copied}
use Rattle.q_filter.specs.Places.{places_from}
use Rattle.qsql_request.specs.Views.{form}
use Rattle.gateway.proofs.PartLemmas.{phrase_kind, phrase_truths, phrase_rows_size}
use Rattle.gateway.proofs.keeping.places_in_part.Goals as goal

pub places_in_rows-requires-clause-kind : goal.places_in_rows-requires-clause-kind
places_in_rows-requires-clause-kind c =
    phrase_kind (option_copied c.args.part.now.places) (form c.args.phrase.now) c.args.part.now.dates.now c.args.snapshot.now.frame.first c.args.snapshot.now.entries c.args.part.now.index c.args.table.now
    c.in_ok-wanted.wanted c.in_ok-rows.rows.names c.in_ok-rows.rows.columns c.in_ok-wanted.ensures c.in_ok-rows.ensures.names c.in_ok-rows.ensures.columns c.requires.named c.requires.phrase c.requires.places

pub places_in_rows-requires-clause-built : goal.places_in_rows-requires-clause-built
places_in_rows-requires-clause-built c = c.requires.phrase.built

pub returns-clause-places : goal.returns-clause-places
returns-clause-places c =
    c.in_ok-places.ensures.places
    ∙ ap (places_from 0)
    (phrase_truths (option_copied c.args.part.now.places) (form c.args.phrase.now) c.args.part.now.dates.now c.args.snapshot.now.frame.first c.args.snapshot.now.entries c.args.part.now.index c.args.table.now
    c.in_ok-wanted.wanted c.in_ok-rows.rows.names c.in_ok-rows.rows.columns c.in_ok-wanted.ensures c.in_ok-rows.ensures.names c.in_ok-rows.ensures.columns c.requires.named c.requires.phrase c.requires.places)

pub returns-clause-within : goal.returns-clause-within
returns-clause-within c =
    subst (λ (n : ℕ). All (λ (i : ℕ). i < n) c.in_ok-places.places.items)
    (phrase_rows_size (option_copied c.args.part.now.places) (form c.args.phrase.now) c.args.part.now.dates.now c.args.snapshot.now.frame.first c.args.snapshot.now.entries c.args.part.now.index c.args.table.now
    c.in_ok-wanted.wanted c.in_ok-rows.rows.names c.in_ok-rows.rows.columns c.in_ok-wanted.ensures c.in_ok-rows.ensures.names c.in_ok-rows.ensures.columns c.requires.named c.requires.phrase c.requires.places)
    c.in_ok-places.ensures.within
