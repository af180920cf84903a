use Rattle.std.proofs.Common.{◌≡◌, ℕ, List, map, ap, ◌∙◌, sym, subst}
use Rattle.q_values.specs.Contents.{Contents}
use Rattle.qsql_values.specs.Frames.{AreColumns, frame_of}
use Rattle.qsql_values.specs.Places.{column_at}
use Rattle.qsql_values.proofs.PlacesLemmas.{Within, places_inside, columns-gathered, frame-gathered}
use Rattle.qsql_values.proofs.keeping.kept_rows.Goals as goal

pub columns_at-requires : goal.columns_at-requires
columns_at-requires c =
    let places = c.in_ok-places.places.items in
    subst (λ (ps : List ℕ). Within ps c.args.columns.now) (sym c.deref.ensures.value) (places_inside c.args.columns.now places c.requires.columns.even c.in_ok-places.ensures.within)

pub returns-clause-columns : goal.returns-clause-columns
returns-clause-columns c =
    let places = c.in_ok-places.places.items in
    let are : c.in_ok-kept.kept.items ≡ map (column_at places) c.args.columns.now = c.in_ok-kept.ensures ∙ ap (λ (ps : List ℕ). map (column_at ps) c.args.columns.now) c.deref.ensures.value in
    subst (λ (cs : List Contents). AreColumns c.args.names.now cs) (sym are) (columns-gathered c.args.names.now c.args.columns.now places c.requires.columns c.in_ok-places.ensures.within)

pub returns-clause-rows : goal.returns-clause-rows
returns-clause-rows c =
    let places = c.in_ok-places.places.items in
    let are : c.in_ok-kept.kept.items ≡ map (column_at places) c.args.columns.now = c.in_ok-kept.ensures ∙ ap (λ (ps : List ℕ). map (column_at ps) c.args.columns.now) c.deref.ensures.value in
    ap (frame_of c.args.names.now) are ∙ frame-gathered c.args.names.now c.args.columns.now places c.requires.columns c.in_ok-places.ensures.within ∙ c.in_ok-places.ensures.rows
