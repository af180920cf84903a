use Rattle.std.proofs.Common.{◌≡◌, ℕ, List, map, take, ap, ◌∙◌}
use Rattle.q_filter.specs.Places.{places_of}
use Rattle.q_values.specs.Contents.{Contents}
use Rattle.qsql_request.specs.Views.{form}
use Rattle.qsql_values.specs.Frames.{frame_of, rows_at}
use Rattle.qsql_values.specs.Values.{kept}
use Rattle.qsql_values.proofs.KeepingLemmas.{kept_after}
use Rattle.qsql_values.proofs.keeping.kept_places.Goals as goal

pub returns-clause-rows : goal.returns-clause-rows
returns-clause-rows c =
    let frame = frame_of c.args.names.now c.args.columns.now in
    let places = c.in_ok-places.places.items in
    let first : rows_at places frame ≡ kept (take c.in_ok-test.count (map form c.args.phrases.now)) frame =
    ap (λ (ps : List ℕ). rows_at ps frame) (c.in_ok-places.ensures.places ∙ ap (λ (v : Contents). places_of v.atoms) c.vector.ensures) ∙ c.in_ok-test.ensures.rows in
    kept_after c.args.phrases.now c.in_ok-test.count frame places c.in_ok-kept.kept.items first c.in_ok-kept.ensures.rows
