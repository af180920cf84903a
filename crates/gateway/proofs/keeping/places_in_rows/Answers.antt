use Rattle.std.proofs.Common.{◌≡◌, ◌<◌, ℕ, List, Some, length, All, sym, ap, ◌∙◌, subst}
use Rattle.q_filter.specs.Places.{places_from}
use Rattle.q_values.specs.declared.kind.Kind.TheVariants as k
use Rattle.qsql_request.specs.Views.{form}
use Rattle.qsql_values.specs.Frames.{Frame, frame_of, kind_beside}
use Rattle.qsql_values.specs.Kinds.{kind_in}
use Rattle.qsql_values.specs.Values.{truths, val}
use Rattle.gateway.proofs.keeping.places_in_rows.Goals as goal

pub places_in_scope-requires-clause-kind : goal.places_in_scope-requires-clause-kind
places_in_scope-requires-clause-kind c =
    let rows = c.args.rows.now in
    let same : frame_of c.as_slice-names.result.now c.as_slice-columns.result.now ≡ frame_of rows.names rows.columns = ap (λ (ns : List (List ℕ)). frame_of ns c.as_slice-columns.result.now) c.as_slice-names.ensures ∙ ap (frame_of rows.names) c.as_slice-columns.ensures in
    subst (λ (f : Frame). kind_in (kind_beside f) (form c.args.phrase.now) ≡ Some k.Boolean) (sym (c.new-scope.ensures ∙ same)) c.requires.kind

pub returns-clause-places : goal.returns-clause-places
returns-clause-places c =
    let rows = c.args.rows.now in
    let same : frame_of c.as_slice-names.result.now c.as_slice-columns.result.now ≡ frame_of rows.names rows.columns = ap (λ (ns : List (List ℕ)). frame_of ns c.as_slice-columns.result.now) c.as_slice-names.ensures ∙ ap (frame_of rows.names) c.as_slice-columns.ensures in
    c.in_ok-places.ensures.places ∙ ap (λ (f : Frame). places_from 0 (truths (val f (form c.args.phrase.now)))) (c.new-scope.ensures ∙ same)

pub returns-clause-within : goal.returns-clause-within
returns-clause-within c =
    let rows = c.args.rows.now in
    let same : frame_of c.as_slice-names.result.now c.as_slice-columns.result.now ≡ frame_of rows.names rows.columns = ap (λ (ns : List (List ℕ)). frame_of ns c.as_slice-columns.result.now) c.as_slice-names.ensures ∙ ap (frame_of rows.names) c.as_slice-columns.ensures in
    subst (λ (f : Frame). All (λ (i : ℕ). i < length f.rows) c.in_ok-places.places.items) (c.new-scope.ensures ∙ same) c.in_ok-places.ensures.within
