use Rattle.std.proofs.Common.{◌≡◌, ℕ, ◌<◌, List, length, map, take, ap, ◌∙◌, sym, subst, All}
use Rattle.std.proofs.lemmas.List.{length-map}
use Rattle.q_filter.specs.Places.{is_true, places_of, places_from}
use Rattle.q_values.specs.Contents.{Contents}
use Rattle.q_values.specs.Lists.{gathered}
use Rattle.q_values.specs.Table.{rows_of}
use Rattle.q_values.specs.Tree.{vector}
use Rattle.qsql_request.specs.Views.{form}
use Rattle.qsql_values.specs.ByRow.{frame_where}
use Rattle.qsql_values.specs.Frames.{Frame, frame_of, rows_at}
use Rattle.qsql_values.specs.Operands.{contents_of}
use Rattle.qsql_values.specs.Values.{truths, kept}
use Rattle.qsql_values.proofs.FrameLemmas.{length_rows_at}
use Rattle.qsql_values.proofs.KeepingLemmas.{next_rows, next_within}
use Rattle.qsql_values.proofs.keeping.next_places.Goals as goal

pub places_at-requires : goal.places_at-requires
places_at-requires c =
    let test = contents_of c.in_ok-test.test in
    let many : length test.atoms ≡ length c.args.places.now =
    c.in_ok-test.ensures.size ∙ ap (λ (f : Frame). length f.rows) c.at-scope.ensures ∙ length_rows_at c.args.names.now c.args.columns.now c.args.places.now c.requires.columns c.requires.places in
    let seen : c.vector.result.now ≡ test = c.vector.ensures in
    let inside = subst (λ (v : Contents). All (λ (p : ℕ). p < length v.atoms) c.in_ok-inner.inner.items) seen c.in_ok-inner.ensures.within in
    subst (All (λ (p : ℕ). p < length c.args.places.now)) (sym c.deref.ensures.value) (subst (λ (n : ℕ). All (λ (p : ℕ). p < n) c.in_ok-inner.inner.items) many inside)

pub returns-clause-within : goal.returns-clause-within
returns-clause-within c =
    let test = contents_of c.in_ok-test.test in
    let flags = truths (vector test) in
    let many : length flags ≡ length c.args.places.now =
    length-map test.atoms is_true ∙ c.in_ok-test.ensures.size ∙ ap (λ (f : Frame). length f.rows) c.at-scope.ensures ∙ length_rows_at c.args.names.now c.args.columns.now c.args.places.now c.requires.columns c.requires.places in
    let inner : c.deref.result.now ≡ places_from 0 flags = c.deref.ensures.value ∙ c.in_ok-inner.ensures.places ∙ ap (λ (v : Contents). places_of v.atoms) c.vector.ensures in
    let are : c.in_ok-places_at.field-0.items ≡ gathered c.args.places.now (places_from 0 flags) = c.in_ok-places_at.ensures ∙ ap (gathered c.args.places.now) inner in
    subst (All (λ (p : ℕ). p < rows_of c.args.columns.now)) (sym are) (next_within (rows_of c.args.columns.now) c.args.places.now flags c.requires.places many)

pub returns-clause-rows : goal.returns-clause-rows
returns-clause-rows c =
    let frame = frame_of c.args.names.now c.args.columns.now in
    let test = contents_of c.in_ok-test.test in
    let flags = truths (vector test) in
    let inner : c.deref.result.now ≡ places_from 0 flags = c.deref.ensures.value ∙ c.in_ok-inner.ensures.places ∙ ap (λ (v : Contents). places_of v.atoms) c.vector.ensures in
    let are : c.in_ok-places_at.field-0.items ≡ gathered c.args.places.now (places_from 0 flags) = c.in_ok-places_at.ensures ∙ ap (gathered c.args.places.now) inner in
    ap (λ (ps : List ℕ). rows_at ps frame) are
    ∙ next_rows c.args.names.now c.args.columns.now c.args.places.now flags c.requires.columns c.requires.places (length-map test.atoms is_true ∙ c.in_ok-test.ensures.size ∙ ap (λ (f : Frame). length f.rows) c.at-scope.ensures)
    ∙ subst (λ (f : Frame). frame_where flags f ≡ kept (take c.in_ok-test.count (map form c.args.phrases.now)) f) c.at-scope.ensures c.in_ok-test.ensures.rows
