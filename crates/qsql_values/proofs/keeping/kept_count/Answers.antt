use Rattle.std.proofs.Common.{◌≡◌, ℕ, ◌<◌, List, length, map, take, ap, ◌∙◌, sym, arith, All}
use Rattle.std.proofs.Math.Seq.{take-length}
use Rattle.std.proofs.lemmas.List.{length-map}
use Rattle.q_filter.specs.Places.{is_true, places_of}
use Rattle.q_filter.proofs.PlaceLemmas.{places_within}
use Rattle.q_values.specs.Contents.{Contents}
use Rattle.q_values.specs.Table.{rows_of}
use Rattle.qsql_request.specs.Forms.{Form}
use Rattle.qsql_request.specs.Views.{form}
use Rattle.qsql_values.specs.Frames.{Frame, frame_of, rows_at}
use Rattle.qsql_values.specs.Operands.{contents_of}
use Rattle.qsql_values.specs.Values.{kept}
use Rattle.qsql_values.proofs.FrameLemmas.{length_rows_at}
use Rattle.qsql_values.proofs.KeepingLemmas.{kept_after}
use Rattle.qsql_values.proofs.keeping.kept_count.Goals as goal

pub returns-then-count-phrases : goal.returns-then-count-phrases
returns-then-count-phrases c =
    let frame = frame_of c.args.names.now c.args.columns.now in
    let forms = map form c.args.phrases.now in
    let test = contents_of c.in_ok-test.test in
    let all : take c.in_ok-test.count forms ≡ forms = ap (λ (n : ℕ). take n forms) (c.if-count-phrases.true ∙ sym (length-map c.args.phrases.now form)) ∙ take-length forms in
    let within : All (λ (p : ℕ). p < rows_of c.args.columns.now) (places_of test.atoms) =
    places_within (rows_of c.args.columns.now) 0 (map is_true test.atoms) (omega (arith, length-map test.atoms is_true, c.in_ok-test.ensures.size)) in
    c.count_where.ensures
    ∙ ap (λ (v : Contents). length (places_of v.atoms)) c.vector.ensures
    ∙ sym (length_rows_at c.args.names.now c.args.columns.now (places_of test.atoms) c.requires.columns within)
    ∙ ap (λ (f : Frame). length f.rows) (c.in_ok-test.ensures.rows ∙ ap (λ (fs : List Form). kept fs frame) all)

pub returns : goal.returns
returns c =
    let frame = frame_of c.args.names.now c.args.columns.now in
    let places = c.in_ok-places.places.items in
    let kept_items = c.in_ok-kept.kept.items in
    let first : rows_at places frame ≡ kept (take c.in_ok-test.count (map form c.args.phrases.now)) frame =
    ap (λ (ps : List ℕ). rows_at ps frame) (c.in_ok-places.ensures.places ∙ ap (λ (v : Contents). places_of v.atoms) c.vector-2.ensures) ∙ c.in_ok-test.ensures.rows in
    let many : c.len.result ≡ length kept_items = omega arith in
    many
    ∙ sym (length_rows_at c.args.names.now c.args.columns.now kept_items c.requires.columns c.in_ok-kept.ensures.within)
    ∙ ap (λ (f : Frame). length f.rows) (kept_after c.args.phrases.now c.in_ok-test.count frame places kept_items first c.in_ok-kept.ensures.rows)
