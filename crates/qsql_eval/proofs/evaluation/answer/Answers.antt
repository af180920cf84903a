use Rattle.std.proofs.Common.{◌≡◌, ◌<◌, Bool, List, true, false, cond, length, map, All, sym, ap, ◌∙◌, subst}
use Rattle.std.specs.Prelude.{IfOk}
use Rattle.std.proofs.lemmas.List.{length-map}
use Rattle.q_values.specs.Tree.{Tree, tree}
use Rattle.qsql_request.specs.Views.{form, column_form, query_of}
use Rattle.qsql_request.specs.declared.request.Col.{Col}
use Rattle.qsql_values.specs.Frames.{Frame, frame_of}
use Rattle.qsql_groups.specs.Groups.{Groups, groups, key_columns}
use Rattle.qsql_groups.specs.Ready.{IsKey}
use Rattle.qsql_groups.proofs.GroupLemmas.{key_count}
use Rattle.qsql_eval.specs.Judgement.{all_columns}
use Rattle.qsql_eval.specs.Meaning.{value_over_rows, value_over_groups, value_over_kept}
use Rattle.qsql_eval.specs.Ready.{IsAnswerable, IsGroupable}
use Rattle.qsql_eval.proofs.GroupLemmas.{empty_of}
use Rattle.qsql_eval.proofs.evaluation.answer.Goals as goal

pub answer_over_rows-requires : goal.answer_over_rows-requires
answer_over_rows-requires c =
    let empty = empty_of c.args.query.now.by true (sym c.is_empty.ensures ∙ c.if-is_empty.true) in
    subst (λ (f : Frame). IsAnswerable f c.args.table.now c.args.query.now) (sym c.new-scope.ensures) (c.requires.rows empty)

pub of-requires-clause-some : goal.of-requires-clause-some
of-requires-clause-some c =
    let empty = empty_of c.args.query.now.by false (sym c.is_empty.ensures ∙ c.if-is_empty.false) in
    let can = c.requires.groups empty in
    subst (λ (cs : List Col). 0 < length cs) (sym c.as_slice-by.ensures) can.some

pub of-requires-clause-keys : goal.of-requires-clause-keys
of-requires-clause-keys c =
    let empty = empty_of c.args.query.now.by false (sym c.is_empty.ensures ∙ c.if-is_empty.false) in
    let can = c.requires.groups empty in
    subst (λ (cs : List Col). All (λ (x : Col). IsKey (frame_of c.args.names.now c.args.columns.now) (form x.expr)) cs) (sym c.as_slice-by.ensures) can.keys

pub value_of_query-requires-clause-query : goal.value_of_query-requires-clause-query
value_of_query-requires-clause-query c =
    let empty = empty_of c.args.query.now.by false (sym c.is_empty.ensures ∙ c.if-is_empty.false) in
    subst (λ (g : Groups). IsGroupable g.rows c.args.table.now c.args.query.now) (sym c.in_ok-grouping.ensures) (c.requires.groups empty)

pub value_of_query-requires-clause-keys : goal.value_of_query-requires-clause-keys
value_of_query-requires-clause-keys c =
    let frame = frame_of c.args.names.now c.args.columns.now in
    ap (λ (g : Groups). length g.keys) c.in_ok-grouping.ensures
    ∙ length-map (key_columns (map column_form c.as_slice-by.result.now) frame) _
    ∙ key_count frame c.as_slice-by.result.now
    ∙ ap length c.as_slice-by.ensures

pub returns-then-is_empty : goal.returns-then-is_empty
returns-then-is_empty c =
    let frame = frame_of c.args.names.now c.args.columns.now in
    let all = all_columns c.args.table.now in
    let q = query_of c.args.query.now in
    let empty = empty_of c.args.query.now.by true (sym c.is_empty.ensures ∙ c.if-is_empty.true) in
    let is : value_over_rows all q c.new-scope.result ≡ value_over_kept all q frame =
    ap (value_over_rows all q) c.new-scope.ensures ∙ ap (λ (b : Bool). cond b (value_over_rows all q frame) (value_over_groups all q (groups q.by frame))) (sym empty) in
    subst (λ (t : Tree). IfOk c.answer_over_rows.result (λ v. tree v ≡ t)) is c.answer_over_rows.ensures

pub returns-in_ok-grouping : goal.returns-in_ok-grouping
returns-in_ok-grouping c =
    let frame = frame_of c.args.names.now c.args.columns.now in
    let all = all_columns c.args.table.now in
    let q = query_of c.args.query.now in
    let empty = empty_of c.args.query.now.by false (sym c.is_empty.ensures ∙ c.if-is_empty.false) in
    let made = c.in_ok-grouping.ensures ∙ ap (λ (cs : List Col). groups (map column_form cs) frame) c.as_slice-by.ensures in
    let is : value_over_groups all q c.in_ok-grouping.grouping ≡ value_over_kept all q frame =
    ap (value_over_groups all q) made ∙ ap (λ (b : Bool). cond b (value_over_rows all q frame) (value_over_groups all q (groups q.by frame))) (sym empty) in
    subst (λ (t : Tree). IfOk c.value_of_query.result (λ v. tree v ≡ t)) is c.value_of_query.ensures
