use Rattle.std.proofs.Common.{◌≡◌, true, sym, ap, ap₂, ◌∙◌, subst}
use Rattle.day_rows.specs.declared.schema.Shape.{Shape}
use Rattle.q_values.specs.Tree.{table}
use Rattle.qsql_request.specs.Forms.{QueryForm}
use Rattle.qsql_request.specs.Views.{aj_of}
use Rattle.qsql_eval.specs.Judgement.{judgement, fits}
use Rattle.asof_join.specs.Sources.{query_of_source, is_typed_source}
use Rattle.asof_join.specs.Views.{grid_in}
use Rattle.ipc_codec.proofs.TreeLemmas.{tree-Table}
use Rattle.gateway.specs.Answer.{query_value, joined}
use Rattle.gateway.proofs.JoinLemmas.{left_fits, right_fits}
use Rattle.gateway.proofs.joining.join_of_typed.Goals as goal

pub table_of-requires-clause-fits : goal.table_of-requires-clause-fits
table_of-requires-clause-fits c =
    let q = aj_of c.args.typed.now.query.now in
    let side = query_of_source q.left in
    let shape = c.args.typed.now.left_table.now in
    let query = c.left-of_left.ensures.query in
    let is_table = c.left-of_left.ensures.table in
    let typed : is_typed_source shape side ≡ true =
    subst (λ (t : Shape). is_typed_source t side ≡ true) is_table (subst (λ (x : QueryForm). is_typed_source c.left-of_left.result.table.now x ≡ true) query c.left-of_left.ensures.typed) in
    let fit : judgement side c.args.schema.now ≡ fits shape = left_fits q c.args.schema.now shape c.args.typed.now.right_table.now c.requires.fits typed in
    ap (λ (x : QueryForm). judgement x c.args.schema.now) query ∙ fit ∙ sym (ap fits is_table)

pub table_of-requires-2-clause-fits : goal.table_of-requires-2-clause-fits
table_of-requires-2-clause-fits c =
    let q = aj_of c.args.typed.now.query.now in
    let side = query_of_source q.right in
    let shape = c.args.typed.now.right_table.now in
    let query = c.right-of_right.ensures.query in
    let is_table = c.right-of_right.ensures.table in
    let typed : is_typed_source shape side ≡ true =
    subst (λ (t : Shape). is_typed_source t side ≡ true) is_table (subst (λ (x : QueryForm). is_typed_source c.right-of_right.result.table.now x ≡ true) query c.right-of_right.ensures.typed) in
    let fit : judgement side c.args.schema.now ≡ fits shape = right_fits q c.args.schema.now c.args.typed.now.left_table.now shape c.requires.fits typed in
    ap (λ (x : QueryForm). judgement x c.args.schema.now) query ∙ fit ∙ sym (ap fits is_table)

pub returns-clause-value : goal.returns-clause-value
returns-clause-value c =
    let first = c.args.snapshot.now.frame.first in
    let entries = c.args.snapshot.now.entries in
    let schema = c.args.schema.now in
    let q = aj_of c.args.typed.now.query.now in
    let left : table (grid_in c.in_ok-left.left) ≡ query_value first schema entries (query_of_source q.left) c.args.typed.now.left_table.now =
    c.in_ok-left.ensures.value ∙ ap₂ (query_value first schema entries) c.left-of_left.ensures.query c.left-of_left.ensures.table in
    let right : table (grid_in c.in_ok-right.right) ≡ query_value first schema entries (query_of_source q.right) c.args.typed.now.right_table.now =
    c.in_ok-right.ensures.value ∙ ap₂ (query_value first schema entries) c.right-of_right.ensures.query c.right-of_right.ensures.table in
    tree-Table c.in_ok-made.made ∙ ap table c.in_ok-made.ensures ∙ ap₂ (joined c.args.typed.now.query.now.keys) left right
