use Rattle.std.proofs.Common.{◌≡◌, ap, sym, ◌∙◌, subst}
use Rattle.std.specs.Prelude.{IfOk}
use Rattle.q_values.specs.Tree.{Tree, tree}
use Rattle.qsql_request.specs.Views.{aj_of}
use Rattle.qsql_request.specs.declared.request.AjQuery.{AjQuery}
use Rattle.asof_join.specs.Judged.{aj_judgement}
use Rattle.asof_join.specs.Sources.{query_of_source}
use Rattle.gateway.specs.Answer.{query_value, joined, join_answer}
use Rattle.gateway.proofs.joining.answer_join.Goals as goal

pub returns-in-Ok-clause-value : goal.returns-in-Ok-clause-value
returns-in-Ok-clause-value c =
    let first = c.args.snapshot.now.frame.first in
    let entries = c.args.snapshot.now.entries in
    let schema = c.args.schema.now in
    let q = aj_of c.args.query.now in
    let typed = c.in-Ok.typed in
    let value = query_value first schema entries in
    let join = λ (x : AjQuery). joined x.keys (value (query_of_source (aj_of x).left) typed.left_table.now) (value (query_of_source (aj_of x).right) typed.right_table.now) in
    let is : join typed.query.now ≡ join_answer value q (aj_judgement q schema) = ap join c.in-Ok.ensures.query ∙ sym (ap (join_answer value q) c.in-Ok.ensures.fits) in
    subst (λ (t : Tree). IfOk c.join_of_typed.result (λ v. tree v ≡ t)) is c.join_of_typed.ensures.value
