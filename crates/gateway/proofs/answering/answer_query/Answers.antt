use Rattle.std.proofs.Common.{◌≡◌, ap, sym, ◌∙◌, subst}
use Rattle.std.specs.Prelude.{IfOk}
use Rattle.q_values.specs.Tree.{Tree, tree}
use Rattle.qsql_request.specs.Views.{query_of}
use Rattle.qsql_request.specs.declared.request.Query.{Query}
use Rattle.qsql_eval.specs.Judgement.{judgement}
use Rattle.gateway.specs.Answer.{query_value, query_answer}
use Rattle.gateway.proofs.answering.answer_query.Goals as goal

pub returns-in-Ok-clause-value : goal.returns-in-Ok-clause-value
returns-in-Ok-clause-value c =
    let first = c.args.snapshot.now.frame.first in
    let entries = c.args.snapshot.now.entries in
    let schema = c.args.schema.now in
    let q = query_of c.args.query.now in
    let table = c.in-Ok.typed.table.now in
    let is : query_value first schema entries (query_of c.in-Ok.typed.query.now) table ≡ query_answer (query_value first schema entries) q (judgement q schema) =
    ap (λ (x : Query). query_value first schema entries (query_of x) table) c.in-Ok.ensures.query ∙ sym (ap (query_answer (query_value first schema entries) q) c.in-Ok.ensures.fits) in
    subst (λ (t : Tree). IfOk c.value_of_typed.result (λ v. tree v ≡ t)) is c.value_of_typed.ensures.value
