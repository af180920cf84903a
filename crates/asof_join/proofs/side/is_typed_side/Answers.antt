use Rattle.std.proofs.Common.{sym, ap, ◌∙◌, subst}
use Rattle.qsql_request.specs.Views.{query_of}
use Rattle.qsql_eval.specs.Judgement.{judged_over, judgement}
use Rattle.qsql_eval.specs.Views.{RefusesQuery}
use Rattle.qsql_eval.specs.declared.typed.CheckRefusal.TheVariants.{NoName}
use Rattle.asof_join.proofs.JudgeLemmas.{judged_fit, found_unknown}
use Rattle.asof_join.proofs.side.is_typed_side.Goals as goal

pub returns-in-Ok-clause-judged : goal.returns-in-Ok-clause-judged
returns-in-Ok-clause-judged c =
    let q = query_of c.args.query.now in
    judged_fit c.args.table.now q c.is_plain.result c.in-Ok._typed.table.now (sym (ap (judged_over q) c.requires) ∙ c.in-Ok.ensures.fits) c.is_plain.ensures

pub returns-in-Err-NoName-clause-refused : goal.returns-in-Err-NoName-clause-refused
returns-in-Err-NoName-clause-refused c =
    let q = query_of c.args.query.now in
    let refused : RefusesQuery (judgement q c.args.schema.now) (NoName c.in-Err-NoName.name) = subst (RefusesQuery (judgement q c.args.schema.now)) c.in-Err-NoName.field-0-is c.in-Err-NoName.ensures.refused in
    found_unknown c.args.table.now q c.in-Err-NoName.name (sym (ap (judged_over q) c.requires) ∙ refused)
