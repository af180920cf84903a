use Rattle.std.proofs.Common.{ap, ◌∙◌}
use Rattle.qsql_request.specs.Views.{aj_of}
use Rattle.asof_join.specs.Sources.{is_typed_source}
use Rattle.asof_join.proofs.JudgeLemmas.{join_parts}
use Rattle.asof_join.proofs.typed.AjTyped.left.Goals as goal

pub returns-clause-typed : goal.returns-clause-typed
returns-clause-typed c =
    let typed = c.args.self.now in
    ap (is_typed_source typed.left_table.now) c.query_in.ensures ∙ (join_parts (aj_of typed.query.now) typed.left_table.now typed.right_table.now typed.fit).left_typed
