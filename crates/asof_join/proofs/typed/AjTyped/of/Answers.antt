use Rattle.std.proofs.Common.{◌≡◌, Some, subst}
use Rattle.qsql_request.specs.Views.{source_of, aj_of}
use Rattle.qsql_request.specs.declared.request.Source.{Source}
use Rattle.asof_join.specs.Judged.{has, found_in}
use Rattle.asof_join.specs.Sides.{IsSelectOf}
use Rattle.asof_join.specs.Sources.{query_of_source}
use Rattle.asof_join.proofs.JudgeLemmas.{fit_of, join_parts}
use Rattle.asof_join.proofs.typed.AjTyped.of.Goals as goal

pub invariant_of-result : goal.invariant_of-result
invariant_of-result c =
    let query = c.args.query.now in
    let left = c.args.left in
    let right = c.args.right in
    let parts = join_parts (aj_of query) left.table.now right.table.now c.requires.fit in
    let of_left = subst (λ (s : Source). found_in (query_of_source (source_of s)) (Some left.table.now) ≡ has left.table.now) c.requires.left left.judged.names in
    let of_right = subst (λ (s : Source). found_in (query_of_source (source_of s)) (Some right.table.now) ≡ has right.table.now) c.requires.right right.judged.names in
    record {
      fit = c.requires.fit;
      left_fit = fit_of left.table.now (query_of_source (source_of query.left)) of_left parts.left_typed;
      right_fit = fit_of right.table.now (query_of_source (source_of query.right)) of_right parts.right_typed;
      left_is = subst (λ (s : Source). IsSelectOf (query_of_source (source_of s)).table left.made) c.requires.left left.made_is;
      right_is = subst (λ (s : Source). IsSelectOf (query_of_source (source_of s)).table right.made) c.requires.right right.made_is;
    }
