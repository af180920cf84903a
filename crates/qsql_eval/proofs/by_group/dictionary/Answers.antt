use Rattle.std.proofs.Common.{◌≡◌, ◌<◌, length, arith, sym, ap, ◌∙◌, subst}
use Rattle.std.specs.Prelude.{IfOk}
use Rattle.q_values.specs.Tree.{Tree, tree}
use Rattle.qsql_request.specs.Views.{form}
use Rattle.qsql_request.specs.declared.request.Col.{Col}
use Rattle.qsql_groups.specs.Groups.{value_by_group}
use Rattle.qsql_eval.proofs.GroupLemmas.{one_entry}
use Rattle.qsql_eval.proofs.by_group.dictionary.Goals as goal

pub values_of_groups-requires : goal.values_of_groups-requires
values_of_groups-requires c =
    let some : 0 < length c.args.columns.now = omega (arith, c.requires.column) in
    c.requires.values 0 c.index-columns-0.result some

pub returns : goal.returns
returns c =
    let g = c.args.grouping.now in
    let value = c.in_ok-value.ensures ∙ ap (λ (x : Col). value_by_group g (form x.expr)) (sym c.index-columns-0.is) in
    let is = one_entry g c.args.columns.now c.index-columns-0.result g.keys c.only-key.result c.in_ok-value.value c.requires.column c.index-columns-0.is (sym c.in_ok-keys.ensures.keys ∙ c.only-key.ensures) value in
    subst (λ (t : Tree). IfOk c.pair_of.result (λ v. tree v ≡ t)) is c.pair_of.ensures
