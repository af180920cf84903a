use Rattle.std.proofs.Common.{◌<◌, true, false, length, arith, sym, ◌∙◌}
use Rattle.qsql_eval.proofs.ReadyLemmas.{one_kind_of}
use Rattle.qsql_eval.proofs.executing.kind_of_all.Goals as goal

pub returns-then-are_of_kind : goal.returns-then-are_of_kind
returns-then-are_of_kind c =
    let some : 0 < length c.args.values.now = grind arith in
    sym (one_kind_of c.args.values.now c.index-values-0.result c.kind_of_value-kind.result true some c.index-values-0.is c.kind_of_value-kind.ensures (sym c.are_of_kind.ensures ∙ c.if-are_of_kind.true))

pub returns-else-are_of_kind : goal.returns-else-are_of_kind
returns-else-are_of_kind c =
    let some : 0 < length c.args.values.now = grind arith in
    sym (one_kind_of c.args.values.now c.index-values-0.result c.kind_of_value-kind.result false some c.index-values-0.is c.kind_of_value-kind.ensures (sym c.are_of_kind.ensures ∙ c.if-are_of_kind.false))
