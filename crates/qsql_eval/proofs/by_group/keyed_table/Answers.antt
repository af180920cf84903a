use Rattle.std.proofs.Common.{◌∙◌, sym}
use Rattle.qsql_eval.proofs.by_group.keyed_table.Goals as goal

pub invariant_of-joined : goal.invariant_of-joined
invariant_of-joined c = record { of_one_length = c.in_ok-keys.ensures.size ∙ sym c.in_ok-values.ensures.size }
