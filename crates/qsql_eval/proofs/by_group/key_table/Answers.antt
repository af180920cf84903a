use Rattle.std.proofs.Common.{length, sym, ◌∙◌, subst}
use Rattle.qsql_values.proofs.FrameLemmas.{AreOfSize}
use Rattle.qsql_eval.proofs.GroupLemmas.{key_table_of}
use Rattle.qsql_eval.proofs.by_group.key_table.Goals as goal

pub invariant_of-result : goal.invariant_of-result
invariant_of-result c = record {
  in_shape =
      (key_table_of c.args.grouping.now c.args.by.now c.in_ok-names.names c.in_ok-columns.columns c.requires.some c.requires.keys c.in_ok-names.ensures (c.in_ok-columns.ensures ∙ c.in_ok-keys.ensures.keys)
      (subst (AreOfSize (length c.args.grouping.now.firsts)) (sym c.in_ok-columns.ensures) (subst (AreOfSize (length c.args.grouping.now.firsts)) (sym c.in_ok-keys.ensures.keys) c.in_ok-keys.ensures.even))).is;
}

pub returns-clause-size : goal.returns-clause-size
returns-clause-size c =
    (key_table_of c.args.grouping.now c.args.by.now c.in_ok-names.names c.in_ok-columns.columns c.requires.some c.requires.keys c.in_ok-names.ensures (c.in_ok-columns.ensures ∙ c.in_ok-keys.ensures.keys)
    (subst (AreOfSize (length c.args.grouping.now.firsts)) (sym c.in_ok-columns.ensures) (subst (AreOfSize (length c.args.grouping.now.firsts)) (sym c.in_ok-keys.ensures.keys) c.in_ok-keys.ensures.even))).size
