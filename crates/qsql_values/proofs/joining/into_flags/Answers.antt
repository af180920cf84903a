use Rattle.std.proofs.Common.{◌≡◌, ap, sym, ◌∙◌}
use Rattle.q_values.specs.Contents.{Contents}
use Rattle.q_values.specs.Column.{contents}
use Rattle.q_values.specs.Tree.{vector}
use Rattle.qsql_values.specs.Values.{truths}
use Rattle.qsql_values.specs.Operands.{contents_of}
use Rattle.qsql_values.proofs.KeepingLemmas.{truths_of_booleans}
use Rattle.qsql_values.proofs.joining.into_flags.Goals as goal

pub returns : goal.returns
returns c =
    let same : contents c.into_column.result ≡ contents_of c.args.test = c.into_column.ensures ∙ c.in_ok-into_vector.ensures in
    sym (truths_of_booleans c.in-Booleans.flags.items)
    ∙ ap (λ (v : Contents). truths (vector v)) (ap contents (sym c.in-Booleans.is) ∙ same)
