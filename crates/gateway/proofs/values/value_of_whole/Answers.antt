use Rattle.std.proofs.Common.{sym, subst}
use Rattle.qsql_values.specs.Frames.{frame_of}
use Rattle.gateway.specs.Shaped.{IsShaped}
use Rattle.gateway.proofs.ShapedLemmas.{meaning_shaped}
use Rattle.gateway.proofs.values.value_of_whole.Goals as goal

pub returns-clause-shaped : goal.returns-clause-shaped
returns-clause-shaped c =
    let typed = c.args.typed.now in
    subst IsShaped (sym c.in_ok-value.ensures) (meaning_shaped typed.table.now typed.query.now (frame_of c.in_ok-rows.rows.names c.in_ok-rows.rows.columns) typed.fit c.in_ok-rows.ensures.columns)
