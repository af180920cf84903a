use Rattle.std.proofs.Common.{length, sym, ap, ◌∙◌}
use Rattle.qsql_values.proofs.FrameLemmas.{length_frame}
use Rattle.qsql_groups.specs.Groups.{Groups}
use Rattle.qsql_groups.proofs.grouping.Grouping.groups.Goals as goal

pub returns-clause-size : goal.returns-clause-size
returns-clause-size c =
    ap (λ (g : Groups). length g.codes) (sym c.self.view_is)
    ∙ c.self.invariant.size
    ∙ sym (length_frame c.self.inside.names.now c.self.inside.columns.now c.self.invariant.even)
    ∙ ap (λ (g : Groups). length g.rows.rows) c.self.view_is
