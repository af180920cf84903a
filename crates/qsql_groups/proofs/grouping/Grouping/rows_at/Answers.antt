use Rattle.std.proofs.Common.{◌≡◌, ℕ, ◌<◌, length, All, sym, ap, ◌∙◌, subst}
use Rattle.q_values.specs.Table.{rows_of}
use Rattle.qsql_values.proofs.FrameLemmas.{length_frame}
use Rattle.qsql_groups.specs.Groups.{Groups}
use Rattle.qsql_groups.proofs.grouping.Grouping.rows_at.Goals as goal

pub at-requires-clause-within : goal.at-requires-clause-within
at-requires-clause-within c =
    let size : length c.args.self.now.rows.rows ≡ rows_of c.self.inside.columns.now =
    ap (λ (g : Groups). length g.rows.rows) (sym c.self.view_is) ∙ length_frame c.self.inside.names.now c.self.inside.columns.now c.self.invariant.even in
    subst (λ (n : ℕ). All (λ (p : ℕ). p < n) c.args.places.now) size c.requires
