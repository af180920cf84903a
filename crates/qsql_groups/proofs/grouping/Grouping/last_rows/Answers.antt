use Rattle.std.proofs.Common.{◌≡◌, ℕ, List, ◌<◌, length, map, All, sym, ap, ◌∙◌, subst}
use Rattle.q_values.specs.Table.{rows_of}
use Rattle.qsql_values.proofs.FrameLemmas.{length_frame}
use Rattle.qsql_groups.specs.Groups.{Groups, parts, last_row}
use Rattle.qsql_groups.proofs.GroupLemmas.{lasts_within}
use Rattle.qsql_groups.proofs.grouping.Grouping.last_rows.Goals as goal

pub returns-clause-within : goal.returns-clause-within
returns-clause-within c =
    let size : length c.args.self.now.rows.rows ≡ rows_of c.self.inside.columns.now =
    ap (λ (g : Groups). length g.rows.rows) (sym c.self.view_is) ∙ length_frame c.self.inside.names.now c.self.inside.columns.now c.self.invariant.even in
    let within : All (λ (p : ℕ). p < rows_of c.self.inside.columns.now) (map last_row (parts c.codes.result.now c.len.result)) =
    lasts_within (rows_of c.self.inside.columns.now) c.len.result c.codes.result.now c.self.inside.groups.firsts (ap length c.codes.ensures.codes ∙ c.self.invariant.size) c.len.ensures c.self.invariant.within in
    let made = subst (λ (ps : List ℕ). All (λ (p : ℕ). p < rows_of c.self.inside.columns.now) ps) (sym c.in_ok-places.ensures) within in
    subst (λ (n : ℕ). All (λ (p : ℕ). p < n) c.in_ok-places.places.items) (sym size) made
