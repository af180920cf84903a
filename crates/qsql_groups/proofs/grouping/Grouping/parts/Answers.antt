use Rattle.std.proofs.Common.{◌≡◌, ℕ, List, ◌<◌, length, All, sym, ap, ◌∙◌, subst}
use Rattle.qsql_values.proofs.FrameLemmas.{length_frame}
use Rattle.qsql_groups.specs.Groups.{Groups, parts_of}
use Rattle.qsql_groups.proofs.GroupLemmas.{parts_within}
use Rattle.qsql_groups.proofs.grouping.Grouping.parts.Goals as goal

pub returns-clause-within : goal.returns-clause-within
returns-clause-within c =
    let g : Groups = c.args.self.now in
    let size : length g.codes ≡ length g.rows.rows =
    ap (λ (h : Groups). length h.codes) (sym c.self.view_is)
    ∙ c.self.invariant.size
    ∙ sym (length_frame c.self.inside.names.now c.self.inside.columns.now c.self.invariant.even)
    ∙ ap (λ (h : Groups). length h.rows.rows) c.self.view_is in
    subst (λ (n : ℕ). All (λ (part : List ℕ). All (λ (p : ℕ). p < n) part) (parts_of g)) size (parts_within g.codes (length g.firsts))
