use Rattle.std.proofs.Common.{◌≡◌, ℕ, List, length, arith, ap₂, ◌∙◌}
use Rattle.q_grouped.specs.Grouped.{aggregates}
use Rattle.qsql_groups.proofs.ByGroupLemmas.{aggregates_by}
use Rattle.qsql_groups.proofs.values.aggregates.Goals as goal

pub returns-clause-values : goal.returns-clause-values
returns-clause-values c =
    let count : c.in-Ok.count ≡ length c.args.groups.now.firsts = grind (arith, c.in-Ok.ensures, c.len.ensures) in
    aggregates_by c.args.groups.now c.args.verb c.args.side.now c.in_ok-found.found c.requires.verb c.requires.size
    (c.in_ok-found.ensures.atoms ∙ ap₂ (λ (n : ℕ) (cs : List ℕ). aggregates c.args.verb c.args.side.now.kind n cs c.args.side.now.atoms) count c.codes.ensures.codes)
