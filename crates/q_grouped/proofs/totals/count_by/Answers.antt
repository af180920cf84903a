use Rattle.std.proofs.Common.{pos, Some, map, fold, length, ap, ◌∙◌}
use Rattle.q_values.specs.Contents.{Contents}
use Rattle.q_values.specs.declared.atom.Atom.TheVariants as a
use Rattle.q_values.specs.declared.kind.Kind.TheVariants as k
use Rattle.q_verbs.specs.Numbers.{written}
use Rattle.q_grouped.specs.Steps.{added}
use Rattle.q_grouped.proofs.GroupLemmas.{by_group-same, map-by_group}
use Rattle.q_grouped.proofs.TotalLemmas.{counted_all}
use Rattle.q_grouped.proofs.totals.count_by.Goals as goal

pub returns-clause-atoms : goal.returns-clause-atoms
returns-clause-atoms c =
    ap (λ (v : Contents). v.atoms) c.from_column.ensures
    ∙ ap (map (λ x. a.Long x)) c.in_ok-counts.ensures.value
    ∙ map-by_group (λ x. a.Long x) (fold (added (λ x. Some (pos 1))) (pos 0)) c.args.groups c.args.codes.now c.args.codes.now
    ∙ by_group-same (λ xs. a.Long (fold (added (λ x. Some (pos 1))) (pos 0) xs)) (λ xs. written k.Long (Some (pos (length xs)))) c.args.groups c.args.codes.now c.args.codes.now counted_all
