use Rattle.std.proofs.Common.{pos, map, fold, ◌∙◌}
use Rattle.std.specs.Int.{w64, int_wrap}
use Rattle.q_verbs.specs.Aggregates.{total}
use Rattle.q_grouped.specs.Steps.{added}
use Rattle.q_grouped.proofs.GroupLemmas.{by_group-same}
use Rattle.q_grouped.proofs.TotalLemmas.{added_all}
use Rattle.q_grouped.proofs.totals.sums.Goals as goal

pub returns : goal.returns
returns g c =
    c.in_ok-sums.ensures.value ∙ by_group-same (fold (added g.T.Number.number) (pos 0)) (λ xs. int_wrap w64 (total (map g.T.Number.number xs))) c.args.groups c.args.codes.now c.args.items.now (added_all g.T.Number.number)
