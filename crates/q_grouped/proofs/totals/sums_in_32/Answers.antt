use Rattle.std.proofs.Common.{map, ap, ◌∙◌}
use Rattle.std.specs.Int.{w32, w64, int_wrap}
use Rattle.q_verbs.specs.Aggregates.{total}
use Rattle.q_grouped.proofs.GroupLemmas.{by_group-same, map-by_group}
use Rattle.q_grouped.proofs.TotalLemmas.{narrowed}
use Rattle.q_grouped.proofs.totals.sums_in_32.Goals as goal

pub returns : goal.returns
returns g c =
    let number = g.T.Number.number in
    let groups = c.args.groups in
    let codes = c.args.codes.now in
    let items = c.args.items.now in
    c.in_ok-narrow.ensures
    ∙ ap (map (int_wrap w32)) (c.as_slice.ensures.value ∙ c.in_ok-wide.ensures)
    ∙ map-by_group (int_wrap w32) (λ xs. int_wrap w64 (total (map number xs))) groups codes items
    ∙ by_group-same (λ xs. int_wrap w32 (int_wrap w64 (total (map number xs)))) (λ xs. int_wrap w32 (total (map number xs))) groups codes items (λ xs. narrowed (total (map number xs)))
