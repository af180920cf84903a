use Rattle.std.proofs.Common.{◌<◌, Some, ap, ◌∙◌, arith}
use Rattle.std.specs.List.{range_with_len}
use Rattle.std.proofs.lemmas.List.FromFn.{length-range_with_len, get_or-range_with_len}
use Rattle.std.proofs.lemmas.Option.{slice_get-get_or}
use Rattle.q_grouped.proofs.rows.RowsItemsUsize.item.Goals as goal

pub returns : goal.returns
returns c =
    let n = c.args.self.now.count in
    let row = c.args.row in
    let low : row < n = omega (arith, c.requires, length-range_with_len 0 n) in
    slice_get-get_or (range_with_len 0 n) row 0 c.requires ∙ ap (λ k. Some k) (get_or-range_with_len 0 n row 0 low ∙ (omega arith))
