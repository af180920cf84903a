use Rattle.std.proofs.Common.{arith, ap, ◌∙◌, ◌∷◌, []}
use Rattle.std.proofs.lemmas.List.{length-append}
use Rattle.q_values.specs.Contents.{Contents}
use Rattle.day_rows.proofs.GrowLemmas.{atoms-push_empty}
use Rattle.day_rows.proofs.table.widen.Goals as goal

pub loop-i-preserved : goal.loop-i-preserved
loop-i-preserved c =
    let empty = ap (λ (v : Contents). v.atoms) (c.reserve.ensures ∙ c.new-column.ensures) in
    rw c.in_ok-push.ensures.items (record {
      same = λ column. atoms-push_empty c.loop-i.columns.items c.reserve.new.self column empty ∙ c.loop-i.invariant.same column;
      count = omega (arith, length-append c.loop-i.columns.items (c.reserve.new.self ∷ []), c.loop-i.invariant.count);
    })
