use Rattle.std.proofs.Common.{arith, ◌∙◌, ◌∷◌, []}
use Rattle.std.proofs.lemmas.List.{length-append}
use Rattle.day_rows.proofs.GrowLemmas.{tables-push_empty}
use Rattle.day_rows.proofs.block.add_tables.Goals as goal

pub loop-preserved : goal.loop-preserved
loop-preserved c =
    rw (c.in_ok-push.ensures.items, c.new.ensures) (record {
      same = λ table column. tables-push_empty c.loop.tables.items table column ∙ c.loop.invariant.same table column;
      count = omega (arith, length-append c.loop.tables.items ([] ∷ []), c.loop.invariant.count);
    })
