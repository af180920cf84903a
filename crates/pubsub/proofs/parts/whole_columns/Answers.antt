use Rattle.std.proofs.Common.{◌++◌, ◌∷◌, [], ap, sym, ◌∙◌}
use Rattle.pubsub.proofs.LineLemmas.{columns_more}
use Rattle.pubsub.proofs.parts.whole_columns.Goals as goal

pub loop-i-preserved : goal.loop-i-preserved
loop-i-preserved c =
    c.in_ok-push.ensures.ok
    ∙ ap (λ l. l ++ c.in_ok-whole_column.field-0 ∷ []) c.loop-i.invariant
    ∙ sym (columns_more c.args.kinds.now c.args.parts.now c.loop-i.i c.in_ok-whole_column.field-0 c.loop-i-test.true c.requires c.in_ok-whole_column.ensures.kind c.in_ok-whole_column.ensures.atoms)
