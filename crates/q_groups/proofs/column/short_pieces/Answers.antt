use Rattle.std.proofs.Common.{◌≡◌, ℕ, List, length, take, min, flat_map, ap, sym, ◌∙◌, refl}
use Rattle.q_values.specs.Symbols.{symbols_in}
use Rattle.q_groups.proofs.PieceLemmas.{piece_more, left_more}
use Rattle.q_groups.proofs.column.short_pieces.Goals as goal

pub loop-part-preserved : goal.loop-part-preserved
loop-part-preserved c =
    let part = c.part-item.result in
    let items_are : c.in-Short.items.now ≡ part.now = ap symbols_in (sym c.in-Short.is) ∙ c.form.ensures in
    let count_is : c.min-count.result ≡ min c.loop-part.left (length part.now) = c.min-count.ensures ∙ ap (min c.loop-part.left) (ap length items_are) in
    record {
      items = ap (flat_map (λ piece. piece.now)) c.in_ok-push.ensures.items
          ∙ piece_more (λ piece. piece.now) (λ part. part.now) c.loop-part.pieces.items c.args.parts.now _ part c.loop-part.part-index c.args.rows c.loop-part.left c.min-count.result c.loop-part-test.true c.part-item.is
          (ap (take c.min-count.result) items_are) count_is c.loop-part.invariant.items c.loop-part.invariant.left;
      left = left_more (λ part. part.now) c.args.parts.now part c.loop-part.part-index c.args.rows c.loop-part.left c.min-count.result c.loop-part-test.true c.part-item.is count_is c.loop-part.invariant.left;
    }
