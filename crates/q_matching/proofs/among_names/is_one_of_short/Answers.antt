use Rattle.std.proofs.Common.{◌||◌, sym, ◌∙◌}
use Rattle.std.specs.Ordering.{is_eq, nat_cmp}
use Rattle.std.specs.Cmp.Lexicographic.{slice_cmp}
use Rattle.q_lanes.proofs.TextLemmas.{text_ties}
use Rattle.q_matching.proofs.AmongLemmas.{any_more_at}
use Rattle.q_matching.proofs.among_names.is_one_of_short.Goals as goal

pub loop-item-preserved : goal.loop-item-preserved
loop-item-preserved c =
    let more = any_more_at (λ t. is_eq (slice_cmp nat_cmp c.args.x.now t)) c.args.items.now c.loop-item.item-index c.item-item.result c.loop-item-test.true c.item-item.is in
    let same = c.eq-found.ensures ∙ text_ties c.args.x.now c.item-item.result in
    (λ i. c.loop-item.invariant i || same i) ∙ sym more
