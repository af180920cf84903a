use Rattle.std.proofs.Common.{◌||◌, sym, ◌∙◌}
use Rattle.std.specs.Ordering.{is_eq, nat_cmp}
use Rattle.std.specs.Cmp.Lexicographic.{slice_cmp}
use Rattle.q_lanes.proofs.TextLemmas.{text_ties}
use Rattle.q_matching.proofs.AmongLemmas.{any_more_lent}
use Rattle.q_matching.proofs.among_names.is_one_of.Goals as goal

pub loop-i-preserved : goal.loop-i-preserved
loop-i-preserved c =
    let same = c.eq-found.ensures ∙ text_ties c.args.x.now _ in
    (λ i. c.loop-i.invariant i || same i) ∙ sym (any_more_lent (λ t. is_eq (slice_cmp nat_cmp c.args.x.now t)) c.args.items.now c.loop-i.i _ c.loop-i-test.true)
