use Rattle.std.proofs.Common.{rules, ◌≡◌, ◌||◌, ℤ, true, cond, FitsSigned, ap, sym, ◌∙◌}
use Rattle.std.specs.HashSet.{contains}
use Rattle.std.specs.Int.{w64}
use Rattle.std.specs.Ordering.{int_eq, is_eq}
use Rattle.std.proofs.lemmas.Int.{to_z-of_z}
use Rattle.q_matching.proofs.AmongLemmas.{any_more_at, told_more}
use Rattle.q_verbs.specs.Numbers.{numeric, worth_cmp}
use Rattle.q_matching.proofs.among_numbers.set_of_numbers.Goals as goal

pub loop-item-preserved : goal.loop-item-preserved
loop-item-preserved g c =
    let key = c.widened.result in
    let fits : FitsSigned w64 key = search rules in
    let old = contains int_eq c.loop-item.set in
    let new = contains int_eq c.insert.new.self in
    let kept = to_z-of_z w64 key fits in
    let updates : (q : ℤ) → new q ≡ cond (int_eq key q) true (old q) = λ q. c.in_ok-insert.ensures.updates.0 q ∙ ap (λ k. cond (int_eq k q) true (old q)) kept in
    λ n.
    told_more old new key n fits updates
    ∙ (λ i. c.loop-item.invariant n i || is_eq (worth_cmp (numeric n) (numeric (c.widened.ensures i))))
    ∙ sym (any_more_at (λ y. is_eq (worth_cmp (numeric n) (numeric (g.T.Number.number y)))) c.args.items.now c.loop-item.item-index c.item-item.result c.loop-item-test.true c.item-item.is)
