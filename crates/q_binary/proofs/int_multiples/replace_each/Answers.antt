use Rattle.std.proofs.Common.{◌≡◌, ◌<◌, length, get_or, pos, to_z, of_z, w32, rules, arith, ap, ◌∙◌}
use Rattle.q_binary.specs.Computed.{int_multiple}
use Rattle.q_binary.proofs.IntMultipleLemmas.{replaced}
use Rattle.q_binary.proofs.int_multiples.replace_each.Goals as goal

pub loop-item-preserved : goal.loop-item-preserved
loop-item-preserved c =
    let f = int_multiple (pos c.args.rule.now.width) in
    let now = c.loop-item.items in
    let i = c.loop-item.item-index in
    let y = to_z w32 (of_z w32 c.below.result) in
    let less : i < length now = omega (arith, c.loop-item-test.true, c.loop-item.invariant.same) in
    let item : to_z w32 (of_z w32 (get_or now i (pos 0))) ≡ get_or now i (pos 0) = search rules in
    let own : y ≡ c.below.result = search rules in
    let is : y ≡ f (get_or now i (pos 0)) = own ∙ c.below.ensures ∙ ap f item in
    let next = replaced f c.args.items.now now i y less c.loop-item.invariant.same c.loop-item.invariant.done c.loop-item.invariant.left is in
    record { done = next.0; left = next.1; same = next.2 }
