use Rattle.std.proofs.Common.{rules, ℕ, ◌≡◌, ◌<◌, ◌+◌, ◌/◌, FitsSigned, to_z, of_z, take, drop, get_or, length, sym, ◌∙◌, ap, map, subst, arith}
use Rattle.std.specs.Int.{w64, int_wrap}
use Rattle.std.proofs.lemmas.Int.{to_z-of_z}
use Rattle.std.proofs.lemmas.List.{get_or-drop, length-drop, take_all}
use Rattle.q_verbs.specs.Aggregates.{total}
use Rattle.q_unary.proofs.TotalLemmas.{halves_joined, total_step}
use Rattle.q_unary.proofs.totals.total_of_items.Goals as goal

pub loop-i-preserved : goal.loop-i-preserved
loop-i-preserved g c =
    let items = c.args.items.now in
    let half = length items / 2 in
    let i = c.loop-i.i in
    let wide : FitsSigned w64 c.widened.result = search rules in
    let sum : FitsSigned w64 c.added-sum.result = search rules in
    let wide_other : FitsSigned w64 c.widened-in-loop-i.result = search rules in
    let other : FitsSigned w64 c.added-other.result = search rules in
    let x = c.index-items-half.result in
    let within : i < length (drop half items) = omega (arith, length-drop half items, c.loop-i-test.true) in
    let inside : i < length items = omega (arith, c.loop-i-test.true) in
    let there : x ≡ get_or (drop half items) i x = c.index-items-half.is ∙ sym (get_or-drop half items i x) in
    record {
      sum = total_step g.T.Number.number items i c.index-items-i.result (to_z w64 c.loop-i.sum-bits) c.widened.result c.added-sum.result inside c.index-items-i.is wide sum c.loop-i.invariant.sum c.widened.ensures c.added-sum.ensures;
      other = total_step g.T.Number.number (drop half items) i x (to_z w64 c.loop-i.other-bits) c.widened-in-loop-i.result c.added-other.result within there wide_other other c.loop-i.invariant.other c.widened-in-loop-i.ensures c.added-other.ensures;
    }

pub returns-then-half-items : goal.returns-then-half-items
returns-then-half-items g c =
    let items = c.args.items.now in
    let half = length items / 2 in
    let at : c.loop-i.i ≡ half = omega (arith, c.loop-i-test.false) in
    let number = g.T.Number.number in
    let fits : FitsSigned w64 c.joined-both.result = search rules in
    let wide : FitsSigned w64 c.widened-then-half-items.result = search rules in
    let sum : FitsSigned w64 c.added.result = search rules in
    let first : to_z w64 c.loop-i.sum-bits ≡ int_wrap w64 (total (map number (take half items))) = subst (λ (n : ℕ). to_z w64 c.loop-i.sum-bits ≡ int_wrap w64 (total (map number (take n items)))) at c.loop-i.invariant.sum in
    let second : to_z w64 c.loop-i.other-bits ≡ int_wrap w64 (total (map number (take half (drop half items)))) = subst (λ (n : ℕ). to_z w64 c.loop-i.other-bits ≡ int_wrap w64 (total (map number (take n (drop half items))))) at c.loop-i.invariant.other in
    let both = halves_joined number items half (to_z w64 c.loop-i.sum-bits) (to_z w64 c.loop-i.other-bits) c.joined-both.result first second c.joined-both.ensures in
    let inside : half + half < length items = omega (arith, c.if-half-items.true) in
    let whole : take (half + half + 1) items ≡ items = take_all (half + half + 1) items (omega arith) in
    total_step number items (half + half) c.index-items-half-then-half-items.result (to_z w64 (of_z w64 c.joined-both.result)) c.widened-then-half-items.result c.added.result inside c.index-items-half-then-half-items.is wide sum (to_z-of_z w64 c.joined-both.result fits ∙ both) c.widened-then-half-items.ensures c.added.ensures
    ∙ ap (λ l. int_wrap w64 (total (map number l))) whole

pub returns-else-half-items : goal.returns-else-half-items
returns-else-half-items g c =
    let items = c.args.items.now in
    let half = length items / 2 in
    let at : c.loop-i.i ≡ half = omega (arith, c.loop-i-test.false) in
    let number = g.T.Number.number in
    let fits : FitsSigned w64 c.joined-both.result = search rules in
    let first : to_z w64 c.loop-i.sum-bits ≡ int_wrap w64 (total (map number (take half items))) = subst (λ (n : ℕ). to_z w64 c.loop-i.sum-bits ≡ int_wrap w64 (total (map number (take n items)))) at c.loop-i.invariant.sum in
    let second : to_z w64 c.loop-i.other-bits ≡ int_wrap w64 (total (map number (take half (drop half items)))) = subst (λ (n : ℕ). to_z w64 c.loop-i.other-bits ≡ int_wrap w64 (total (map number (take n (drop half items))))) at c.loop-i.invariant.other in
    let both = halves_joined number items half (to_z w64 c.loop-i.sum-bits) (to_z w64 c.loop-i.other-bits) c.joined-both.result first second c.joined-both.ensures in
    let whole : take (half + half) items ≡ items = take_all (half + half) items (omega (arith, c.if-half-items.false)) in
    to_z-of_z w64 c.joined-both.result fits ∙ both ∙ ap (λ l. int_wrap w64 (total (map number l))) whole
