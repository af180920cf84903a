use Rattle.std.proofs.Common.{◌≡◌, ◌<◌, ◌+◌, ◌/◌, ℕ, take, drop, get_or, length, sym, ◌∙◌, ap, subst, arith}
use Rattle.std.proofs.Math.Seq.{take-add}
use Rattle.std.proofs.lemmas.List.{get_or-drop, length-drop, take_all}
use Rattle.std.proofs.lemmas.Option.{get_or_from_slice_get}
use Rattle.q_unary.proofs.ExtremeLemmas.{extreme_more}
use Rattle.q_unary.proofs.JoinLemmas.{extreme_joined}
use Rattle.q_unary.specs.Extremes.{extreme}
use Rattle.q_unary.proofs.picks.picked_of.Goals as goal

pub loop-i-preserved : goal.loop-i-preserved
loop-i-preserved g c =
    let items = g.I.Items.list c.args.items.now in
    let half = c.count-count.result / 2 in
    let i = c.loop-i.i in
    let x = c.item.result in
    let y = c.item-in-loop-i.result in
    let inside : i < length items = omega (arith, c.loop-i-test.true, c.count-count.ensures) in
    let within : i < length (drop half items) = omega (arith, length-drop half items, c.loop-i-test.true, c.count-count.ensures) in
    let first : x ≡ get_or items i x = sym (get_or_from_slice_get items i x x c.item.ensures) in
    let there : y ≡ get_or (drop half items) i y = sym (get_or_from_slice_get items (half + i) y y c.item-in-loop-i.ensures) ∙ sym (get_or-drop half items i y) in
    record {
      best = extreme_more g.P.Pick.wanted g.P.Pick.number g.P.Pick.end (g.P.Pick.held c.loop-i.best) x (g.P.Pick.held c.pick-best.result) items i inside first c.loop-i.invariant.best c.pick-best.ensures.picks;
      other = extreme_more g.P.Pick.wanted g.P.Pick.number g.P.Pick.end (g.P.Pick.held c.loop-i.other) y (g.P.Pick.held c.pick-other.result) (drop half items) i within there c.loop-i.invariant.other c.pick-other.ensures.picks;
    }

pub returns-then-half-count : goal.returns-then-half-count
returns-then-half-count g c =
    let items = g.I.Items.list c.args.items.now in
    let wanted = g.P.Pick.wanted in
    let number = g.P.Pick.number in
    let end = g.P.Pick.end in
    let half = c.count-count.result / 2 in
    let at : c.loop-i.i ≡ half = omega (arith, c.loop-i-test.false) in
    let first = subst (λ (n : ℕ). g.P.Pick.held c.loop-i.best ≡ extreme wanted number end (take n items)) at c.loop-i.invariant.best in
    let second = c.held-last.ensures ∙ subst (λ (n : ℕ). g.P.Pick.held c.loop-i.other ≡ extreme wanted number end (take n (drop half items))) at c.loop-i.invariant.other in
    let both =
    extreme_joined wanted number c.end-best.ensures.ranks end (g.P.Pick.held c.loop-i.best) c.held-last.result (g.P.Pick.held c.pick-both.result) (take half items) (take half (drop half items)) first second c.pick-both.ensures.picks c.pick-both.ensures.end
    ∙ ap (extreme wanted number end) (sym (take-add half half items)) in
    let inside : half + half < length items = omega (arith, c.if-half-count.true, c.count-count.ensures) in
    let x = c.item-then-half-count.result in
    let there : x ≡ get_or items (half + half) x = sym (get_or_from_slice_get items (half + half) x x c.item-then-half-count.ensures) in
    let whole : take (half + half + 1) items ≡ items = take_all (half + half + 1) items (omega (arith, c.count-count.ensures)) in
    c.held.ensures ∙ extreme_more wanted number end (g.P.Pick.held c.pick-both.result) x (g.P.Pick.held c.pick.result) items (half + half) inside there both c.pick.ensures.picks
    ∙ ap (extreme wanted number end) whole

pub returns-else-half-count : goal.returns-else-half-count
returns-else-half-count g c =
    let items = g.I.Items.list c.args.items.now in
    let wanted = g.P.Pick.wanted in
    let number = g.P.Pick.number in
    let end = g.P.Pick.end in
    let half = c.count-count.result / 2 in
    let at : c.loop-i.i ≡ half = omega (arith, c.loop-i-test.false) in
    let first = subst (λ (n : ℕ). g.P.Pick.held c.loop-i.best ≡ extreme wanted number end (take n items)) at c.loop-i.invariant.best in
    let second = c.held-last.ensures ∙ subst (λ (n : ℕ). g.P.Pick.held c.loop-i.other ≡ extreme wanted number end (take n (drop half items))) at c.loop-i.invariant.other in
    let both =
    extreme_joined wanted number c.end-best.ensures.ranks end (g.P.Pick.held c.loop-i.best) c.held-last.result (g.P.Pick.held c.pick-both.result) (take half items) (take half (drop half items)) first second c.pick-both.ensures.picks c.pick-both.ensures.end
    ∙ ap (extreme wanted number end) (sym (take-add half half items)) in
    c.held-else-half-count.ensures ∙ both ∙ ap (extreme wanted number end) (take_all (half + half) items (omega (arith, c.if-half-count.false, c.count-count.ensures)))
