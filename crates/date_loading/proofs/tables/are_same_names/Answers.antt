use Rattle.std.proofs.Common.{◌≡◌, ℕ, suc, ◌+◌, take, slice_get, Some, rules, ap, sym, ◌∙◌, subst, arith}
use Rattle.date_loading.proofs.DifferenceLemmas.{same-further}
use Rattle.date_loading.proofs.tables.are_same_names.Goals as goal

pub loop-i-preserved : goal.loop-i-preserved
loop-i-preserved c =
    let items : c.at.result.now ≡ c.at-in-loop-i.result.now = search rules in
    let at : slice_get c.args.some.now c.loop-i.i ≡ slice_get c.args.other.now c.loop-i.i =
    c.at.ensures ∙ ap (λ x. Some x) items ∙ sym c.at-in-loop-i.ensures in
    let next : suc c.loop-i.i ≡ c.loop-i.i + 1 = omega arith in
    subst (λ (n : ℕ). take n c.args.some.now ≡ take n c.args.other.now) next
    (same-further c.args.some.now c.args.other.now c.loop-i.i c.loop-i.invariant at)
