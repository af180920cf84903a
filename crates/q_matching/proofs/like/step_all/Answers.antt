use Rattle.std.proofs.Common.{◌≡◌, ◌<◌, ◌+◌, ◌-◌, ◌∷◌, arith, length, drop, get_or, subst, sym, ap, ◌∙◌}
use Rattle.std.proofs.lemmas.List.{drop_more}
use Rattle.q_verbs.specs.Like.{matches, IsRow}
use Rattle.q_matching.proofs.like.step_all.Goals as goal

pub loop-j-preserved : goal.loop-j-preserved
loop-j-preserved c =
    let pattern = c.args.pattern.now in
    let i = length pattern - 1 - c.loop-j.j in
    let below : i < length pattern = omega arith in
    let next : i + 1 ≡ length pattern - c.loop-j.j = omega arith in
    let here : i ≡ length pattern - (c.loop-j.j + 1) = omega arith in
    let cut : get_or pattern i 0 ∷ drop (length pattern - c.loop-j.j) pattern ≡ drop (length pattern - (c.loop-j.j + 1)) pattern = ap (λ n. get_or pattern i 0 ∷ drop n pattern) (sym next) ∙ sym (drop_more pattern i 0 below) ∙ ap (λ n. drop n pattern) here in
    subst (λ p. IsRow (matches p) c.args.text.now c.step.new.row) cut (c.step.ensures (drop (length pattern - c.loop-j.j) pattern) c.loop-j.invariant)
