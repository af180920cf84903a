use Rattle.std.proofs.Common.{◌≡◌, ℕ, ◌-◌, List, [], ◌∷◌, ◌++◌, take, vec_len, arith, ap, ◌∙◌}
use Rattle.q_values.specs.Contents.{Contents}
use Rattle.qsql_eval.proofs.by_group.only.Goals as goal

pub returns : goal.returns
returns c =
    let none : vec_len c.args.keys - 1 ≡ 0 = omega (arith, c.requires, c.args.keys.ok) in
    let left = c.pop.ensures.rest ∙ ap (λ (n : ℕ). take n c.args.keys.items) none in
    c.in-Some.ensures.items ∙ ap (λ (l : List Contents). l ++ c.in-Some.key ∷ []) left
