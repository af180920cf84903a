use Rattle.std.proofs.Common.{◌≡◌, ◌≢◌, List, map, sym, ap, ◌∙◌, subst, ℤ, rules}
use Rattle.q_values.specs.Contents.{Contents}
use Rattle.q_values.specs.declared.kind.Kind.TheVariants as k
use Rattle.asof_join.specs.Lasts.{AreNumbers, number_of, numbers_in}
use Rattle.asof_join.proofs.KeyLemmas.{numbers_are}
use Rattle.asof_join.proofs.lasts.Lasts.of.Goals as goal

pub returns : goal.returns
returns c =
    let left = c.args.left.now in
    let right = c.args.right.now in
    let other : left.kind ≢ k.Symbol = search rules in
    let first : numbers_in c.in_ok-of_left.of_left ≡ map number_of left.atoms = c.in_ok-of_left.ensures ∙ ap (λ (v : Contents). map number_of v.atoms) c.column.ensures in
    let next : numbers_in c.in_ok-of_right.of_right ≡ map number_of right.atoms = c.in_ok-of_right.ensures ∙ ap (λ (v : Contents). map number_of v.atoms) c.column-2.ensures in
    let are = numbers_are left.atoms right.atoms left.kind other c.kind.ensures.of_kind (λ i d low. c.kind-kind.ensures.of_kind i d low ∙ c.requires) in
    subst (λ (xs : List ℤ). AreNumbers left.atoms right.atoms xs (numbers_in c.in_ok-of_right.of_right)) (sym first)
    (subst (λ (ys : List ℤ). AreNumbers left.atoms right.atoms (map number_of left.atoms) ys) (sym next) are)
