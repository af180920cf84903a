use Rattle.std.proofs.Common.{arith, ◌<◌, ◌+◌, ◌∷◌, ◌∙◌, ap, sym, drop, length}
use Rattle.std.proofs.lemmas.List.{drop_more}
use Rattle.std.proofs.lemmas.Option.{get_or_from_slice_get}
use Rattle.q_values.specs.Element.{element_atom}
use Rattle.q_values.proofs.vector.VectorIterIterator.next.Goals as goal

pub returns-clause-steps : goal.returns-clause-steps
returns-clause-steps c =
    let all = c.self.inside.vector.now.atoms in
    let i = c.self.inside.next in
    let x = element_atom c.element-element.result in
    let i_in : i < length all = omega (arith, c.len.ensures, c.if-self-len.false) in
    sym c.self.view_is ∙ drop_more all i x i_in ∙ ap (λ y. y ∷ drop (i + 1) all) (get_or_from_slice_get all i x x c.element-element.ensures.value)
