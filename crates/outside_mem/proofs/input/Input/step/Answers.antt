use Rattle.std.proofs.Common.{arith, ◌+◌, ap, sym, ◌∙◌, length, drop, length-drop}
use Rattle.std.proofs.lemmas.List.{drop-drop}
use Rattle.outside_mem.proofs.PiecesLemmas.{length-from_within, drop_one-from_within, from_within-zero}
use Rattle.outside_mem.proofs.input.Input.step.Goals as goal

pub overflow_add-self : goal.overflow_add-self
overflow_add-self c =
    let rest = drop c.self.inside.next c.self.inside.pieces in
    omega (arith, ap length c.self.view_is, length-from_within c.self.inside.at rest, length-drop c.self.inside.next c.self.inside.pieces)

pub returns : goal.returns
returns c =
    let pieces = c.self.inside.pieces in
    let next = c.self.inside.next in
    from_within-zero (drop (c.self.inside.next + 1) pieces) ∙ sym (drop-drop 1 next pieces) ∙ sym (drop_one-from_within c.self.inside.at (drop next pieces)) ∙ ap (drop 1) c.self.view_is
