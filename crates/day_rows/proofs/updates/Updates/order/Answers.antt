use Rattle.std.proofs.Common.{List, ap, arith, ◌∙◌, ◌+◌, ◌≤◌, length, subst, take}
use Rattle.q_values.specs.Order.{IsOrder, atom_cmp}
use Rattle.q_values.specs.declared.atom.Atom.{Atom}
use Rattle.day_rows.specs.Blocks.{Kept, updates_in}
use Rattle.day_rows.specs.Joined.{joined}
use Rattle.day_rows.proofs.PartLemmas.{part-shown}
use Rattle.day_rows.proofs.updates.Updates.order.Goals as goal

pub returns : goal.returns
returns c =
    let whole = updates_in c.self.inside.store.blocks c.self.inside.store.last in
    let within = rw (← c.self.view_is) at c.requires in
    let from_zero : 0 + c.args.n ≤ length (joined c.args.table c.args.column (take c.self.inside.shown whole)) = omega (arith, within) in
    subst (λ (l : List Atom). IsOrder atom_cmp l c.in_ok-order.order.items)
    (part-shown c.args.table c.args.column c.args.n 0 c.self.inside.shown whole from_zero ∙ ap (λ (k : Kept). take c.args.n (joined c.args.table c.args.column k.updates)) c.self.view_is)
    c.in_ok-order.ensures
