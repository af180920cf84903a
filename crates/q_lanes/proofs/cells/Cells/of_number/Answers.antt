use Rattle.std.proofs.Common.{ap, ◌∙◌, replicate, rules, FitsSigned}
use Rattle.std.specs.Int.{w16, w32, w64}
use Rattle.std.proofs.lemmas.Int.{to_z-of_z}
use Rattle.q_values.specs.Column.{byte_atom, integer_atom, long_atom}
use Rattle.q_values.specs.declared.atom.Atom.TheVariants as a
use Rattle.q_lanes.proofs.SideLemmas.{map-replicate}
use Rattle.q_lanes.proofs.cells.Cells.of_number.Goals as goal

pub returns-in-Boolean-clause-atoms : goal.returns-in-Boolean-clause-atoms
returns-in-Boolean-clause-atoms c n = map-replicate (λ x. a.Boolean x) n c.in-Boolean.x ∙ ap (replicate n) c.in-Boolean.ensures.value

pub returns-in-Byte-clause-atoms : goal.returns-in-Byte-clause-atoms
returns-in-Byte-clause-atoms c n = map-replicate (byte_atom c.in-Byte.kind) n c.in-Byte.x ∙ ap (replicate n) c.in-Byte.ensures.value

pub returns-in-Short-clause-atoms : goal.returns-in-Short-clause-atoms
returns-in-Short-clause-atoms c n =
    let fits : FitsSigned w16 c.in-Short.x.now = search rules in
    rw (to_z-of_z w16 c.in-Short.x.now fits) (map-replicate (λ x. a.Short x) n c.in-Short.x.now ∙ ap (replicate n) c.in-Short.ensures.value)

pub returns-in-Integer-clause-atoms : goal.returns-in-Integer-clause-atoms
returns-in-Integer-clause-atoms c n =
    let fits : FitsSigned w32 c.in-Integer.x.now = search rules in
    rw (to_z-of_z w32 c.in-Integer.x.now fits) (map-replicate (integer_atom c.in-Integer.kind) n c.in-Integer.x.now ∙ ap (replicate n) c.in-Integer.ensures.value)

pub returns-in-Long-clause-atoms : goal.returns-in-Long-clause-atoms
returns-in-Long-clause-atoms c n =
    let fits : FitsSigned w64 c.in-Long.x.now = search rules in
    rw (to_z-of_z w64 c.in-Long.x.now fits) (map-replicate (long_atom c.in-Long.kind) n c.in-Long.x.now ∙ ap (replicate n) c.in-Long.ensures.value)
