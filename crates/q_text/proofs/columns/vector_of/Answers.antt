use Rattle.std.proofs.Common.{◌∙◌, ap, map, not, eqb, ◌%◌, unsigned_abs}
use Rattle.q_text.proofs.Atoms.{booleans-held, bytes-held}
use Rattle.q_text.proofs.columns.vector_of.Goals as goal

pub returns-in_ok-found-in-Boolean : goal.returns-in_ok-found-in-Boolean
returns-in_ok-found-in-Boolean c =
    rw (c.in-Boolean.is) (c.from_column.ensures ∙ booleans-held c.args.numbers.items c.in_ok-found-in-Boolean.found.items (c.in_ok-found-in-Boolean.ensures ∙ ap (λ l. map (λ z. not (eqb (unsigned_abs z) 0)) l) c.deref.ensures.value))

pub returns-in_ok-found-in-Byte : goal.returns-in_ok-found-in-Byte
returns-in_ok-found-in-Byte c =
    rw (c.in-Byte.is) (c.from_column-in-Byte.ensures ∙ bytes-held c.args.numbers.items c.in_ok-found-in-Byte.found.items (c.in_ok-found-in-Byte.ensures ∙ ap (λ l. map (λ z. unsigned_abs z % 256) l) c.deref-in-Byte.ensures.value))
