use Rattle.std.proofs.Common.{◌≡◌, map, ap, sym, ◌∙◌}
use Rattle.q_values.specs.Contents.{Contents}
use Rattle.q_values.specs.declared.atom.Atom.TheVariants as a
use Rattle.q_filter.specs.Places.{count_of, is_true}
use Rattle.q_filter.proofs.PlaceLemmas.{bits_of, length-places}
use Rattle.q_filter.proofs.filter.count_where.Goals as goal

pub returns : goal.returns
returns c =
    let bits = c.in-Booleans.bits.items in
    let atoms : map (λ b. a.Boolean b) bits ≡ c.args.booleans.now.atoms = ap (λ (v : Contents). v.atoms) (rw c.in-Booleans.is at c.column.ensures) in
    c.count_in.ensures
    ∙ ap count_of (c.deref.ensures.value ∙ sym (bits_of bits) ∙ ap (map is_true) atoms)
    ∙ sym (length-places 0 (map is_true c.args.booleans.now.atoms))
