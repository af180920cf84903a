use Rattle.std.proofs.Common.{ℕ, ℤ, pos, Bool, Option, Some, refl, if◌then◌else◌, ◌∙◌}
use Rattle.std.specs.Int.{w16, w32, w64}
use Rattle.q_values.specs.Column.{byte_atom, integer_atom, long_atom}
use Rattle.q_values.specs.declared.atom.Atom.{Atom}
use Rattle.q_values.specs.declared.atom.Atom.TheVariants as a
use Rattle.q_lanes.specs.Lanes.{lane_items}
use Rattle.q_lanes.proofs.WorthLemmas.{worth-byte, worth-integer, worth-long}
use Rattle.q_verbs.specs.Numbers.{number_in}
use Rattle.q_matching.proofs.AmongLemmas.{among_atoms}
use Rattle.q_matching.proofs.among.among_cells.Goals as goal

pub returns-in_ok-among_numbers-in-Booleans : goal.returns-in_ok-among_numbers-in-Booleans
returns-in_ok-among_numbers-in-Booleans g c =
    let other : Bool → Option ℤ = λ b. Some (pos (if b then 1 else 0)) in
    let atom : Bool → Atom = λ b. a.Boolean b in
    rw c.in-Booleans.is (c.in_ok-among_numbers-in-Booleans.ensures ∙ among_atoms g.T.Number.number other atom c.args.left.now c.alone.result.now (lane_items 1 c.in-Booleans.others) (λ b. refl) c.alone.ensures)

pub returns-in_ok-among_numbers-in-Bytes : goal.returns-in_ok-among_numbers-in-Bytes
returns-in_ok-among_numbers-in-Bytes g c =
    let other : ℕ → Option ℤ = λ x. Some (pos x) in
    let atom : ℕ → Atom = byte_atom c.in-Bytes.field-0 in
    rw c.in-Bytes.is (c.in_ok-among_numbers-in-Bytes.ensures ∙ among_atoms g.T.Number.number other atom c.args.left.now c.alone-in-Bytes.result.now (lane_items 1 c.in-Bytes.others) (worth-byte c.in-Bytes.field-0) c.alone-in-Bytes.ensures)

pub returns-in_ok-among_numbers-in-Shorts : goal.returns-in_ok-among_numbers-in-Shorts
returns-in_ok-among_numbers-in-Shorts g c =
    let other : ℤ → Option ℤ = number_in w16 in
    let atom : ℤ → Atom = λ x. a.Short x in
    rw c.in-Shorts.is (c.in_ok-among_numbers-in-Shorts.ensures ∙ among_atoms g.T.Number.number other atom c.args.left.now c.alone-in-Shorts.result.now (lane_items 1 c.in-Shorts.others) (λ x. refl) c.alone-in-Shorts.ensures)

pub returns-in_ok-among_numbers-in-Integers : goal.returns-in_ok-among_numbers-in-Integers
returns-in_ok-among_numbers-in-Integers g c =
    let other : ℤ → Option ℤ = number_in w32 in
    let atom : ℤ → Atom = integer_atom c.in-Integers.field-0 in
    rw c.in-Integers.is (c.in_ok-among_numbers-in-Integers.ensures ∙ among_atoms g.T.Number.number other atom c.args.left.now c.alone-in-Integers.result.now (lane_items 1 c.in-Integers.others) (worth-integer c.in-Integers.field-0) c.alone-in-Integers.ensures)

pub returns-in_ok-among_numbers-in-Longs : goal.returns-in_ok-among_numbers-in-Longs
returns-in_ok-among_numbers-in-Longs g c =
    let other : ℤ → Option ℤ = number_in w64 in
    let atom : ℤ → Atom = long_atom c.in-Longs.field-0 in
    rw c.in-Longs.is (c.in_ok-among_numbers-in-Longs.ensures ∙ among_atoms g.T.Number.number other atom c.args.left.now c.alone-in-Longs.result.now (lane_items 1 c.in-Longs.others) (worth-long c.in-Longs.field-0) c.alone-in-Longs.ensures)
