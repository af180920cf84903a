use Rattle.std.proofs.Common.{ℕ, ℤ, pos, Bool, Option, Some, refl, if◌then◌else◌, ◌∙◌}
use Rattle.std.specs.Int.{w16, w32, w64}
use Rattle.q_values.specs.Column.{byte_atom, integer_atom, long_atom}
use Rattle.q_values.specs.declared.atom.Atom.{Atom}
use Rattle.q_values.specs.declared.atom.Atom.TheVariants as a
use Rattle.q_lanes.specs.Lanes.{lane_items, cell_atoms}
use Rattle.q_lanes.proofs.WorthLemmas.{worth-byte, worth-integer, worth-long}
use Rattle.q_verbs.specs.Numbers.{number_in}
use Rattle.q_matching.proofs.AmongLemmas.{atoms_among}
use Rattle.q_matching.proofs.among.among_mixed.Goals as goal

pub returns-in_ok-among_cells-in-Booleans : goal.returns-in_ok-among_cells-in-Booleans
returns-in_ok-among_cells-in-Booleans c =
    let number : Bool → Option ℤ = λ b. Some (pos (if b then 1 else 0)) in
    let atom : Bool → Atom = λ b. a.Boolean b in
    rw c.in-Booleans.is (c.in_ok-among_cells-in-Booleans.ensures ∙ atoms_among number atom c.alone.result.now (lane_items 1 c.in-Booleans.some) (cell_atoms 1 c.args.items.now) (λ b. refl) c.alone.ensures)

pub returns-in_ok-among_cells-in-Bytes : goal.returns-in_ok-among_cells-in-Bytes
returns-in_ok-among_cells-in-Bytes c =
    let number : ℕ → Option ℤ = λ x. Some (pos x) in
    let atom : ℕ → Atom = byte_atom c.in-Bytes.field-0 in
    rw c.in-Bytes.is (c.in_ok-among_cells-in-Bytes.ensures ∙ atoms_among number atom c.alone-in-Bytes.result.now (lane_items 1 c.in-Bytes.some) (cell_atoms 1 c.args.items.now) (worth-byte c.in-Bytes.field-0) c.alone-in-Bytes.ensures)

pub returns-in_ok-among_cells-in-Shorts : goal.returns-in_ok-among_cells-in-Shorts
returns-in_ok-among_cells-in-Shorts c =
    let number : ℤ → Option ℤ = number_in w16 in
    let atom : ℤ → Atom = λ x. a.Short x in
    rw c.in-Shorts.is (c.in_ok-among_cells-in-Shorts.ensures ∙ atoms_among number atom c.alone-in-Shorts.result.now (lane_items 1 c.in-Shorts.some) (cell_atoms 1 c.args.items.now) (λ x. refl) c.alone-in-Shorts.ensures)

pub returns-in_ok-among_cells-in-Integers : goal.returns-in_ok-among_cells-in-Integers
returns-in_ok-among_cells-in-Integers c =
    let number : ℤ → Option ℤ = number_in w32 in
    let atom : ℤ → Atom = integer_atom c.in-Integers.field-0 in
    rw c.in-Integers.is (c.in_ok-among_cells-in-Integers.ensures ∙ atoms_among number atom c.alone-in-Integers.result.now (lane_items 1 c.in-Integers.some) (cell_atoms 1 c.args.items.now) (worth-integer c.in-Integers.field-0) c.alone-in-Integers.ensures)

pub returns-in_ok-among_cells-in-Longs : goal.returns-in_ok-among_cells-in-Longs
returns-in_ok-among_cells-in-Longs c =
    let number : ℤ → Option ℤ = number_in w64 in
    let atom : ℤ → Atom = long_atom c.in-Longs.field-0 in
    rw c.in-Longs.is (c.in_ok-among_cells-in-Longs.ensures ∙ atoms_among number atom c.alone-in-Longs.result.now (lane_items 1 c.in-Longs.some) (cell_atoms 1 c.args.items.now) (worth-long c.in-Longs.field-0) c.alone-in-Longs.ensures)
