use Rattle.std.proofs.Common.{rules, ℕ, ℤ, pos, Bool, Option, Some, refl, FitsSigned, if◌then◌else◌}
use Rattle.std.specs.Int.{w16, w32, w64}
use Rattle.q_values.specs.Column.{byte_atom, integer_atom, long_atom}
use Rattle.q_values.specs.declared.atom.Atom.{Atom}
use Rattle.q_values.specs.declared.atom.Atom.TheVariants as a
use Rattle.q_verbs.specs.Numbers.{number_in}
use Rattle.q_unary.proofs.TotalLemmas.{total_through}
use Rattle.q_lanes.proofs.WorthLemmas.{worth-byte, worth-integer, worth-long}
use Rattle.q_unary.proofs.totals.total_of.Goals as goal

pub returns-in-Booleans : goal.returns-in-Booleans
returns-in-Booleans c =
    let number : Bool → Option ℤ = λ b. Some (pos (if b then 1 else 0)) in
    let atom : Bool → Atom = λ b. a.Boolean b in
    let fits : FitsSigned w64 c.total_of_items.result = search rules in
    rw c.in-Booleans.is (total_through number atom c.in-Booleans.items.items c.as_slice.result.now c.total_of_items.result (λ b. refl) fits c.as_slice.ensures.value c.total_of_items.ensures)

pub returns-in-Bytes : goal.returns-in-Bytes
returns-in-Bytes c =
    let number : ℕ → Option ℤ = λ x. Some (pos x) in
    let atom : ℕ → Atom = byte_atom c.in-Bytes.field-0 in
    let fits : FitsSigned w64 c.total_of_items-in-Bytes.result = search rules in
    rw c.in-Bytes.is (total_through number atom c.in-Bytes.items.items c.as_slice-in-Bytes.result.now c.total_of_items-in-Bytes.result (worth-byte c.in-Bytes.field-0) fits c.as_slice-in-Bytes.ensures.value c.total_of_items-in-Bytes.ensures)

pub returns-in-Shorts : goal.returns-in-Shorts
returns-in-Shorts c =
    let number : ℤ → Option ℤ = number_in w16 in
    let atom : ℤ → Atom = λ x. a.Short x in
    let fits : FitsSigned w64 c.total_of_items-in-Shorts.result = search rules in
    rw c.in-Shorts.is (total_through number atom c.in-Shorts.items.items c.as_slice-in-Shorts.result.now c.total_of_items-in-Shorts.result (λ x. refl) fits c.as_slice-in-Shorts.ensures.value c.total_of_items-in-Shorts.ensures)

pub returns-in-Integers : goal.returns-in-Integers
returns-in-Integers c =
    let number : ℤ → Option ℤ = number_in w32 in
    let atom : ℤ → Atom = integer_atom c.in-Integers.field-0 in
    let fits : FitsSigned w64 c.total_of_items-in-Integers.result = search rules in
    rw c.in-Integers.is (total_through number atom c.in-Integers.items.items c.as_slice-in-Integers.result.now c.total_of_items-in-Integers.result (worth-integer c.in-Integers.field-0) fits c.as_slice-in-Integers.ensures.value c.total_of_items-in-Integers.ensures)

pub returns-in-Longs : goal.returns-in-Longs
returns-in-Longs c =
    let number : ℤ → Option ℤ = number_in w64 in
    let atom : ℤ → Atom = long_atom c.in-Longs.field-0 in
    let fits : FitsSigned w64 c.total_of_items-in-Longs.result = search rules in
    rw c.in-Longs.is (total_through number atom c.in-Longs.items.items c.as_slice-in-Longs.result.now c.total_of_items-in-Longs.result (worth-long c.in-Longs.field-0) fits c.as_slice-in-Longs.ensures.value c.total_of_items-in-Longs.ensures)
