use Rattle.std.proofs.Common.{ℕ, ℤ, pos, Bool, Option, Some, refl, if◌then◌else◌, ◌∙◌}
use Rattle.std.specs.Int.{w16, w32, w64}
use Rattle.q_values.specs.Column.{byte_atom, integer_atom, long_atom}
use Rattle.q_values.specs.declared.atom.Atom.{Atom}
use Rattle.q_values.specs.declared.atom.Atom.TheVariants as a
use Rattle.q_verbs.specs.Lists.{is_zero}
use Rattle.q_verbs.specs.Numbers.{number_in}
use Rattle.q_unary.proofs.OneSideLemmas.{tests_read}
use Rattle.q_lanes.proofs.WorthLemmas.{worth-byte, worth-integer, worth-long}
use Rattle.q_unary.proofs.one_side.zeros_of.Goals as goal

pub returns-in_ok-zeros_among-in-Booleans : goal.returns-in_ok-zeros_among-in-Booleans
returns-in_ok-zeros_among-in-Booleans c =
    let number : Bool → Option ℤ = λ b. Some (pos (if b then 1 else 0)) in
    let atom : Bool → Atom = λ b. a.Boolean b in
    rw c.in-Booleans.is (c.in_ok-zeros_among-in-Booleans.ensures ∙ tests_read is_zero number atom c.as_slice.result.now c.in-Booleans.items.items (λ b. refl) c.as_slice.ensures.value)

pub returns-in_ok-zeros_among-in-Bytes : goal.returns-in_ok-zeros_among-in-Bytes
returns-in_ok-zeros_among-in-Bytes c =
    let number : ℕ → Option ℤ = λ x. Some (pos x) in
    let atom : ℕ → Atom = byte_atom c.in-Bytes.field-0 in
    rw c.in-Bytes.is (c.in_ok-zeros_among-in-Bytes.ensures ∙ tests_read is_zero number atom c.as_slice-in-Bytes.result.now c.in-Bytes.items.items (worth-byte c.in-Bytes.field-0) c.as_slice-in-Bytes.ensures.value)

pub returns-in_ok-zeros_among-in-Shorts : goal.returns-in_ok-zeros_among-in-Shorts
returns-in_ok-zeros_among-in-Shorts c =
    let number : ℤ → Option ℤ = number_in w16 in
    let atom : ℤ → Atom = λ x. a.Short x in
    rw c.in-Shorts.is (c.in_ok-zeros_among-in-Shorts.ensures ∙ tests_read is_zero number atom c.as_slice-in-Shorts.result.now c.in-Shorts.items.items (λ x. refl) c.as_slice-in-Shorts.ensures.value)

pub returns-in_ok-zeros_among-in-Integers : goal.returns-in_ok-zeros_among-in-Integers
returns-in_ok-zeros_among-in-Integers c =
    let number : ℤ → Option ℤ = number_in w32 in
    let atom : ℤ → Atom = integer_atom c.in-Integers.field-0 in
    rw c.in-Integers.is (c.in_ok-zeros_among-in-Integers.ensures ∙ tests_read is_zero number atom c.as_slice-in-Integers.result.now c.in-Integers.items.items (worth-integer c.in-Integers.field-0) c.as_slice-in-Integers.ensures.value)

pub returns-in_ok-zeros_among-in-Longs : goal.returns-in_ok-zeros_among-in-Longs
returns-in_ok-zeros_among-in-Longs c =
    let number : ℤ → Option ℤ = number_in w64 in
    let atom : ℤ → Atom = long_atom c.in-Longs.field-0 in
    rw c.in-Longs.is (c.in_ok-zeros_among-in-Longs.ensures ∙ tests_read is_zero number atom c.as_slice-in-Longs.result.now c.in-Longs.items.items (worth-long c.in-Longs.field-0) c.as_slice-in-Longs.ensures.value)
