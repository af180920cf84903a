use Rattle.std.proofs.Common.{rules, ℕ, ℤ, pos, Bool, true, Option, Some, refl, FitsSigned, ap, if◌then◌else◌, ◌∙◌}
use Rattle.std.specs.Int.{w16, w32, w64}
use Rattle.std.specs.Ordering.{is_le}
use Rattle.std.proofs.lemmas.Int.{to_z-of_z}
use Rattle.q_values.specs.Column.{byte_atom, byte_kind, integer_atom, integer_kind, long_atom, long_kind}
use Rattle.q_values.specs.declared.atom.Atom.{Atom}
use Rattle.q_values.specs.declared.atom.Atom.TheVariants as a
use Rattle.q_values.specs.declared.kind.Kind.TheVariants as k
use Rattle.q_lanes.proofs.WorthLemmas.{worth-byte, worth-integer, worth-long}
use Rattle.q_verbs.specs.Aggregates.{greatest}
use Rattle.q_verbs.specs.Numbers.{number_in}
use Rattle.q_unary.proofs.ExtremeLemmas.{extreme_atom, greatest-byte, greatest-integer, greatest-long}
use Rattle.q_unary.proofs.extremes.least_of.Goals as goal

pub returns-in-Booleans : goal.returns-in-Booleans
returns-in-Booleans c =
    let number : Bool → Option ℤ = λ b. Some (pos (if b then 1 else 0)) in
    let atom : Bool → Atom = λ b. a.Boolean b in
    rw c.in-Booleans.is (extreme_atom is_le number atom true c.as_slice.result.now c.in-Booleans.items.items c.least_of_items.result (greatest k.Boolean) (λ b. refl) c.as_slice.ensures.value c.least_of_items.ensures refl)

pub returns-in-Bytes : goal.returns-in-Bytes
returns-in-Bytes c =
    let number : ℕ → Option ℤ = λ x. Some (pos x) in
    let atom : ℕ → Atom = byte_atom c.in-Bytes.kind in
    rw c.in-Bytes.is (c.atom.ensures ∙ extreme_atom is_le number atom 255 c.as_slice-in-Bytes.result.now c.in-Bytes.items.items c.least_of_items-in-Bytes.result (greatest (byte_kind c.in-Bytes.kind)) (worth-byte c.in-Bytes.kind) c.as_slice-in-Bytes.ensures.value c.least_of_items-in-Bytes.ensures (greatest-byte c.in-Bytes.kind))

pub returns-in-Shorts : goal.returns-in-Shorts
returns-in-Shorts c =
    let number : ℤ → Option ℤ = number_in w16 in
    let atom : ℤ → Atom = λ x. a.Short x in
    let fits : FitsSigned w16 c.least_of_items-in-Shorts.result = search rules in
    rw c.in-Shorts.is (ap atom (to_z-of_z w16 c.least_of_items-in-Shorts.result fits) ∙ extreme_atom is_le number atom (pos 32767) c.as_slice-in-Shorts.result.now c.in-Shorts.items.items c.least_of_items-in-Shorts.result (greatest k.Short) (λ x. refl) c.as_slice-in-Shorts.ensures.value c.least_of_items-in-Shorts.ensures refl)

pub returns-in-Integers : goal.returns-in-Integers
returns-in-Integers c =
    let number : ℤ → Option ℤ = number_in w32 in
    let atom : ℤ → Atom = integer_atom c.in-Integers.kind in
    let fits : FitsSigned w32 c.least_of_items-in-Integers.result = search rules in
    rw c.in-Integers.is (c.atom-in-Integers.ensures ∙ ap atom (to_z-of_z w32 c.least_of_items-in-Integers.result fits) ∙ extreme_atom is_le number atom (pos 2147483647) c.as_slice-in-Integers.result.now c.in-Integers.items.items c.least_of_items-in-Integers.result (greatest (integer_kind c.in-Integers.kind)) (worth-integer c.in-Integers.kind) c.as_slice-in-Integers.ensures.value c.least_of_items-in-Integers.ensures (greatest-integer c.in-Integers.kind))

pub returns-in-Longs : goal.returns-in-Longs
returns-in-Longs c =
    let number : ℤ → Option ℤ = number_in w64 in
    let atom : ℤ → Atom = long_atom c.in-Longs.kind in
    let fits : FitsSigned w64 c.least_of_items-in-Longs.result = search rules in
    rw c.in-Longs.is (c.atom-in-Longs.ensures ∙ ap atom (to_z-of_z w64 c.least_of_items-in-Longs.result fits) ∙ extreme_atom is_le number atom (pos 9223372036854775807) c.as_slice-in-Longs.result.now c.in-Longs.items.items c.least_of_items-in-Longs.result (greatest (long_kind c.in-Longs.kind)) (worth-long c.in-Longs.kind) c.as_slice-in-Longs.ensures.value c.least_of_items-in-Longs.ensures (greatest-long c.in-Longs.kind))
