use Rattle.std.proofs.Common.{rules, ℕ, ℤ, pos, negsuc, Bool, false, Option, Some, refl, FitsSigned, ap, if◌then◌else◌, ◌∙◌}
use Rattle.std.specs.Int.{w16, w32, w64}
use Rattle.std.specs.Ordering.{is_ge}
use Rattle.std.proofs.lemmas.Int.{to_z-of_z}
use Rattle.q_values.specs.Column.{byte_atom, byte_kind, integer_atom, integer_kind, long_atom, long_kind}
use Rattle.q_values.specs.declared.atom.Atom.{Atom}
use Rattle.q_values.specs.declared.atom.Atom.TheVariants as a
use Rattle.q_values.specs.declared.kind.Kind.TheVariants as k
use Rattle.q_lanes.proofs.WorthLemmas.{worth-byte, worth-integer, worth-long}
use Rattle.q_verbs.specs.Aggregates.{lowest}
use Rattle.q_verbs.specs.Numbers.{number_in}
use Rattle.q_unary.proofs.ExtremeLemmas.{extreme_atom, lowest-byte, lowest-integer, lowest-long}
use Rattle.q_unary.proofs.extremes.greatest_of.Goals as goal

pub returns-in-Booleans : goal.returns-in-Booleans
returns-in-Booleans c =
    let number : Bool → Option ℤ = λ b. Some (pos (if b then 1 else 0)) in
    let atom : Bool → Atom = λ b. a.Boolean b in
    rw c.in-Booleans.is (extreme_atom is_ge number atom false c.as_slice.result.now c.in-Booleans.items.items c.greatest_of_items.result (lowest k.Boolean) (λ b. refl) c.as_slice.ensures.value c.greatest_of_items.ensures refl)

pub returns-in-Bytes : goal.returns-in-Bytes
returns-in-Bytes c =
    let number : ℕ → Option ℤ = λ x. Some (pos x) in
    let atom : ℕ → Atom = byte_atom c.in-Bytes.kind in
    rw c.in-Bytes.is (c.atom.ensures ∙ extreme_atom is_ge number atom 0 c.as_slice-in-Bytes.result.now c.in-Bytes.items.items c.greatest_of_items-in-Bytes.result (lowest (byte_kind c.in-Bytes.kind)) (worth-byte c.in-Bytes.kind) c.as_slice-in-Bytes.ensures.value c.greatest_of_items-in-Bytes.ensures (lowest-byte c.in-Bytes.kind))

pub returns-in-Shorts : goal.returns-in-Shorts
returns-in-Shorts c =
    let number : ℤ → Option ℤ = number_in w16 in
    let atom : ℤ → Atom = λ x. a.Short x in
    let fits : FitsSigned w16 c.greatest_of_items-in-Shorts.result = search rules in
    rw c.in-Shorts.is (ap atom (to_z-of_z w16 c.greatest_of_items-in-Shorts.result fits) ∙ extreme_atom is_ge number atom (negsuc 32766) c.as_slice-in-Shorts.result.now c.in-Shorts.items.items c.greatest_of_items-in-Shorts.result (lowest k.Short) (λ x. refl) c.as_slice-in-Shorts.ensures.value c.greatest_of_items-in-Shorts.ensures refl)

pub returns-in-Integers : goal.returns-in-Integers
returns-in-Integers c =
    let number : ℤ → Option ℤ = number_in w32 in
    let atom : ℤ → Atom = integer_atom c.in-Integers.kind in
    let fits : FitsSigned w32 c.greatest_of_items-in-Integers.result = search rules in
    rw c.in-Integers.is (c.atom-in-Integers.ensures ∙ ap atom (to_z-of_z w32 c.greatest_of_items-in-Integers.result fits) ∙ extreme_atom is_ge number atom (negsuc 2147483646) c.as_slice-in-Integers.result.now c.in-Integers.items.items c.greatest_of_items-in-Integers.result (lowest (integer_kind c.in-Integers.kind)) (worth-integer c.in-Integers.kind) c.as_slice-in-Integers.ensures.value c.greatest_of_items-in-Integers.ensures (lowest-integer c.in-Integers.kind))

pub returns-in-Longs : goal.returns-in-Longs
returns-in-Longs c =
    let number : ℤ → Option ℤ = number_in w64 in
    let atom : ℤ → Atom = long_atom c.in-Longs.kind in
    let fits : FitsSigned w64 c.greatest_of_items-in-Longs.result = search rules in
    rw c.in-Longs.is (c.atom-in-Longs.ensures ∙ ap atom (to_z-of_z w64 c.greatest_of_items-in-Longs.result fits) ∙ extreme_atom is_ge number atom (negsuc 9223372036854775806) c.as_slice-in-Longs.result.now c.in-Longs.items.items c.greatest_of_items-in-Longs.result (lowest (long_kind c.in-Longs.kind)) (worth-long c.in-Longs.kind) c.as_slice-in-Longs.ensures.value c.greatest_of_items-in-Longs.ensures (lowest-long c.in-Longs.kind))
