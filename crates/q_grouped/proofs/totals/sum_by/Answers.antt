use Rattle.std.proofs.Common.{refl, subst}
use Rattle.std.specs.Option.{IsSome}
use Rattle.std.specs.Int.{w16, w32, w64}
use Rattle.q_values.specs.Column.{contents, integer_kind, integer_atom, long_kind, long_atom}
use Rattle.q_values.specs.declared.column.Column.{Column}
use Rattle.q_values.specs.declared.atom.Atom.TheVariants as a
use Rattle.q_values.specs.declared.kind.Kind.TheVariants as k
use Rattle.q_verbs.specs.Kinds.{total_kind}
use Rattle.q_verbs.specs.Numbers.{number_in}
use Rattle.q_lanes.proofs.WorthLemmas.{worth-integer, worth-long}
use Rattle.q_grouped.proofs.KeptLemmas.{bit_number}
use Rattle.q_grouped.proofs.TotalLemmas.{sums_in_32, sums_in_64, total_of_integer, total_of_long}
use Rattle.q_grouped.proofs.totals.sum_by.Goals as goal

pub returns-in_ok-sums_in_32-in-Booleans-clause-atoms : goal.returns-in_ok-sums_in_32-in-Booleans-clause-atoms
returns-in_ok-sums_in_32-in-Booleans-clause-atoms c =
    rw c.in-Booleans.is (sums_in_32 k.Boolean bit_number (λ b. a.Boolean b) c.args.groups c.args.codes.now c.in-Booleans.items.items c.as_slice.result.now c.in_ok-sums_in_32-in-Booleans.field-0.items refl (λ b. refl) c.as_slice.ensures.value c.in_ok-sums_in_32-in-Booleans.ensures)

pub returns-in_ok-sums_in_32-in-Shorts-clause-atoms : goal.returns-in_ok-sums_in_32-in-Shorts-clause-atoms
returns-in_ok-sums_in_32-in-Shorts-clause-atoms c =
    rw c.in-Shorts.is (sums_in_32 k.Short (number_in w16) (λ x. a.Short x) c.args.groups c.args.codes.now c.in-Shorts.items.items c.as_slice-in-Shorts.result.now c.in_ok-sums_in_32-in-Shorts.field-0.items refl (λ x. refl) c.as_slice-in-Shorts.ensures.value c.in_ok-sums_in_32-in-Shorts.ensures)

pub returns-in_ok-sums_in_32-in-Integers-clause-atoms : goal.returns-in_ok-sums_in_32-in-Integers-clause-atoms
returns-in_ok-sums_in_32-in-Integers-clause-atoms c =
    let some : IsSome (total_kind (integer_kind c.in-Integers.field-0)) = subst (λ (column : Column). IsSome (total_kind (contents column).kind)) c.in-Integers.is c.requires.kind in
    rw c.in-Integers.is (sums_in_32 (integer_kind c.in-Integers.field-0) (number_in w32) (integer_atom c.in-Integers.field-0) c.args.groups c.args.codes.now c.in-Integers.items.items c.as_slice-in-Integers.result.now c.in_ok-sums_in_32-in-Integers.field-0.items (total_of_integer c.in-Integers.field-0 some) (worth-integer c.in-Integers.field-0) c.as_slice-in-Integers.ensures.value c.in_ok-sums_in_32-in-Integers.ensures)

pub returns-in_ok-sums-in-Longs-clause-atoms : goal.returns-in_ok-sums-in-Longs-clause-atoms
returns-in_ok-sums-in-Longs-clause-atoms c =
    let some : IsSome (total_kind (long_kind c.in-Longs.kind)) = subst (λ (column : Column). IsSome (total_kind (contents column).kind)) c.in-Longs.is c.requires.kind in
    rw c.in-Longs.is (sums_in_64 c.in-Longs.kind (number_in w64) (long_atom c.in-Longs.kind) c.args.groups c.args.codes.now c.in-Longs.items.items c.as_slice-in-Longs.result.now c.in_ok-sums-in-Longs.field-0.items (total_of_long c.in-Longs.kind some) (worth-long c.in-Longs.kind) c.as_slice-in-Longs.ensures.value c.in_ok-sums-in-Longs.ensures)
