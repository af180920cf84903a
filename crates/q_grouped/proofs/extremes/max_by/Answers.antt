use Rattle.std.proofs.Common.{refl, true, false, pos, negsuc}
use Rattle.std.specs.Prelude.{nat_lt}
use Rattle.std.specs.Int.{w16, w32, w64}
use Rattle.std.specs.Int.RustNames.{int_lt}
use Rattle.q_values.specs.Column.{byte_kind, byte_atom, integer_kind, integer_atom, long_kind, long_atom}
use Rattle.q_values.specs.declared.atom.Atom.TheVariants as a
use Rattle.q_values.specs.declared.kind.Kind.TheVariants as k
use Rattle.q_verbs.specs.Numbers.{number_in}
use Rattle.q_lanes.proofs.WorthLemmas.{worth-byte, worth-integer, worth-long}
use Rattle.q_grouped.proofs.KeptLemmas.{max_column, bit_number, byte_number, greatest-1, greatest-8, greatest-16, greatest-32, greatest-64, lowest-byte, lowest-integer, lowest-long}
use Rattle.q_grouped.proofs.extremes.max_by.Goals as goal

pub returns-in_ok-most-in-Booleans-clause-atoms : goal.returns-in_ok-most-in-Booleans-clause-atoms
returns-in_ok-most-in-Booleans-clause-atoms c =
    let told = c.in_ok-most-in-Booleans.ensures in
    rw c.in-Booleans.is (max_column k.Boolean bit_number (λ b. a.Boolean b) false (λ b. true) c.args.groups c.args.codes.now c.in-Booleans.items.items c.as_slice.result.now c.in_ok-most-in-Booleans.most.items (λ b. refl) refl (λ b f. greatest-1 b) c.as_slice.ensures.value told.value told.fits)

pub returns-in_ok-most-in-Bytes-clause-atoms : goal.returns-in_ok-most-in-Bytes-clause-atoms
returns-in_ok-most-in-Bytes-clause-atoms c =
    let told = c.in_ok-most-in-Bytes.ensures in
    rw c.in-Bytes.is (max_column (byte_kind c.in-Bytes.kind) byte_number (byte_atom c.in-Bytes.kind) 0 (λ x. nat_lt x 256) c.args.groups c.args.codes.now c.in-Bytes.items.items c.as_slice-in-Bytes.result.now c.in_ok-most-in-Bytes.most.items (worth-byte c.in-Bytes.kind) (lowest-byte c.in-Bytes.kind) (λ x f. greatest-8 x) c.as_slice-in-Bytes.ensures.value told.value told.fits)

pub returns-in_ok-most-in-Shorts-clause-atoms : goal.returns-in_ok-most-in-Shorts-clause-atoms
returns-in_ok-most-in-Shorts-clause-atoms c =
    let told = c.in_ok-most-in-Shorts.ensures in
    rw c.in-Shorts.is (max_column k.Short (number_in w16) (λ x. a.Short x) (negsuc 32766) (λ x. int_lt x (pos 32768)) c.args.groups c.args.codes.now c.in-Shorts.items.items c.as_slice-in-Shorts.result.now c.in_ok-most-in-Shorts.most.items (λ x. refl) refl (λ x f. greatest-16 x) c.as_slice-in-Shorts.ensures.value told.value told.fits)

pub returns-in_ok-most-in-Integers-clause-atoms : goal.returns-in_ok-most-in-Integers-clause-atoms
returns-in_ok-most-in-Integers-clause-atoms c =
    let told = c.in_ok-most-in-Integers.ensures in
    rw c.in-Integers.is (max_column (integer_kind c.in-Integers.kind) (number_in w32) (integer_atom c.in-Integers.kind) (negsuc 2147483646) (λ x. int_lt x (pos 2147483648)) c.args.groups c.args.codes.now c.in-Integers.items.items c.as_slice-in-Integers.result.now c.in_ok-most-in-Integers.most.items (worth-integer c.in-Integers.kind) (lowest-integer c.in-Integers.kind) (λ x f. greatest-32 x) c.as_slice-in-Integers.ensures.value told.value told.fits)

pub returns-in_ok-most-in-Longs-clause-atoms : goal.returns-in_ok-most-in-Longs-clause-atoms
returns-in_ok-most-in-Longs-clause-atoms c =
    let told = c.in_ok-most-in-Longs.ensures in
    rw c.in-Longs.is (max_column (long_kind c.in-Longs.kind) (number_in w64) (long_atom c.in-Longs.kind) (negsuc 9223372036854775806) (λ x. int_lt x (pos 9223372036854775808)) c.args.groups c.args.codes.now c.in-Longs.items.items c.as_slice-in-Longs.result.now c.in_ok-most-in-Longs.most.items (worth-long c.in-Longs.kind) (lowest-long c.in-Longs.kind) (λ x f. greatest-64 x) c.as_slice-in-Longs.ensures.value told.value told.fits)
