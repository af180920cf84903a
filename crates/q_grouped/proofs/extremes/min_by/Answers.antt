use Rattle.std.proofs.Common.{refl, true, pos}
use Rattle.std.specs.Prelude.{nat_lt}
use Rattle.std.specs.Int.{w16, w32, w64}
use Rattle.std.specs.Int.RustNames.{int_lt}
use Rattle.q_values.specs.Column.{byte_kind, byte_atom, integer_kind, integer_atom, long_kind, long_atom}
use Rattle.q_values.specs.declared.atom.Atom.TheVariants as a
use Rattle.q_values.specs.declared.kind.Kind.TheVariants as k
use Rattle.q_verbs.specs.Numbers.{number_in}
use Rattle.q_lanes.proofs.WorthLemmas.{worth-byte, worth-integer, worth-long}
use Rattle.q_grouped.proofs.KeptLemmas.{min_column, bit_number, byte_number, least-bit, least-8, least-16, least-32, least-64, greatest-byte, greatest-integer, greatest-long}
use Rattle.q_grouped.proofs.extremes.min_by.Goals as goal

pub returns-in_ok-least-in-Booleans-clause-atoms : goal.returns-in_ok-least-in-Booleans-clause-atoms
returns-in_ok-least-in-Booleans-clause-atoms c =
    let told = c.in_ok-least-in-Booleans.ensures in
    rw c.in-Booleans.is (min_column k.Boolean bit_number (λ b. a.Boolean b) true (λ b. true) c.args.groups c.args.codes.now c.in-Booleans.items.items c.as_slice.result.now c.in_ok-least-in-Booleans.least.items (λ b. refl) refl (λ b f. least-bit b) c.as_slice.ensures.value told.value told.fits)

pub returns-in_ok-least-in-Bytes-clause-atoms : goal.returns-in_ok-least-in-Bytes-clause-atoms
returns-in_ok-least-in-Bytes-clause-atoms c =
    let told = c.in_ok-least-in-Bytes.ensures in
    rw c.in-Bytes.is (min_column (byte_kind c.in-Bytes.kind) byte_number (byte_atom c.in-Bytes.kind) 255 (λ x. nat_lt x 256) c.args.groups c.args.codes.now c.in-Bytes.items.items c.as_slice-in-Bytes.result.now c.in_ok-least-in-Bytes.least.items (worth-byte c.in-Bytes.kind) (greatest-byte c.in-Bytes.kind) least-8 c.as_slice-in-Bytes.ensures.value told.value told.fits)

pub returns-in_ok-least-in-Shorts-clause-atoms : goal.returns-in_ok-least-in-Shorts-clause-atoms
returns-in_ok-least-in-Shorts-clause-atoms c =
    let told = c.in_ok-least-in-Shorts.ensures in
    rw c.in-Shorts.is (min_column k.Short (number_in w16) (λ x. a.Short x) (pos 32767) (λ x. int_lt x (pos 32768)) c.args.groups c.args.codes.now c.in-Shorts.items.items c.as_slice-in-Shorts.result.now c.in_ok-least-in-Shorts.least.items (λ x. refl) refl least-16 c.as_slice-in-Shorts.ensures.value told.value told.fits)

pub returns-in_ok-least-in-Integers-clause-atoms : goal.returns-in_ok-least-in-Integers-clause-atoms
returns-in_ok-least-in-Integers-clause-atoms c =
    let told = c.in_ok-least-in-Integers.ensures in
    rw c.in-Integers.is (min_column (integer_kind c.in-Integers.kind) (number_in w32) (integer_atom c.in-Integers.kind) (pos 2147483647) (λ x. int_lt x (pos 2147483648)) c.args.groups c.args.codes.now c.in-Integers.items.items c.as_slice-in-Integers.result.now c.in_ok-least-in-Integers.least.items (worth-integer c.in-Integers.kind) (greatest-integer c.in-Integers.kind) least-32 c.as_slice-in-Integers.ensures.value told.value told.fits)

pub returns-in_ok-least-in-Longs-clause-atoms : goal.returns-in_ok-least-in-Longs-clause-atoms
returns-in_ok-least-in-Longs-clause-atoms c =
    let told = c.in_ok-least-in-Longs.ensures in
    rw c.in-Longs.is (min_column (long_kind c.in-Longs.kind) (number_in w64) (long_atom c.in-Longs.kind) (pos 9223372036854775807) (λ x. int_lt x (pos 9223372036854775808)) c.args.groups c.args.codes.now c.in-Longs.items.items c.as_slice-in-Longs.result.now c.in_ok-least-in-Longs.least.items (worth-long c.in-Longs.kind) (greatest-long c.in-Longs.kind) least-64 c.as_slice-in-Longs.ensures.value told.value told.fits)
