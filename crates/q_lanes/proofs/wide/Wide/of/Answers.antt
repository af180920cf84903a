use Rattle.std.proofs.Common.{ℕ, ℤ, pos, Bool, map, Option, Some, refl, ap, ◌∙◌, if◌then◌else◌}
use Rattle.std.specs.Int.{w16, w32, w64}
use Rattle.q_values.specs.Column.{byte_atom, integer_atom, long_atom}
use Rattle.q_values.specs.declared.atom.Atom.TheVariants as a
use Rattle.q_verbs.specs.Numbers.{number_in}
use Rattle.q_lanes.proofs.WorthLemmas.{worths, worth-byte, worth-integer, worth-long}
use Rattle.q_lanes.proofs.wide.Wide.of.Goals as goal

pub returns-in_ok-widened_all-in-Booleans : goal.returns-in_ok-widened_all-in-Booleans
returns-in_ok-widened_all-in-Booleans c =
    let number : Bool → Option ℤ = λ b. Some (pos (if b then 1 else 0)) in
    rw c.in-Booleans.is (worths number (λ b. a.Boolean b) c.in_ok-widened_all-in-Booleans.field-0.items c.in-Booleans.items.items (λ x. refl) (c.in_ok-widened_all-in-Booleans.ensures ∙ ap (map number) c.deref.ensures.value))

pub returns-in_ok-widened_all-in-Bytes : goal.returns-in_ok-widened_all-in-Bytes
returns-in_ok-widened_all-in-Bytes c =
    let number : ℕ → Option ℤ = λ x. Some (pos x) in
    rw c.in-Bytes.is (worths number (byte_atom c.in-Bytes.field-0) c.in_ok-widened_all-in-Bytes.field-0.items c.in-Bytes.items.items (worth-byte c.in-Bytes.field-0) (c.in_ok-widened_all-in-Bytes.ensures ∙ ap (map number) c.deref-in-Bytes.ensures.value))

pub returns-in_ok-widened_all-in-Shorts : goal.returns-in_ok-widened_all-in-Shorts
returns-in_ok-widened_all-in-Shorts c =
    rw c.in-Shorts.is (worths (number_in w16) (λ x. a.Short x) c.in_ok-widened_all-in-Shorts.field-0.items c.in-Shorts.items.items (λ x. refl) (c.in_ok-widened_all-in-Shorts.ensures ∙ ap (map (number_in w16)) c.deref-in-Shorts.ensures.value))

pub returns-in_ok-widened_all-in-Integers : goal.returns-in_ok-widened_all-in-Integers
returns-in_ok-widened_all-in-Integers c =
    rw c.in-Integers.is (worths (number_in w32) (integer_atom c.in-Integers.field-0) c.in_ok-widened_all-in-Integers.field-0.items c.in-Integers.items.items (worth-integer c.in-Integers.field-0) (c.in_ok-widened_all-in-Integers.ensures ∙ ap (map (number_in w32)) c.deref-in-Integers.ensures.value))

pub returns-in-Longs : goal.returns-in-Longs
returns-in-Longs c =
    rw c.in-Longs.is (worths (number_in w64) (long_atom c.in-Longs.field-0) c.deref-in-Longs.result.now c.in-Longs.items.items (worth-long c.in-Longs.field-0) (ap (map (number_in w64)) c.deref-in-Longs.ensures.value))
