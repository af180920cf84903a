use Rattle.std.proofs.Common.{ℕ, ℤ, pos, Bool, map, Option, Some, refl, if◌then◌else◌, ◌∙◌}
use Rattle.std.specs.Int.{w16, w32, w64}
use Rattle.q_values.specs.Column.{byte_atom, integer_atom, long_atom}
use Rattle.q_values.specs.declared.atom.Atom.{Atom}
use Rattle.q_values.specs.declared.atom.Atom.TheVariants as a
use Rattle.q_lanes.specs.Lanes.{lane_items}
use Rattle.q_lanes.proofs.WorthLemmas.{worth-byte, worth-integer, worth-long}
use Rattle.q_verbs.specs.Numbers.{Worth, numeric, number_in}
use Rattle.q_lanes.specs.Loops.{worth_in_64}
use Rattle.q_matching.proofs.WithinLemmas.{atoms_within}
use Rattle.q_matching.proofs.within.within_mixed.Goals as goal

pub returns-in_ok-within_numbers-in-Booleans : goal.returns-in_ok-within_numbers-in-Booleans
returns-in_ok-within_numbers-in-Booleans c =
    let number : Bool → Option ℤ = λ b. Some (pos (if b then 1 else 0)) in
    let own : Bool → Worth = λ x. numeric (number x) in
    let atom : Bool → Atom = λ b. a.Boolean b in
    let low = worth_in_64 c.args.low.now in
    let high = worth_in_64 c.args.high.now in
    rw c.in-Booleans.is (c.in_ok-within_numbers-in-Booleans.ensures ∙ atoms_within own atom low high low high c.alone.result.now (lane_items 1 c.in-Booleans.items) (map atom (lane_items 1 c.in-Booleans.items)) (λ b. refl) refl refl c.alone.ensures refl)

pub returns-in_ok-within_numbers-in-Bytes : goal.returns-in_ok-within_numbers-in-Bytes
returns-in_ok-within_numbers-in-Bytes c =
    let number : ℕ → Option ℤ = λ x. Some (pos x) in
    let own : ℕ → Worth = λ x. numeric (number x) in
    let atom : ℕ → Atom = byte_atom c.in-Bytes.field-0 in
    let low = worth_in_64 c.args.low.now in
    let high = worth_in_64 c.args.high.now in
    rw c.in-Bytes.is (c.in_ok-within_numbers-in-Bytes.ensures ∙ atoms_within own atom low high low high c.alone-in-Bytes.result.now (lane_items 1 c.in-Bytes.items) (map atom (lane_items 1 c.in-Bytes.items)) (worth-byte c.in-Bytes.field-0) refl refl c.alone-in-Bytes.ensures refl)

pub returns-in_ok-within_numbers-in-Shorts : goal.returns-in_ok-within_numbers-in-Shorts
returns-in_ok-within_numbers-in-Shorts c =
    let number : ℤ → Option ℤ = number_in w16 in
    let own : ℤ → Worth = λ x. numeric (number x) in
    let atom : ℤ → Atom = λ x. a.Short x in
    let low = worth_in_64 c.args.low.now in
    let high = worth_in_64 c.args.high.now in
    rw c.in-Shorts.is (c.in_ok-within_numbers-in-Shorts.ensures ∙ atoms_within own atom low high low high c.alone-in-Shorts.result.now (lane_items 1 c.in-Shorts.items) (map atom (lane_items 1 c.in-Shorts.items)) (λ x. refl) refl refl c.alone-in-Shorts.ensures refl)

pub returns-in_ok-within_numbers-in-Integers : goal.returns-in_ok-within_numbers-in-Integers
returns-in_ok-within_numbers-in-Integers c =
    let number : ℤ → Option ℤ = number_in w32 in
    let own : ℤ → Worth = λ x. numeric (number x) in
    let atom : ℤ → Atom = integer_atom c.in-Integers.field-0 in
    let low = worth_in_64 c.args.low.now in
    let high = worth_in_64 c.args.high.now in
    rw c.in-Integers.is (c.in_ok-within_numbers-in-Integers.ensures ∙ atoms_within own atom low high low high c.alone-in-Integers.result.now (lane_items 1 c.in-Integers.items) (map atom (lane_items 1 c.in-Integers.items)) (worth-integer c.in-Integers.field-0) refl refl c.alone-in-Integers.ensures refl)

pub returns-in_ok-within_numbers-in-Longs : goal.returns-in_ok-within_numbers-in-Longs
returns-in_ok-within_numbers-in-Longs c =
    let number : ℤ → Option ℤ = number_in w64 in
    let own : ℤ → Worth = λ x. numeric (number x) in
    let atom : ℤ → Atom = long_atom c.in-Longs.field-0 in
    let low = worth_in_64 c.args.low.now in
    let high = worth_in_64 c.args.high.now in
    rw c.in-Longs.is (c.in_ok-within_numbers-in-Longs.ensures ∙ atoms_within own atom low high low high c.alone-in-Longs.result.now (lane_items 1 c.in-Longs.items) (map atom (lane_items 1 c.in-Longs.items)) (worth-long c.in-Longs.field-0) refl refl c.alone-in-Longs.ensures refl)
