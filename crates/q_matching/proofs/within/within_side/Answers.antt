use Rattle.std.proofs.Common.{ℕ, ℤ, pos, Bool, List, Some, refl, sym, ap, if◌then◌else◌, ◌∙◌}
use Rattle.std.specs.Int.{w16, w32, w64}
use Rattle.q_values.specs.Column.{byte_atom, integer_atom, long_atom}
use Rattle.q_values.specs.declared.atom.Atom.{Atom}
use Rattle.q_values.specs.declared.atom.Atom.TheVariants as a
use Rattle.q_lanes.specs.Lanes.{lane_items, text_items}
use Rattle.q_lanes.proofs.WorthLemmas.{worth-byte, worth-integer, worth-long}
use Rattle.q_verbs.specs.Numbers.{Worth, numeric, number_in, worth}
use Rattle.q_verbs.specs.Sides.{items_of}
use Rattle.q_matching.proofs.WithinLemmas.{atoms_within}
use Rattle.q_matching.proofs.within.within_side.Goals as goal

pub returns-in_ok-within_items-in-Booleans-Boolean-Boolean : goal.returns-in_ok-within_items-in-Booleans-Boolean-Boolean
returns-in_ok-within_items-in-Booleans-Boolean-Boolean c =
    let arm = c.in-Booleans-Boolean-Boolean in
    let own : Bool → Worth = λ b. numeric (Some (pos (if b then 1 else 0))) in
    let atom : Bool → Atom = λ b. a.Boolean b in
    let low = ap worth arm.ensures'.value in
    let high = ap worth arm.ensures''.value in
    c.in_ok-within_items-in-Booleans-Boolean-Boolean.ensures ∙ atoms_within own atom (own arm.from) (own arm.to) (worth c.args.low.now) (worth c.args.high.now) c.alone.result.now (lane_items 1 arm.items) (items_of c.args.left.now) (λ b. refl) low high c.alone.ensures (arm.ensures.atoms 1)

pub returns-in_ok-within_items-in-Bytes-Byte-Byte : goal.returns-in_ok-within_items-in-Bytes-Byte-Byte
returns-in_ok-within_items-in-Bytes-Byte-Byte c =
    let arm = c.in-Bytes-Byte-Byte in
    let own : ℕ → Worth = λ x. numeric (Some (pos x)) in
    let atom : ℕ → Atom = byte_atom arm.field-0-0 in
    let low = sym ((worth-byte arm.field-0-1) arm.from) ∙ ap worth arm.ensures'.value in
    let high = sym ((worth-byte arm.field-0-2) arm.to) ∙ ap worth arm.ensures''.value in
    c.in_ok-within_items-in-Bytes-Byte-Byte.ensures ∙ atoms_within own atom (own arm.from) (own arm.to) (worth c.args.low.now) (worth c.args.high.now) c.alone-in-Bytes-Byte-Byte.result.now (lane_items 1 arm.items) (items_of c.args.left.now) (worth-byte arm.field-0-0) low high c.alone-in-Bytes-Byte-Byte.ensures (arm.ensures.atoms 1)

pub returns-in_ok-within_items-in-Shorts-Short-Short : goal.returns-in_ok-within_items-in-Shorts-Short-Short
returns-in_ok-within_items-in-Shorts-Short-Short c =
    let arm = c.in-Shorts-Short-Short in
    let own : ℤ → Worth = λ x. numeric (number_in w16 x) in
    let atom : ℤ → Atom = λ x. a.Short x in
    let low = ap worth arm.ensures'.value in
    let high = ap worth arm.ensures''.value in
    c.in_ok-within_items-in-Shorts-Short-Short.ensures ∙ atoms_within own atom (own arm.from.now) (own arm.to.now) (worth c.args.low.now) (worth c.args.high.now) c.alone-in-Shorts-Short-Short.result.now (lane_items 1 arm.items) (items_of c.args.left.now) (λ x. refl) low high c.alone-in-Shorts-Short-Short.ensures (arm.ensures.atoms 1)

pub returns-in_ok-within_items-in-Integers-Integer-Integer : goal.returns-in_ok-within_items-in-Integers-Integer-Integer
returns-in_ok-within_items-in-Integers-Integer-Integer c =
    let arm = c.in-Integers-Integer-Integer in
    let own : ℤ → Worth = λ x. numeric (number_in w32 x) in
    let atom : ℤ → Atom = integer_atom arm.field-0-0 in
    let low = sym ((worth-integer arm.field-0-1) arm.from.now) ∙ ap worth arm.ensures'.value in
    let high = sym ((worth-integer arm.field-0-2) arm.to.now) ∙ ap worth arm.ensures''.value in
    c.in_ok-within_items-in-Integers-Integer-Integer.ensures ∙ atoms_within own atom (own arm.from.now) (own arm.to.now) (worth c.args.low.now) (worth c.args.high.now) c.alone-in-Integers-Integer-Integer.result.now (lane_items 1 arm.items) (items_of c.args.left.now) (worth-integer arm.field-0-0) low high c.alone-in-Integers-Integer-Integer.ensures (arm.ensures.atoms 1)

pub returns-in_ok-within_items-in-Longs-Long-Long : goal.returns-in_ok-within_items-in-Longs-Long-Long
returns-in_ok-within_items-in-Longs-Long-Long c =
    let arm = c.in-Longs-Long-Long in
    let own : ℤ → Worth = λ x. numeric (number_in w64 x) in
    let atom : ℤ → Atom = long_atom arm.field-0-0 in
    let low = sym ((worth-long arm.field-0-1) arm.from.now) ∙ ap worth arm.ensures'.value in
    let high = sym ((worth-long arm.field-0-2) arm.to.now) ∙ ap worth arm.ensures''.value in
    c.in_ok-within_items-in-Longs-Long-Long.ensures ∙ atoms_within own atom (own arm.from.now) (own arm.to.now) (worth c.args.low.now) (worth c.args.high.now) c.alone-in-Longs-Long-Long.result.now (lane_items 1 arm.items) (items_of c.args.left.now) (worth-long arm.field-0-0) low high c.alone-in-Longs-Long-Long.ensures (arm.ensures.atoms 1)

pub returns-in_ok-within_names-in-Symbols-Symbol-Symbol : goal.returns-in_ok-within_names-in-Symbols-Symbol-Symbol
returns-in_ok-within_names-in-Symbols-Symbol-Symbol c =
    let arm = c.in-Symbols-Symbol-Symbol in
    let own : List ℕ → Worth = λ s. worth (a.Symbol s) in
    let symbol : List ℕ → Atom = λ s. a.Symbol s in
    c.in_ok-within_names-in-Symbols-Symbol-Symbol.ensures ∙ atoms_within own symbol (own arm.from.now) (own arm.to.now) (worth c.args.low.now) (worth c.args.high.now) (text_items 1 arm.items) (text_items 1 arm.items) (items_of c.args.left.now) (λ s. refl) (ap worth arm.ensures'.value) (ap worth arm.ensures''.value) refl (arm.ensures.atoms 1)
