use Rattle.std.proofs.Common.{ℕ, ℤ, pos, Bool, List, map, Option, Some, refl, sym, ap, if◌then◌else◌, ◌∙◌}
use Rattle.std.specs.Int.{w16, w32, w64}
use Rattle.q_values.specs.Column.{byte_atom, integer_atom, long_atom}
use Rattle.q_values.specs.declared.atom.Atom.{Atom}
use Rattle.q_values.specs.declared.atom.Atom.TheVariants as a
use Rattle.q_lanes.specs.Lanes.{lane_items, text_items}
use Rattle.q_lanes.proofs.WorthLemmas.{worth-byte, worth-integer, worth-long}
use Rattle.q_verbs.specs.Numbers.{Worth, number_in, worth, worth_cmp}
use Rattle.q_verbs.specs.Sides.{items_of}
use Rattle.std.specs.Ordering.{is_eq}
use Rattle.q_lanes.proofs.MapLemmas.{map-mapped}
use Rattle.q_matching.proofs.AmongLemmas.{alike_among, among_through}
use Rattle.q_matching.proofs.among.among_sides.Goals as goal

pub returns-in_ok-among_alike-in-Booleans-Booleans : goal.returns-in_ok-among_alike-in-Booleans-Booleans
returns-in_ok-among_alike-in-Booleans-Booleans c =
    let number : Bool → Option ℤ = λ b. Some (pos (if b then 1 else 0)) in
    let atom : Bool → Atom = λ b. a.Boolean b in
    let other : Bool → Atom = λ b. a.Boolean b in
    c.in_ok-among_alike-in-Booleans-Booleans.ensures ∙ alike_among number atom other c.alone.result.now c.alone-in-Booleans-Booleans.result.now (lane_items 1 c.in-Booleans-Booleans.some) (lane_items 1 c.in-Booleans-Booleans.others) (items_of c.args.left.now) (items_of c.args.items.now) (λ b. refl) (λ b. refl) c.alone.ensures c.alone-in-Booleans-Booleans.ensures (c.in-Booleans-Booleans.ensures.atoms 1) (c.in-Booleans-Booleans.ensures'.atoms 1)

pub returns-in_ok-among_alike-in-Bytes-Bytes : goal.returns-in_ok-among_alike-in-Bytes-Bytes
returns-in_ok-among_alike-in-Bytes-Bytes c =
    let number : ℕ → Option ℤ = λ x. Some (pos x) in
    let atom : ℕ → Atom = byte_atom c.in-Bytes-Bytes.field-0-0 in
    let other : ℕ → Atom = byte_atom c.in-Bytes-Bytes.field-0-1 in
    c.in_ok-among_alike-in-Bytes-Bytes.ensures ∙ alike_among number atom other c.alone-in-Bytes-Bytes.result.now c.alone-in-Bytes-Bytes-2.result.now (lane_items 1 c.in-Bytes-Bytes.some) (lane_items 1 c.in-Bytes-Bytes.others) (items_of c.args.left.now) (items_of c.args.items.now) (worth-byte c.in-Bytes-Bytes.field-0-0) (worth-byte c.in-Bytes-Bytes.field-0-1) c.alone-in-Bytes-Bytes.ensures c.alone-in-Bytes-Bytes-2.ensures (c.in-Bytes-Bytes.ensures.atoms 1) (c.in-Bytes-Bytes.ensures'.atoms 1)

pub returns-in_ok-among_alike-in-Shorts-Shorts : goal.returns-in_ok-among_alike-in-Shorts-Shorts
returns-in_ok-among_alike-in-Shorts-Shorts c =
    let number : ℤ → Option ℤ = number_in w16 in
    let atom : ℤ → Atom = λ x. a.Short x in
    let other : ℤ → Atom = λ x. a.Short x in
    c.in_ok-among_alike-in-Shorts-Shorts.ensures ∙ alike_among number atom other c.alone-in-Shorts-Shorts.result.now c.alone-in-Shorts-Shorts-2.result.now (lane_items 1 c.in-Shorts-Shorts.some) (lane_items 1 c.in-Shorts-Shorts.others) (items_of c.args.left.now) (items_of c.args.items.now) (λ x. refl) (λ x. refl) c.alone-in-Shorts-Shorts.ensures c.alone-in-Shorts-Shorts-2.ensures (c.in-Shorts-Shorts.ensures.atoms 1) (c.in-Shorts-Shorts.ensures'.atoms 1)

pub returns-in_ok-among_alike-in-Integers-Integers : goal.returns-in_ok-among_alike-in-Integers-Integers
returns-in_ok-among_alike-in-Integers-Integers c =
    let number : ℤ → Option ℤ = number_in w32 in
    let atom : ℤ → Atom = integer_atom c.in-Integers-Integers.field-0-0 in
    let other : ℤ → Atom = integer_atom c.in-Integers-Integers.field-0-1 in
    c.in_ok-among_alike-in-Integers-Integers.ensures ∙ alike_among number atom other c.alone-in-Integers-Integers.result.now c.alone-in-Integers-Integers-2.result.now (lane_items 1 c.in-Integers-Integers.some) (lane_items 1 c.in-Integers-Integers.others) (items_of c.args.left.now) (items_of c.args.items.now) (worth-integer c.in-Integers-Integers.field-0-0) (worth-integer c.in-Integers-Integers.field-0-1) c.alone-in-Integers-Integers.ensures c.alone-in-Integers-Integers-2.ensures (c.in-Integers-Integers.ensures.atoms 1) (c.in-Integers-Integers.ensures'.atoms 1)

pub returns-in_ok-among_alike-in-Longs-Longs : goal.returns-in_ok-among_alike-in-Longs-Longs
returns-in_ok-among_alike-in-Longs-Longs c =
    let number : ℤ → Option ℤ = number_in w64 in
    let atom : ℤ → Atom = long_atom c.in-Longs-Longs.field-0-0 in
    let other : ℤ → Atom = long_atom c.in-Longs-Longs.field-0-1 in
    c.in_ok-among_alike-in-Longs-Longs.ensures ∙ alike_among number atom other c.alone-in-Longs-Longs.result.now c.alone-in-Longs-Longs-2.result.now (lane_items 1 c.in-Longs-Longs.some) (lane_items 1 c.in-Longs-Longs.others) (items_of c.args.left.now) (items_of c.args.items.now) (worth-long c.in-Longs-Longs.field-0-0) (worth-long c.in-Longs-Longs.field-0-1) c.alone-in-Longs-Longs.ensures c.alone-in-Longs-Longs-2.ensures (c.in-Longs-Longs.ensures.atoms 1) (c.in-Longs-Longs.ensures'.atoms 1)

pub returns-in_ok-among_names-in-Symbols-Symbols : goal.returns-in_ok-among_names-in-Symbols-Symbols
returns-in_ok-among_names-in-Symbols-Symbols c =
    let arm = c.in-Symbols-Symbols in
    let text : List ℕ → Worth = λ s. worth (a.Symbol s) in
    let symbol : List ℕ → Atom = λ s. a.Symbol s in
    let left = sym (map-mapped worth symbol (text_items 1 arm.some)) ∙ ap (map worth) (arm.ensures.atoms 1) in
    let items = sym (map-mapped worth symbol (text_items 1 arm.others)) ∙ ap (map worth) (arm.ensures'.atoms 1) in
    c.in_ok-among_names-in-Symbols-Symbols.ensures
    ∙ among_through (λ x y. is_eq (worth_cmp x y)) text worth (text_items 1 arm.some) (text_items 1 arm.others) (items_of c.args.left.now) (items_of c.args.items.now) left items
