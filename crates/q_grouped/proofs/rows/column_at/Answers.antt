use Rattle.std.proofs.Common.{refl, false, negsuc, [], ap, ◌∙◌, map}
use Rattle.q_values.specs.Column.{byte_kind, byte_atom, integer_kind, integer_atom, long_kind, long_atom}
use Rattle.q_values.specs.declared.atom.Atom.TheVariants as a
use Rattle.q_values.specs.declared.kind.Kind.TheVariants as k
use Rattle.q_verbs.specs.Aggregates.{null_of}
use Rattle.q_grouped.specs.Steps.{item_or}
use Rattle.q_grouped.proofs.RowLemmas.{items_at-map, null_integer, null_long}
use Rattle.q_grouped.proofs.rows.column_at.Goals as goal

pub returns-in_ok-items_at-in-Booleans-clause-atoms : goal.returns-in_ok-items_at-in-Booleans-clause-atoms
returns-in_ok-items_at-in-Booleans-clause-atoms c =
    rw c.in-Booleans.is (ap (map (λ b. a.Boolean b)) (c.in_ok-items_at-in-Booleans.ensures ∙ ap (λ l. map (item_or false l) c.args.rows.now) c.as_slice.ensures.value) ∙ items_at-map (λ b. a.Boolean b) false (null_of k.Boolean) c.in-Booleans.items.items c.args.rows.now refl)

pub returns-in_ok-items_at-in-Bytes-clause-atoms : goal.returns-in_ok-items_at-in-Bytes-clause-atoms
returns-in_ok-items_at-in-Bytes-clause-atoms c =
    rw c.in-Bytes.is (ap (map (byte_atom c.in-Bytes.kind)) (c.in_ok-items_at-in-Bytes.ensures ∙ ap (λ l. map (item_or c.null_byte.result l) c.args.rows.now) c.as_slice-in-Bytes.ensures.value) ∙ items_at-map (byte_atom c.in-Bytes.kind) c.null_byte.result (null_of (byte_kind c.in-Bytes.kind)) c.in-Bytes.items.items c.args.rows.now c.null_byte.ensures)

pub returns-in_ok-items_at-in-Shorts-clause-atoms : goal.returns-in_ok-items_at-in-Shorts-clause-atoms
returns-in_ok-items_at-in-Shorts-clause-atoms c =
    rw c.in-Shorts.is (ap (map (λ x. a.Short x)) (c.in_ok-items_at-in-Shorts.ensures ∙ ap (λ l. map (item_or (negsuc 32767) l) c.args.rows.now) c.as_slice-in-Shorts.ensures.value) ∙ items_at-map (λ x. a.Short x) (negsuc 32767) (null_of k.Short) c.in-Shorts.items.items c.args.rows.now refl)

pub returns-in_ok-items_at-in-Integers-clause-atoms : goal.returns-in_ok-items_at-in-Integers-clause-atoms
returns-in_ok-items_at-in-Integers-clause-atoms c =
    rw c.in-Integers.is (ap (map (integer_atom c.in-Integers.kind)) (c.in_ok-items_at-in-Integers.ensures ∙ ap (λ l. map (item_or (negsuc 2147483647) l) c.args.rows.now) c.as_slice-in-Integers.ensures.value) ∙ items_at-map (integer_atom c.in-Integers.kind) (negsuc 2147483647) (null_of (integer_kind c.in-Integers.kind)) c.in-Integers.items.items c.args.rows.now (null_integer c.in-Integers.kind))

pub returns-in_ok-items_at-in-Longs-clause-atoms : goal.returns-in_ok-items_at-in-Longs-clause-atoms
returns-in_ok-items_at-in-Longs-clause-atoms c =
    rw c.in-Longs.is (ap (map (long_atom c.in-Longs.kind)) (c.in_ok-items_at-in-Longs.ensures ∙ ap (λ l. map (item_or (negsuc 9223372036854775807) l) c.args.rows.now) c.as_slice-in-Longs.ensures.value) ∙ items_at-map (long_atom c.in-Longs.kind) (negsuc 9223372036854775807) (null_of (long_kind c.in-Longs.kind)) c.in-Longs.items.items c.args.rows.now (null_long c.in-Longs.kind))

pub returns-in_ok-symbols_at-in-Symbols-clause-atoms : goal.returns-in_ok-symbols_at-in-Symbols-clause-atoms
returns-in_ok-symbols_at-in-Symbols-clause-atoms c =
    rw c.in-Symbols.is (ap (map (λ s. a.Symbol s)) c.in_ok-symbols_at-in-Symbols.ensures ∙ items_at-map (λ s. a.Symbol s) [] (null_of k.Symbol) c.in-Symbols.symbols c.args.rows.now refl)
