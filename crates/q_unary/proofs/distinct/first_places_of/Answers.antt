use Rattle.std.proofs.Common.{refl, ℕ, List}
use Rattle.std.specs.Prelude.{nat_eq}
use Rattle.std.specs.Ordering.{int_eq}
use mathlib.Core.Bool.{beq}
use lib.Dec.{eqb}
use lib.Pointwise.{pointwise}
use Rattle.q_values.specs.Column.{byte_atom, integer_atom, long_atom}
use Rattle.q_values.specs.declared.atom.Atom.TheVariants as a
use Rattle.q_verbs.specs.Lists.{same_atom}
use Rattle.q_unary.proofs.DistinctLemmas.{read_distinct, same-boolean, same-byte, same-short, same-integer, same-long, same-text}
use Rattle.q_unary.proofs.distinct.first_places_of.Goals as goal

pub returns-in_ok-first_places-in-Booleans-clause-items : goal.returns-in_ok-first_places-in-Booleans-clause-items
returns-in_ok-first_places-in-Booleans-clause-items c =
    rw c.in-Booleans.is (read_distinct same_atom beq (λ b. a.Boolean b) c.in-Booleans.items.items c.deref.result.now c.in_ok-first_places-in-Booleans.field-0.items (same-boolean) c.deref.ensures.value c.in_ok-first_places-in-Booleans.ensures.items)

pub returns-in_ok-first_places-in-Bytes-clause-items : goal.returns-in_ok-first_places-in-Bytes-clause-items
returns-in_ok-first_places-in-Bytes-clause-items c =
    rw c.in-Bytes.is (read_distinct same_atom eqb (byte_atom c.in-Bytes.field-0) c.in-Bytes.items.items c.deref-in-Bytes.result.now c.in_ok-first_places-in-Bytes.field-0.items (same-byte c.in-Bytes.field-0) c.deref-in-Bytes.ensures.value c.in_ok-first_places-in-Bytes.ensures.items)

pub returns-in_ok-first_places-in-Shorts-clause-items : goal.returns-in_ok-first_places-in-Shorts-clause-items
returns-in_ok-first_places-in-Shorts-clause-items c =
    rw c.in-Shorts.is (read_distinct same_atom int_eq (λ x. a.Short x) c.in-Shorts.items.items c.deref-in-Shorts.result.now c.in_ok-first_places-in-Shorts.field-0.items (same-short) c.deref-in-Shorts.ensures.value c.in_ok-first_places-in-Shorts.ensures.items)

pub returns-in_ok-first_places-in-Integers-clause-items : goal.returns-in_ok-first_places-in-Integers-clause-items
returns-in_ok-first_places-in-Integers-clause-items c =
    rw c.in-Integers.is (read_distinct same_atom int_eq (integer_atom c.in-Integers.field-0) c.in-Integers.items.items c.deref-in-Integers.result.now c.in_ok-first_places-in-Integers.field-0.items (same-integer c.in-Integers.field-0) c.deref-in-Integers.ensures.value c.in_ok-first_places-in-Integers.ensures.items)

pub returns-in_ok-first_places-in-Longs-clause-items : goal.returns-in_ok-first_places-in-Longs-clause-items
returns-in_ok-first_places-in-Longs-clause-items c =
    rw c.in-Longs.is (read_distinct same_atom int_eq (long_atom c.in-Longs.field-0) c.in-Longs.items.items c.deref-in-Longs.result.now c.in_ok-first_places-in-Longs.field-0.items (same-long c.in-Longs.field-0) c.deref-in-Longs.ensures.value c.in_ok-first_places-in-Longs.ensures.items)

pub returns-in_ok-first_places_of_symbols-in-Symbols-clause-items : goal.returns-in_ok-first_places_of_symbols-in-Symbols-clause-items
returns-in_ok-first_places_of_symbols-in-Symbols-clause-items c =
    rw c.in-Symbols.is (read_distinct same_atom (pointwise nat_eq) (λ (s : List ℕ). a.Symbol s) c.in-Symbols.symbols c.in-Symbols.symbols c.in_ok-first_places_of_symbols-in-Symbols.field-0.items (same-text) refl c.in_ok-first_places_of_symbols-in-Symbols.ensures.items)
