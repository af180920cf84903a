use Rattle.std.proofs.Common.{ap, ◌∙◌, map, pos, cond, refl}
use Rattle.q_values.specs.Column.{byte_atom, integer_atom, long_atom}
use Rattle.q_values.specs.declared.atom.Atom.TheVariants as a
use Rattle.asof_join.proofs.KeyLemmas.{numbers-map, numbers-same, byte_number, integer_number, long_number}
use Rattle.asof_join.proofs.lasts.numbers_of.Goals as goal

pub returns-in_ok-of_booleans-in-Booleans : goal.returns-in_ok-of_booleans-in-Booleans
returns-in_ok-of_booleans-in-Booleans c =
    rw c.in-Booleans.is (c.in_ok-of_booleans-in-Booleans.ensures ∙ ap (map (λ x. pos (cond x 1 0))) c.deref.ensures.value ∙ numbers-map (λ x. a.Boolean x) (λ x. pos (cond x 1 0)) (λ x. refl) c.in-Booleans.items.items)

pub returns-in_ok-of_bytes-in-Bytes : goal.returns-in_ok-of_bytes-in-Bytes
returns-in_ok-of_bytes-in-Bytes c =
    rw c.in-Bytes.is (c.in_ok-of_bytes-in-Bytes.ensures ∙ ap (map (λ x. pos x)) c.deref-in-Bytes.ensures.value ∙ numbers-map (byte_atom c.in-Bytes.field-0) (λ x. pos x) (byte_number c.in-Bytes.field-0) c.in-Bytes.items.items)

pub returns-in_ok-of_shorts-in-Shorts : goal.returns-in_ok-of_shorts-in-Shorts
returns-in_ok-of_shorts-in-Shorts c =
    rw c.in-Shorts.is (c.in_ok-of_shorts-in-Shorts.ensures ∙ c.deref-in-Shorts.ensures.value ∙ numbers-same (λ x. a.Short x) (λ x. refl) c.in-Shorts.items.items)

pub returns-in_ok-of_integers-in-Integers : goal.returns-in_ok-of_integers-in-Integers
returns-in_ok-of_integers-in-Integers c =
    rw c.in-Integers.is (c.in_ok-of_integers-in-Integers.ensures ∙ c.deref-in-Integers.ensures.value ∙ numbers-same (integer_atom c.in-Integers.field-0) (integer_number c.in-Integers.field-0) c.in-Integers.items.items)

pub returns-in-Longs : goal.returns-in-Longs
returns-in-Longs c =
    rw c.in-Longs.is (c.deref-in-Longs.ensures.value ∙ numbers-same (long_atom c.in-Longs.field-0) (long_number c.in-Longs.field-0) c.in-Longs.items.items)
