use Rattle.std.proofs.Common.{List, ℕ, ℤ, Bool, subst}
use Rattle.std.specs.Prelude.{nat_eq}
use Rattle.std.specs.Ordering.{nat_cmp, int_cmp, int_eq, bool_cmp}
use mathlib.Core.Bool.{beq}
use Rattle.q_groups.specs.Groups.{AreGroups}
use Rattle.q_groups.proofs.AtomLemmas.{groups_of_booleans, groups_of_bytes, groups_of_shorts, groups_of_integers, groups_of_longs}
use Rattle.q_groups.proofs.column.grouped_column.Goals as goal

pub returns-in_ok-grouped_whole-in-Booleans : goal.returns-in_ok-grouped_whole-in-Booleans
returns-in_ok-grouped_whole-in-Booleans c =
    rw c.in-Booleans.is (groups_of_booleans c.in-Booleans.items.items c.in_ok-grouped_whole-in-Booleans.field-0
    (subst (λ (l : List Bool). AreGroups beq bool_cmp l c.in_ok-grouped_whole-in-Booleans.field-0) c.deref.ensures.value c.in_ok-grouped_whole-in-Booleans.ensures))

pub returns-in_ok-grouped_whole-in-Bytes : goal.returns-in_ok-grouped_whole-in-Bytes
returns-in_ok-grouped_whole-in-Bytes c =
    rw c.in-Bytes.is (groups_of_bytes c.in-Bytes.field-0 c.in-Bytes.items.items c.in_ok-grouped_whole-in-Bytes.field-0
    (subst (λ (l : List ℕ). AreGroups nat_eq nat_cmp l c.in_ok-grouped_whole-in-Bytes.field-0) c.deref-in-Bytes.ensures.value c.in_ok-grouped_whole-in-Bytes.ensures))

pub returns-in_ok-grouped_whole-in-Shorts : goal.returns-in_ok-grouped_whole-in-Shorts
returns-in_ok-grouped_whole-in-Shorts c =
    rw c.in-Shorts.is (groups_of_shorts c.in-Shorts.items.items c.in_ok-grouped_whole-in-Shorts.field-0
    (subst (λ (l : List ℤ). AreGroups int_eq int_cmp l c.in_ok-grouped_whole-in-Shorts.field-0) c.deref-in-Shorts.ensures.value c.in_ok-grouped_whole-in-Shorts.ensures))

pub returns-in_ok-grouped_whole-in-Integers : goal.returns-in_ok-grouped_whole-in-Integers
returns-in_ok-grouped_whole-in-Integers c =
    rw c.in-Integers.is (groups_of_integers c.in-Integers.field-0 c.in-Integers.items.items c.in_ok-grouped_whole-in-Integers.field-0
    (subst (λ (l : List ℤ). AreGroups int_eq int_cmp l c.in_ok-grouped_whole-in-Integers.field-0) c.deref-in-Integers.ensures.value c.in_ok-grouped_whole-in-Integers.ensures))

pub returns-in_ok-grouped_whole-in-Longs : goal.returns-in_ok-grouped_whole-in-Longs
returns-in_ok-grouped_whole-in-Longs c =
    rw c.in-Longs.is (groups_of_longs c.in-Longs.field-0 c.in-Longs.items.items c.in_ok-grouped_whole-in-Longs.field-0
    (subst (λ (l : List ℤ). AreGroups int_eq int_cmp l c.in_ok-grouped_whole-in-Longs.field-0) c.deref-in-Longs.ensures.value c.in_ok-grouped_whole-in-Longs.ensures))
