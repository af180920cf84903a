-- The first and the last of a list by its rows.
use Rattle.std.proofs.Common.{◌≡◌, ℕ, zero, suc, ◌+◌, List, [], ◌∷◌, length, get_or, map, Option, Some, None, refl, sym, ap, ◌∙◌, arith, unwrap_or}
use Rattle.std.specs.Prelude.{fold, replicate}
use Rattle.q_values.specs.Lists.{gathered}
use Rattle.std.specs.List.{range_with_len}
use Rattle.std.proofs.Math.ListN.{get_or-map}
use Rattle.q_values.specs.Column.{integer_kind, integer_atom, long_kind, long_atom}
use Rattle.q_values.specs.declared.atom.Atom.{Atom}
use Rattle.q_values.specs.declared.kind.Kind.{Kind}
use Rattle.q_values.specs.declared.kind.IntegerKind.{IntegerKind}
use Rattle.q_values.specs.declared.kind.IntegerKind.TheVariants as i
use Rattle.q_values.specs.declared.kind.LongKind.{LongKind}
use Rattle.q_values.specs.declared.kind.LongKind.TheVariants as l
use Rattle.std.specs.Prelude.{negsuc}
use Rattle.q_verbs.specs.Aggregates.{first_of, last_of, null_of, aggregate_of}
use Rattle.q_verbs.specs.declared.verb.Verb1.TheVariants as u
use Rattle.q_grouped.specs.Grouped.{group_of, by_group}
use Rattle.q_grouped.specs.Steps.{item_or, first_seen, last_seen}
use Rattle.q_grouped.proofs.GroupLemmas.{by_group-through}

-- an item at a row, through a function of the items
item_or-map : {X Y : Type 0} (f : X → Y) (other : X) (xs : List X) (row : Option ℕ) → f (item_or other xs row) ≡ item_or (f other) (map f xs) row
item_or-map f other xs None = refl
item_or-map f other xs (Some i) = sym (get_or-map f xs i other)

pub items_at-map : {X Y : Type 0} (f : X → Y) (other : X) (null : Y) (xs : List X) (rows : List (Option ℕ)) → f other ≡ null → map f (map (item_or other xs) rows) ≡ map (item_or null (map f xs)) rows
items_at-map f other null xs [] e = refl
items_at-map f other null xs (r ∷ rows) e = λ i. (item_or-map f other xs r ∙ ap (λ n. item_or n (map f xs) r) e) i ∷ items_at-map f other null xs rows e i

pub null_integer : (kind : IntegerKind) → integer_atom kind (negsuc 2147483647) ≡ null_of (integer_kind kind)
null_integer i.Integer = refl
null_integer i.Month = refl
null_integer i.Date = refl
null_integer i.Minute = refl
null_integer i.Second = refl
null_integer i.Time = refl

pub null_long : (kind : LongKind) → long_atom kind (negsuc 9223372036854775807) ≡ null_of (long_kind kind)
null_long l.Long = refl
null_long l.Timestamp = refl
null_long l.Timespan = refl

-- each item by its row
from_row : {X : Type 0} (d : X) (n : ℕ) (ys xs : List X) → ((i : ℕ) → get_or ys (n + i) d ≡ get_or xs i d) → map (λ i. get_or ys i d) (range_with_len n (length xs)) ≡ xs
from_row d n ys [] e = refl
from_row d n ys (x ∷ xs) e = λ i. (ap (λ m. get_or ys m d) (none n) ∙ e 0) i ∷ from_row d (n + 1) ys xs (λ k. ap (λ m. get_or ys m d) (next n k) ∙ e (suc k)) i
  where
    none : (n : ℕ) → n ≡ n + 0
    none n = omega arith

    next : (n k : ℕ) → (n + 1) + k ≡ n + suc k
    next n k = omega arith

by_rows : {X : Type 0} (d : X) (xs : List X) → map (λ i. get_or xs i d) (range_with_len 0 (length xs)) ≡ xs
by_rows d xs = from_row d 0 xs xs (λ i. ap (λ m. get_or xs m d) (plain i))
  where
    plain : (i : ℕ) → 0 + i ≡ i
    plain i = omega arith

last_from : (d : Atom) (xs : List Atom) (o : Option ℕ) (is : List ℕ) → item_or d xs (fold last_seen o is) ≡ unwrap_or (last_of (map (λ i. get_or xs i d) is)) (item_or d xs o)
last_from d xs o [] = refl
last_from d xs o (i ∷ []) = refl
last_from d xs o (i ∷ j ∷ is) = last_from d xs o (j ∷ is)

first_stays : (i : ℕ) (is : List ℕ) → fold first_seen (Some i) is ≡ Some i
first_stays i [] = refl
first_stays i (j ∷ is) = first_stays i is

first_from : (d : Atom) (xs : List Atom) (is : List ℕ) → item_or d xs (fold first_seen None is) ≡ unwrap_or (first_of (map (λ i. get_or xs i d) is)) d
first_from d xs [] = refl
first_from d xs (i ∷ is) = ap (item_or d xs) (first_stays i is)

-- the last item of each group, by the rows that the loop kept
pub last_by_rows : (kind : Kind) (groups : ℕ) (codes : List ℕ) (xs : List Atom) (n : ℕ) → n ≡ length xs → map (item_or (null_of kind) xs) (by_group (fold last_seen None) groups codes (range_with_len 0 n)) ≡ by_group (aggregate_of u.Last kind) groups codes xs
last_by_rows kind groups codes xs n size =
    by_group-through (fold last_seen None) (aggregate_of u.Last kind) (λ i. get_or xs i (null_of kind)) (item_or (null_of kind) xs) groups codes (range_with_len 0 n)
    (λ g. last_from (null_of kind) xs None (group_of g codes (range_with_len 0 n)))
    ∙ ap (by_group (aggregate_of u.Last kind) groups codes) (ap (λ m. map (λ i. get_or xs i (null_of kind)) (range_with_len 0 m)) size ∙ by_rows (null_of kind) xs)

-- the first item of each group
pub first_by_rows : (kind : Kind) (groups : ℕ) (codes : List ℕ) (xs : List Atom) (n : ℕ) → n ≡ length xs → map (item_or (null_of kind) xs) (by_group (fold first_seen None) groups codes (range_with_len 0 n)) ≡ by_group (aggregate_of u.First kind) groups codes xs
first_by_rows kind groups codes xs n size =
    by_group-through (fold first_seen None) (aggregate_of u.First kind) (λ i. get_or xs i (null_of kind)) (item_or (null_of kind) xs) groups codes (range_with_len 0 n)
    (λ g. first_from (null_of kind) xs (group_of g codes (range_with_len 0 n)))
    ∙ ap (by_group (aggregate_of u.First kind) groups codes) (ap (λ m. map (λ i. get_or xs i (null_of kind)) (range_with_len 0 m)) size ∙ by_rows (null_of kind) xs)

-- the first of one item, this many times
pub gathered_zeros : {X : Type 0} (n : ℕ) (x : X) → gathered (x ∷ []) (replicate n 0) ≡ replicate n x
gathered_zeros zero x = refl
gathered_zeros (suc n) x = ap (λ l. x ∷ l) (gathered_zeros n x)
