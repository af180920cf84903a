-- Sums and counts of a list, one item after another.
use Rattle.std.proofs.Common.{◌≡◌, ℕ, suc, ℤ, pos, ◌+ℤ◌, List, [], ◌∷◌, length, map, Option, Some, None, rules, refl, sym, ap, ◌∙◌, arith, unwrap_or}
use Rattle.std.specs.Prelude.{fold}
use Rattle.std.specs.Option.{IsSome}
use Rattle.std.specs.Int.{w32, w64, int_wrap}
use Rattle.std.proofs.lemmas.Int.{ints, int_wrap_fits, int_wrap-add_left}
use Rattle.q_values.specs.Column.{byte_kind, integer_kind, long_kind, long_atom}
use Rattle.q_values.specs.declared.atom.Atom.{Atom}
use Rattle.q_values.specs.declared.atom.Atom.TheVariants as a
use Rattle.q_values.specs.declared.kind.Kind.{Kind}
use Rattle.q_values.specs.declared.kind.Kind.TheVariants as k
use Rattle.q_values.specs.declared.kind.ByteKind.{ByteKind}
use Rattle.q_values.specs.declared.kind.ByteKind.TheVariants as b
use Rattle.q_values.specs.declared.kind.IntegerKind.{IntegerKind}
use Rattle.q_values.specs.declared.kind.IntegerKind.TheVariants as i
use Rattle.q_values.specs.declared.kind.LongKind.{LongKind}
use Rattle.q_values.specs.declared.kind.LongKind.TheVariants as l
use Rattle.q_verbs.specs.Numbers.{worth, numeric, written}
use Rattle.q_verbs.specs.Kinds.{total_kind}
use Rattle.q_verbs.specs.Aggregates.{total, number_of, aggregate_of}
use Rattle.q_verbs.specs.declared.verb.Verb1.TheVariants as u
use Rattle.q_unary.proofs.TotalLemmas.{numbers_of}
use Rattle.q_lanes.proofs.WrapLemmas.{int_wrap-32}
use Rattle.q_grouped.specs.Grouped.{group_of, by_group}
use Rattle.q_grouped.specs.Steps.{added}
use Rattle.q_grouped.proofs.GroupLemmas.{by_group-through}

regrouped : (a b c : ℤ) → (a +ℤ b) +ℤ c ≡ a +ℤ (b +ℤ c)
regrouped a b c = omega (arith, ints)

none_added : (a : ℤ) → a ≡ a +ℤ pos 0
none_added a = omega (arith, ints)

from_nothing : (a : ℤ) → pos 0 +ℤ a ≡ a
from_nothing a = omega (arith, ints)

zero_wraps : pos 0 ≡ int_wrap w64 (pos 0)
zero_wraps = sym (int_wrap_fits w64 (pos 0) (search rules))

added_from : {X : Type 0} (number : X → Option ℤ) (z : ℤ) (xs : List X) → fold (added number) (int_wrap w64 z) xs ≡ int_wrap w64 (z +ℤ total (map number xs))
added_from number z [] = ap (int_wrap w64) (none_added z)
added_from number z (x ∷ xs) =
    ap (λ s. fold (added number) s xs) (int_wrap-add_left w64 z (unwrap_or (number x) (pos 0)))
    ∙ added_from number (z +ℤ unwrap_or (number x) (pos 0)) xs
    ∙ ap (int_wrap w64) (regrouped z (unwrap_or (number x) (pos 0)) (total (map number xs)))

-- the loop's sum is the list's, wrapped
pub added_all : {X : Type 0} (number : X → Option ℤ) (xs : List X) → fold (added number) (pos 0) xs ≡ int_wrap w64 (total (map number xs))
added_all number xs =
    ap (λ s. fold (added number) s xs) zero_wraps ∙ added_from number (pos 0) xs ∙ ap (int_wrap w64) (from_nothing (total (map number xs)))

ones : {X : Type 0} (xs : List X) → total (map (λ x. Some (pos 1)) xs) ≡ pos (length xs)
ones [] = refl
ones (x ∷ xs) = ap (λ t. pos 1 +ℤ t) (ones xs) ∙ one_more (length xs)
  where
    one_more : (n : ℕ) → pos 1 +ℤ pos n ≡ pos (suc n)
    one_more n = omega (arith, ints)

-- the loop's count as a long
pub counted_all : {X : Type 0} (xs : List X) → a.Long (fold (added (λ x. Some (pos 1))) (pos 0) xs) ≡ written k.Long (Some (pos (length xs)))
counted_all {X = X} xs = ap (λ z. a.Long z) (added_all (λ (x : X). Some (pos 1)) xs ∙ ap (int_wrap w64) (ones xs))

pub narrowed : (z : ℤ) → int_wrap w32 (int_wrap w64 z) ≡ int_wrap w32 z
narrowed z = int_wrap-32 z

-- a sum of 32 bits is the verb's
pub sum_in_32 : {X : Type 0} (kind : Kind) (number : X → Option ℤ) (atom : X → Atom) (xs : List X) → total_kind kind ≡ Some k.Integer → ((x : X) → worth (atom x) ≡ numeric (number x)) → a.Integer (int_wrap w32 (total (map number xs))) ≡ aggregate_of u.Sum kind (map atom xs)
sum_in_32 kind number atom xs is e =
    ap (λ l. a.Integer (int_wrap w32 (total l))) (numbers_of number atom xs e)
    ∙ ap (λ o. written (unwrap_or o kind) (Some (total (map number_of (map atom xs))))) (sym is)

-- a sum of 64 bits is the verb's
pub sum_in_64 : {X : Type 0} (kind : LongKind) (number : X → Option ℤ) (atom : X → Atom) (xs : List X) → total_kind (long_kind kind) ≡ Some (long_kind kind) → ((x : X) → worth (atom x) ≡ numeric (number x)) → long_atom kind (int_wrap w64 (total (map number xs))) ≡ aggregate_of u.Sum (long_kind kind) (map atom xs)
sum_in_64 kind number atom xs is e =
    ap (λ l. long_atom kind (int_wrap w64 (total l))) (numbers_of number atom xs e)
    ∙ written_long kind (total (map number_of (map atom xs)))
    ∙ ap (λ o. written (unwrap_or o (long_kind kind)) (Some (total (map number_of (map atom xs))))) (sym is)
  where
    written_long : (kind : LongKind) (z : ℤ) → long_atom kind (int_wrap w64 z) ≡ written (long_kind kind) (Some z)
    written_long l.Long z = refl
    written_long l.Timestamp z = refl
    written_long l.Timespan z = refl

pub total_of_byte : (kind : ByteKind) → total_kind (byte_kind kind) ≡ None
total_of_byte b.Byte = refl
total_of_byte b.Character = refl

pub total_of_integer : (kind : IntegerKind) → IsSome (total_kind (integer_kind kind)) → total_kind (integer_kind kind) ≡ Some k.Integer
total_of_integer i.Integer some = refl
total_of_integer i.Month some = cc
total_of_integer i.Date some = cc
total_of_integer i.Minute some = cc
total_of_integer i.Second some = cc
total_of_integer i.Time some = cc

pub total_of_long : (kind : LongKind) → IsSome (total_kind (long_kind kind)) → total_kind (long_kind kind) ≡ Some (long_kind kind)
total_of_long l.Long some = refl
total_of_long l.Timestamp some = cc
total_of_long l.Timespan some = refl

-- a column's sums, from those of its items
pub sums_in_32 : {X : Type 0} (kind : Kind) (number : X → Option ℤ) (atom : X → Atom) (groups : ℕ) (codes : List ℕ) (xs ys : List X) (found : List ℤ) → total_kind kind ≡ Some k.Integer → ((x : X) → worth (atom x) ≡ numeric (number x)) → ys ≡ xs → found ≡ by_group (λ l. int_wrap w32 (total (map number l))) groups codes ys → map (λ z. a.Integer z) found ≡ by_group (aggregate_of u.Sum kind) groups codes (map atom xs)
sums_in_32 kind number atom groups codes xs ys found is e same made =
    ap (map (λ z. a.Integer z)) made
    ∙ by_group-through (λ l. int_wrap w32 (total (map number l))) (aggregate_of u.Sum kind) atom (λ z. a.Integer z) groups codes ys (λ g. sum_in_32 kind number atom (group_of g codes ys) is e)
    ∙ ap (λ l. by_group (aggregate_of u.Sum kind) groups codes (map atom l)) same

pub sums_in_64 : {X : Type 0} (kind : LongKind) (number : X → Option ℤ) (atom : X → Atom) (groups : ℕ) (codes : List ℕ) (xs ys : List X) (found : List ℤ) → total_kind (long_kind kind) ≡ Some (long_kind kind) → ((x : X) → worth (atom x) ≡ numeric (number x)) → ys ≡ xs → found ≡ by_group (λ l. int_wrap w64 (total (map number l))) groups codes ys → map (long_atom kind) found ≡ by_group (aggregate_of u.Sum (long_kind kind)) groups codes (map atom xs)
sums_in_64 kind number atom groups codes xs ys found is e same made =
    ap (map (long_atom kind)) made
    ∙ by_group-through (λ l. int_wrap w64 (total (map number l))) (aggregate_of u.Sum (long_kind kind)) atom (long_atom kind) groups codes ys (λ g. sum_in_64 kind number atom (group_of g codes ys) is e)
    ∙ ap (λ l. by_group (aggregate_of u.Sum (long_kind kind)) groups codes (map atom l)) same
