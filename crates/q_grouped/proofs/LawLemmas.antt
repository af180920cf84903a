-- The laws of lists joined.
use Rattle.std.proofs.Common.{◌≡◌, ℕ, pos, ◌+ℤ◌, ◌+◌, List, [], ◌∷◌, length, Option, Some, None, refl, sym, ap, ◌∙◌, arith}
use Rattle.std.specs.Option.{option_or}
use Rattle.std.specs.Int.{w32, w64, int_wrap}
use Rattle.std.proofs.lemmas.Int.{ints, int_wrap-add_left, int_wrap-add_right}
use Rattle.std.proofs.lemmas.List.{length-append}
use Rattle.q_values.specs.declared.atom.Atom.{Atom}
use Rattle.q_values.specs.declared.atom.Atom.TheVariants as a
use Rattle.q_values.specs.declared.kind.Kind.TheVariants as k
use Rattle.q_verbs.specs.Aggregates.{last_of}
use Rattle.q_unary.proofs.LawLemmas.{sum_of_joined}
use Rattle.q_grouped.specs.Laws.{GroupOfJoined, CountOfJoined, SumOfJoined, FirstOfJoined, LastOfJoined}
use Rattle.q_grouped.proofs.GroupLemmas.{group-append}

pub group_of_joined : GroupOfJoined
group_of_joined g codes others xs ys e = group-append g codes others xs ys e

both_counts : (m n : ℕ) → pos (m + n) ≡ pos m +ℤ pos n
both_counts m n = omega (arith, ints)

pub count_of_joined : CountOfJoined
count_of_joined kind xs ys =
    ap (λ n. a.Long (int_wrap w64 (pos n))) (length-append xs ys)
    ∙ ap (λ z. a.Long (int_wrap w64 z)) (both_counts (length xs) (length ys))
    ∙ ap (λ z. a.Long z) (sym (int_wrap-add_right w64 (int_wrap w64 (pos (length xs))) (pos (length ys)) ∙ int_wrap-add_left w64 (pos (length xs)) (pos (length ys))))

pub sum_of_joined_parts : SumOfJoined
sum_of_joined_parts k.Boolean xs ys some = ap (λ z. a.Integer z) (sum_of_joined w32 xs ys)
sum_of_joined_parts k.Byte xs ys some = cc
sum_of_joined_parts k.Short xs ys some = ap (λ z. a.Integer z) (sum_of_joined w32 xs ys)
sum_of_joined_parts k.Integer xs ys some = ap (λ z. a.Integer z) (sum_of_joined w32 xs ys)
sum_of_joined_parts k.Long xs ys some = ap (λ z. a.Long z) (sum_of_joined w64 xs ys)
sum_of_joined_parts k.Character xs ys some = cc
sum_of_joined_parts k.Symbol xs ys some = cc
sum_of_joined_parts k.Timestamp xs ys some = cc
sum_of_joined_parts k.Month xs ys some = cc
sum_of_joined_parts k.Date xs ys some = cc
sum_of_joined_parts k.Timespan xs ys some = ap (λ z. a.Timespan z) (sum_of_joined w64 xs ys)
sum_of_joined_parts k.Minute xs ys some = cc
sum_of_joined_parts k.Second xs ys some = cc
sum_of_joined_parts k.Time xs ys some = cc

pub first_of_joined : FirstOfJoined
first_of_joined [] ys = refl
first_of_joined (x ∷ xs) ys = refl

or_none : (o : Option Atom) → o ≡ option_or o None
or_none None = refl
or_none (Some x) = refl

some_last : (y : Atom) (ys : List Atom) (o : Option Atom) → last_of (y ∷ ys) ≡ option_or (last_of (y ∷ ys)) o
some_last y [] o = refl
some_last y (z ∷ ys) o = some_last z ys o

pub last_of_joined : LastOfJoined
last_of_joined [] ys = or_none (last_of ys)
last_of_joined (x ∷ []) [] = refl
last_of_joined (x ∷ []) (y ∷ ys) = some_last y ys (Some x)
last_of_joined (x ∷ z ∷ xs) ys = last_of_joined (z ∷ xs) ys
