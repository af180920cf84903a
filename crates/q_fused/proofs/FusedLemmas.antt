-- What is picked of sums and differences, as the aggregate of the verb's results.
use Rattle.std.proofs.Common.{◌≡◌, ℤ, pos, negsuc, List, map, refl, sym, ap, ◌∙◌, unwrap_or}
use Rattle.std.specs.Int.{w64}
use Rattle.std.specs.Ordering.{is_ge, is_le}
use Rattle.std.specs.Simd.Lanes.{zip2}
use Rattle.q_values.specs.Column.{long_atom, long_kind}
use Rattle.q_values.specs.declared.atom.Atom.{Atom}
use Rattle.q_values.specs.declared.kind.LongKind.{LongKind}
use Rattle.q_values.specs.declared.kind.LongKind.TheVariants as l
use Rattle.q_verbs.specs.Aggregates.{aggregate_of, chosen_of, greatest, lowest, number_of}
use Rattle.q_verbs.specs.Numbers.{numeric, number_in, reduced, worth}
use Rattle.q_verbs.specs.Places.{Operation, chosen, difference_of, operation, sum_of, value_of}
use Rattle.q_verbs.specs.declared.verb.Verb.{Verb}
use Rattle.q_verbs.specs.declared.verb.Verb.TheVariants as v
use Rattle.q_verbs.specs.declared.verb.Verb1.TheVariants as u
use Rattle.q_binary.specs.Computed.{computed, given}
use Rattle.q_binary.proofs.WrittenLemmas.{longs-given}
use Rattle.q_lanes.proofs.SideLemmas.{worth-zip}
use Rattle.q_lanes.proofs.WorthLemmas.{worth-long}
use Rattle.q_lanes.proofs.ZipLemmas.{zip2_same}
use Rattle.q_unary.specs.Extremes.{extreme}
use Rattle.q_unary.proofs.ExtremeLemmas.{extreme_atom, greatest-long, lowest-long}

-- the results of the loop, as numbers
abbrev pub numbers : Operation → List ℤ → List ℤ → List ℤ
numbers f xs ys = zip2 (λ x y. reduced w64 (computed f (number_in w64 x) (number_in w64 y))) xs ys

-- sums of kinds of 64 bits are sums of numbers
pub of_sums : (left right : LongKind) → operation v.Add (long_kind left) (long_kind right) ≡ sum_of
of_sums l.Long l.Long = refl
of_sums l.Long l.Timestamp = refl
of_sums l.Long l.Timespan = refl
of_sums l.Timestamp l.Long = refl
of_sums l.Timestamp l.Timestamp = refl
of_sums l.Timestamp l.Timespan = refl
of_sums l.Timespan l.Long = refl
of_sums l.Timespan l.Timestamp = refl
of_sums l.Timespan l.Timespan = refl

module _ (own left right : LongKind) (xs ys : List ℤ) where
  -- the results as atoms
  atoms_of : (verb : Verb) (f : Operation) → ((x y : Atom) → given (long_kind own) f (worth x) (worth y) ≡ value_of verb (long_kind left) (long_kind right) (long_kind own) x y)
      → map (long_atom own) (numbers f xs ys) ≡ zip2 (value_of verb (long_kind left) (long_kind right) (long_kind own)) (map (long_atom left) xs) (map (long_atom right) ys)
  atoms_of verb f same =
      longs-given (number_in w64) own f xs ys
      ∙ worth-zip (given (long_kind own) f) (λ x. numeric (number_in w64 x)) (long_atom left) (long_atom right) xs ys (worth-long left) (worth-long right)
      ∙ zip2_same (λ x y. given (long_kind own) f (worth x) (worth y)) (value_of verb (long_kind left) (long_kind right) (long_kind own)) (map (long_atom left) xs) (map (long_atom right) ys) same

  least_results : (verb : Verb) (f : Operation) (best : ℤ) → ((x y : Atom) → given (long_kind own) f (worth x) (worth y) ≡ value_of verb (long_kind left) (long_kind right) (long_kind own) x y)
      → best ≡ extreme is_le (number_in w64) (pos 9223372036854775807) (numbers f xs ys)
      → long_atom own best ≡ aggregate_of u.Min (long_kind own) (zip2 (value_of verb (long_kind left) (long_kind right) (long_kind own)) (map (long_atom left) xs) (map (long_atom right) ys))
  least_results verb f best same is =
      extreme_atom is_le (number_in w64) (long_atom own) (pos 9223372036854775807) (numbers f xs ys) (numbers f xs ys) best (greatest (long_kind own)) (worth-long own) refl is (greatest-long own)
      ∙ ap (λ (atoms : List Atom). unwrap_or (chosen_of number_of (chosen v.Lesser) atoms) (greatest (long_kind own))) (atoms_of verb f same)

  greatest_results : (verb : Verb) (f : Operation) (best : ℤ) → ((x y : Atom) → given (long_kind own) f (worth x) (worth y) ≡ value_of verb (long_kind left) (long_kind right) (long_kind own) x y)
      → best ≡ extreme is_ge (number_in w64) (negsuc 9223372036854775806) (numbers f xs ys)
      → long_atom own best ≡ aggregate_of u.Max (long_kind own) (zip2 (value_of verb (long_kind left) (long_kind right) (long_kind own)) (map (long_atom left) xs) (map (long_atom right) ys))
  greatest_results verb f best same is =
      extreme_atom is_ge (number_in w64) (long_atom own) (negsuc 9223372036854775806) (numbers f xs ys) (numbers f xs ys) best (lowest (long_kind own)) (worth-long own) refl is (lowest-long own)
      ∙ ap (λ (atoms : List Atom). unwrap_or (chosen_of number_of (chosen v.Greater) atoms) (lowest (long_kind own))) (atoms_of verb f same)

  same_sums : (x y : Atom) → given (long_kind own) sum_of (worth x) (worth y) ≡ value_of v.Add (long_kind left) (long_kind right) (long_kind own) x y
  same_sums x y = ap (λ (f : Operation). given (long_kind own) f (worth x) (worth y)) (sym (of_sums left right))

  pub least_sum : (best : ℤ) → best ≡ extreme is_le (number_in w64) (pos 9223372036854775807) (numbers sum_of xs ys)
      → long_atom own best ≡ aggregate_of u.Min (long_kind own) (zip2 (value_of v.Add (long_kind left) (long_kind right) (long_kind own)) (map (long_atom left) xs) (map (long_atom right) ys))
  least_sum best is = least_results v.Add sum_of best same_sums is

  pub greatest_sum : (best : ℤ) → best ≡ extreme is_ge (number_in w64) (negsuc 9223372036854775806) (numbers sum_of xs ys)
      → long_atom own best ≡ aggregate_of u.Max (long_kind own) (zip2 (value_of v.Add (long_kind left) (long_kind right) (long_kind own)) (map (long_atom left) xs) (map (long_atom right) ys))
  greatest_sum best is = greatest_results v.Add sum_of best same_sums is

  pub least_difference : (best : ℤ) → best ≡ extreme is_le (number_in w64) (pos 9223372036854775807) (numbers difference_of xs ys)
      → long_atom own best ≡ aggregate_of u.Min (long_kind own) (zip2 (value_of v.Sub (long_kind left) (long_kind right) (long_kind own)) (map (long_atom left) xs) (map (long_atom right) ys))
  least_difference best is = least_results v.Sub difference_of best (λ x y. refl) is

  pub greatest_difference : (best : ℤ) → best ≡ extreme is_ge (number_in w64) (negsuc 9223372036854775806) (numbers difference_of xs ys)
      → long_atom own best ≡ aggregate_of u.Max (long_kind own) (zip2 (value_of v.Sub (long_kind left) (long_kind right) (long_kind own)) (map (long_atom left) xs) (map (long_atom right) ys))
  greatest_difference best is = greatest_results v.Sub difference_of best (λ x y. refl) is
