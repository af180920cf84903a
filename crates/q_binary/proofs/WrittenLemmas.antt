-- Numbers that were computed in 64 bits, in the kind of the result.
use Rattle.std.proofs.Common.{◌≡◌, ℤ, List, map, Option, Some, None, refl, ap, ◌∙◌, option_map}
use Rattle.std.specs.Int.{w16, w32, w64, int_wrap}
use Rattle.std.specs.Simd.Lanes.{zip2}
use Rattle.std.proofs.lemmas.Int.{int_wrap_fits, SFits-int_wrap}
use Rattle.q_values.specs.Column.{integer_atom, integer_kind, long_atom, long_kind}
use Rattle.q_values.specs.declared.atom.Atom.{Atom}
use Rattle.q_values.specs.declared.atom.Atom.TheVariants as a
use Rattle.q_values.specs.declared.kind.Kind.{Kind}
use Rattle.q_values.specs.declared.kind.Kind.TheVariants as k
use Rattle.q_values.specs.declared.kind.IntegerKind.{IntegerKind}
use Rattle.q_values.specs.declared.kind.LongKind.{LongKind}
use Rattle.q_verbs.specs.declared.verb.Verb.{Verb}
use Rattle.q_verbs.specs.Numbers.{Worth, numeric, worth, reduced}
use Rattle.q_verbs.specs.Places.{Operation, operation, of_both}
use Rattle.q_binary.specs.Computed.{computed, given}
use Rattle.q_lanes.proofs.WrapLemmas.{int_wrap-16, int_wrap-32}
use Rattle.q_lanes.proofs.WorthLemmas.{integer-written, long-written}
use Rattle.q_lanes.proofs.ZipLemmas.{map-zip2, zip2_same, zip2_through}

pub reduced-16 : (n : Option ℤ) → reduced w16 (option_map (int_wrap w64) n) ≡ reduced w16 n
reduced-16 None = refl
reduced-16 (Some z) = int_wrap-16 z

pub reduced-32 : (n : Option ℤ) → reduced w32 (option_map (int_wrap w64) n) ≡ reduced w32 n
reduced-32 None = refl
reduced-32 (Some z) = int_wrap-32 z

pub reduced-64 : (n : Option ℤ) → reduced w64 (option_map (int_wrap w64) n) ≡ reduced w64 n
reduced-64 None = refl
reduced-64 (Some z) = int_wrap_fits w64 (int_wrap w64 z) (SFits-int_wrap w64 z)

-- the results of a loop over items, as atoms
pub shorts-given : {X : Type 0} (number : X → Option ℤ) (f : Operation) (xs ys : List X) → map (λ x. a.Short x) (zip2 (λ x y. reduced w16 (computed f (number x) (number y))) xs ys) ≡ zip2 (λ x y. given k.Short f (numeric (number x)) (numeric (number y))) xs ys
shorts-given number f xs ys =
    map-zip2 (λ x. a.Short x) (λ x y. reduced w16 (computed f (number x) (number y))) xs ys
    ∙ zip2_same (λ x y. a.Short (reduced w16 (computed f (number x) (number y)))) (λ x y. given k.Short f (numeric (number x)) (numeric (number y))) xs ys (λ x y. ap (λ n. a.Short n) (reduced-16 (of_both f (number x) (number y))))

pub integers-given : {X : Type 0} (number : X → Option ℤ) (kind : IntegerKind) (f : Operation) (xs ys : List X) → map (integer_atom kind) (zip2 (λ x y. reduced w32 (computed f (number x) (number y))) xs ys) ≡ zip2 (λ x y. given (integer_kind kind) f (numeric (number x)) (numeric (number y))) xs ys
integers-given number kind f xs ys =
    map-zip2 (integer_atom kind) (λ x y. reduced w32 (computed f (number x) (number y))) xs ys
    ∙ zip2_same (λ x y. integer_atom kind (reduced w32 (computed f (number x) (number y)))) (λ x y. given (integer_kind kind) f (numeric (number x)) (numeric (number y))) xs ys (λ x y. ap (integer_atom kind) (reduced-32 (of_both f (number x) (number y))) ∙ integer-written kind (of_both f (number x) (number y)))

pub longs-given : {X : Type 0} (number : X → Option ℤ) (kind : LongKind) (f : Operation) (xs ys : List X) → map (long_atom kind) (zip2 (λ x y. reduced w64 (computed f (number x) (number y))) xs ys) ≡ zip2 (λ x y. given (long_kind kind) f (numeric (number x)) (numeric (number y))) xs ys
longs-given number kind f xs ys =
    map-zip2 (long_atom kind) (λ x y. reduced w64 (computed f (number x) (number y))) xs ys
    ∙ zip2_same (λ x y. long_atom kind (reduced w64 (computed f (number x) (number y)))) (λ x y. given (long_kind kind) f (numeric (number x)) (numeric (number y))) xs ys (λ x y. ap (long_atom kind) (reduced-64 (of_both f (number x) (number y))) ∙ long-written kind (of_both f (number x) (number y)))

-- items that are worth what the atoms are worth have the results of the atoms
pub values-given : {X : Type 0} (own : X → Worth) (kind left right left' right' : Kind) (verb : Verb) (xs ys : List X) (us vs : List Atom) → left ≡ left' → right ≡ right' → map own xs ≡ map worth us → map own ys ≡ map worth vs → zip2 (λ x y. given kind (operation verb left right) (own x) (own y)) xs ys ≡ zip2 (λ x y. given kind (operation verb left' right') (worth x) (worth y)) us vs
values-given own kind left right left' right' verb xs ys us vs p q d e =
    ap (λ l. zip2 (λ x y. given kind (operation verb l right) (own x) (own y)) xs ys) p
    ∙ ap (λ r. zip2 (λ x y. given kind (operation verb left' r) (own x) (own y)) xs ys) q
    ∙ zip2_through (given kind (operation verb left' right')) own worth xs ys us vs d e
