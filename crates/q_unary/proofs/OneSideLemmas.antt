-- Tests for 0, and numbers negated.
use Rattle.std.proofs.Common.{◌≡◌, ℤ, neg_ℤ, Bool, true, false, if◌then◌else◌, List, [], ◌∷◌, map, Option, Some, None, option_map, refl, sym, ap, ◌∙◌, arith, FitsSigned}
use Rattle.std.specs.Int.{Width, w16, w32, w64, int_wrap, int_wrapping_neg}
use Rattle.std.specs.Int.RustNames.{int_lt}
use Rattle.std.proofs.lemmas.Int.{ints, wrapping_neg_is}
use Rattle.q_lanes.proofs.SideLemmas.{map-worths}
use Rattle.q_values.specs.declared.atom.Atom.{Atom}
use Rattle.q_values.specs.declared.kind.Kind.{Kind}
use Rattle.q_verbs.specs.Numbers.{Worth, numeric, worth, number_in, reduced, written, least}

-- a test of items' numbers is that of their atoms
pub tests_read : {X : Type 0} (test : Option ℤ → Bool) (number : X → Option ℤ) (atom : X → Atom) (xs ps : List X) → ((x : X) → worth (atom x) ≡ numeric (number x)) → xs ≡ ps → map (λ x. test (number x)) xs ≡ map (λ u. test (worth u).number) (map atom ps)
tests_read test number atom xs ps e d = ap (map (λ x. test (number x))) d ∙ map-worths (λ (w : Worth). test w.number) (λ x. numeric (number x)) atom ps e

by_test : (w : Width) (b : Bool) (x : ℤ) → (b ≡ false → x ≡ least w) → int_wrap w (neg_ℤ (least w)) ≡ least w → int_wrap w (neg_ℤ x) ≡ reduced w (option_map neg_ℤ (if b then Some x else None))
by_test w true x e d = refl
by_test w false x e d = ap (λ z. int_wrap w (neg_ℤ z)) (e refl) ∙ d

null-16 : (x : ℤ) → FitsSigned w16 x → int_lt (least w16) x ≡ false → x ≡ least w16
null-16 x fits e = grind (arith, ints)

null-32 : (x : ℤ) → FitsSigned w32 x → int_lt (least w32) x ≡ false → x ≡ least w32
null-32 x fits e = grind (arith, ints)

null-64 : (x : ℤ) → FitsSigned w64 x → int_lt (least w64) x ≡ false → x ≡ least w64
null-64 x fits e = grind (arith, ints)

-- minus the null is the null, at each width
pub negated-16 : (x : ℤ) → FitsSigned w16 x → int_wrapping_neg w16 x ≡ reduced w16 (option_map neg_ℤ (number_in w16 x))
unfolding int_wrap
negated-16 x fits = wrapping_neg_is w16 x fits ∙ by_test w16 (int_lt (least w16) x) x (null-16 x fits) refl

pub negated-32 : (x : ℤ) → FitsSigned w32 x → int_wrapping_neg w32 x ≡ reduced w32 (option_map neg_ℤ (number_in w32 x))
unfolding int_wrap
negated-32 x fits = wrapping_neg_is w32 x fits ∙ by_test w32 (int_lt (least w32) x) x (null-32 x fits) refl

pub negated-64 : (x : ℤ) → FitsSigned w64 x → int_wrapping_neg w64 x ≡ reduced w64 (option_map neg_ℤ (number_in w64 x))
unfolding int_wrap
negated-64 x fits = wrapping_neg_is w64 x fits ∙ by_test w64 (int_lt (least w64) x) x (null-64 x fits) refl

-- the results of a loop over items, as atoms
pub negated_atoms : {X Z : Type 0} (made : Z → Atom) (negated : X → Z) (kind : Kind) (number : X → Option ℤ) (atom : X → Atom) (xs : List X) → ((x : X) → made (negated x) ≡ written kind (option_map neg_ℤ (number x))) → ((x : X) → worth (atom x) ≡ numeric (number x)) → map made (map negated xs) ≡ map (λ u. written kind (option_map neg_ℤ (worth u).number)) (map atom xs)
negated_atoms made negated kind number atom [] d e = refl
negated_atoms made negated kind number atom (x ∷ xs) d e =
    let here : made (negated x) ≡ written kind (option_map neg_ℤ (worth (atom x)).number) = d x ∙ ap (λ (w : Worth). written kind (option_map neg_ℤ w.number)) (sym (e x)) in
    (λ i. here i ∷ negated_atoms made negated kind number atom xs d e i)
