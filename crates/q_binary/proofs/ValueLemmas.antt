-- Which rule a verb's results come from.
use Rattle.std.proofs.Common.{◌≡◌, true, false, ◌&&◌, if◌then◌else◌, List, sym}
use Rattle.std.specs.Simd.Lanes.{zip2}
use Rattle.q_values.specs.declared.atom.Atom.{Atom}
use Rattle.q_values.specs.declared.atom.Atom.TheVariants as a
use Rattle.q_values.specs.declared.kind.Kind.{Kind}
use Rattle.q_verbs.specs.declared.verb.Verb.{Verb}
use Rattle.q_values.specs.Kind.{is}
use Rattle.q_verbs.specs.Numbers.{worth, worth_cmp}
use Rattle.q_verbs.specs.Places.{is_comparison, is_choice, holds, chosen, operation, value_of}
use Rattle.q_binary.specs.Computed.{given}

module _ (verb : Verb) (left right kind : Kind) (xs ys : List Atom) where
  pub compared_values : is_comparison verb ≡ true → zip2 (λ x y. a.Boolean (holds verb (worth_cmp (worth x) (worth y)))) xs ys ≡ zip2 (value_of verb left right kind) xs ys
  compared_values c i = zip2 (λ x y. if sym c i then a.Boolean (holds verb (worth_cmp (worth x) (worth y))) else (if is_choice verb && is left right then chosen verb x y else given kind (operation verb left right) (worth x) (worth y))) xs ys

  pub chosen_values : is_comparison verb ≡ false → (is_choice verb && is left right) ≡ true → zip2 (chosen verb) xs ys ≡ zip2 (value_of verb left right kind) xs ys
  chosen_values c d i = zip2 (λ x y. if sym c i then a.Boolean (holds verb (worth_cmp (worth x) (worth y))) else (if sym d i then chosen verb x y else given kind (operation verb left right) (worth x) (worth y))) xs ys

  pub computed_values : is_comparison verb ≡ false → (is_choice verb && is left right) ≡ false → zip2 (λ x y. given kind (operation verb left right) (worth x) (worth y)) xs ys ≡ zip2 (value_of verb left right kind) xs ys
  computed_values c d i = zip2 (λ x y. if sym c i then a.Boolean (holds verb (worth_cmp (worth x) (worth y))) else (if sym d i then chosen verb x y else given kind (operation verb left right) (worth x) (worth y))) xs ys
