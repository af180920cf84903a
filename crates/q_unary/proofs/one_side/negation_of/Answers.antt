use Rattle.std.proofs.Common.{ℤ, pos, neg_ℤ, option_map, Bool, Option, Some, refl, map, ap, if◌then◌else◌, ◌∙◌}
use Rattle.std.specs.Int.{w16, w32, w64}
use Rattle.q_values.specs.Column.{integer_kind, integer_atom, long_kind, long_atom}
use Rattle.q_values.specs.declared.atom.Atom.{Atom}
use Rattle.q_values.specs.declared.atom.Atom.TheVariants as a
use Rattle.q_values.specs.declared.kind.Kind.TheVariants as k
use Rattle.q_values.specs.declared.kind.IntegerKind.TheVariants as i
use Rattle.q_verbs.specs.Numbers.{number_in, reduced}
use Rattle.q_unary.proofs.OneSideLemmas.{negated_atoms}
use Rattle.q_lanes.proofs.WorthLemmas.{worth-integer, worth-long, integer-written, long-written}
use Rattle.q_unary.proofs.one_side.negation_of.Goals as goal

pub returns-in_ok-values-in-Booleans-clause-atoms : goal.returns-in_ok-values-in-Booleans-clause-atoms
returns-in_ok-values-in-Booleans-clause-atoms c =
    let made : ℤ → Atom = integer_atom i.Integer in
    let negated : Bool → ℤ = λ b. reduced w32 (option_map neg_ℤ (Some (pos (if b then 1 else 0)))) in
    let number : Bool → Option ℤ = λ b. Some (pos (if b then 1 else 0)) in
    let atom : Bool → Atom = λ b. a.Boolean b in
    rw c.in-Booleans.is (ap (map made) (c.in_ok-values-in-Booleans.ensures ∙ ap (map negated) c.as_slice.ensures.value) ∙ negated_atoms made negated k.Integer number atom c.in-Booleans.items.items (λ b. refl) (λ b. refl))

pub returns-in_ok-values-in-Shorts-clause-atoms : goal.returns-in_ok-values-in-Shorts-clause-atoms
returns-in_ok-values-in-Shorts-clause-atoms c =
    let made : ℤ → Atom = λ x. a.Short x in
    let negated : ℤ → ℤ = λ x. reduced w16 (option_map neg_ℤ (number_in w16 x)) in
    let number : ℤ → Option ℤ = number_in w16 in
    let atom : ℤ → Atom = λ x. a.Short x in
    rw c.in-Shorts.is (ap (map made) (c.in_ok-values-in-Shorts.ensures ∙ ap (map negated) c.as_slice-in-Shorts.ensures.value) ∙ negated_atoms made negated k.Short number atom c.in-Shorts.items.items (λ x. refl) (λ x. refl))

pub returns-in_ok-values-in-Integers-clause-atoms : goal.returns-in_ok-values-in-Integers-clause-atoms
returns-in_ok-values-in-Integers-clause-atoms c =
    let made : ℤ → Atom = integer_atom c.in-Integers.kind in
    let negated : ℤ → ℤ = λ x. reduced w32 (option_map neg_ℤ (number_in w32 x)) in
    let number : ℤ → Option ℤ = number_in w32 in
    let atom : ℤ → Atom = integer_atom c.in-Integers.kind in
    rw c.in-Integers.is (ap (map made) (c.in_ok-values-in-Integers.ensures ∙ ap (map negated) c.as_slice-in-Integers.ensures.value) ∙ negated_atoms made negated (integer_kind c.in-Integers.kind) number atom c.in-Integers.items.items (λ x. integer-written c.in-Integers.kind (option_map neg_ℤ (number_in w32 x))) (worth-integer c.in-Integers.kind))

pub returns-in_ok-values-in-Longs-clause-atoms : goal.returns-in_ok-values-in-Longs-clause-atoms
returns-in_ok-values-in-Longs-clause-atoms c =
    let made : ℤ → Atom = long_atom c.in-Longs.kind in
    let negated : ℤ → ℤ = λ x. reduced w64 (option_map neg_ℤ (number_in w64 x)) in
    let number : ℤ → Option ℤ = number_in w64 in
    let atom : ℤ → Atom = long_atom c.in-Longs.kind in
    rw c.in-Longs.is (ap (map made) (c.in_ok-values-in-Longs.ensures ∙ ap (map negated) c.as_slice-in-Longs.ensures.value) ∙ negated_atoms made negated (long_kind c.in-Longs.kind) number atom c.in-Longs.items.items (λ x. long-written c.in-Longs.kind (option_map neg_ℤ (number_in w64 x))) (worth-long c.in-Longs.kind))
