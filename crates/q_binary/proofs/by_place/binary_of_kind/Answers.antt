use Rattle.std.proofs.Common.{◌≡◌, rules, true, false, ◌&&◌, List, ap, sym, ◌∙◌}
use Rattle.q_values.specs.Contents.{Contents}
use Rattle.q_values.specs.declared.atom.Atom.{Atom}
use Rattle.q_values.specs.declared.kind.Kind.{Kind}
use Rattle.q_values.specs.Kind.{is}
use Rattle.q_verbs.specs.Kinds.{is_computed}
use Rattle.q_verbs.specs.Places.{is_comparison, is_choice, is_by_place}
use Rattle.q_verbs.specs.Sides.{side_kind, spread}
use Rattle.q_binary.proofs.RowLemmas.{comparison_row, choice_row, computed_row}
use Rattle.q_binary.proofs.ValueLemmas.{compared_values, chosen_values, computed_values}
use Rattle.q_binary.proofs.by_place.binary_of_kind.Goals as goal

abbrev of_atoms : Kind → List Atom → Contents
of_atoms kind atoms = record { kind = kind; atoms = atoms }

pub arithmetic-requires-clause-kind : goal.arithmetic-requires-clause-kind
arithmetic-requires-clause-kind c =
    let by_place : is_by_place c.args.verb ≡ true = search rules in
    let compares : is_comparison c.args.verb ≡ false = cc in
    let chooses : (is_choice c.args.verb && is (side_kind c.args.left.now) (side_kind c.args.right.now)) ≡ false = cc in
    let computed : is_computed c.args.kind ≡ true = (computed_row c.args.verb (side_kind c.args.left.now) (side_kind c.args.right.now) c.args.kind c.requires.row by_place compares chooses).1 in
    search rules

pub returns-in_ok-values : goal.returns-in_ok-values
returns-in_ok-values c =
    let compares : is_comparison c.args.verb ≡ true = cc in
    let row = comparison_row c.args.verb (side_kind c.args.left.now) (side_kind c.args.right.now) c.args.kind c.requires.row compares in
    c.in_ok-values.ensures ∙ (λ i. of_atoms (sym row.1 i) (compared_values c.args.verb (side_kind c.args.left.now) (side_kind c.args.right.now) c.args.kind (spread c.args.count c.args.left.now) (spread c.args.count c.args.right.now) compares i))

pub returns-in_ok-values-2 : goal.returns-in_ok-values-2
returns-in_ok-values-2 c =
    let compares : is_comparison c.args.verb ≡ false = cc in
    let chooses : (is_choice c.args.verb && is (side_kind c.args.left.now) (side_kind c.args.right.now)) ≡ true = cc in
    let row = choice_row c.args.verb (side_kind c.args.left.now) (side_kind c.args.right.now) c.args.kind c.requires.row compares chooses in
    c.in_ok-values-2.ensures ∙ (λ i. of_atoms (sym row.2 i) (chosen_values c.args.verb (side_kind c.args.left.now) (side_kind c.args.right.now) c.args.kind (spread c.args.count c.args.left.now) (spread c.args.count c.args.right.now) compares chooses i))

pub returns-in_ok-column : goal.returns-in_ok-column
returns-in_ok-column c =
    let compares : is_comparison c.args.verb ≡ false = cc in
    let chooses : (is_choice c.args.verb && is (side_kind c.args.left.now) (side_kind c.args.right.now)) ≡ false = cc in
    c.from_column.ensures ∙ c.in_ok-column.ensures ∙ ap (of_atoms c.args.kind) (computed_values c.args.verb (side_kind c.args.left.now) (side_kind c.args.right.now) c.args.kind (spread c.args.count c.args.left.now) (spread c.args.count c.args.right.now) compares chooses)
