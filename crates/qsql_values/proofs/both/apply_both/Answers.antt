use Rattle.std.proofs.Common.{◌≡◌, ap, ◌∙◌, subst}
use Rattle.std.specs.Prelude.{IfOk}
use Rattle.q_values.specs.Contents.{Contents}
use Rattle.q_values.specs.Tree.{Tree, atom, vector}
use Rattle.qsql_values.specs.Operands.{operand_tree}
use Rattle.qsql_values.specs.Values.{value_of_one, value_of_two}
use Rattle.qsql_values.proofs.BothLemmas.{atom_beside, beside_atom}
use Rattle.qsql_values.proofs.both.apply_both.Goals as goal

pub returns-in-Atom-Column-clause-value : goal.returns-in-Atom-Column-clause-value
returns-in-Atom-Column-clause-value c =
    let value =
    atom_beside c.args.outer c.args.inner c.requires.verbs (record { ref_ptr = (0, 0); now = c.in-Atom-Column.x }) c.vector.result
    ∙ ap (λ (v : Contents). value_of_one c.args.outer (value_of_two c.args.inner (atom c.in-Atom-Column.x) (vector v))) c.vector.ensures in
    rw (c.in-Atom-Column.is-0, c.in-Atom-Column.is-1) (subst (λ (t : Tree). IfOk c.of_sides.result (λ v. operand_tree v ≡ t)) value c.of_sides.ensures.value)

pub returns-in-Column-Atom-clause-value : goal.returns-in-Column-Atom-clause-value
returns-in-Column-Atom-clause-value c =
    let value =
    beside_atom c.args.outer c.args.inner c.requires.verbs c.vector-in-Column-Atom.result (record { ref_ptr = (0, 0); now = c.in-Column-Atom.y })
    ∙ ap (λ (v : Contents). value_of_one c.args.outer (value_of_two c.args.inner (vector v) (atom c.in-Column-Atom.y))) c.vector-in-Column-Atom.ensures in
    rw (c.in-Column-Atom.is-0, c.in-Column-Atom.is-1) (subst (λ (t : Tree). IfOk c.of_sides-in-Column-Atom.result (λ v. operand_tree v ≡ t)) value c.of_sides-in-Column-Atom.ensures.value)
