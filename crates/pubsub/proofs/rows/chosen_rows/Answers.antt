use Rattle.std.proofs.Common.{◌≡◌, Bool, true, false, List, map, replicate, ap, subst, sym, ◌∙◌}
use Rattle.std.specs.List.{list_any}
use Rattle.std.specs.Result.{IfOk}
use Rattle.q_values.specs.Contents.{Contents}
use Rattle.pubsub.proofs.RowLemmas.{marks-everything, marks-nothing, marks-symbols}
use Rattle.pubsub.proofs.rows.chosen_rows.Goals as goal
use Rattle.pubsub.specs.Parts.{AreMarked}
use Rattle.pubsub.specs.Told.{chooses}
use Rattle.pubsub.specs.declared.filter.Filter.{Filter}

pub returns-in-Nothing : goal.returns-in-Nothing
returns-in-Nothing c =
    let atoms = c.args.symbols.now.atoms in
    subst (λ (chosen : Filter). list_any (λ mark. mark) (map (chooses chosen) atoms) ≡ false) (sym c.in-Nothing.is) (marks-nothing atoms)

pub returns-in-Everything : goal.returns-in-Everything
returns-in-Everything c =
    let atoms = c.args.symbols.now.atoms in
    let marks : replicate c.len.result true ≡ map (chooses c.args.filter.now) atoms
    = ap (λ n. replicate n true) c.len.ensures ∙ marks-everything atoms ∙ ap (λ (chosen : Filter). map (chooses chosen) atoms) (sym c.in-Everything.is) in
    subst (λ (l : List Bool). AreMarked l c.all_rows.result) marks c.all_rows.ensures

pub returns-in-Symbols-column : goal.returns-in-Symbols-column
returns-in-Symbols-column c =
    let atoms = c.args.symbols.now.atoms in
    let same = ap (λ (v : Contents). v.atoms) (rw c.in-Symbols-column.is at c.column.ensures) in
    subst (λ (l : List Bool). IfOk c.rows_in_set.result (AreMarked l))
    (marks-symbols c.in-Symbols.set c.in-Symbols-column.names atoms same ∙ ap (λ (chosen : Filter). map (chooses chosen) atoms) (sym c.in-Symbols.is))
    c.rows_in_set.ensures
