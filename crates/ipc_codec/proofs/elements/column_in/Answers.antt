use Rattle.std.proofs.Common.{◌≡◌, List, ap, sym, ◌∙◌}
use Rattle.q_values.specs.Contents.{Contents}
use Rattle.q_values.specs.Column.{contents}
use Rattle.q_values.specs.declared.atom.Atom.{Atom}
use Rattle.q_values.specs.declared.kind.Kind.{Kind}
use Rattle.q_values.specs.declared.kind.Kind.TheVariants as k
use Rattle.q_values.specs.Kind.{width}
use Rattle.ipc_codec.specs.Numbers.{element_by, cells}
use Rattle.ipc_codec.proofs.CellsLemmas.{column_of_booleans}
use Rattle.ipc_codec.proofs.elements.column_in.Goals as goal

pub returns-in-Booleans : goal.returns-in-Booleans
returns-in-Booleans g c =
    let same : k.Boolean ≡ c.args.kind = ap (λ (x : Contents). x.kind) (sym (ap contents c.in-Booleans.is) ∙ c.new.ensures) in
    let whole = ap (λ (xs : List Atom). record { kind = k.Boolean; atoms = xs }) (column_of_booleans g.T.ByteOrder.number_of c.args.count c.args.bytes.now) in
    rw c.in_ok-booleans_in-in-Booleans.ensures (whole ∙ ap (λ (kind : Kind). record { kind = kind; atoms = cells (element_by g.T.ByteOrder.number_of kind) (width kind) c.args.count c.args.bytes.now }) same)
