use Rattle.std.proofs.Common.{List, map, ap, ◌∙◌}
use Rattle.q_values.specs.Contents.{Contents}
use Rattle.q_values.specs.Column.{long_atom, long_kind}
use Rattle.q_values.specs.declared.atom.Atom.{Atom}
use Rattle.q_lanes.specs.Lanes.{lane_items}
use Rattle.q_verbs.specs.Places.{operation}
use Rattle.q_binary.proofs.WrittenLemmas.{longs-given}
use Rattle.q_binary.proofs.arithmetic.Task.longs.Goals as goal

pub returns : goal.returns
returns g c =
    let task = c.args.self.now in
    let of_atoms : List Atom → Contents = λ atoms. record { kind = long_kind c.args.kind; atoms = atoms } in
    ap of_atoms (ap (map (long_atom c.args.kind)) c.in_ok-values.ensures ∙ longs-given g.T.Number.number c.args.kind (operation task.verb task.left_kind task.right_kind) (lane_items task.count task.left) (lane_items task.count task.right))
