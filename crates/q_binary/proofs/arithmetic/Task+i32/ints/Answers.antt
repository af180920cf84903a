use Rattle.std.proofs.Common.{List, map, ap, ◌∙◌}
use Rattle.std.specs.Int.{w32}
use Rattle.q_values.specs.Contents.{Contents}
use Rattle.q_values.specs.Column.{integer_atom, integer_kind}
use Rattle.q_values.specs.declared.atom.Atom.{Atom}
use Rattle.q_lanes.specs.Lanes.{lane_items}
use Rattle.q_verbs.specs.Numbers.{number_in}
use Rattle.q_verbs.specs.Places.{operation}
use Rattle.q_binary.proofs.WrittenLemmas.{integers-given}
use Rattle.q_binary.proofs.arithmetic.Task+i32.ints.Goals as goal

pub returns : goal.returns
returns c =
    let task = c.args.self.now in
    let of_atoms : List Atom → Contents = λ atoms. record { kind = integer_kind c.args.kind; atoms = atoms } in
    ap of_atoms (ap (map (integer_atom c.args.kind)) c.in_ok-int_values.ensures ∙ integers-given (number_in w32) c.args.kind (operation task.verb task.left_kind task.right_kind) (lane_items task.count task.left) (lane_items task.count task.right))
