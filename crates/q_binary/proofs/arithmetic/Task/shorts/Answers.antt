use Rattle.std.proofs.Common.{List, map, ap, ◌∙◌}
use Rattle.q_values.specs.Contents.{Contents}
use Rattle.q_values.specs.declared.atom.Atom.{Atom}
use Rattle.q_values.specs.declared.atom.Atom.TheVariants as a
use Rattle.q_values.specs.declared.kind.Kind.TheVariants as k
use Rattle.q_lanes.specs.Lanes.{lane_items}
use Rattle.q_verbs.specs.Places.{operation}
use Rattle.q_binary.proofs.WrittenLemmas.{shorts-given}
use Rattle.q_binary.proofs.arithmetic.Task.shorts.Goals as goal

pub returns : goal.returns
returns g c =
    let task = c.args.self.now in
    let of_atoms : List Atom → Contents = λ atoms. record { kind = k.Short; atoms = atoms } in
    ap of_atoms (ap (map (λ x. a.Short x)) c.in_ok-values.ensures ∙ shorts-given g.T.Number.number (operation task.verb task.left_kind task.right_kind) (lane_items task.count task.left) (lane_items task.count task.right))
