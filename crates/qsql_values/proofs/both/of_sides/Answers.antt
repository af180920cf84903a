use Rattle.std.proofs.Common.{◌≡◌, ap}
use Rattle.q_values.specs.Tree.{atom}
use Rattle.q_verbs.specs.Kinds.{result_kind_of}
use Rattle.q_verbs.specs.Sides.{side_kind}
use Rattle.qsql_values.specs.Both.{aggregate_of_sides}
use Rattle.qsql_values.specs.Values.{kind_with}
use Rattle.qsql_values.proofs.BothLemmas.{kind_is, kind_of_sides, some_inner}
use Rattle.qsql_values.proofs.both.of_sides.Goals as goal

pub returns-clause-value : goal.returns-clause-value
returns-clause-value c =
    let left = side_kind c.args.left.now in
    let right = side_kind c.args.right.now in
    let some = some_inner c.args.outer (result_kind_of c.args.inner left right) c.requires.rows in
    ap atom (c.in_ok-made.ensures (kind_with c.args.inner left right) (kind_is (result_kind_of c.args.inner left right) left some))

pub returns-clause-kind : goal.returns-clause-kind
returns-clause-kind c =
    let left = side_kind c.args.left.now in
    let right = side_kind c.args.right.now in
    let some = some_inner c.args.outer (result_kind_of c.args.inner left right) c.requires.rows in
    let same : c.in_ok-made.made ≡ aggregate_of_sides c.args.outer c.args.inner c.args.left.now c.args.right.now = c.in_ok-made.ensures (kind_with c.args.inner left right) (kind_is (result_kind_of c.args.inner left right) left some) in
    kind_of_sides c.args.outer c.args.inner c.args.left.now c.args.right.now c.in_ok-made.made c.requires.verbs c.requires.rows same
