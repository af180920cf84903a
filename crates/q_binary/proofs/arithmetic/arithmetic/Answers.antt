use Rattle.std.proofs.Common.{◌≡◌, ℤ, List, map, ap, ◌∙◌}
use Rattle.std.specs.Int.{w32}
use Rattle.std.specs.Simd.Lanes.{zip2}
use Rattle.q_values.specs.Contents.{Contents}
use Rattle.q_values.specs.Column.{integer_atom, integer_kind}
use Rattle.q_values.specs.declared.atom.Atom.{Atom}
use Rattle.q_values.specs.declared.kind.Kind.{Kind}
use Rattle.q_lanes.specs.Lanes.{lane_items}
use Rattle.q_binary.specs.Computed.{given}
use Rattle.q_verbs.specs.Numbers.{Worth, numeric, number_in, worth}
use Rattle.q_verbs.specs.Places.{operation}
use Rattle.q_verbs.specs.Sides.{side_kind, spread}
use Rattle.q_lanes.proofs.SideLemmas.{worth-mapped}
use Rattle.q_lanes.proofs.WorthLemmas.{worth-integer}
use Rattle.q_binary.proofs.WrittenLemmas.{values-given}
use Rattle.q_binary.proofs.arithmetic.arithmetic.Goals as goal

pub returns-in_ok-column-in-Integers-Integers-Integer : goal.returns-in_ok-column-in-Integers-Integers-Integer
returns-in_ok-column-in-Integers-Integers-Integer c =
    let n = c.args.count in
    let arm = c.in-Integers-Integers-Integer in
    let of_all : Kind → List Atom → Contents = λ kind atoms. record { kind = kind; atoms = atoms } in
    let own : ℤ → Worth = λ x. numeric (number_in w32 x) in
    let left : map own (lane_items n arm.some) ≡ map worth (spread n c.args.left.now) = worth-mapped own (integer_atom arm.left_kind) (lane_items n arm.some) (worth-integer arm.left_kind) ∙ ap (map worth) (arm.ensures.atoms n) in
    let right : map own (lane_items n arm.others) ≡ map worth (spread n c.args.right.now) = worth-mapped own (integer_atom arm.right_kind) (lane_items n arm.others) (worth-integer arm.right_kind) ∙ ap (map worth) (arm.ensures'.atoms n) in
    let kinds : integer_kind arm.own ≡ c.args.kind = arm.ensures''.kind in
    c.in_ok-column-in-Integers-Integers-Integer.ensures
    ∙ ap (of_all (integer_kind arm.own)) (values-given own (integer_kind arm.own) c.kind.result c.kind-in-Integers-Integers-Integer.result (side_kind c.args.left.now) (side_kind c.args.right.now) c.args.verb (lane_items n arm.some) (lane_items n arm.others) (spread n c.args.left.now) (spread n c.args.right.now) (c.kind.ensures ∙ arm.ensures.kind) (c.kind-in-Integers-Integers-Integer.ensures ∙ arm.ensures'.kind) left right)
    ∙ ap (λ kind. of_all kind (zip2 (λ x y. given kind (operation c.args.verb (side_kind c.args.left.now) (side_kind c.args.right.now)) (worth x) (worth y)) (spread n c.args.left.now) (spread n c.args.right.now))) kinds
