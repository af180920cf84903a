use Rattle.std.proofs.Common.{◌≡◌, length, map, sym, rules, FitsSigned, ◌∙◌}
use Rattle.std.specs.Int.{w64}
use Rattle.std.specs.Simd.Lanes.{zip2}
use Rattle.std.proofs.lemmas.Int.{to_z-of_z}
use Rattle.std.proofs.lemmas.Result.{IfOk-weaker}
use Rattle.q_lanes.specs.Lanes.{lane_items}
use Rattle.q_verbs.specs.Numbers.{number_in}
use Rattle.q_verbs.specs.Places.{multiple_of}
use Rattle.q_binary.specs.Computed.{computed}
use Rattle.q_binary.proofs.DivisorLemmas.{zip-one}
use Rattle.q_binary.proofs.arithmetic.Task.multiples.Goals as goal

pub returns-in-Every-Each : goal.returns-in-Every-Each
returns-in-Every-Each g c =
    let task = c.args.self.now in
    let xs = c.in-Every-Each.items.now in
    let f : g.row.T.Denot → g.row.T.Denot → g.row.U.Denot = λ x y. g.U.Reduced.of (computed multiple_of (g.T.Number.number x) (g.T.Number.number y)) in
    let fits : FitsSigned w64 c.widened-in-Every-Each.result = search rules in
    let size : length xs ≡ task.count = rw c.in-Every-Each.is-1 at c.requires.right in
    let one : map (λ x. g.U.Reduced.of (computed multiple_of (number_in w64 c.widened-in-Every-Each.result) (g.T.Number.number x))) xs ≡ map (f c.in-Every-Each.width) xs =
    (λ i. map (λ x. g.U.Reduced.of (computed multiple_of (c.widened-in-Every-Each.ensures i) (g.T.Number.number x))) xs) in
    IfOk-weaker c.multiples_of.result
    (λ v. v.items ≡ map (λ x. g.U.Reduced.of (computed multiple_of (number_in w64 c.widened-in-Every-Each.result) (g.T.Number.number x))) xs)
    (λ v. v.items ≡ zip2 f (lane_items task.count task.left) (lane_items task.count task.right))
    (λ v found. rw (c.in-Every-Each.is-0, c.in-Every-Each.is-1, ← size) (found ∙ one ∙ sym (zip-one f c.in-Every-Each.width xs)))
    (rw (to_z-of_z w64 c.widened-in-Every-Each.result fits) at c.multiples_of.ensures)
