use Rattle.std.proofs.Common.{◌≡◌, length, map, sym, rules, FitsSigned, ◌∙◌}
use Rattle.std.specs.Int.{w32}
use Rattle.std.specs.Simd.Lanes.{zip2}
use Rattle.std.proofs.lemmas.Int.{to_z-of_z}
use Rattle.std.proofs.lemmas.Result.{IfOk-weaker}
use Rattle.q_lanes.specs.Lanes.{lane_items}
use Rattle.q_verbs.specs.Numbers.{number_in, reduced}
use Rattle.q_verbs.specs.Places.{operation}
use Rattle.q_binary.specs.Computed.{computed, int_multiple}
use Rattle.q_binary.proofs.DivisorLemmas.{zip-one}
use Rattle.q_binary.proofs.arithmetic.Task+i32.int_values.Goals as goal

pub returns-in-Xbar-Every-Each : goal.returns-in-Xbar-Every-Each
returns-in-Xbar-Every-Each c =
    let task = c.args.self.now in
    let arm = c.in-Xbar-Every-Each in
    let xs = arm.items.now in
    let fits : FitsSigned w32 arm.width = search rules in
    let size : length xs ≡ task.count = rw arm.is-2 at c.requires.right in
    IfOk-weaker c.multiples_of_ints.result
    (λ v. v.items ≡ map (int_multiple arm.width) xs)
    (λ v. v.items ≡ zip2 (λ x y. reduced w32 (computed (operation task.verb task.left_kind task.right_kind) (number_in w32 x) (number_in w32 y))) (lane_items task.count task.left) (lane_items task.count task.right))
    (λ v found. rw (arm.is-0, arm.is-1, arm.is-2, ← size) (found ∙ sym (zip-one int_multiple arm.width xs)))
    (rw (to_z-of_z w32 arm.width fits) at c.multiples_of_ints.ensures)
