use Rattle.std.proofs.Common.{◌≡◌, ◌<◌, ◌-ℤ◌, pos, true, ap₂, ◌∙◌, arith, to_z, of_z}
use Rattle.std.specs.Int.{w32, int_wrap}
use Rattle.std.specs.Int.RustNames.{int_lt}
use Rattle.std.proofs.lemmas.Int.{ints, to_z-of_z, wrapping_sub-bits}
use Rattle.q_verbs.specs.Numbers.{least}
use Rattle.q_binary.proofs.IntMultipleLemmas.{int_multiple_is}
use Rattle.q_binary.proofs.int_multiples.IntMultiples.below.Goals as goal

pub returns-then-number-gtminus2147483648 : goal.returns-then-number-gtminus2147483648
returns-then-number-gtminus2147483648 c =
    let x = c.args.number in
    let width = c.args.self.now.width in
    let excess = c.excess-excess.result in
    let small : excess < 2147483648 = omega (arith, c.excess-excess.ensures.below, c.args.self.now.signed) in
    let number : to_z w32 (of_z w32 x) ≡ x = to_z-of_z w32 x c.ranges.number in
    let own : to_z w32 excess ≡ pos excess = omega (arith, ints) in
    let some : int_lt (least w32) x ≡ true = grind (arith, ints, c.if-number-gtminus2147483648.true) in
    wrapping_sub-bits w32 (of_z w32 x) excess (omega (arith, ints)) (omega (arith, small))
    ∙ ap₂ (λ a b. int_wrap w32 (a -ℤ b)) number own
    ∙ int_multiple_is width x (x -ℤ pos excess) c.args.self.now.positive some (rw number at c.excess-excess.ensures.value)
