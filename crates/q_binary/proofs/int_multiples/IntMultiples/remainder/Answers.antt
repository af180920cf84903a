use Rattle.std.proofs.Common.{◌+◌, ◌-◌, ◌*◌, ◌/◌, ◌≤◌, ◌<◌, arith, rules}
use Rattle.q_binary.proofs.IntMultipleLemmas.{near_below, near_above, is_remainder}
use Rattle.q_binary.proofs.int_multiples.IntMultiples.remainder.Goals as goal

pub overflow_sub-rest : goal.overflow_sub-rest
overflow_sub-rest c = rw (c.from.ensures, c.from-2.ensures) (near_below c.args.n c.args.self.now.inverse c.args.self.now.width c.args.self.now.inverted)

pub returns-then-rest-self : goal.returns-then-rest-self
returns-then-rest-self c =
    let n = c.args.n in
    let width = c.args.self.now.width in
    let near = c.from.result * c.from-2.result / 4294967296 in
    let below : near * width ≤ n = rw (c.from.ensures, c.from-2.ensures) (near_below n c.args.self.now.inverse width c.args.self.now.inverted) in
    is_remainder n near width (n - near * width) (omega (arith, below)) c.if-rest-self.true

pub returns-else-rest-self : goal.returns-else-rest-self
returns-else-rest-self c =
    let n = c.args.n in
    let width = c.args.self.now.width in
    let near = c.from.result * c.from-2.result / 4294967296 in
    let below : near * width ≤ n = rw (c.from.ensures, c.from-2.ensures) (near_below n c.args.self.now.inverse width c.args.self.now.inverted) in
    let above : n - near * width < width + width = rw (c.from.ensures, c.from-2.ensures) (near_above n c.args.self.now.inverse width (search rules) c.args.self.now.positive c.args.self.now.whole) in
    is_remainder n (near + 1) width (n - near * width - width) (omega (arith, below, c.if-rest-self.false)) (omega (arith, above, c.if-rest-self.false, c.args.self.now.positive))
