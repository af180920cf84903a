use Rattle.std.proofs.Common.{rules, ◌≡◌, true}
use Rattle.q_values.specs.Kind.{is}
use Rattle.q_verbs.proofs.kinds.have.Goals as goal

pub returns-then-eq : goal.returns-then-eq
returns-then-eq c =
    let first : is c.args.left c.args.a ≡ true = search rules in
    let second : c.eq-then-eq.result ≡ is c.args.right c.args.b = search rules in
    rw first second
