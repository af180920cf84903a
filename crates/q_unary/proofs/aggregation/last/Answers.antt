use Rattle.std.proofs.Common.{◌≡◌, ◌+◌, ◌-◌, Some, arith, length, ap, sym, slice_get, unwrap_or}
use Rattle.std.proofs.lemmas.Result.{IfOk-weaker}
use Rattle.q_values.specs.declared.atom.Atom.{Atom}
use Rattle.q_verbs.specs.Aggregates.{last_of, null_of}
use Rattle.q_unary.proofs.AggregateLemmas.{last_at}
use Rattle.q_unary.proofs.aggregation.last.Goals as goal

pub returns-else-len-eq0-clause-value : goal.returns-else-len-eq0-clause-value
returns-else-len-eq0-clause-value c =
    let place = c.len-else-len-eq0.result - 1 in
    let xs = c.args.x.now.atoms in
    let at_end : place + 1 ≡ length xs = omega arith in
    IfOk-weaker c.item_at.result (λ (atom : Atom). slice_get xs place ≡ Some atom) (λ atom. atom ≡ unwrap_or (last_of xs) (null_of c.args.x.now.kind)) (λ atom is. ap (λ x. unwrap_or x (null_of c.args.x.now.kind)) (sym (last_at xs place atom at_end is))) c.item_at.ensures.value
