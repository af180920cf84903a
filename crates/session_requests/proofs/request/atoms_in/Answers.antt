use Rattle.std.proofs.Common.{◌∙◌, ap, map}
use Rattle.q_values.specs.Tree.{tree}
use Rattle.session_requests.proofs.RequestLemmas.{atoms_step}
use Rattle.session_requests.proofs.request.atoms_in.Goals as goal

pub loop-i-preserved : goal.loop-i-preserved
loop-i-preserved c = ap (λ l. map tree l) c.in_ok-push.ensures.items ∙ atoms_step c.loop-i.atoms.items c.in_ok-at.field-0 c.args.vector.now.atoms c.loop-i.i c.loop-i.invariant c.in_ok-at.ensures
