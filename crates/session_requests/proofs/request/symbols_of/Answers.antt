use Rattle.session_requests.proofs.RequestLemmas.{name_taken}
use Rattle.session_requests.proofs.request.symbols_of.Goals as goal

pub loop-i-preserved : goal.loop-i-preserved
loop-i-preserved c =
    name_taken c.args.names.now c.loop-i.symbols c.push.new.self c.loop-i.i c.at.result.now c.bytes.result.now c.loop-i.invariant c.at.ensures c.bytes.ensures.value
    c.in_ok-push.ensures.ok
