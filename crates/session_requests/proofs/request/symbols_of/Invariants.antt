use Rattle.std.proofs.Common.{◌≡◌, take}
use Rattle.session_requests.proofs.request.symbols_of.Given as goal

abbrev pub invariant-loop-i : goal.invariant-loop-i
invariant-loop-i l = l.symbols ≡ take l.i l.names
