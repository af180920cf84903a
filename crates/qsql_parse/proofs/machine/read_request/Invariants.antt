use Rattle.std.proofs.Common.{◌≡◌, length, map}
use Rattle.qsql_tokens.specs.Views.{placed_of}
use Rattle.qsql_parse.specs.States.{state_of}
use Rattle.qsql_parse.specs.Machine.{start}
use Rattle.qsql_parse.specs.Reading.{reading}
use Rattle.qsql_parse.proofs.machine.read_request.Given as goal

abbrev pub invariant-loop-placed : goal.invariant-loop-placed
invariant-loop-placed l = reading (state_of l.state) (map placed_of l.tokens.items) l.end ≡ reading start (map placed_of l.fn.tokens.items) l.end

abbrev pub decreases-loop-placed : goal.decreases-loop-placed
decreases-loop-placed l = length l.tokens.items
