use Rattle.outside_mem.specs.MemDisk.{shown_by}
use Rattle.date_logs.specs.Stores.{IsReady}
use Rattle.date_loading_cases.proofs.logs.script.play.Given as goal

abbrev pub invariant-loop : goal.invariant-loop
invariant-loop g l = IsReady (shown_by l.disk) l.logs

abbrev pub invariant-loop-place : goal.invariant-loop-place
invariant-loop-place g l = IsReady (shown_by l.disk) l.logs
