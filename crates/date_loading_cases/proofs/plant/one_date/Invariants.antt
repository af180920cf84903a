use Rattle.outside_mem.specs.MemDisk.{shown_by}
use Rattle.date_logs.specs.Stores.{IsReady}
use Rattle.date_loading_cases.proofs.plant.one_date.Given as goal

abbrev pub invariant-loop : goal.invariant-loop
invariant-loop g l = IsReady (shown_by l.disk) l.logs
