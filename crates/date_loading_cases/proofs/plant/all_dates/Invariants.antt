use Rattle.outside_mem.specs.MemDisk.{shown_by}
use Rattle.date_loading.specs.Loading.{HasGates}
use Rattle.date_loading_cases.proofs.plant.all_dates.Given as goal

abbrev pub invariant-loop : goal.invariant-loop
invariant-loop l = HasGates (shown_by l.disk) l.loading
