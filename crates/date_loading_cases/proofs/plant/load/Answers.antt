use Rattle.outside_mem.specs.MemDisk.{shown_by}
use Rattle.date_loading_cases.proofs.plant.load.Goals as goal

pub returns-in-Dated : goal.returns-in-Dated
returns-in-Dated c = c.in-Dated.ensures.finished.ready (shown_by c.all_dates.new.disk) c.in_ok-founds.ensures.gates
