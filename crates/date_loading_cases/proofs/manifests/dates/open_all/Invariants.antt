use Rattle.outside_mem.specs.MemDisk.{shown_by}
use Rattle.gated_journal.specs.Journal.{HasLastGate}
use Rattle.date_loading_cases.proofs.manifests.dates.open_all.Given as goal

abbrev pub invariant-loop-i : goal.invariant-loop-i
invariant-loop-i l = HasLastGate (shown_by l.disk) l.manifest.journal
