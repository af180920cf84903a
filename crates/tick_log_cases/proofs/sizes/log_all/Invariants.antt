use Rattle.std.proofs.Common.{◌≡◌}
use Rattle.gated_journal.specs.Journal.{HasLastGate}
use Rattle.gated_journal.specs.declared.state.State.TheVariants.{Clean}
use Rattle.outside_mem.specs.MemDisk.{shown_by}
use Rattle.tick_log_cases.proofs.sizes.log_all.Given as goal

abbrev pub invariant-loop : goal.invariant-loop
invariant-loop g l = record { clean : l.journal.state ≡ Clean; has_gate : HasLastGate (shown_by l.disk) l.journal }
