use Rattle.std.proofs.Common.{◌≡◌}
use Rattle.gated_journal.specs.Journal.{HasLastGate}
use Rattle.gated_journal.specs.declared.state.State.TheVariants.{Clean}
use Rattle.outside_real_cases.proofs.journal.append_all.Given as goal

abbrev pub invariant-loop : goal.invariant-loop
invariant-loop g l = record { clean : l.journal.state ≡ Clean; has_gate : HasLastGate (g.D.Disk.shown l.disk) l.journal }
