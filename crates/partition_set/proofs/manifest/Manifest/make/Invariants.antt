use Rattle.std.proofs.Common.{◌≡◌, ◌≢◌, ℕ, None, map, take, IsTrue}
use Rattle.gated_journal.specs.Journal.{HasLastGate}
use Rattle.partition_set.specs.Manifest.{Keeps}
use Rattle.partition_set.specs.declared.record.ManifestRecord.TheVariants as m
use Rattle.gated_journal.specs.declared.state.State.TheVariants as s
use Rattle.partition_set.proofs.manifest.Manifest.make.Given as goal

abbrev pub invariant-loop-i : goal.invariant-loop-i
invariant-loop-i g l =
    (l.manifest.records ≡ map m.Shape (take l.i l.schema))
    × Keeps (g.D.Disk.shown l.disk) l.manifest None
    × (l.manifest.journal.state ≡ s.Clean)
    × (l.manifest.journal.file ≡ 0)
    × ((g.D.Disk.shown l.disk).faults ≡ (g.D.Disk.shown l.fn.disk).faults)
    × ((g.D.Disk.shown l.disk).tells ≡ (g.D.Disk.shown l.fn.disk).tells)
    × (IsTrue (g.D.Disk.shown l.fn.disk).tells → (k : ℕ) → k ≢ 0 → (g.D.Disk.shown l.disk).now k ≡ (g.D.Disk.shown l.fn.disk).now k)
    × HasLastGate (g.D.Disk.shown l.disk) l.manifest.journal
