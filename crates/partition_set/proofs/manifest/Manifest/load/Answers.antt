use Rattle.std.proofs.Common.{◌≡◌, subst, sym, inl}
use Rattle.partition_set.specs.Manifest.{IsDamaged}
use Rattle.partition_set.proofs.manifest.Manifest.load.Goals as goal

pub returns-in-Err-Corrupt-clause-bad : goal.returns-in-Err-Corrupt-clause-bad
returns-in-Err-Corrupt-clause-bad g c = λ tells.
    subst (IsDamaged ((g.D.Disk.shown c.args.disk.now).now 0).bytes) (sym c.in-Err-Corrupt.bytes-is)
    (inl (c.in-Err-Corrupt._records, (rw c.in-Err-Corrupt.field-0-is at c.in-Err-Corrupt.ensures.corrupt) tells))
