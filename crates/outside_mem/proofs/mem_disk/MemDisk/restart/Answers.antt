use Rattle.std.proofs.Common.{subst}
use Rattle.outside_mem.specs.MemFile.{file_in}
use Rattle.outside_mem.specs.MemDisk.{MemDiskView, AreLeft}
use Rattle.outside_mem.proofs.mem_disk.MemDisk.restart.Goals as goal

pub returns-clause-left : goal.returns-clause-left
returns-clause-left c = subst (λ (d : MemDiskView). AreLeft c.args.leaving (file_in d.files) (file_in c.in_ok-images.field-0)) c.self.view_is c.in_ok-images.ensures
