use Rattle.std.proofs.Common.{arith, ap, ◌∙◌, sym}
use Rattle.outside_mem.specs.MemDisk.{MemDiskView}
use Rattle.outside_mem.proofs.DiskLemmas.{ok_of, torn_changes}
use Rattle.outside_mem.proofs.mem_disk.MemDiskDisk.write_at.Goals as goal

pub returns-clause-changes : goal.returns-clause-changes
returns-clause-changes c tells =
    let old = c.args.self.now in
    let new = c.fault-2.new.self in
    let same = c.self.view_is ∙ c.next-calling.ensures.same in
    torn_changes old new c.self.inside.files c.self.inside.past c.spoil.new.self c.args.file c.args.at c.args.bytes.now c.part_of-part.result.now c.fault-2.result
    (ap (λ (d : MemDiskView). d.files) same) (ap (λ (d : MemDiskView). d.past) same)
    (ap (λ (d : MemDiskView). d.files) c.fault-2.ensures)
    (ap (λ (d : MemDiskView). d.past) c.fault-2.ensures ∙ c.push.ensures)
    (omega (arith, c.requires tells)) c.part_of-part.ensures.short
    (ok_of c.spoil.result _ (sym c.if-is_err-2.ensures.value) c.spoil.ensures.ok)
