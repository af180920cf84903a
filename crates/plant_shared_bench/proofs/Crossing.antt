-- A disk in memory may go to another thread. Each layer is shown by itself, since a `search` through all of them runs out of
-- steps.
use denote.Param.Send.{IsSend, sendable}
use Rattle.std.proofs.Crossing.{crosses}
use Rattle.std.proofs.MapsCrossing.{BTreeMap-send}
use Rattle.outside_mem.specs.contracts.calling.Calling as Calling
use Rattle.outside_mem.specs.contracts.files.Files as Files
use Rattle.outside_mem.specs.contracts.files.Numbered as Numbered
use Rattle.ghost_history.specs.contracts.history.History as History
use Rattle.outside_mem.specs.contracts.mem_disk.MemDisk as MemDisk
use Rattle.outside_mem.specs.contracts.mem_file.MemFile as MemFile
use Rattle.outside_mem.specs.contracts.tape.Tape as Tape

MemFile-send : IsSend MemFile.the_row
MemFile-send = search (sendable, crosses) depth 60 fits 20000

Numbered-send : IsSend Numbered.the_row
Numbered-send = let a = MemFile-send in search (sendable, crosses) depth 60 fits 20000

Files-send : IsSend Files.the_row
Files-send = let a = Numbered-send in search (BTreeMap-send, sendable, crosses) depth 60 fits 20000

History-send : IsSend (History.the_row Files.the_row)
History-send = search (sendable, crosses) depth 60 fits 20000

Tape-send : IsSend (Tape.the_row Calling.the_row)
Tape-send = search (sendable, crosses) depth 60 fits 20000

pub MemDisk-send : IsSend MemDisk.the_row
MemDisk-send =
    let a = Files-send in
    let b = History-send in
    let c = Tape-send in
    search (sendable, crosses) depth 60 fits 20000
