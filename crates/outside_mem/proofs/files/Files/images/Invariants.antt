use Rattle.std.proofs.Common.{take}
use Rattle.outside_mem.proofs.FileLemmas.{AllLeft}
use Rattle.outside_mem.proofs.files.Files.images.Given as goal

abbrev pub invariant-loop-entry : goal.invariant-loop-entry
invariant-loop-entry l = AllLeft l.leaving (take l.entry-index l.self) l.entries.items
