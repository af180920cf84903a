use Rattle.std.proofs.Common.{take}
use Rattle.std.specs.List.{AllByRecursion}
use Rattle.tick_log.specs.Chunk.{HasShortSymbols}
use Rattle.tick_log.proofs.columns.have_short_symbols.Given as goal

abbrev pub invariant-loop-column : goal.invariant-loop-column
invariant-loop-column l = AllByRecursion HasShortSymbols (take l.column-index l.columns)
