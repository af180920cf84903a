use Rattle.std.proofs.Common.{◌≡◌, ◌+◌, ◌<◌, ◌++◌, take}
use Rattle.day_rows.specs.Blocks.{updates_in, Grew, IsStore}
use Rattle.day_rows.specs.Day.{total_rows}
use Rattle.day_rows.proofs.store.Store.extend.Given as goal

abbrev pub invariant-loop-entry : goal.invariant-loop-entry
invariant-loop-entry l = record {
  store : IsStore l.self.blocks l.self.last l.self.held;
  grew : Grew l.fn.self.blocks l.fn.self.last l.self.blocks l.self.last;
  so_far : updates_in l.self.blocks l.self.last ≡ updates_in l.fn.self.blocks l.fn.self.last ++ take l.entry-index l.entries;
  grows : total_rows l.self.last < 1024;
  counted : l.self.held ≡ l.fn.self.held + l.entry-index;
}
