use Rattle.std.proofs.Common.{sym}
use Rattle.std.proofs.lemmas.Option.{get_or_from_slice_get}
use Rattle.day_rows.proofs.PieceLemmas.{got-none}
use Rattle.day_rows.proofs.store.Store.next.Goals as goal

pub returns-in-Some : goal.returns-in-Some
returns-in-Some c = sym (get_or_from_slice_get c.args.self.now.blocks c.args.index c.in-Some.block.now c.args.self.now.last (sym c.in-Some.ensures))

pub returns-in-None : goal.returns-in-None
returns-in-None c = sym (got-none c.args.self.now.blocks c.args.index c.args.self.now.last (sym c.in-None.ensures))
