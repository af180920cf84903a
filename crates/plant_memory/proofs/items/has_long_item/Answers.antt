use Rattle.std.proofs.Common.{sym}
use Rattle.std.specs.List.{list_any}
use Rattle.plant_memory.specs.Items.{is_long_symbol, atoms_of}
use Rattle.plant_memory.proofs.ItemsLemmas.{any_item_at, any_item_more}
use Rattle.plant_memory.proofs.items.has_long_item.Goals as goal

pub returns-then-is_long_item : goal.returns-then-is_long_item
returns-then-is_long_item c = any_item_at (λ item. list_any (is_long_symbol c.args.limit) (atoms_of item)) _ _ _ c.loop-item-test.true c.item-item.is (sym c.if-is_long_item.ensures)

pub loop-item-preserved : goal.loop-item-preserved
loop-item-preserved c = any_item_more (λ item. list_any (is_long_symbol c.args.limit) (atoms_of item)) _ _ _ c.loop-item-test.true c.item-item.is c.loop-item.invariant (sym c.if-is_long_item.ensures)
