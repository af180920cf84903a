use Rattle.std.proofs.Common.{◌≡◌, ℕ, List, take}
use Rattle.std.specs.HashSet.{contains}
use Rattle.std.specs.List.{list_any}
use Rattle.std.specs.Str.{bytes_eq}
use Rattle.pubsub.proofs.symbol_set.short_set.Given as goal

abbrev pub invariant-loop-item : goal.invariant-loop-item
invariant-loop-item l = (bytes : List ℕ) → contains bytes_eq l.set bytes ≡ list_any (bytes_eq bytes) (take l.item-index l.items)
