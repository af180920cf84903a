use Rattle.std.proofs.Common.{◌≡◌, ◌≤◌, ℕ, List, length, take}
use Rattle.std.specs.List.{list_any}
use Rattle.std.specs.Str.{bytes_eq}
use Rattle.pubsub.proofs.symbol_set.short_items.Given as goal

abbrev pub invariant-loop-i : goal.invariant-loop-i
invariant-loop-i l = (bytes : List ℕ) → length bytes ≤ 8 → list_any (bytes_eq bytes) l.items.items ≡ list_any (bytes_eq bytes) (take l.i l.symbols)
