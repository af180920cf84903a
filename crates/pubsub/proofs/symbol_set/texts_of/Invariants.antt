use Rattle.std.proofs.Common.{◌≡◌, ℕ, List, take}
use Rattle.std.specs.List.{list_any}
use Rattle.std.specs.Str.{bytes_eq}
use Rattle.pubsub.specs.SymbolSet.{has_text}
use Rattle.pubsub.proofs.symbol_set.texts_of.Given as goal

abbrev pub invariant-loop-i : goal.invariant-loop-i
invariant-loop-i l = (bytes : List ℕ) → has_text l.texts bytes ≡ list_any (bytes_eq bytes) (take l.i l.symbols)
