use Rattle.std.proofs.Common.{◌≡◌, ℕ, List, drop}
use Rattle.std.specs.List.{list_any}
use Rattle.std.specs.Str.{bytes_eq}
use Rattle.asof_join.specs.Asof.{added_names}
use Rattle.asof_join.proofs.checking.any_added.Given as goal

abbrev pub invariant-loop-name : goal.invariant-loop-name
invariant-loop-name l = list_any (λ (name : List ℕ). list_any (bytes_eq name) l.left) (added_names l.keys (drop l.name-index l.right)) ≡ list_any (λ (name : List ℕ). list_any (bytes_eq name) l.left) (added_names l.keys l.right)
