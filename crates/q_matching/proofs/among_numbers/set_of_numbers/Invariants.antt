use Rattle.std.proofs.Common.{◌≡◌, ℤ, Option, take}
use Rattle.std.specs.List.{list_any}
use Rattle.std.specs.HashSet.{contains}
use Rattle.std.specs.Ordering.{int_eq, is_eq}
use Rattle.q_matching.specs.Keys.{has_number}
use Rattle.q_verbs.specs.Numbers.{numeric, worth_cmp}
use Rattle.q_matching.proofs.among_numbers.set_of_numbers.Given as goal

abbrev pub invariant-loop-item : goal.invariant-loop-item
invariant-loop-item g l = (n : Option ℤ) → has_number (contains int_eq l.set) n ≡ list_any (λ y. is_eq (worth_cmp (numeric n) (numeric (g.T.Number.number y)))) (take l.item-index l.items)
