use Rattle.std.proofs.Common.{◌≡◌, take}
use Rattle.std.specs.List.{list_any}
use Rattle.std.specs.Ordering.{is_eq}
use Rattle.q_verbs.specs.Numbers.{numeric, worth_cmp}
use Rattle.q_matching.proofs.among_numbers.is_one_of.Given as goal

abbrev pub invariant-loop-item : goal.invariant-loop-item
invariant-loop-item g l = l.found ≡ list_any (λ y. is_eq (worth_cmp (numeric (g.T.Number.number l.x)) (numeric (g.T.Number.number y)))) (take l.item-index l.items)
