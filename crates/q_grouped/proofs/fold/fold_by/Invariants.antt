use Rattle.std.proofs.Common.{◌≡◌, IsTrue, fold, take, All, length}
use Rattle.q_grouped.specs.Grouped.{by_group}
use Rattle.q_grouped.proofs.fold.fold_by.Given as goal

abbrev pub invariant-loop-row : goal.invariant-loop-row
invariant-loop-row g l = record {
  size : length l.states.items ≡ l.groups;
  states : l.states.items ≡ by_group (fold g.F.Fold.next l.fn.start) l.groups (take l.row l.codes) (take l.row (g.I.Items.list l.items));
  fits : All (λ x. IsTrue (g.F.Fold.fits x)) (take l.row (g.I.Items.list l.items));
}
