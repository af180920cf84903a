use Rattle.std.proofs.Common.{◌≡◌, ◌∷◌, take}
use Rattle.std.specs.Prelude.{codes}
use Rattle.std.specs.List.{filter}
use Rattle.gateway.specs.Needs.{is_wanted}
use Rattle.gateway.proofs.table.names_of.Given as goal

abbrev pub invariant-loop-i : goal.invariant-loop-i
invariant-loop-i l = l.names ≡ filter (is_wanted l.wanted) (codes "date" ∷ codes "i" ∷ take l.i l.table.names)
