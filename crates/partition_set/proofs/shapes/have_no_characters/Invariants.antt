use Rattle.std.proofs.Common.{◌≢◌, take}
use Rattle.std.specs.List.{AllByRecursion}
use Rattle.q_values.specs.declared.kind.Kind.TheVariants as k
use Rattle.partition_set.proofs.shapes.have_no_characters.Given as goal

abbrev pub invariant-loop-kind : goal.invariant-loop-kind
invariant-loop-kind l = AllByRecursion (λ kind. kind ≢ k.Character) (take l.kind-index l.kinds)
