use Rattle.std.proofs.Common.{◌≡◌, List, ℕ, Some, map, take, flat_map, ap, sym, ◌∙◌, subst, nat_cmp}
use Rattle.std.specs.Prelude.{nat_eq, IfSome}
use Rattle.std.specs.Cmp.Lexicographic.{slice_cmp}
use lib.Pointwise.{pointwise}
use Rattle.q_groups.specs.Groups.{AreGroups}
use Rattle.q_groups.proofs.AtomLemmas.{groups_of_symbols}
use Rattle.q_groups.proofs.column.grouped_symbols.Goals as goal

pub returns-in_ok-groups-in-Some : goal.returns-in_ok-groups-in-Some
returns-in_ok-groups-in-Some c =
    let groups = c.in_ok-groups-in-Some.groups in
    let known : IfSome (Some c.in-Some.pieces) (λ pieces. flat_map (λ piece. piece.now) pieces.items ≡ take c.args.rows (flat_map (λ part. part.now) c.args.parts.now)) = rw c.in-Some.is at c.in_ok-pieces.ensures in
    groups_of_symbols (take c.args.rows (flat_map (λ part. part.now) c.args.parts.now)) groups
    (subst (λ (l : List (List ℕ)). AreGroups (pointwise nat_eq) (slice_cmp nat_cmp) l groups) (ap (flat_map (λ piece. piece.now)) c.deref.ensures.value ∙ known) c.in_ok-groups-in-Some.ensures)
