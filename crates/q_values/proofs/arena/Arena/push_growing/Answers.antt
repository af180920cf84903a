use Rattle.std.proofs.Common.{arith, ◌≡◌, ◌<◌, length}
use Rattle.std.proofs.lemmas.List.Elements.{All-append}
use Rattle.q_values.proofs.ArenaLemmas.{cut-push, ascends-push}
use Rattle.q_values.proofs.arena.Arena.push_growing.Goals as goal

pub invariant_of-self-2 : goal.invariant_of-self-2
invariant_of-self-2 c =
    let count_is : c.len.result ≡ length c.self.inside.bytes.items = omega (arith, c.self.inside.bytes.ok) in
    rw (c.in_ok-extend_from_slice.ensures.items, c.push_reserved.ensures.items, c.reserve.ensures.items, c.in_ok-end.ensures, count_is) (record {
      no_nul = All-append (λ b. 0 < b) _ _ c.self.invariant.no_nul c.requires;
      ascends = ascends-push _ _ _ c.self.invariant.ascends;
    })

pub returns-clause-ok : goal.returns-clause-ok
returns-clause-ok c =
    let count_is : c.len.result ≡ length c.self.inside.bytes.items = omega (arith, c.self.inside.bytes.ok) in
    rw (c.in_ok-extend_from_slice.ensures.items, c.push_reserved.ensures.items, c.reserve.ensures.items, c.in_ok-end.ensures, count_is, ← c.self.view_is) (cut-push _ _ _ c.self.invariant.ascends)
