use Rattle.std.proofs.Common.{arith, ◌≡◌, ◌<◌, length}
use Rattle.std.proofs.lemmas.List.Elements.{All-append}
use Rattle.q_values.proofs.ArenaLemmas.{cut-push, ascends-push}
use Rattle.q_values.proofs.arena.Arena.push.Goals as goal

pub invariant_of-self : goal.invariant_of-self
invariant_of-self c =
    let start_is : c.len-start.result ≡ length c.self.inside.bytes.items = omega (arith, c.self.inside.bytes.ok) in
    rw (c.append_short.ensures, c.push_reserved.ensures.items, start_is) (record {
      no_nul = All-append (λ b. 0 < b) _ _ c.self.invariant.no_nul c.requires;
      ascends = ascends-push _ _ _ c.self.invariant.ascends;
    })

pub returns-clause-ok : goal.returns-clause-ok
returns-clause-ok c =
    let start_is : c.len-start.result ≡ length c.self.inside.bytes.items = omega (arith, c.self.inside.bytes.ok) in
    rw (c.append_short.ensures, c.push_reserved.ensures.items, start_is, ← c.self.view_is) (cut-push _ _ _ c.self.invariant.ascends)
