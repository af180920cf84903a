use Rattle.std.proofs.Common.{arith, ◌≡◌, ◌≤◌, ◌<◌, ◌∙◌, ap, length}
use Rattle.std.proofs.lemmas.List.Elements.{All-take}
use Rattle.q_values.specs.Arena.{start_of}
use Rattle.q_values.proofs.PartLemmas.{truncated, ascends-truncated}
use Rattle.q_values.proofs.ArenaLemmas.{length-cut}
use Rattle.q_values.proofs.arena.Arena.truncate.Goals as goal

pub start_of_symbol-end-requires : goal.start_of_symbol-end-requires
start_of_symbol-end-requires c =
    omega (arith, c.if-n-len.true, c.len.ensures, ap length c.self.view_is, length-cut 0 c.self.inside.bytes.items c.self.inside.ends.items, ap length c.deref.ensures.value)

pub invariant_of-self : goal.invariant_of-self
invariant_of-self c =
    let n_in : c.args.n ≤ length c.self.inside.ends.items = omega (arith, c.if-n-len.true, c.len.ensures, ap length c.self.view_is, length-cut 0 c.self.inside.bytes.items c.self.inside.ends.items) in
    let end_is : c.start_of_symbol-end.result ≡ start_of 0 c.self.inside.ends.items c.args.n = c.start_of_symbol-end.ensures ∙ ap (λ l. start_of 0 l c.args.n) c.deref.ensures.value in
    rw (c.truncate.ensures.items, c.truncate-then-n-len.ensures.items) (record {
      no_nul = All-take (λ b. 0 < b) _ _ c.self.invariant.no_nul;
      ascends = ascends-truncated _ _ _ _ n_in end_is c.self.invariant.ascends;
    })

pub returns-then-n-len : goal.returns-then-n-len
returns-then-n-len c =
    let n_in : c.args.n ≤ length c.self.inside.ends.items = omega (arith, c.if-n-len.true, c.len.ensures, ap length c.self.view_is, length-cut 0 c.self.inside.bytes.items c.self.inside.ends.items) in
    let end_is : c.start_of_symbol-end.result ≡ start_of 0 c.self.inside.ends.items c.args.n = c.start_of_symbol-end.ensures ∙ ap (λ l. start_of 0 l c.args.n) c.deref.ensures.value in
    rw (c.truncate.ensures.items, c.truncate-then-n-len.ensures.items, ← c.self.view_is) (truncated _ _ _ _ n_in end_is c.self.invariant.ascends)
