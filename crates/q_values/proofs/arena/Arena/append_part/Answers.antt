use Rattle.std.proofs.Common.{arith, refl, ◌≡◌, ◌<◌, ◌-◌, length, ap, take, drop, ◌++◌, ◌∙◌}
use Rattle.std.proofs.lemmas.List.Elements.{All-append, All-take, All-drop}
use Rattle.std.proofs.lemmas.List.{take_rest}
use Rattle.q_values.specs.Arena.{moved, lowered}
use Rattle.q_values.proofs.ArenaLemmas.{base_before, cut-append, ascends-append, length-cut}
use Rattle.q_values.proofs.arena.Arena.append_part.Goals as goal

pub bounds_of-start-requires-clause-within : goal.bounds_of-start-requires-clause-within
bounds_of-start-requires-clause-within c =
    rw (c.deref-2.ensures.value, ← length-cut 0 c.other.inside.bytes.items c.other.inside.ends.items, c.other.view_is) c.requires

pub invariant_of-self-2 : goal.invariant_of-self-2
invariant_of-self-2 c =
    let start = c.bounds_of-start.result.0 in
    let end = c.bounds_of-start.result.1 in
    let own = c.self.inside.bytes.items in
    let count_is : c.len.result ≡ length own = omega (arith, c.self.inside.bytes.ok) in
    let base_is = base_before _ _ _ c.in_ok-last.ensures ∙ count_is in
    let bytes_are : c.extend_from_slice.new.self.items ≡ own ++ take (end - start) (drop start c.other.inside.bytes.items) =
    c.in_ok-extend_from_slice.ensures.items ∙ ap (λ b. own ++ take (end - start) (drop start b)) c.deref-3.ensures.value in
    let ends_are : c.push_moved.new.ends.items ≡ c.self.inside.ends.items ++ moved (length own) (lowered start (take c.args.n (drop c.args.from c.other.inside.ends.items))) =
    c.push_moved.ensures ∙ rw (c.reserve.ensures.items, c.deref-4.ensures.value, take_rest c.other.inside.ends.items c.args.from, base_is) refl in
    let part = rw (c.deref.ensures.value, c.deref-2.ensures.value) at c.bounds_of-start.ensures in
    rw (bytes_are, ends_are) (record {
      no_nul = All-append (λ b. 0 < b) _ _ c.self.invariant.no_nul (All-take (λ b. 0 < b) _ _ (All-drop (λ b. 0 < b) _ _ c.other.invariant.no_nul));
      ascends = ascends-append 0 _ _ _ _ c.self.invariant.ascends part.ascends;
    })

pub returns-clause-ok : goal.returns-clause-ok
returns-clause-ok c =
    let start = c.bounds_of-start.result.0 in
    let end = c.bounds_of-start.result.1 in
    let own = c.self.inside.bytes.items in
    let count_is : c.len.result ≡ length own = omega (arith, c.self.inside.bytes.ok) in
    let base_is = base_before _ _ _ c.in_ok-last.ensures ∙ count_is in
    let bytes_are : c.extend_from_slice.new.self.items ≡ own ++ take (end - start) (drop start c.other.inside.bytes.items) =
    c.in_ok-extend_from_slice.ensures.items ∙ ap (λ b. own ++ take (end - start) (drop start b)) c.deref-3.ensures.value in
    let ends_are : c.push_moved.new.ends.items ≡ c.self.inside.ends.items ++ moved (length own) (lowered start (take c.args.n (drop c.args.from c.other.inside.ends.items))) =
    c.push_moved.ensures ∙ rw (c.reserve.ensures.items, c.deref-4.ensures.value, take_rest c.other.inside.ends.items c.args.from, base_is) refl in
    let part = rw (c.deref.ensures.value, c.deref-2.ensures.value) at c.bounds_of-start.ensures in
    rw (bytes_are, ends_are, ← c.self.view_is, ← c.other.view_is, ← part.value) (cut-append 0 _ _ _ _ c.self.invariant.ascends)
