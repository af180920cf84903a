use Rattle.std.proofs.Common.{◌≡◌, ◌∙◌, ◌++◌, ◌∷◌, [], ap, sym, take, drop, append_assoc}
use Rattle.std.specs.Vec.Iter.{into_iter_items}
use Rattle.plant_memory.proofs.TailLemmas.{next-moved}
use Rattle.plant_memory.proofs.weaving.move_first.Goals as goal

pub loop-preserved : goal.loop-preserved
loop-preserved c =
    let from = into_iter_items c.args.updates.now in
    let rest = into_iter_items c.next.new.self in
    let is : drop c.loop.counter from ≡ c.in-Some.update ∷ rest = sym c.loop.invariant.rest ∙ c.in-Some.ensures.items in
    let h = next-moved from rest c.loop.counter c.in-Some.update is in
    record {
      moved = c.in_ok-push.ensures.items ∙ ap (λ l. l ++ c.in-Some.update ∷ []) c.loop.invariant.moved ∙ append_assoc c.args.entries.now.items (take c.loop.counter from) (c.in-Some.update ∷ []) ∙ ap (λ l. c.args.entries.now.items ++ l) (sym h.0);
      rest = sym h.1;
    }
