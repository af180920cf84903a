use Rattle.std.proofs.lemmas.Result.{err_from_is_err_and}
use Rattle.q_values.specs.Tree.{tree, trees}
use Rattle.ipc_codec.specs.Reading.{items_at, object_at}
use Rattle.ipc_codec.proofs.FrontLemmas.{Stops-from, items_at-starts, items_at-more, items_at-ends, items_at-done}
use Rattle.ipc_codec.proofs.reading.+objects.Goals as goal
use Rattle.ipc_codec.proofs.reading.+objects.Goals.{items_in-then-i-places+in_ok-take-2, items_in-else-i-places}
use Rattle.ipc_codec.proofs.MemoryLemmas.{among-push}
use Rattle.std.proofs.Common.{◌≡◌, ◌-◌, arith}

pub items_in-returns-in_err-item-clause-found : goal.items_in-returns-in_err-item-clause-found
items_in-returns-in_err-item-clause-found t c =
    let p = err_from_is_err_and c.from_residual-in_err-item.result c.from_residual-in_err-item.ensures.1 in
    let object = object_at c.args.room c.args.order in
    let total = items_at object c.args.count c.args.bytes.now in
    rw (p.1, p.2) (Stops-from c.in_err-item.field-0.0 (object c.loop-i.rest.now) total (λ f e. items_at-ends object (trees c.loop-i.items) c.args.count c.loop-i.i c.loop-i.rest.now f total c.loop-i-test.true e c.loop-i.invariant.found) c.in_err-item.ensures.found)

pub items_in-returns-clause-found : goal.items_in-returns-clause-found
items_in-returns-clause-found t c =
    let object = object_at c.args.room c.args.order in
    items_at-done object (trees c.loop-i.items) c.args.count c.loop-i.i c.loop-i.rest.now (items_at object c.args.count c.args.bytes.now) c.loop-i-test.false c.loop-i.invariant.found

pub items_in-loop-i-init : goal.items_in-loop-i-init
items_in-loop-i-init t c =
    let all : c.args.count - 0 ≡ c.args.count = omega arith in
    record {
      found = rw (c.in_ok-items.ensures, all) (items_at-starts (object_at c.args.room c.args.order) c.args.count c.args.bytes.now);
      few = rw c.in_ok-items.ensures (omega (arith, c.in_ok-take.ensures.ok));
    }

pub items_in-loop-i-preserved : goal.items_in-loop-i-preserved
items_in-loop-i-preserved t c =
    let object = object_at c.args.room c.args.order in
    let more = among-push (trees c.loop-i.items) (tree c.in_ok-item.item) in
    record {
      found = rw c.in_ok-push.ensures.ok (items_at-more object (trees c.loop-i.items) c.args.count c.loop-i.i c.loop-i.rest.now (tree c.in_ok-item.item) c.in_ok-item.after.now (items_at object c.args.count c.args.bytes.now) c.loop-i-test.true c.in_ok-item.ensures.found c.loop-i.invariant.found);
      few = rw c.in_ok-push.ensures.ok (elim c.if-i-places.branch [
        | items_in-then-i-places+in_ok-take-2 w ↦ rw (w.budget-is, more) (omega (arith, w.in_ok-take-2.ensures.ok, w.if-i-places, c.in_ok-item.ensures.few, c.loop-i.invariant.few))
        | items_in-else-i-places w ↦ rw (w.budget-is, more) (omega (arith, w.if-i-places, c.in_ok-item.ensures.few, c.loop-i.invariant.few))
      ]);
    }
