use Rattle.std.proofs.Common.{arith, sym, subst, ◌∷◌, [], map, List, ℕ}
use Rattle.std.proofs.lemmas.List.{length-append}
use Rattle.q_values.specs.Order.{IsOrder, atom_cmp}
use Rattle.day_rows.specs.Day.{arrived}
use Rattle.day_rows.specs.Rows.{symbol_of}
use Rattle.day_rows.proofs.DayLemmas.{each-push}
use Rattle.day_rows.proofs.closed_day.order_tables.Goals as goal

pub loop-table-preserved : goal.loop-table-preserved
loop-table-preserved c =
    let day = c.args.day.now.day in
    let orders = c.loop-table.orders.items in
    let found = c.in_ok-found.found in
    let here = subst (λ n. IsOrder atom_cmp (map symbol_of (arrived day n)) found) (sym c.loop-table.invariant.count) c.in_ok-found.ensures in
    rw c.in_ok-push.ensures.items (record {
      count = omega (arith, length-append orders (found ∷ []), c.loop-table.invariant.count);
      each = each-push (λ t (x : List ℕ). IsOrder atom_cmp (map symbol_of (arrived day t)) x) orders found c.loop-table.invariant.each here;
    })
