use Rattle.std.proofs.Common.{◌≡◌, ◌≢◌, ℕ, ◌+◌, ◌<◌, ◌≤◌, length, get_or, sym, ap, ◌∙◌, arith, subst, None, Option, Greater}
use Rattle.std.proofs.lemmas.List.{length-set, get_or_default}
use Rattle.asof_join.specs.Lines.{pair_cmp, pair_at, order_in, numbered, last_seen, code_at, IsFound}
use Rattle.asof_join.proofs.FoundLemmas.{row_in, size_of_order}
use Rattle.asof_join.proofs.MergeLemmas.{passed_next, found_next, found_more, all_found}
use Rattle.asof_join.proofs.merge.rows_found.Goals as goal

pub row_at-row-requires-clause-order : goal.row_at-row-requires-clause-order
row_at-row-requires-clause-order c =
    let left = c.args.left.now in
    subst (λ m. length (order_in m c.in_ok-of_left.of_left) ≡ m) (sym c.len-in-loop-place.ensures)
    (size_of_order left.by_group (numbered left) (numbered left) (order_in (length left.numbers.now) c.in_ok-of_left.of_left) left.even c.in_ok-of_left.ensures)

pub pair-requires : goal.pair-requires
pair-requires c =
    let left = c.args.left.now in
    let rows = order_in (length left.numbers.now) c.in_ok-of_left.of_left in
    let place = c.loop-place.place in
    let low : place < length left.numbers.now = omega (arith, c.loop-place-test.true, c.len-place-end.ensures) in
    let row_is : c.row_at-row.result ≡ get_or rows place 0 = c.row_at-row.ensures ∙ ap (λ m. get_or (order_in m c.in_ok-of_left.of_left) place 0) c.len-in-loop-place.ensures in
    let row_low = row_in left.by_group (numbered left) (numbered left) rows left.even c.in_ok-of_left.ensures place low in
    omega (arith, row_is, row_low)

pub code-requires : goal.code-requires
code-requires c =
    let left = c.args.left.now in
    let rows = order_in (length left.numbers.now) c.in_ok-of_left.of_left in
    let place = c.loop-place.place in
    let low : place < length left.numbers.now = omega (arith, c.loop-place-test.true, c.len-place-end.ensures) in
    let row_is : c.row_at-row.result ≡ get_or rows place 0 = c.row_at-row.ensures ∙ ap (λ m. get_or (order_in m c.in_ok-of_left.of_left) place 0) c.len-in-loop-place.ensures in
    let row_low = row_in left.by_group (numbered left) (numbered left) rows left.even c.in_ok-of_left.ensures place low in
    omega (arith, row_is, row_low)

pub index-requires : goal.index-requires
index-requires c =
    let left = c.args.left.now in
    let rows = order_in (length left.numbers.now) c.in_ok-of_left.of_left in
    let place = c.loop-place.place in
    let row = c.row_at-row.result in
    let low : place < length left.numbers.now = omega (arith, c.loop-place-test.true, c.len-place-end.ensures) in
    let row_is : row ≡ get_or rows place 0 = c.row_at-row.ensures ∙ ap (λ m. get_or (order_in m c.in_ok-of_left.of_left) place 0) c.len-in-loop-place.ensures in
    let row_low = row_in left.by_group (numbered left) (numbered left) rows left.even c.in_ok-of_left.ensures place low in
    let even = left.even in
    let code = c.requires.left row 0 (omega (arith, row_is, row_low, even)) in
    omega (arith, c.code.ensures, code, c.see_up_to-next.ensures.size, c.loop-place.invariant.seen_size, c.see_up_to-next.new.seen.ok.0)

pub index_mut-requires : goal.index_mut-requires
index_mut-requires c =
    let left = c.args.left.now in
    let rows = order_in (length left.numbers.now) c.in_ok-of_left.of_left in
    let place = c.loop-place.place in
    let row = c.row_at-row.result in
    let low : place < length left.numbers.now = omega (arith, c.loop-place-test.true, c.len-place-end.ensures) in
    let row_is : row ≡ get_or rows place 0 = c.row_at-row.ensures ∙ ap (λ m. get_or (order_in m c.in_ok-of_left.of_left) place 0) c.len-in-loop-place.ensures in
    let row_low = row_in left.by_group (numbered left) (numbered left) rows left.even c.in_ok-of_left.ensures place low in
    omega (arith, row_is, row_low, c.loop-place.invariant.found_size, c.loop-place.found.ok.0)

pub loop-place-preserved : goal.loop-place-preserved
loop-place-preserved c =
    let left = c.args.left.now in
    let rows = order_in (length left.numbers.now) c.in_ok-of_left.of_left in
    let place = c.loop-place.place in
    let row = c.row_at-row.result in
    let low : place < length left.numbers.now = omega (arith, c.loop-place-test.true, c.len-place-end.ensures) in
    let row_is : row ≡ get_or rows place 0 = c.row_at-row.ensures ∙ ap (λ m. get_or (order_in m c.in_ok-of_left.of_left) place 0) c.len-in-loop-place.ensures in
    let row_low = row_in left.by_group (numbered left) (numbered left) rows left.even c.in_ok-of_left.ensures place low in
    let even = left.even in
    let code = c.requires.left row 0 (omega (arith, row_is, row_low, even)) in
    let right = c.args.right.now in
    let others = order_in (length right.numbers.now) c.in_ok-of_right.of_right in
    let inv = c.loop-place.invariant in
    let seen = c.see_up_to-next.ensures in
    let next = c.see_up_to-next.result in
    let pair_is : c.pair.result ≡ pair_at left (get_or rows place 0) = c.pair.ensures ∙ ap (pair_at left) row_is in
    let now : (p : ℕ) → c.loop-place.next ≤ p → p < next → pair_cmp (pair_at right (get_or others p 0)) (pair_at left (get_or rows place 0)) ≢ Greater = λ p from to. subst (λ x. pair_cmp (pair_at right (get_or others p 0)) x ≢ Greater) pair_is (seen.passed p from to) in
    let stops : next < length right.numbers.now → pair_cmp (pair_at right (get_or others next 0)) (pair_at left (get_or rows place 0)) ≡ Greater = λ under. ap (pair_cmp (pair_at right (get_or others next 0))) (sym pair_is) ∙ seen.stops under in
    let code_low : c.code.result < length c.see_up_to-next.new.seen.items = omega (arith, c.code.ensures, code, seen.size, inv.seen_size) in
    let value : c.index.result.now ≡ last_seen right.codes.now others next (code_at left (get_or rows place 0)) =
    c.index.ensures ∙ get_or_default c.see_up_to-next.new.seen.items c.code.result c.index.result.now None code_low
    ∙ seen.seen c.code.result (omega (arith, code_low, seen.size))
    ∙ ap (last_seen right.codes.now others next) (c.code.ensures ∙ ap (code_at left) row_is) in
    let here = subst (IsFound (numbered right) (numbered left) (get_or rows place 0)) (sym value)
    (found_next left right c.in_ok-of_left.of_left c.in_ok-of_right.of_right c.requires.by_group c.in_ok-of_left.ensures c.in_ok-of_right.ensures place c.loop-place.next next low seen.within inv.passed now stops) in
    record {
      within = seen.within;
      seen_size = seen.size ∙ inv.seen_size;
      found_size = length-set c.loop-place.found.items row c.index.result.now ∙ inv.found_size;
      seen = λ g g_low. seen.seen g (omega (arith, g_low, inv.seen_size));
      passed = passed_next left right c.in_ok-of_left.of_left c.in_ok-of_right.of_right c.requires.by_group c.in_ok-of_left.ensures c.in_ok-of_right.ensures place c.loop-place.next next low seen.within inv.passed now stops;
      found = found_more left right c.in_ok-of_left.of_left c.in_ok-of_right.of_right c.requires.by_group c.in_ok-of_left.ensures c.in_ok-of_right.ensures c.loop-place.found.items place row c.index.result.now row_is
          (omega (arith, row_is, row_low, inv.found_size)) here inv.found;
    }

pub returns : goal.returns
returns c =
    let left = c.args.left.now in
    let right = c.args.right.now in
    record {
      size = c.loop-place.invariant.found_size;
      each = all_found left right c.in_ok-of_left.of_left c.in_ok-of_right.of_right c.requires.by_group c.in_ok-of_left.ensures c.in_ok-of_right.ensures c.loop-place.found.items
          (λ k k_low. c.loop-place.invariant.found k (omega (arith, k_low, c.loop-place-test.false, c.len-place-end.ensures)));
    }
