use Rattle.std.proofs.Common.{◌≡◌, ◌≢◌, ℕ, ◌+◌, ◌<◌, length, get_or, sym, ap, ◌∙◌, arith, subst, Greater}
use Rattle.std.proofs.lemmas.List.{length-set}
use Rattle.asof_join.specs.Lines.{pair_cmp, pair_at, order_in, numbered}
use Rattle.asof_join.proofs.FoundLemmas.{row_in, size_of_order}
use Rattle.asof_join.proofs.MergeLemmas.{seen_step, one_more_place, not_greater}
use Rattle.asof_join.proofs.merge.see_up_to.Goals as goal

pub row_at-row-requires-clause-order : goal.row_at-row-requires-clause-order
row_at-row-requires-clause-order c =
    let right = c.args.right.now in
    subst (λ m. length (order_in m c.args.order.now) ≡ m) (sym c.len-rows.ensures)
    (size_of_order right.by_group (numbered right) (numbered right) (order_in (length right.numbers.now) c.args.order.now) right.even c.requires.order)

pub pair-requires : goal.pair-requires
pair-requires c =
    let right = c.args.right.now in
    let rows = order_in (length right.numbers.now) c.args.order.now in
    let place = c.loop-place.place in
    let low : place < length right.numbers.now = omega (arith, c.loop-place-test.true, c.len-rows.ensures) in
    let row_is : c.row_at-row.result ≡ get_or rows place 0 = c.row_at-row.ensures ∙ ap (λ m. get_or (order_in m c.args.order.now) place 0) c.len-rows.ensures in
    let row_low = row_in right.by_group (numbered right) (numbered right) rows right.even c.requires.order place low in
    omega (arith, row_is, row_low)

pub code-requires : goal.code-requires
code-requires c =
    let right = c.args.right.now in
    let rows = order_in (length right.numbers.now) c.args.order.now in
    let place = c.loop-place.place in
    let low : place < length right.numbers.now = omega (arith, c.loop-place-test.true, c.len-rows.ensures) in
    let row_is : c.row_at-row.result ≡ get_or rows place 0 = c.row_at-row.ensures ∙ ap (λ m. get_or (order_in m c.args.order.now) place 0) c.len-rows.ensures in
    let row_low = row_in right.by_group (numbered right) (numbered right) rows right.even c.requires.order place low in
    omega (arith, row_is, row_low)

pub index_mut-requires : goal.index_mut-requires
index_mut-requires c =
    let right = c.args.right.now in
    let rows = order_in (length right.numbers.now) c.args.order.now in
    let place = c.loop-place.place in
    let low : place < length right.numbers.now = omega (arith, c.loop-place-test.true, c.len-rows.ensures) in
    let row_is : c.row_at-row.result ≡ get_or rows place 0 = c.row_at-row.ensures ∙ ap (λ m. get_or (order_in m c.args.order.now) place 0) c.len-rows.ensures in
    let row_low = row_in right.by_group (numbered right) (numbered right) rows right.even c.requires.order place low in
    let even = right.even in
    let code = c.requires.codes c.row_at-row.result 0 (omega (arith, row_is, row_low, even)) in
    omega (arith, c.code.ensures, code, c.loop-place.invariant.size, c.loop-place.seen.ok.0)

pub loop-place-preserved : goal.loop-place-preserved
loop-place-preserved c =
    let right = c.args.right.now in
    let rows = order_in (length right.numbers.now) c.args.order.now in
    let place = c.loop-place.place in
    let row = c.row_at-row.result in
    let inv = c.loop-place.invariant in
    let low : place < length right.numbers.now = omega (arith, c.loop-place-test.true, c.len-rows.ensures) in
    let row_is : row ≡ get_or rows place 0 = c.row_at-row.ensures ∙ ap (λ m. get_or (order_in m c.args.order.now) place 0) c.len-rows.ensures in
    let row_low = row_in right.by_group (numbered right) (numbered right) rows right.even c.requires.order place low in
    let even = right.even in
    let code = c.requires.codes row 0 (omega (arith, row_is, row_low, even)) in
    let code_low : c.code.result < length c.loop-place.seen.items = omega (arith, c.code.ensures, code, inv.size) in
    let now = not_greater (pair_cmp c.pair.result c.args.pair) (sym c.is_up_to.ensures ∙ c.if-is_up_to.true) in
    let here : pair_cmp (pair_at right (get_or rows place 0)) c.args.pair ≢ Greater =
    subst (λ r. pair_cmp (pair_at right r) c.args.pair ≢ Greater) row_is (subst (λ x. pair_cmp x c.args.pair ≢ Greater) c.pair.ensures now) in
    record {
      above = omega (arith, inv.above);
      within = omega (arith, low);
      size = length-set c.loop-place.seen.items c.code.result _ ∙ inv.size;
      seen = λ g g_low. seen_step right.codes.now rows c.loop-place.seen.items place row c.code.result row_is c.code.ensures code_low
          (λ h h_low. inv.seen h (omega (arith, h_low, inv.size))) g (omega (arith, g_low, inv.size));
      passed = one_more_place (λ p. pair_cmp (pair_at right (get_or rows p 0)) c.args.pair ≢ Greater) c.args.next place inv.passed here;
    }
