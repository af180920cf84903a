use Rattle.std.proofs.Common.{◌≡◌, ◌<◌, ℕ, length, get_or, arith, ap, ◌∙◌}
use Rattle.std.proofs.lemmas.List.{length-set}
use Rattle.qsql_groups.specs.Groups.{last_row}
use Rattle.qsql_groups.proofs.GroupLemmas.{rows_before, last_more, lasts_are}
use Rattle.qsql_groups.proofs.grouping.last_rows.Goals as goal

pub loop-row-preserved : goal.loop-row-preserved
loop-row-preserved c =
    let row_in : c.loop-row.row < length c.args.codes.now = grind (arith, c.loop-row-test.true, c.loop-row.auto.row-end) in
    let low : get_or c.args.codes.now c.loop-row.row 0 < c.args.groups = c.requires c.loop-row.row 0 row_in in
    record {
      size = length-set c.loop-row.places.items (get_or c.args.codes.now c.loop-row.row 0) c.loop-row.row ∙ c.loop-row.invariant.size;
      lasts = λ g g_in. last_more c.loop-row.places.items c.args.codes.now c.loop-row.row g (omega (arith, low, c.loop-row.invariant.size)) (omega (arith, g_in, c.loop-row.invariant.size)) (c.loop-row.invariant.lasts g g_in);
    }

pub returns : goal.returns
returns c =
    let done : c.loop-row.row ≡ length c.args.codes.now = grind (arith, c.loop-row-test.false, c.loop-row.auto.row-end) in
    lasts_are c.loop-row.places.items c.args.codes.now c.args.groups c.loop-row.invariant.size (λ g g_in. c.loop-row.invariant.lasts g g_in ∙ ap (λ (n : ℕ). last_row (rows_before c.args.codes.now g n)) done)
