use Rattle.std.proofs.Common.{arith, ap, ◌∙◌, map, take}
use Rattle.std.specs.List.{sum_by}
use Rattle.std.proofs.lemmas.List.{take-map}
use Rattle.std.proofs.lemmas.List.Sums.{sum_by-le-sum_by}
use Rattle.day_rows.specs.Blocks.{mark_of, rows_marked}
use Rattle.day_rows.specs.Day.{entry_rows}
use Rattle.day_rows.specs.Joined.{rows_in}
use Rattle.day_rows.proofs.GrowLemmas.{sum-marks}
use Rattle.day_rows.proofs.RowsLemmas.{rows_in-le}
use Rattle.day_rows.proofs.block.Block.first_rows.Goals as goal

pub count_marked-requires : goal.count_marked-requires
count_marked-requires c =
    let updates = take c.args.n c.args.self.now in
    let are = ap (take c.args.n) (c.deref.ensures.value ∙ c.self.invariant.marks_are ∙ ap (map mark_of) c.self.view_is) ∙ take-map mark_of c.args.n c.args.self.now in
    let sum = ap (sum_by (rows_marked c.args.table)) are ∙ sum-marks c.args.table updates in
    omega (arith, sum, sum_by-le-sum_by (rows_in c.args.table) entry_rows updates (rows_in-le c.args.table), c.requires.bounded)

pub returns : goal.returns
returns c =
    let updates = take c.args.n c.args.self.now in
    let are = ap (take c.args.n) (c.deref.ensures.value ∙ c.self.invariant.marks_are ∙ ap (map mark_of) c.self.view_is) ∙ take-map mark_of c.args.n c.args.self.now in
    c.count_marked.ensures ∙ ap (sum_by (rows_marked c.args.table)) are ∙ sum-marks c.args.table updates
