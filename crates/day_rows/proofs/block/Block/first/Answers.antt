use Rattle.std.proofs.Common.{ap, sym, ◌∙◌, ◌-◌, ◌^◌, min, map, take}
use Rattle.std.proofs.lemmas.List.{take-map}
use Rattle.day_rows.specs.Blocks.{mark_of, atoms_at}
use Rattle.day_rows.specs.Joined.{joined}
use Rattle.day_rows.specs.declared.block.Mark.{Mark}
use Rattle.day_rows.proofs.GrowLemmas.{total-marks}
use Rattle.std.specs.List.{sum_by}
use Rattle.day_rows.proofs.BlockLemmas.{atoms-tables_with}
use Rattle.day_rows.proofs.block.Block.first.Goals as goal

pub invariant_of-result : goal.invariant_of-result
invariant_of-result c =
    let updates = take c.args.n c.args.self.now in
    let of = c.first.ensures ∙ ap (take c.args.n) c.self.view_is in
    let are = ap (take c.args.n) (c.deref.ensures.value ∙ c.self.invariant.marks_are ∙ ap (map mark_of) c.self.view_is) ∙ take-map mark_of c.args.n c.args.self.now in
    let marks = c.in_ok-marks.ensures.items ∙ are ∙ ap (map mark_of) (sym of) in
    record {
      columns_are = λ table column. ap (λ l. atoms_at l table column) c.in_ok-tables.ensures ∙ atoms-tables_with c.args.kinds.now updates c.requires.updates table column ∙ ap (joined table column) (sym of);
      marks_are = marks;
      rows_are = c.rows_of_marks-rows.ensures ∙ ap (λ n. min n (2 ^ 64 - 1)) (ap (sum_by (λ (mark : Mark). mark.rows)) (c.deref-2.ensures.value ∙ marks) ∙ total-marks c.first.result);
    }
