use Rattle.std.proofs.Common.{arith, ap, ◌≡◌, ◌∙◌, ◌<◌, ◌∷◌, [], refl, map, length, take, drop, Some, slice_get, append_assoc}
use Rattle.std.proofs.lemmas.List.{length-set}
use Rattle.std.proofs.lemmas.Option.{slice_get_read}
use Rattle.day_rows.specs.Blocks.{mark_of}
use Rattle.day_rows.specs.declared.block.Mark.{Mark}
use Rattle.day_rows.proofs.BlockLemmas.{got-zero, starts-set, split-one}
use Rattle.day_rows.proofs.FilledLemmas.{total-take}
use Rattle.day_rows.proofs.PartLemmas.{from-pushed, mark-first, part-first}
use Rattle.day_rows.proofs.block.Block.split.Goals as goal

pub starts-requires-clause-bounded : goal.starts-requires-clause-bounded
starts-requires-clause-bounded c = omega (arith, total-take c.args.from c.args.to c.args.self.now c.requires.order, c.requires.bounded)

pub index-start-requires : goal.index-start-requires
index-start-requires c =
    let marks = c.self.inside.marks.items in
    let i = c.loop-i.i in
    let mark : Mark = c.index.result.now in
    let are = c.self.invariant.marks_are ∙ ap (map mark_of) c.self.view_is in
    let m = mark-first c.args.kinds.now c.args.self.now marks c.args.to i mark are c.loop-i-test.true c.requires.within c.index.ensures c.requires.updates in
    omega (arith, m.within, c.loop-i.invariant.count)

pub bounds-kinds-index : goal.bounds-kinds-index
bounds-kinds-index c =
    let marks = c.self.inside.marks.items in
    let i = c.loop-i.i in
    let mark : Mark = c.index.result.now in
    let are = c.self.invariant.marks_are ∙ ap (map mark_of) c.self.view_is in
    let m = mark-first c.args.kinds.now c.args.self.now marks c.args.to i mark are c.loop-i-test.true c.requires.within c.index.ensures c.requires.updates in
    m.within

pub overflow_add-start : goal.overflow_add-start
overflow_add-start c =
    let marks = c.self.inside.marks.items in
    let i = c.loop-i.i in
    let mark : Mark = c.index.result.now in
    let are = c.self.invariant.marks_are ∙ ap (map mark_of) c.self.view_is in
    let m = mark-first c.args.kinds.now c.args.self.now marks c.args.to i mark are c.loop-i-test.true c.requires.within c.index.ensures c.requires.updates in
    let here : mark.table < length c.loop-i.starts.items = omega (arith, m.within, c.loop-i.invariant.size) in
    let start = got-zero c.loop-i.starts.items mark.table c.index-start.result.now here c.index-start.ensures in
    omega (arith, start, c.loop-i.invariant.starts mark.table m.within, m.bounded, c.requires.bounded)

pub index_mut-requires : goal.index_mut-requires
index_mut-requires c =
    let marks = c.self.inside.marks.items in
    let i = c.loop-i.i in
    let mark : Mark = c.index.result.now in
    let are = c.self.invariant.marks_are ∙ ap (map mark_of) c.self.view_is in
    let m = mark-first c.args.kinds.now c.args.self.now marks c.args.to i mark are c.loop-i-test.true c.requires.within c.index.ensures c.requires.updates in
    omega (arith, m.within, c.loop-i.invariant.count)

pub loop-i-preserved : goal.loop-i-preserved
loop-i-preserved c =
    let marks = c.self.inside.marks.items in
    let i = c.loop-i.i in
    let mark : Mark = c.index.result.now in
    let are = c.self.invariant.marks_are ∙ ap (map mark_of) c.self.view_is in
    let m = mark-first c.args.kinds.now c.args.self.now marks c.args.to i mark are c.loop-i-test.true c.requires.within c.index.ensures c.requires.updates in
    let updates = take c.args.to c.args.self.now in
    let here : mark.table < length c.loop-i.starts.items = omega (arith, m.within, c.loop-i.invariant.size) in
    let known : slice_get c.args.kinds.now mark.table ≡ Some c.index-kinds-index.result = slice_get_read c.args.kinds.now (length c.args.kinds.now) mark.table c.index-kinds-index.result refl m.within c.index-kinds-index.is in
    let start = got-zero c.loop-i.starts.items mark.table c.index-start.result.now here c.index-start.ensures in
    let begins = start ∙ c.loop-i.invariant.starts mark.table m.within in
    let columns = c.in_ok-columns.ensures ∙ part-first c.args.kinds.now c.args.self.now c.args.to mark.table c.index-start.result.now mark.rows c.index-kinds-index.result c.requires.updates known (omega (arith, begins, m.fits)) in
    let entry = split-one c.args.kinds.now updates i mark m.entry c.index-start.result.now c.index-kinds-index.result c.in_ok-columns.columns c.requires.updates m.got m.same known begins columns in
    record {
      found = c.in_ok-push.ensures.items ∙ rw (entry, c.loop-i.invariant.found, from-pushed updates c.args.from i m.entry c.loop-i.auto.i m.got) (append_assoc c.args.entries.items (drop c.args.from (take i updates)) (m.entry ∷ []));
      starts = starts-set c.args.kinds.now updates i mark m.entry c.loop-i.starts.items c.index-start.result.now c.requires.updates m.got m.same start c.loop-i.invariant.size c.loop-i.invariant.starts;
      size = length-set c.loop-i.starts.items mark.table _ ∙ c.loop-i.invariant.size;
      count = c.loop-i.invariant.count;
    }
