use Rattle.std.proofs.Common.{arith, ap, ◌∙◌, ◌<◌, map, length, take, get_or}
use Rattle.std.proofs.lemmas.List.{length-set, length-take}
use Rattle.day_rows.specs.Blocks.{mark_of}
use Rattle.day_rows.specs.declared.block.Mark.{Mark}
use Rattle.day_rows.proofs.BlockLemmas.{got-zero, starts-set}
use Rattle.day_rows.proofs.PartLemmas.{mark-first, mark-read}
use Rattle.day_rows.proofs.block.Block.starts.Goals as goal

pub index-start-requires : goal.index-start-requires
index-start-requires c =
    let marks = c.deref.result.now in
    let i = c.loop-mark.mark-index in
    let none : Mark = record { by = 0; table = 0; rows = 0 } in
    let mark : Mark = get_or (take c.args.n marks) i none in
    let are = c.deref.ensures.value ∙ c.self.invariant.marks_are ∙ ap (map mark_of) c.self.view_is in
    let m = mark-first c.args.kinds.now c.args.self.now marks c.args.n i mark are (omega (arith, c.loop-mark-test.true, length-take c.args.n marks)) c.requires.within (mark-read marks c.args.n i none c.loop-mark-test.true) c.requires.updates in
    omega (arith, m.within, c.loop-mark.invariant.count)

pub overflow_add-start : goal.overflow_add-start
overflow_add-start c =
    let marks = c.deref.result.now in
    let i = c.loop-mark.mark-index in
    let none : Mark = record { by = 0; table = 0; rows = 0 } in
    let mark : Mark = get_or (take c.args.n marks) i none in
    let are = c.deref.ensures.value ∙ c.self.invariant.marks_are ∙ ap (map mark_of) c.self.view_is in
    let m = mark-first c.args.kinds.now c.args.self.now marks c.args.n i mark are (omega (arith, c.loop-mark-test.true, length-take c.args.n marks)) c.requires.within (mark-read marks c.args.n i none c.loop-mark-test.true) c.requires.updates in
    let here : mark.table < length c.loop-mark.starts.items = omega (arith, m.within, c.loop-mark.invariant.size) in
    let start = got-zero c.loop-mark.starts.items mark.table c.index-start.result.now here c.index-start.ensures in
    omega (arith, start, c.loop-mark.invariant.starts mark.table m.within, m.bounded, c.requires.bounded)

pub index_mut-requires : goal.index_mut-requires
index_mut-requires c =
    let marks = c.deref.result.now in
    let i = c.loop-mark.mark-index in
    let none : Mark = record { by = 0; table = 0; rows = 0 } in
    let mark : Mark = get_or (take c.args.n marks) i none in
    let are = c.deref.ensures.value ∙ c.self.invariant.marks_are ∙ ap (map mark_of) c.self.view_is in
    let m = mark-first c.args.kinds.now c.args.self.now marks c.args.n i mark are (omega (arith, c.loop-mark-test.true, length-take c.args.n marks)) c.requires.within (mark-read marks c.args.n i none c.loop-mark-test.true) c.requires.updates in
    omega (arith, m.within, c.loop-mark.invariant.count)

pub loop-mark-preserved : goal.loop-mark-preserved
loop-mark-preserved c =
    let marks = c.deref.result.now in
    let i = c.loop-mark.mark-index in
    let none : Mark = record { by = 0; table = 0; rows = 0 } in
    let mark : Mark = get_or (take c.args.n marks) i none in
    let are = c.deref.ensures.value ∙ c.self.invariant.marks_are ∙ ap (map mark_of) c.self.view_is in
    let m = mark-first c.args.kinds.now c.args.self.now marks c.args.n i mark are (omega (arith, c.loop-mark-test.true, length-take c.args.n marks)) c.requires.within (mark-read marks c.args.n i none c.loop-mark-test.true) c.requires.updates in
    let here : mark.table < length c.loop-mark.starts.items = omega (arith, m.within, c.loop-mark.invariant.size) in
    let start = got-zero c.loop-mark.starts.items mark.table c.index-start.result.now here c.index-start.ensures in
    record {
      starts = starts-set c.args.kinds.now (take c.args.n c.args.self.now) i mark m.entry c.loop-mark.starts.items c.index-start.result.now c.requires.updates m.got m.same start c.loop-mark.invariant.size c.loop-mark.invariant.starts;
      size = length-set c.loop-mark.starts.items mark.table _ ∙ c.loop-mark.invariant.size;
      count = c.loop-mark.invariant.count;
    }
