use Rattle.std.proofs.Common.{refl, ◌∷◌, []}
use Rattle.day_rows.specs.Day.{AreTableKinds}
use Rattle.day_rows.specs.Schema.{IsShape}
use Rattle.day_rows.specs.declared.schema.Shape.{Shape}
use Rattle.day_rows.proofs.DayLemmas.{all-append, all-slice_get, take_more_mapped, table_kinds}
use Rattle.day_rows.proofs.open_day.kinds_of.Goals as goal

pub loop-i-preserved : goal.loop-i-preserved
loop-i-preserved c =
    let shape = c.at.result.now in
    let own = all-slice_get IsShape c.args.schema.now c.loop-i.i shape c.at.ensures.value c.at.ensures.lawful.each in
    let more = take_more_mapped (λ (s : Shape). s.kinds) c.args.schema.now c.loop-i.i shape c.at.ensures.value in
    rw (c.in_ok-push.ensures.items, c.in_ok-copy_kinds.ensures) (record {
      value = rw (more, c.loop-i.invariant.value) refl;
      lawful = all-append AreTableKinds c.loop-i.tables.items (shape.kinds ∷ []) c.loop-i.invariant.lawful (table_kinds shape own, tt);
    })
