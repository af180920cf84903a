use Rattle.std.proofs.Common.{◌≡◌, slice_get, Some, ap, sym, ◌∙◌}
use Rattle.std.proofs.lemmas.Bool.{ltb-false}
use Rattle.std.proofs.lemmas.Option.{slice_get-get_or}
use Rattle.partition_set.specs.declared.record.ManifestRecord.{ManifestRecord}
use Rattle.partition_set.specs.declared.record.ManifestRecord.TheVariants as m
use Rattle.date_loading.proofs.DifferenceLemmas.{none-past}
use Rattle.date_loading.proofs.RecordLemmas.{shape-at, date-at, none-at}
use Rattle.date_loading.proofs.tables.table_at.Goals as goal

pub returns-in-Some-Shape : goal.returns-in-Some-Shape
returns-in-Some-Shape c =
    let h = c.in-Some-Shape.ensures.lookup in
    let here : ManifestRecord = m.Shape c.in-Some-Shape.shape in
    let at : slice_get c.args.records.now c.args.i ≡ Some here =
    slice_get-get_or c.args.records.now c.args.i here h.3.0 ∙ ap (λ (x : ManifestRecord). Some x) (sym (h.3.1 here) ∙ c.in-Some-Shape.field-0-is) in
    sym (shape-at c.args.records.now c.args.i c.in-Some-Shape.shape c.requires.in_order at)

pub returns-in-Some-Opened : goal.returns-in-Some-Opened
returns-in-Some-Opened c =
    let h = c.in-Some-Opened.ensures.lookup in
    let here : ManifestRecord = m.Opened c.in-Some-Opened.field-0-0 c.in-Some-Opened.field-0-1 in
    let at : slice_get c.args.records.now c.args.i ≡ Some here =
    slice_get-get_or c.args.records.now c.args.i here h.3.0 ∙ ap (λ (x : ManifestRecord). Some x) (sym (h.3.1 here) ∙ c.in-Some-Opened.field-0-is) in
    sym (date-at c.args.records.now c.args.i c.in-Some-Opened.field-0-0 c.in-Some-Opened.field-0-1 c.requires.in_order at)

pub returns-in-None : goal.returns-in-None
returns-in-None c = sym (none-at c.args.records.now c.args.i c.requires.in_order
    (none-past c.args.records.now c.args.i (ltb-false _ _ (sym c.in-None.ensures.lookup.0))))
