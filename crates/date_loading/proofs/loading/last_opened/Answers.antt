use Rattle.std.proofs.Common.{◌≡◌, ◌-◌, length, ℤ, slice_get, Some, ap, sym, ◌∙◌}
use Rattle.std.specs.Int.{w32}
use Rattle.std.proofs.lemmas.Int.{to_z-of_z}
use Rattle.partition_set.specs.declared.record.ManifestRecord.{ManifestRecord}
use Rattle.partition_set.specs.declared.record.ManifestRecord.TheVariants as m
use Rattle.partition_set.proofs.EncodingLemmas.{fits}
use Rattle.date_loading.proofs.RecordLemmas.{date-own, date-last, shape-last}
use Rattle.date_loading.proofs.loading.last_opened.Goals as goal

pub returns-in-Some-Opened : goal.returns-in-Some-Opened
returns-in-Some-Opened c =
    let records = c.args.records.now in
    let at : slice_get records (length records - 1) ≡ Some (m.Opened c.in-Some-Opened.field-0-0 c.in-Some-Opened.date) =
    sym c.in-Some-Opened.ensures.value ∙ ap (λ (x : ManifestRecord). Some x) c.in-Some-Opened.field-0-is in
    let own = date-own records (length records - 1) c.in-Some-Opened.field-0-0 c.in-Some-Opened.date c.requires.each at in
    ap (λ (d : ℤ). Some d) (to_z-of_z w32 c.in-Some-Opened.date (fits c.in-Some-Opened.date own.1 own.2))
    ∙ sym (date-last records c.in-Some-Opened.field-0-0 c.in-Some-Opened.date at)

pub returns-in-Some-Shape : goal.returns-in-Some-Shape
returns-in-Some-Shape c =
    let records = c.args.records.now in
    let at : slice_get records (length records - 1) ≡ Some (m.Shape c.in-Some-Shape._shape) =
    sym c.in-Some-Shape.ensures.value ∙ ap (λ (x : ManifestRecord). Some x) c.in-Some-Shape.field-0-is in
    sym (shape-last records c.in-Some-Shape._shape c.requires.in_order at)
