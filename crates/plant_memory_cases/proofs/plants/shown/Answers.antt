use Rattle.std.proofs.Common.{ap, ◌≡◌, ◌∙◌, sym, refl, Some, slice_get}
use Rattle.std.proofs.lemmas.Option.{slice_get-map}
use Rattle.day_rows.specs.declared.schema.Shape.{Shape}
use Rattle.plant_memory.specs.Memory.{SnapshotView, kinds_of}
use Rattle.plant_memory_cases.proofs.plants.shown.Goals as goal

pub column-requires-clause-exists : goal.column-requires-clause-exists
column-requires-clause-exists g c =
    let taken = rw c.expect-snapshot.ensures at c.snapshot.ensures in
    let same = ap (λ (s : SnapshotView). s.frame.schema) taken ∙ sym c.schema-schema.ensures in
    let there : slice_get (kinds_of c.schema-schema.result.now) 1 ≡ Some c.at.result.now.kinds = slice_get-map (λ (s : Shape). s.kinds) c.schema-schema.result.now 1 ∙ rw c.at.ensures.value refl in
    (c.at-kind.result.now, record { kinds = c.at.result.now.kinds; table_is = rw same there; column_is = c.at-kind.ensures })
