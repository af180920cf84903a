use Rattle.std.proofs.Common.{◌≡◌, ◌∙◌, refl, Some, slice_get}
use Rattle.std.proofs.lemmas.Option.{slice_get-map}
use Rattle.day_rows.specs.declared.schema.Shape.{Shape}
use Rattle.plant_memory.specs.Memory.{kinds_of}
use Rattle.test_plants.proofs.plants.shown.Goals as goal

pub column-requires-clause-exists : goal.column-requires-clause-exists
column-requires-clause-exists c =
    let there : slice_get (kinds_of c.args.schema.now) 1 ≡ Some c.at.result.now.kinds = slice_get-map (λ (s : Shape). s.kinds) c.args.schema.now 1 ∙ rw c.at.ensures.value refl in
    (c.at-kind.result.now, record { kinds = c.at.result.now.kinds; table_is = rw c.requires there; column_is = c.at-kind.ensures })
