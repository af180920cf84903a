-- A list that only contracts see.
use Rattle.std.specs.Prelude.{List, [], ◌∷◌, ◌++◌, take}
use Rattle.day_rows.specs.declared.trace.Past.{Past, fold-Past}
use Rattle.day_rows.specs.declared.trace.Past.TheOpen.{Past-F}

abbrev pub past_step : {T : Type 0} → Past-F T (List T) → List T
past_step Past-F.None = []
past_step (Past-F.More item before) = before.value ++ item.value ∷ []
past_step (Past-F.First before n) = take n before.value

-- the items, in order
abbrev pub past_items : {T : Type 0} → Past T → List T
past_items {T} = fold-Past T (List T) past_step
