-- A list that only contracts see.
use Rattle.std.specs.Prelude.{List, [], ◌∷◌, ◌++◌}
use Rattle.ghost_history.specs.declared.history.Past.{Past, fold-Past}
use Rattle.ghost_history.specs.declared.history.Past.TheOpen.{Past-F}

abbrev pub past_step : {T : Type 0} → Past-F T (List T) → List T
past_step Past-F.None = []
past_step (Past-F.More item before) = before.value ++ item.value ∷ []

-- the items of a past, first to last
abbrev pub past_items : {T : Type 0} → Past T → List T
past_items {T} = fold-Past T (List T) past_step
