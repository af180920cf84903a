-- The faults of one date, between its updates.
use Rattle.std.specs.Prelude.{◌≡◌, ℕ, ◌+◌, ◌-◌, ◌≤◌, Bool, List, [], ◌∷◌, ◌++◌, length, take, drop}
use Rattle.day_rows.specs.declared.entry.Entry.{Entry}
use Rattle.day_rows.specs.declared.entry.Entry.TheVariants as e
use Rattle.plant_memory.specs.declared.faults.Mark.{Mark}
use Rattle.plant_memory.specs.declared.weaving.Place.{Place}

-- the entries of a date: its updates, and its faults, each after as many updates as its gap says
abbrev pub woven : List Mark → List Entry → List Entry
woven [] updates = updates
woven (mark ∷ marks) updates = take mark.gap updates ++ e.Fault mark.by ∷ woven marks (drop mark.gap updates)

-- the number of updates before the last fault
abbrev pub covered : List Mark → ℕ
covered [] = 0
covered (mark ∷ marks) = mark.gap + covered marks

-- the faults of a date, the number of updates after the last one, and whether there is room for one more fault
pub record FaultsView : Type 0 where
  pub marks : List Mark
  pub since : ℕ
  pub spare : Bool

-- the faults, where the first of them has this many fewer updates before it
abbrev pub shortened : ℕ → List Mark → List Mark
shortened since [] = []
shortened since (mark ∷ marks) = record mark { gap = mark.gap - since } ∷ marks

-- the place of the entry with this index, on a date that has these faults and `count` updates
pub record IsPlaceOf (marks : List Mark) (count index : ℕ) (place : Place) : Type 0 where
  pub faults_within : place.faults ≤ length marks
  pub updates_within : place.updates ≤ count
  pub rest :
      (updates : List Entry) → length updates ≡ count
      → drop index (woven marks updates) ≡ woven (shortened place.since (drop place.faults marks)) (drop place.updates updates)
