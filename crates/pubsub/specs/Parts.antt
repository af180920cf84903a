-- Some of the rows of updates.
use Rattle.std.specs.Prelude.{◌≡◌, ◌<◌, ℕ, Bool, true, false, Option, Some, None, List, [], length, filter, All, slice_get}
use Rattle.std.specs.List.{list_any, list_all, flat_map, AllByRecursion}
use Rattle.q_filter.specs.Places.{places_from}
use Rattle.q_values.specs.Contents.{Contents}
use Rattle.q_values.specs.Lists.{gathered}
use Rattle.q_values.specs.Table.{rows_of}
use Rattle.q_values.specs.declared.atom.Atom.{Atom}
use Rattle.q_values.specs.declared.kind.Kind.{Kind}
use Rattle.q_values.specs.declared.kind.Kind.TheVariants as k
use Rattle.day_rows.specs.Day.{AreColumns}
use Rattle.day_rows.specs.Joined.{atoms_of}
use Rattle.day_rows.specs.Rows.{lines_of}
use Rattle.day_rows.specs.declared.schema.Shape.{Shape}
use Rattle.pubsub.specs.declared.filter.Filter.{Filter}
use Rattle.pubsub.specs.declared.parts.Part.{Part}
use Rattle.pubsub.specs.declared.rows.Rows.{Rows}
use Rattle.pubsub.specs.declared.rows.Rows.TheVariants as r
use Rattle.pubsub.specs.Told.{passes}

-- the elements at some of the rows
abbrev pub at_rows : {X : Type 0} → Rows → List X → List X
at_rows r.All xs = xs
at_rows (r.At places) xs = gathered xs places.items

-- the rows are among the first n
abbrev pub AreBelow : ℕ → Rows → Type 0
AreBelow n r.All = Unit {0}
AreBelow n (r.At places) = All (λ place. place < n) places.items

-- the rows are those that are marked, of which there is at least one; or none is marked
abbrev pub AreMarked : List Bool → Option Rows → Type 0
AreMarked marks None = list_any (λ mark. mark) marks ≡ false
AreMarked marks (Some r.All) = (list_any (λ mark. mark) marks ≡ true) × (list_all (λ mark. mark) marks ≡ true)
AreMarked marks (Some (r.At places)) = (list_any (λ mark. mark) marks ≡ true) × (places.items ≡ places_from 0 marks)

-- the atoms of a column in a part, and its rows
abbrev pub part_atoms : ℕ → Part → List Atom
part_atoms column part = at_rows part.rows (atoms_of (slice_get part.columns.now column))

abbrev pub part_lines : Part → List (List Atom)
part_lines part = at_rows part.rows (lines_of part.columns.now)

-- a part of an update of a table with columns of these kinds
pub record IsPart (kinds : List Kind) (part : Part) : Type 0 where
  pub columns : AreColumns kinds part.columns.now
  pub below : AreBelow (rows_of part.columns.now) part.rows

-- of an update the rows that pass a filter
abbrev pub IsPassed : Filter → List Contents → Option Part → Type 0
IsPassed chosen columns None = filter (passes chosen) (lines_of columns) ≡ []
IsPassed chosen columns (Some part) =
    (part.columns.now ≡ columns) × (part_lines part ≡ filter (passes chosen) (lines_of columns))
    × (0 < length (part_lines part)) × AreBelow (rows_of columns) part.rows

-- columns of one length, the second of symbols
pub record HaveSymbols (columns : List Contents) : Type 0 where
  pub symbols : Contents
  pub second : slice_get columns 1 ≡ Some symbols
  pub kind : symbols.kind ≡ k.Symbol
  pub even : All (λ column. length column.atoms ≡ rows_of columns) columns

-- of the rows of a table those that pass its filter, in parts; no part is empty
pub record ArePassed (chosen : Filter) (schema : List Shape) (table : ℕ) (lines : List (List Atom)) (parts : List Part) : Type 0 where
  pub passed : flat_map part_lines parts ≡ filter (passes chosen) lines
  pub some : 0 < length parts → 0 < length (flat_map part_lines parts)
  pub of_table : (shape : Shape) → slice_get schema table ≡ Some shape → AllByRecursion (IsPart shape.kinds) parts
