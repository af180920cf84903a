-- What a subscription is told of the entries of a chronicle (KX, u.q).
use Rattle.std.specs.Prelude.{ℕ, ℤ, Bool, true, false, ◌+◌, ◌*◌, ◌/◌, ◌==◌, ◌++◌, if◌then◌else◌, Option, Some, None, List, [], ◌∷◌}
use Rattle.std.specs.Prelude.{length, map, take, drop, filter, slice_get, slice_index_or}
use Rattle.std.specs.List.{list_any, flat_map, range_with_len}
use Rattle.std.specs.Str.{bytes_eq}
use Rattle.q_values.specs.Contents.{Contents}
use Rattle.q_values.specs.Tree.{Grid}
use Rattle.q_values.specs.declared.atom.Atom.{Atom}
use Rattle.q_values.specs.declared.atom.Atom.TheVariants as a
use Rattle.q_values.specs.declared.kind.Kind.{Kind}
use Rattle.outside_api.specs.declared.tap.TapMessage.{TapMessage}
use Rattle.outside_api.specs.declared.tap.TapMessage.TheVariants as m
use Rattle.day_rows.specs.Rows.{absent, lines_of}
use Rattle.day_rows.specs.declared.entry.Entry.{Entry}
use Rattle.day_rows.specs.declared.entry.Entry.TheVariants as e
use Rattle.day_rows.specs.declared.schema.Shape.{Shape}
use Rattle.pubsub.specs.Filters.{Subscribed, is_any}
use Rattle.pubsub.specs.declared.filter.Filter.{Filter}
use Rattle.pubsub.specs.declared.filter.Filter.TheVariants as f

-- a publication: rows for a table of this name, or the end of a date
pub data Publication : Type 0 where
  upd : List ℕ → Grid → Publication
  end : ℤ → Publication

-- the publication that a message is
abbrev pub publication : TapMessage → Publication
publication (m.Rows table rows) = upd table (record { names = rows.names; columns = rows.columns })
publication (m.End date) = end date

abbrev pub is_one_of : List (List ℕ) → Atom → Bool
is_one_of symbols (a.Symbol symbol) = list_any (bytes_eq symbol) symbols
is_one_of symbols _ = false

-- whether a filter chooses the rows of a symbol
abbrev pub chooses : Filter → Atom → Bool
chooses f.Nothing symbol = false
chooses f.Everything symbol = true
chooses (f.Symbols symbols) symbol = is_one_of symbols symbol

-- whether a filter chooses a row, whose symbol is its second field
abbrev pub passes : Filter → List Atom → Bool
passes chosen line = chooses chosen (slice_index_or line 1 absent)

-- the columns of these kinds that rows have, from an index on
abbrev pub columns_from : ℕ → List Kind → List (List Atom) → List Contents
columns_from index [] lines = []
columns_from index (kind ∷ kinds) lines =
    record { kind = kind; atoms = map (λ line. slice_index_or line index absent) lines } ∷ columns_from (index + 1) kinds lines

-- rows of a table, under its own names of columns
abbrev pub grid_of : Shape → List (List Atom) → Grid
grid_of shape lines = record { names = shape.names; columns = columns_from 0 shape.kinds lines }

-- the publication of some rows of a table, if there are any
abbrev pub published : Option Shape → List (List Atom) → List Publication
published None lines = []
published (Some shape) [] = []
published (Some shape) (line ∷ lines) = upd shape.table (grid_of shape (line ∷ lines)) ∷ []

-- of these rows of a table, those that its filter chooses are published
abbrev pub rows_told : Subscribed → ℕ → List (List Atom) → List Publication
rows_told subscribed table lines =
    published (slice_get subscribed.schema table) (filter (passes (slice_index_or subscribed.filters table f.Nothing)) lines)

-- the end of a date is published where any table is subscribed
abbrev pub end_told : Subscribed → ℤ → List Publication
end_told subscribed date = if is_any subscribed.filters then end date ∷ [] else []

-- each update by itself, and at each roll the end of the date that was open, where `date` is open before these entries
abbrev pub told_each : Subscribed → ℤ → List Entry → List Publication
told_each subscribed date [] = []
told_each subscribed date (e.Upd by table columns ∷ entries) = rows_told subscribed table (lines_of columns) ++ told_each subscribed date entries
told_each subscribed date (e.Roll by next ∷ entries) = end_told subscribed date ++ told_each subscribed next entries
told_each subscribed date (e.Fault by ∷ entries) = told_each subscribed date entries

-- the updates before the first roll
abbrev pub updates_today : List Entry → List Entry
updates_today [] = []
updates_today (e.Upd by table columns ∷ entries) = e.Upd by table columns ∷ updates_today entries
updates_today (e.Roll by next ∷ entries) = []
updates_today (e.Fault by ∷ entries) = updates_today entries

-- updates, cut after every 16
abbrev pub batches_of : List Entry → List (List Entry)
batches_of updates = map (λ k. take 16 (drop (16 * k) updates)) (range_with_len 0 ((length updates + 15) / 16))

-- the rows of a table in an update
abbrev pub lines_in : ℕ → Entry → List (List Atom)
lines_in table (e.Upd by to columns) = if to == table then lines_of columns else []
lines_in table (e.Roll by next) = []
lines_in table (e.Fault by) = []

-- for each table, in the schema's order, its rows in all these updates
abbrev pub batch_told : Subscribed → List Entry → List Publication
batch_told subscribed batch =
    flat_map (λ table. rows_told subscribed table (flat_map (lines_in table) batch)) (range_with_len 0 (length subscribed.schema))

-- what is told up to the first roll
abbrev pub told_today : Subscribed → List Entry → List Publication
told_today subscribed entries = flat_map (batch_told subscribed) (batches_of (updates_today entries))

-- what is told from the first roll on
abbrev pub told_later : Subscribed → ℤ → List Entry → List Publication
told_later subscribed date [] = []
told_later subscribed date (e.Upd by table columns ∷ entries) = told_later subscribed date entries
told_later subscribed date (e.Roll by next ∷ entries) = end_told subscribed date ++ told_today subscribed entries ++ told_later subscribed next entries
told_later subscribed date (e.Fault by ∷ entries) = told_later subscribed date entries

-- what a subscription is told of entries, in batches or not
abbrev pub told : Bool → Subscribed → ℤ → List Entry → List Publication
told false subscribed date entries = told_each subscribed date entries
told true subscribed date entries = told_today subscribed entries ++ told_later subscribed date entries
