-- The tables that are told of have two columns at least.
use Rattle.std.proofs.Common.{◌≡◌, ℕ, ℤ, ◌≤◌, ◌++◌, Bool, true, false, if◌then◌else◌, Option, Some, None, List, [], ◌∷◌, length, take, codes, refl, arith, slice_get}
use Rattle.std.specs.List.{AllByRecursion}
use Rattle.q_values.specs.Table.{IsTable}
use Rattle.q_values.specs.declared.atom.Atom.{Atom}
use Rattle.day_rows.proofs.DayLemmas.{all-append}
use Rattle.day_rows.specs.Rows.{lines_of}
use Rattle.day_rows.specs.Schema.{IsSchema, IsShape}
use Rattle.day_rows.specs.declared.entry.Entry.{Entry}
use Rattle.day_rows.specs.declared.entry.Entry.TheVariants as e
use Rattle.day_rows.specs.declared.schema.Shape.{Shape}
use Rattle.pubsub.proofs.LineLemmas.{rows_table}
use Rattle.pubsub.proofs.TableLemmas.{shape_at}
use Rattle.pubsub.specs.Filters.{Subscribed, is_any}
use Rattle.pubsub.specs.Told.{Publication, upd, end, columns_from, published, rows_told, end_told, told_each, batches_of, updates_today, batch_told, told_today, told_later, told}
use Rattle.publications.proofs.ListLemmas.{all-flat_map}

-- a table of two columns at least, or the end of a date
abbrev pub IsWide : Publication → Type 0
IsWide (upd name grid) = IsTable grid.names grid.columns × (2 ≤ length grid.columns)
IsWide (end date) = Unit {0}

two_names : (names : List (List ℕ)) → take 2 names ≡ codes "time" ∷ codes "sym" ∷ [] → 2 ≤ length names
two_names [] e = cc
two_names (a ∷ []) e = cc
two_names (a ∷ b ∷ names) e = omega arith

pub wide_grid : (shape : Shape) (lines : List (List Atom)) → IsShape shape → IsTable shape.names (columns_from 0 shape.kinds lines) × (2 ≤ length (columns_from 0 shape.kinds lines))
wide_grid shape lines is =
    let are = rows_table shape lines shape.names (columns_from 0 shape.kinds lines) is refl refl in
    let two = two_names shape.names is.first_names in (are, omega (arith, two, are.named))

published-wide : (o : Option Shape) (lines : List (List Atom)) → ((shape : Shape) → o ≡ Some shape → IsShape shape) → AllByRecursion IsWide (published o lines)
published-wide None lines known = tt
published-wide (Some shape) [] known = tt
published-wide (Some shape) (line ∷ lines) known = (wide_grid shape (line ∷ lines) (known shape refl), tt)

rows-wide : (s : Subscribed) (table : ℕ) (lines : List (List Atom)) → IsSchema s.schema → AllByRecursion IsWide (rows_told s table lines)
rows-wide s table lines is = published-wide (slice_get s.schema table) _ (λ shape known. shape_at s.schema table shape is known)

end-wide : (s : Subscribed) (date : ℤ) → AllByRecursion IsWide (end_told s date)
end-wide s date = elim (is_any s.filters) as (λ b. AllByRecursion IsWide (if b then end date ∷ [] else [])) [ true ↦ (tt, tt) | false ↦ tt ]

each-wide : (s : Subscribed) (date : ℤ) (entries : List Entry) → IsSchema s.schema → AllByRecursion IsWide (told_each s date entries)
each-wide s date [] is = tt
each-wide s date (e.Upd by table columns ∷ entries) is =
    all-append IsWide (rows_told s table (lines_of columns)) (told_each s date entries) (rows-wide s table (lines_of columns) is) (each-wide s date entries is)
each-wide s date (e.Roll by next ∷ entries) is = all-append IsWide (end_told s date) (told_each s next entries) (end-wide s date) (each-wide s next entries is)
each-wide s date (e.Fault by ∷ entries) is = each-wide s date entries is

batch-wide : (s : Subscribed) (batch : List Entry) → IsSchema s.schema → AllByRecursion IsWide (batch_told s batch)
batch-wide s batch is = all-flat_map IsWide _ (λ table. rows-wide s table _ is) _

today-wide : (s : Subscribed) (entries : List Entry) → IsSchema s.schema → AllByRecursion IsWide (told_today s entries)
today-wide s entries is = all-flat_map IsWide (batch_told s) (λ batch. batch-wide s batch is) (batches_of (updates_today entries))

later-wide : (s : Subscribed) (date : ℤ) (entries : List Entry) → IsSchema s.schema → AllByRecursion IsWide (told_later s date entries)
later-wide s date [] is = tt
later-wide s date (e.Upd by table columns ∷ entries) is = later-wide s date entries is
later-wide s date (e.Roll by next ∷ entries) is =
    all-append IsWide (end_told s date ++ told_today s entries) (told_later s next entries)
    (all-append IsWide (end_told s date) (told_today s entries) (end-wide s date) (today-wide s entries is))
    (later-wide s next entries is)
later-wide s date (e.Fault by ∷ entries) is = later-wide s date entries is

pub told-wide : (batch : Bool) (s : Subscribed) (date : ℤ) (entries : List Entry) → IsSchema s.schema → AllByRecursion IsWide (told batch s date entries)
told-wide false s date entries is = each-wide s date entries is
told-wide true s date entries is = all-append IsWide (told_today s entries) (told_later s date entries) (today-wide s entries is) (later-wide s date entries is)
