-- Which rows a subscription chooses, and what a request makes of it.
use Rattle.std.specs.Prelude.{◌≡◌, Bool, true, false, not, if◌then◌else◌, ℕ, List, [], ◌∷◌, map}
use Rattle.std.specs.List.{list_any}
use Rattle.std.specs.Str.{bytes_eq}
use Rattle.day_rows.specs.declared.schema.Shape.{Shape}
use Rattle.pubsub.specs.declared.filter.Filter.{Filter}
use Rattle.pubsub.specs.declared.filter.Filter.TheVariants as f
use Rattle.pubsub.specs.declared.request.Wanted.{Wanted}
use Rattle.pubsub.specs.declared.request.Wanted.TheVariants as w
use Rattle.pubsub.specs.declared.request.SubRequest.{SubRequest}
use Rattle.pubsub.specs.declared.request.SubRefusal.{SubRefusal}
use Rattle.pubsub.specs.declared.request.SubRefusal.TheVariants as r

-- a schema, and a filter for each of its tables, in its order
pub record Subscribed : Type 0 where
  pub schema : List Shape
  pub filters : List Filter

abbrev pub table_names : List Shape → List (List ℕ)
table_names = map (λ shape. shape.table)

-- no rows of any table
abbrev pub nothing_of : List Shape → List Filter
nothing_of = map (λ shape. f.Nothing)

abbrev pub is_nothing : Filter → Bool
is_nothing f.Nothing = true
is_nothing f.Everything = false
is_nothing (f.Symbols symbols) = false

-- whether any table is subscribed
abbrev pub is_any : List Filter → Bool
is_any = list_any (λ filter. not (is_nothing filter))

-- the filter that a client asks for
abbrev pub filter_of : Wanted → Filter
filter_of w.Everything = f.Everything
filter_of (w.Symbols symbols) = f.Symbols symbols

-- whether a table is asked for: by its name, or by the null symbol
abbrev pub is_asked : List ℕ → List ℕ → Bool
is_asked [] table = true
is_asked (b ∷ asked) table = bytes_eq (b ∷ asked) table

-- whether there is a table of the name that is asked for; the null symbol asks for every table
abbrev pub is_known : List ℕ → List (List ℕ) → Bool
is_known [] tables = true
is_known (b ∷ asked) tables = list_any (bytes_eq (b ∷ asked)) tables

-- the filters of tables where some are replaced: those of the tables asked for
abbrev pub replaced : List ℕ → Filter → List (List ℕ) → List Filter → List Filter
replaced asked new [] filters = []
replaced asked new (table ∷ tables) [] = []
replaced asked new (table ∷ tables) (old ∷ filters) = (if is_asked asked table then new else old) ∷ replaced asked new tables filters

-- a subscription after a request: the filters of the tables asked for are replaced, the others stay
abbrev pub after_request : SubRequest → Subscribed → Subscribed
after_request request subscribed = record subscribed {
  filters = replaced request.tables (filter_of request.symbols) (table_names subscribed.schema) subscribed.filters;
}

-- why a request is refused
abbrev pub Refuses : SubRequest → List Shape → SubRefusal → Type 0
Refuses request schema (r.NoTable name) = (name ≡ request.tables) × (is_known request.tables (table_names schema) ≡ false)
Refuses request schema r.NoMemory = Unit {0}

-- the refusal of a table that is missing, unless its name can't be copied
abbrev pub IsNoTable : List ℕ → SubRefusal → Type 0
IsNoTable asked (r.NoTable name) = name ≡ asked
IsNoTable asked r.NoMemory = Unit {0}
