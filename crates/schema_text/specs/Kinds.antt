-- The kinds that a column may have, and the columns that each table has.
use Rattle.std.specs.Prelude.{ℕ, ◌&&◌, Bool, true, false, List, [], ◌∷◌, Option, codes}
use Rattle.std.specs.Str.{bytes_eq}
use Rattle.q_values.specs.declared.kind.Kind.{Kind}
use Rattle.q_values.specs.declared.kind.Kind.TheVariants as k
use Rattle.q_words.specs.Words.{beside_in}

-- the kinds that a column may have, each with its name (KX, Datatypes reference)
abbrev pub kind_names : List (List ℕ × Kind)
kind_names =
    (codes "boolean", k.Boolean) ∷ (codes "byte", k.Byte) ∷ (codes "short", k.Short) ∷ (codes "int", k.Integer) ∷ (codes "long", k.Long)
    ∷ (codes "symbol", k.Symbol) ∷ (codes "timestamp", k.Timestamp) ∷ (codes "month", k.Month) ∷ (codes "date", k.Date)
    ∷ (codes "timespan", k.Timespan) ∷ (codes "minute", k.Minute) ∷ (codes "second", k.Second) ∷ (codes "time", k.Time) ∷ []

-- the kind with this name
unfoldable pub kind_named : List ℕ → Option Kind
kind_named name = beside_in kind_names name

-- the first kinds are a timespan and a symbol
abbrev pub is_first_kinds : List Kind → Bool
is_first_kinds (k.Timespan ∷ (k.Symbol ∷ kinds)) = true
is_first_kinds kinds = false

-- the first names are `time` and `sym`
abbrev pub is_first_names : List (List ℕ) → Bool
is_first_names (first ∷ (second ∷ names)) = bytes_eq first (codes "time") && bytes_eq second (codes "sym")
is_first_names names = false
