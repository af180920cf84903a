-- What a set of symbols is searched in.
use Rattle.std.specs.Prelude.{◌≡◌, ◌≤◌, ℕ, Bool, List, Vec, length}
use Rattle.std.specs.HashSet.{HashSet, contains, contains_by}
use Rattle.std.specs.List.{list_any}
use Rattle.std.specs.Str.{bytes_eq}
use Rattle.pubsub.specs.declared.symbol_set.Short.{Short}
use Rattle.pubsub.specs.declared.symbol_set.Short.TheVariants as s

-- whether a symbol of at most eight bytes is among these
abbrev pub has_short : Short → List ℕ → Bool
has_short (s.Few items) bytes = list_any (bytes_eq bytes) items.items
has_short (s.Many items) bytes = contains bytes_eq items bytes

-- whether the set has a vector with these bytes
abbrev pub has_text : {Y S : Type 0} → HashSet (Vec ℕ Y) S → List ℕ → Bool
has_text texts bytes = contains_by (λ text. bytes_eq bytes text.items) texts

-- a symbol of at most eight bytes is found among the first where it was given, and any symbol in the second
pub record AreGiven {Y S : Type 0} (short : Short) (texts : HashSet (Vec ℕ Y) S) (given : List (List ℕ)) : Type 0 where
  pub short_are : (bytes : List ℕ) → length bytes ≤ 8 → has_short short bytes ≡ list_any (bytes_eq bytes) given
  pub texts_are : (bytes : List ℕ) → has_text texts bytes ≡ list_any (bytes_eq bytes) given
