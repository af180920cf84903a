-- The reserved words of the query language (KX, Reference card), and the names that no schema may use.
use Rattle.std.specs.Prelude.{◌≡◌, ◌↔◌, ℕ, ◌||◌, Bool, true, if◌then◌else◌, List, [], ◌∷◌, ◌++◌, map, codes, Contains, Option, Some, None, is_some}
use Rattle.std.specs.List.{list_any}
use Rattle.std.specs.Str.{bytes_eq}
use Rattle.q_words.specs.declared.word.ReservedWord.{ReservedWord}
use Rattle.q_words.specs.declared.word.ReservedWord.TheVariants as w

-- each word with its text
abbrev pub words : List (List ℕ × ReservedWord)
words =
    (codes "select", w.Select) ∷ (codes "exec", w.Exec) ∷ (codes "by", w.By) ∷ (codes "from", w.From) ∷ (codes "where", w.Where)
    ∷ (codes "aj", w.Aj) ∷ (codes "div", w.Div) ∷ (codes "mod", w.Mod) ∷ (codes "xbar", w.Xbar) ∷ (codes "within", w.Within)
    ∷ (codes "in", w.In) ∷ (codes "like", w.Like) ∷ (codes "and", w.And) ∷ (codes "or", w.Or) ∷ (codes "not", w.Not)
    ∷ (codes "neg", w.Neg) ∷ (codes "count", w.Count) ∷ (codes "sum", w.Sum) ∷ (codes "min", w.Min) ∷ (codes "max", w.Max)
    ∷ (codes "first", w.First) ∷ (codes "last", w.Last) ∷ (codes "distinct", w.Distinct) ∷ []

-- the names of the virtual columns
abbrev pub virtual_names : List (List ℕ)
virtual_names = codes "date" ∷ codes "i" ∷ []

-- what stands beside this text in a list, where it stands first
abbrev pub beside_in : {X : Type 0} → List (List ℕ × X) → List ℕ → Option X
beside_in [] text = None
beside_in (entry ∷ entries) text = if bytes_eq text entry.0 then Some entry.1 else beside_in entries text

-- the reserved word with this text
unfoldable pub reserved_word : List ℕ → Option ReservedWord
reserved_word text = beside_in words text

-- whether no table and no column may have this name
abbrev pub is_reserved : List ℕ → Bool
is_reserved name = is_some (reserved_word name) || list_any (bytes_eq name) virtual_names

-- the reserved names are the texts of the words and the names of the virtual columns
abbrev pub NamesAreWords : List ℕ → Type 0
NamesAreWords name = (is_reserved name ≡ true) ↔ Contains (map (λ (entry : List ℕ × ReservedWord). entry.0) words ++ virtual_names) name
