-- Which tables a plant may have.
use Rattle.std.specs.Prelude.{◌≡◌, ◌≢◌, ◌≤◌, ℕ, Bool, true, false, ◌&&◌, ◌||◌, ◌==◌, List, [], ◌∷◌, length, take, nat_le, codes}
use Rattle.std.specs.List.{AllByRecursion}
use Rattle.std.specs.Str.{bytes_eq}
use Rattle.std.specs.Ordering.{nat_cmp}
use Rattle.std.specs.Cmp.Lexicographic.{slice_cmp}
use Rattle.std.specs.declared.cmp.Ordering.{Ordering}
use Rattle.std.specs.declared.cmp.Ordering.TheVariants.{Less}
use Rattle.q_values.specs.declared.kind.Kind.TheVariants as k
use Rattle.q_words.specs.Words.{is_reserved}
use Rattle.day_rows.specs.Sorted.{IsAscending}
use Rattle.day_rows.specs.declared.schema.Shape.{Shape}

abbrev pub is_letter : ℕ → Bool
is_letter b = (nat_le 65 b && nat_le b 90) || (nat_le 97 b && nat_le b 122)

abbrev pub is_digit : ℕ → Bool
is_digit b = nat_le 48 b && nat_le b 57

-- what may follow a name's first letter
abbrev pub is_word : ℕ → Bool
is_word b = is_letter b || is_digit b || (b == 95)

-- a letter, then letters, digits and underscores (Q for Mortals, 4.1)
abbrev pub IsWord : List ℕ → Type 0
IsWord [] = ⊥
IsWord (b ∷ bs) = (is_letter b ≡ true) × AllByRecursion (λ c. is_word c ≡ true) bs

-- the name of a table or a column: a word that queries don't reserve, of at most 64 bytes
pub record IsName (name : List ℕ) : Type 0 where
  pub word : IsWord name
  pub free : is_reserved name ≡ false
  pub short : length name ≤ 64

-- all elements are different
abbrev pub AreDistinct : List (List ℕ) → Type 0
AreDistinct [] = Unit {0}
AreDistinct (x ∷ xs) = AllByRecursion (λ y. bytes_eq y x ≡ false) xs × AreDistinct xs

-- a table: its name and its columns, the first of which are `time`, a timespan, and `sym`, a symbol (KX, tick.q)
pub record IsShape (shape : Shape) : Type 0 where
  pub table : IsName shape.table
  pub names : AllByRecursion IsName shape.names
  pub distinct : AreDistinct shape.names
  pub few : length shape.names ≤ 48
  pub named : length shape.names ≡ length shape.kinds
  pub first_names : take 2 shape.names ≡ codes "time" ∷ codes "sym" ∷ []
  pub first_kinds : take 2 shape.kinds ≡ k.Timespan ∷ k.Symbol ∷ []
  pub kinds : AllByRecursion (λ kind. kind ≢ k.Character) shape.kinds

abbrev pub by_name : Shape → Shape → Ordering
by_name a b = slice_cmp nat_cmp a.table b.table

-- each table's name is below the names after it, compared by bytes
abbrev pub AscendByName : List Shape → Type 0
AscendByName = IsAscending (λ a b. by_name a b ≡ Less)

pub record IsSchema (shapes : List Shape) : Type 0 where
  pub few : length shapes ≤ 64
  pub each : AllByRecursion IsShape shapes
  pub ascends : AscendByName shapes
