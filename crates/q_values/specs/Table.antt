use Rattle.std.specs.Prelude.{◌≡◌, ◌<◌, ℕ, List, [], ◌∷◌, length, All}
use Rattle.q_values.specs.Contents.{Contents}

-- the number of rows that columns have: that of the first
abbrev pub rows_of : List Contents → ℕ
rows_of [] = 0
rows_of (column ∷ columns) = length column.atoms

-- names and columns make a table
pub record IsTable (names : List (List ℕ)) (columns : List Contents) : Type 0 where
  pub some : 0 < length columns
  pub named : length names ≡ length columns
  pub even : All (λ column. length column.atoms ≡ rows_of columns) columns
