-- Columns at some indices.
use Rattle.std.specs.Prelude.{ℕ, List}
use Rattle.q_values.specs.Contents.{Contents}
use Rattle.q_values.specs.Lists.{gathered}

-- a column's items at these indices
abbrev pub column_at : List ℕ → Contents → Contents
column_at places column = record column { atoms = gathered column.atoms places }
