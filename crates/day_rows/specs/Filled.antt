-- How the updates of a day fill blocks.
use Rattle.std.specs.Prelude.{ℕ, ◌+◌, if◌then◌else◌, List, [], ◌∷◌, nat_le}
use Rattle.day_rows.specs.Day.{entry_rows}
use Rattle.day_rows.specs.declared.entry.Entry.{Entry}

-- the number of sealed blocks, and of the rows after them
pub record Filled : Type 0 where
  pub blocks : ℕ
  pub loose : ℕ

-- after an update of this many rows, which seals the block if that has at least 1,024 then
abbrev pub filled_more : Filled → ℕ → Filled
filled_more before rows =
    if nat_le 1024 (before.loose + rows) then record { blocks = before.blocks + 1; loose = 0 } else record before { loose = before.loose + rows }

-- after these updates
abbrev pub filled_after : Filled → List Entry → Filled
filled_after before [] = before
filled_after before (entry ∷ updates) = filled_after (filled_more before (entry_rows entry)) updates

-- what the updates of a day have filled
abbrev pub filled : List Entry → Filled
filled = filled_after (record { blocks = 0; loose = 0 })
