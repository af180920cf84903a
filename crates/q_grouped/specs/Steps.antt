-- What the loops over rows make of one more item.
use Rattle.std.specs.Prelude.{ℤ, pos, ◌+ℤ◌, ℕ, Bool, List, Option, Some, None, unwrap_or, is_some, if◌then◌else◌, slice_index_or}
use Rattle.std.specs.declared.cmp.Ordering.{Ordering}
use Rattle.std.specs.Int.{w64, int_wrap}
use Rattle.q_verbs.specs.Numbers.{numeric, worth_cmp}

-- a number, or the null, of some items is added to a sum of 64 bits
abbrev pub added : {X : Type 0} → (X → Option ℤ) → ℤ → X → ℤ
added number sum x = int_wrap w64 (sum +ℤ unwrap_or (number x) (pos 0))

-- the first item where it is in the relation to the second one, and else the second one
abbrev pub picked : {X : Type 0} → (Ordering → Bool) → (X → Option ℤ) → X → X → X
picked relates number best x = if relates (worth_cmp (numeric (number best)) (numeric (number x))) then best else x

-- the same of what was picked so far and an item, which is skipped where it is a null
abbrev pub kept : {X : Type 0} → (Ordering → Bool) → (X → Option ℤ) → X → X → X
kept relates number best x = if is_some (number x) then picked relates number best x else best

-- the item at the row, or else this one
abbrev pub item_or : {X : Type 0} → X → List X → Option ℕ → X
item_or other xs None = other
item_or other xs (Some row) = slice_index_or xs row other

-- the row that was seen first, where one was, and else this one
abbrev pub first_seen : Option ℕ → ℕ → Option ℕ
first_seen None row = Some row
first_seen (Some seen) row = Some seen

-- the row that was seen last
abbrev pub last_seen : Option ℕ → ℕ → Option ℕ
last_seen seen row = Some row
