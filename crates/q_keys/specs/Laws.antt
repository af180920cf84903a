-- What keys are, in other words.
use Rattle.std.specs.Prelude.{◌≡◌, ℕ, ◌<◌, List, length, slice_index, slice_index_or}
use Rattle.std.specs.List.{list_any}
use Rattle.std.specs.Ordering.{nat_cmp}
use Rattle.std.specs.declared.cmp.Ordering.TheVariants.{Less}
use Rattle.q_values.specs.declared.atom.Atom.{Atom}
use Rattle.q_keys.specs.Keys.{key_cmp, same_key, keys_in, codes_in}

-- of two keys of rows the earlier one is the lesser
abbrev pub KeysAscend : Type 0
KeysAscend = (rows : List (List Atom)) (i j : ℕ) (d : List Atom) → i < j → j < length (keys_in rows)
    → key_cmp (slice_index_or (keys_in rows) i d) (slice_index_or (keys_in rows) j d) ≡ Less

-- a key is among the keys of rows where a row has it
abbrev pub KeysAreThoseOfRows : Type 0
KeysAreThoseOfRows = (rows : List (List Atom)) (key : List Atom) → list_any (same_key key) (keys_in rows) ≡ list_any (same_key key) rows

-- rows compare as the numbers of their groups do
abbrev pub CodesCompareAsKeys : Type 0
CodesCompareAsKeys = (rows : List (List Atom)) (i j : ℕ) (d : List Atom) → i < length rows → j < length rows
    → nat_cmp (slice_index (codes_in rows) i) (slice_index (codes_in rows) j) ≡ key_cmp (slice_index_or rows i d) (slice_index_or rows j d)
