-- A file in memory, and the files of a disk in memory.
use Rattle.std.specs.List.{AllByRecursion}
use Rattle.std.specs.Prelude.{slice_get, drop, Some}
use Rattle.std.specs.Prelude.{◌≡◌, ◌≢◌, ◌⊎◌, ◌<◌, ◌≤◌, ◌+◌, ◌==◌, ℕ, List, [], ◌∷◌, length, take, slice_index, get_or, min, if◌then◌else◌}
use Rattle.outside_api.specs.Disk.{FileState, IsDurableAt, IsImage, empty_file, unsettled}
use Rattle.outside_api.specs.declared.range.WrittenRange.{WrittenRange}
use Rattle.outside_api.specs.declared.range.RangeState.TheVariants.{Kept}
use Rattle.outside_mem.specs.Ranges.{IsNotKept, IsInDoubt}
use Rattle.outside_mem.specs.declared.calling.Leaving.{Leaving}
use Rattle.outside_mem.specs.declared.calling.Leaving.TheVariants.{Whole, Torn, Shortest, Range}
use Rattle.outside_mem.specs.declared.calling.RangeLeft.{RangeLeft}
use Rattle.outside_mem.specs.declared.calling.RangeLeft.TheVariants as range
use Rattle.outside_mem.specs.declared.files.Numbered.{Numbered}

-- the file of this number: the first one that has it, or one that was never written
unfoldable pub file_in : List Numbered → ℕ → FileState
file_in [] number = empty_file
file_in (entry ∷ entries) number = if entry.number == number then entry.file else file_in entries number

-- this file has changed so, and no other has
pub record ChangesFile (old new : ℕ → FileState) (number : ℕ) (file : FileState) : Type 0 where
  pub changed : new number ≡ file
  pub others : (k : ℕ) → k ≢ number → new k ≡ old k

-- no file has changed
abbrev pub KeepsFiles : (ℕ → FileState) → (ℕ → FileState) → Type 0
KeepsFiles old new = (k : ℕ) → new k ≡ old k

-- a sync of this file failed, and what wasn't durable of it may be lost; a file that was never written stays as it is
abbrev pub LosesFile : (ℕ → FileState) → (ℕ → FileState) → ℕ → Type 0
LosesFile old new number = ((old number ≡ empty_file) × KeepsFiles old new) ⊎ ChangesFile old new number (unsettled (old number))

-- no entry before this index has the number
abbrev pub IsAbsentBefore : List Numbered → ℕ → ℕ → Type 0
IsAbsentBefore entries number i = (k : ℕ) (d : Numbered) → k < i → k < length entries → (get_or entries k d).number ≢ number

-- the first entry of this number has this index
abbrev pub IsFirst : List Numbered → ℕ → ℕ → Type 0
IsFirst entries number i = IsAbsentBefore entries number i × ((d : Numbered) → (get_or entries i d).number ≡ number)

abbrev pub IsAbsent : List Numbered → ℕ → Type 0
IsAbsent entries number = IsAbsentBefore entries number (length entries)

-- these are the file's bytes, but for this one at each offset that isn't durable
pub record IsTornBy (byte : ℕ) (file : FileState) (image : List ℕ) : Type 0 where
  pub size : length image ≡ length file.bytes
  pub others : (k : ℕ) → IsDurableAt k file.ranges → slice_index image k ≡ slice_index file.bytes k
  pub torn : (k : ℕ) → k < length image → IsInDoubt k file.ranges → slice_index image k ≡ byte

-- what a crash leaves of a range of n bytes from an offset on, where what was there before isn't known
abbrev pub IsRangeLeft : RangeLeft → ℕ → ℕ → List ℕ → List ℕ → Type 0
IsRangeLeft range.Kept at n bytes image = image ≡ bytes
IsRangeLeft (range.Lost byte) at n bytes image = (k : ℕ) → k < length image → at ≤ k → k < at + n → slice_index image k ≡ byte
IsRangeLeft (range.Torn count) at n bytes image = (k : ℕ) → k < at + min count n → slice_index image k ≡ slice_index bytes k
IsRangeLeft range.Old at n bytes image = Unit {0}

-- these are the file's bytes, but in the range of this index, which is left so where it isn't durable; what was written to it
-- later and is durable stays
pub record IsLeftSo (index : ℕ) (left : RangeLeft) (file : FileState) (image : List ℕ) : Type 0 where
  pub size : length image ≡ length file.bytes
  pub others : (k : ℕ) → IsDurableAt k file.ranges → slice_index image k ≡ slice_index file.bytes k
  pub so : (range : WrittenRange) → slice_get file.ranges index ≡ Some range → IsNotKept range → AllByRecursion IsNotKept (drop (index + 1) file.ranges)
      → IsRangeLeft left range.at range.size file.bytes image
  pub kept : (range : WrittenRange) → slice_get file.ranges index ≡ Some range → range.state ≡ Kept → image ≡ file.bytes
  pub none : length file.ranges ≤ index → image ≡ file.bytes

-- what a crash leaves of a file, as it was chosen
abbrev pub IsChosen : Leaving → FileState → List ℕ → Type 0
IsChosen Whole file image = image ≡ file.bytes
IsChosen (Torn byte) file image = IsTornBy byte file image
IsChosen Shortest file image = image ≡ take file.least file.bytes
IsChosen (Range index left) file image = IsLeftSo index left file image

-- what a crash leaves of a file is one of its images, and the one that was chosen
pub record IsLeft (leaving : Leaving) (file : FileState) (left : List ℕ) : Type 0 where
  pub image : IsImage file left
  pub chosen : IsChosen leaving file left
