-- What a disk of numbered files holds, and what a crash at a moment may leave of it.
use Rattle.std.specs.Prelude.{◌≡◌, ◌≢◌, ◌⊎◌, ◌<◌, ◌≤◌, ℕ, ◌+◌, max, min, Bool, IsTrue, List, [], ◌∷◌, ◌++◌, length, take, drop, slice_index, Result, Ok, Err}
use Rattle.std.specs.Prelude.{replicate, map, true, false, if◌then◌else◌}
use Rattle.std.specs.List.{AllByRecursion}
use Rattle.outside_api.specs.Counts.{counted, last_count}
use Rattle.outside_api.specs.declared.disk.DiskFault.{DiskFault}
use Rattle.outside_api.specs.declared.range.WrittenRange.{WrittenRange}
use Rattle.outside_api.specs.declared.range.RangeState.{RangeState}
use Rattle.outside_api.specs.declared.range.RangeState.TheVariants.{Unsynced, Lost, Kept}

-- a file: its bytes as reads give them; the ranges that were written since its last sync, or, once a sync of it has failed,
-- all that were written since the last sync before that one; the least and the greatest size that a crash may leave; how far
-- the writes reach that succeeded since its last sync; and whether a sync of it has failed
pub record FileState : Type 0 where
  pub bytes : List ℕ
  pub ranges : List WrittenRange
  pub least : ℕ
  pub greatest : ℕ
  pub reach : ℕ
  pub failed : Bool

-- a file of which everything is durable
abbrev pub kept_file : List ℕ → FileState
kept_file bytes = record { bytes = bytes; ranges = []; least = length bytes; greatest = length bytes; reach = 0; failed = false }

-- a file that was never written
abbrev pub empty_file : FileState
empty_file = kept_file []

-- no sync of the file has failed, so the next one that succeeds makes all of it durable
abbrev pub IsSettled : FileState → Type 0
IsSettled file = file.failed ≡ false

-- an offset lies before this range or after it
abbrev pub IsBeside : ℕ → WrittenRange → Type 0
IsBeside k range = (k < range.at) ⊎ (range.at + range.size ≤ k)

-- one of these ranges holds the offset and is durable
abbrev pub IsKeptAt : ℕ → List WrittenRange → Type 0
IsKeptAt k [] = ⊥
IsKeptAt k (range ∷ ranges) = ((range.state ≡ Kept) × (range.at ≤ k) × (k < range.at + range.size)) ⊎ IsKeptAt k ranges

-- the last of these ranges that holds the offset is durable, or none holds it
abbrev pub IsDurableAt : ℕ → List WrittenRange → Type 0
IsDurableAt k [] = Unit {0}
IsDurableAt k (range ∷ ranges) = (IsBeside k range ⊎ ((range.state ≡ Kept) ⊎ IsKeptAt k ranges)) × IsDurableAt k ranges

-- what a crash may leave of a file: a size between the least and the greatest, and below the least size the bytes that
-- reads give, at each offset that is durable
pub record IsImage (file : FileState) (image : List ℕ) : Type 0 where
  pub no_shorter : file.least ≤ length image
  pub no_longer : length image ≤ file.greatest
  pub agrees : (k : ℕ) → k < file.least → IsDurableAt k file.ranges → slice_index image k ≡ slice_index file.bytes k

-- what a disk shows: how often it failed, whether it reports what it holds, and where it does, its files by number, as
-- they are now and as they were at each moment before, the first of them first
pub record DiskView : Type 0 where
  pub faults : ℕ
  pub tells : Bool
  pub now : ℕ → FileState
  pub past : List (ℕ → FileState)

-- a count rose: it is greater than before, or at its last value
abbrev pub Rose : ℕ → ℕ → Type 0
Rose old new = (old < new) ⊎ (new ≡ last_count)

-- a fault is counted, and nothing else; no call changes whether the disk reports
abbrev pub Counts : {T : Type 0} → DiskView → DiskView → Result T DiskFault → Type 0
Counts old new (Ok _) = (new.faults ≡ old.faults) × (new.tells ≡ old.tells)
Counts old new (Err _) = (new.faults ≡ counted old.faults 1) × (new.tells ≡ old.tells)

-- where the disk reports, one moment passed, and nothing changed
abbrev pub Looks : DiskView → DiskView → Type 0
Looks old new = IsTrue old.tells → (new.now ≡ old.now) × (new.past ≡ old.past ++ old.now ∷ [])

-- where the disk reports, nothing changed, however many moments passed
abbrev pub Stays : DiskView → DiskView → Type 0
Stays old new = IsTrue old.tells → (new.now ≡ old.now) × ((moments : ℕ) × (new.past ≡ old.past ++ replicate moments old.now))

-- one moment more, at which this file has changed so, and no other has
pub record Changes (old new : DiskView) (file : ℕ) (Step : FileState → FileState → Type 0) : Type 0 where
  pub past : new.past ≡ old.past ++ old.now ∷ []
  pub changed : Step (old.now file) (new.now file)
  pub others : (k : ℕ) → k ≢ file → new.now k ≡ old.now k

-- at each moment since the old view this file has only images with P, and the others are as they were
pub record Passes (old new : DiskView) (file : ℕ) (P : List ℕ → Type 0) : Type 0 where
  pub moments : List (ℕ → FileState)
  pub goes_on : new.past ++ new.now ∷ [] ≡ (old.past ++ old.now ∷ []) ++ moments
  pub images : AllByRecursion (λ files. (image : List ℕ) → IsImage (files file) image → P image) moments
  pub others : AllByRecursion (λ files. (k : ℕ) → k ≢ file → files k ≡ old.now k) moments
  pub others_now : (k : ℕ) → k ≢ file → new.now k ≡ old.now k

-- where the disk reports, the range of n bytes from this offset lies within the file
abbrev pub IsWithin : DiskView → ℕ → ℕ → ℕ → Type 0
IsWithin disk file at n = IsTrue disk.tells → at + n ≤ length (disk.now file).bytes

-- these bytes at an offset, and the others as before
abbrev pub put : List ℕ → ℕ → List ℕ → List ℕ
put old at bytes = take at old ++ bytes ++ drop (at + length bytes) old

-- a file with one range more that was written, where reads then give these bytes
abbrev pub with_range : FileState → WrittenRange → List ℕ → FileState
with_range old range bytes = record old { bytes = bytes; ranges = old.ranges ++ range ∷ []; greatest = max old.greatest (range.at + range.size) }

-- a file after a write of n bytes at an offset
abbrev pub written : FileState → ℕ → ℕ → List ℕ → FileState
written old at n bytes = record (with_range old (record { at = at; size = n; state = Unsynced }) bytes) { reach = max old.reach (at + n) }

-- a file after a write that failed and may have been done in part
abbrev pub spoiled : FileState → ℕ → ℕ → List ℕ → FileState
spoiled old at n bytes = with_range old (record { at = at; size = n; state = Lost }) bytes

-- after a write of n bytes that failed midway: any bytes in the range, and the others as before
pub record IsTorn (at n : ℕ) (old torn : List ℕ) : Type 0 where
  pub before : take at torn ≡ take at old
  pub after : drop (at + n) torn ≡ drop (at + n) old
  pub no_shorter : length old ≤ length torn
  pub no_longer : length torn ≤ max (length old) (at + n)

-- what a write changes; one that fails changes nothing, or is done in part or whole
abbrev pub Writing : {T : Type 0} → ℕ → List ℕ → Result T DiskFault → FileState → FileState → Type 0
Writing at bytes (Ok _) old new = new ≡ written old at (length bytes) (put old.bytes at bytes)
Writing at bytes (Err _) old new = (new ≡ old) ⊎ ((torn : List ℕ) × IsTorn at (length bytes) old.bytes torn × (new ≡ spoiled old at (length bytes) torn))

-- a file that was truncated to a size
abbrev pub cut_to : ℕ → FileState → FileState
cut_to size old = record old { bytes = take size old.bytes; least = min old.least size }

-- what a truncation changes; one that fails changes nothing, or is done in part or whole
abbrev pub Cutting : {T : Type 0} → ℕ → Result T DiskFault → FileState → FileState → Type 0
Cutting size (Ok _) old new = new ≡ cut_to size old
Cutting size (Err _) old new = (new ≡ old) ⊎ ((part : ℕ) × (size ≤ part) × (new ≡ record (cut_to size old) { bytes = take part old.bytes }))

-- a range after a sync that succeeded: durable where it was written since the last sync
abbrev pub after_sync : RangeState → RangeState
after_sync Unsynced = Kept
after_sync Lost = Lost
after_sync Kept = Kept

-- a range after a sync that failed: what wasn't durable may be lost, whatever later syncs answer, until it is written anew
abbrev pub after_fault : RangeState → RangeState
after_fault Unsynced = Lost
after_fault Lost = Lost
after_fault Kept = Kept

-- the range in the state that this makes of its own
abbrev pub in_state : (RangeState → RangeState) → WrittenRange → WrittenRange
in_state step range = record range { state = step range.state }

-- a file after a sync that succeeded although one before it failed: what was written since the last sync is durable, and the
-- file is at least as long as that; the rest is as before
abbrev pub partly_kept : FileState → FileState
partly_kept old = record old { ranges = map (in_state after_sync) old.ranges; least = max old.least (min (length old.bytes) old.reach); reach = 0 }

-- a file after a sync that succeeded
abbrev pub synced : FileState → FileState
synced old = if old.failed then partly_kept old else kept_file old.bytes

-- a file after a sync that failed and may have lost what wasn't durable
abbrev pub unsettled : FileState → FileState
unsettled old = record old { ranges = map (in_state after_fault) old.ranges; reach = 0; failed = true }

-- what a sync changes; one that fails changes nothing, or may lose what wasn't durable
abbrev pub Syncing : {T : Type 0} → Result T DiskFault → FileState → FileState → Type 0
Syncing (Ok _) old new = new ≡ synced old
Syncing (Err _) old new = (new ≡ old) ⊎ (new ≡ unsettled old)
