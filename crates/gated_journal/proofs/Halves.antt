-- A write and a sync, seen at each moment.
use Rattle.std.proofs.Common.{◌≡◌, ℕ, ◌+◌, List, [], ◌∷◌, length, Result}
use Rattle.outside_api.specs.declared.disk.DiskFault.{DiskFault}
use Rattle.outside_api.specs.Disk.{DiskView, Changes, Writing, Syncing}
use Rattle.gated_journal.specs.Journal.{IsShut, IsAjar}
use Rattle.gated_journal.specs.Steps.{HasShut, HasAny, StaysShut, StaysAjar}
use Rattle.gated_journal.proofs.Moments.{passes_one, passes_on}
use Rattle.gated_journal.proofs.Images.{shut_write, shut_sync, shut_images, ajar_write, ajar_sync, ajar_images}

module _ (file end : ℕ) (front : List ℕ) (sized : length front ≡ end) where
  pub shut_one : {T : Type 0} (old new : DiskView) (more : List ℕ) (result : Result T DiskFault) → Changes old new file (Writing (end + 1) more result) → IsShut (old.now file) front end → StaysShut old new file end front
  shut_one old new more result changes s =
      let stands = shut_write front end sized more result (old.now file) (new.now file) s changes.changed in
      record { passes = passes_one old new file (Writing (end + 1) more result) (HasShut front) changes (shut_images front end sized (new.now file) stands); stands = stands }

  pub shut_two : {T : Type 0} (old mid new : DiskView) (result : Result T DiskFault) → StaysShut old mid file end front → Changes mid new file (Syncing result) → StaysShut old new file end front
  shut_two old mid new result a changes =
      let stands = shut_sync front end sized result (mid.now file) (new.now file) a.stands changes.changed in
      record { passes = passes_on old mid new file (HasShut front) a.passes (passes_one mid new file (Syncing result) (HasShut front) changes (shut_images front end sized (new.now file) stands)); stands = stands }

  module _ (following : List ℕ) where
    pub ajar_one : {T : Type 0} (old new : DiskView) (gate : ℕ) (result : Result T DiskFault) → Changes old new file (Writing end (gate ∷ []) result) → IsAjar (old.now file) front end following → StaysAjar old new file end front following
    ajar_one old new gate result changes s =
        let stands = ajar_write front end sized following gate result (old.now file) (new.now file) s changes.changed in
        record { passes = passes_one old new file (Writing end (gate ∷ []) result) (HasAny front following) changes (ajar_images front end sized following (new.now file) stands); stands = stands }

    pub ajar_two : {T : Type 0} (old mid new : DiskView) (result : Result T DiskFault) → StaysAjar old mid file end front following → Changes mid new file (Syncing result) → StaysAjar old new file end front following
    ajar_two old mid new result a changes =
        let stands = ajar_sync front end sized following result (mid.now file) (new.now file) a.stands changes.changed in
        record { passes = passes_on old mid new file (HasAny front following) a.passes (passes_one mid new file (Syncing result) (HasAny front following) changes (ajar_images front end sized following (new.now file) stands)); stands = stands }

-- a sync by itself
pub shut_one_sync : {T : Type 0} (front : List ℕ) (end file : ℕ) → length front ≡ end → (old new : DiskView) (result : Result T DiskFault) → Changes old new file (Syncing result) → IsShut (old.now file) front end → StaysShut old new file end front
shut_one_sync front end file sized old new result changes s =
    let stands = shut_sync front end sized result (old.now file) (new.now file) s changes.changed in
    record { passes = passes_one old new file (Syncing result) (HasShut front) changes (shut_images front end sized (new.now file) stands); stands = stands }
