-- Calls of a disk in memory, as it shows them.
use Rattle.std.proofs.Common.{◌≡◌, inr, ◌≤◌, ℕ, true, false, List, [], ◌∷◌, ◌++◌, length, map, sym, ◌∙◌, ap, subst, Result, Ok, Err, OnOk, is_err}
use Rattle.std.proofs.lemmas.List.{map_push}
use Rattle.outside_api.specs.Disk.{Changes, Writing, spoiled, put}
use Rattle.outside_api.specs.declared.disk.DiskFault.{DiskFault}
use Rattle.outside_mem.specs.MemFile.{file_in, ChangesFile}
use Rattle.outside_mem.specs.MemDisk.{MemDiskView, shown_by}
use Rattle.outside_mem.specs.declared.files.Numbered.{Numbered}
use Rattle.outside_mem.proofs.FileLemmas.{part_torn}

-- a call that didn't fail
pub ok_of : {T E : Type 0} (r : Result T E) (P : Type 0) → is_err r ≡ false → OnOk r P → P
ok_of (Ok x) P is p = p
ok_of (Err e) P is p = let h : true ≡ false = is in absurd (cc)

-- a write of which a part was done
pub torn_changes : (old new : MemDiskView) (files : List Numbered) (past : List (List Numbered)) (done : List Numbered) (file at : ℕ) (bytes part : List ℕ) (fault : DiskFault)
    → files ≡ old.files → past ≡ old.past → new.files ≡ done → new.past ≡ past ++ files ∷ [] → at ≤ length (file_in old.files file).bytes → length part ≤ length bytes
    → ChangesFile (file_in files) (file_in done) file (spoiled (file_in files file) at (length bytes) (put (file_in files file).bytes at part))
    → Changes (shown_by old) (shown_by new) file (Writing {T = Unit {0}} at bytes (Err fault))
torn_changes old new files past done file at bytes part fault same_files same_past is_done is_past within le changes =
    let there = subst (λ (l : List Numbered). ChangesFile (file_in files) (file_in l) file (spoiled (file_in files file) at (length bytes) (put (file_in files file).bytes at part))) (sym is_done) changes in
    let here = subst (λ (l : List Numbered). ChangesFile (file_in l) (file_in new.files) file (spoiled (file_in l file) at (length bytes) (put (file_in l file).bytes at part))) same_files there in
    record {
      past = ap (map file_in) (is_past ∙ (λ i. same_past i ++ same_files i ∷ [])) ∙ map_push file_in old.past old.files;
      changed = inr (put (file_in old.files file).bytes at part, part_torn (file_in old.files file).bytes part at (length bytes) within le, here.changed);
      others = here.others;
    }
