-- What a load leaves.
use Rattle.std.proofs.Common.{◌≡◌, ◌⊎◌, inl, inr, ℕ, ◌+◌, ◌≤◌, List, [], ◌∷◌, ◌++◌, length, take, replicate, refl, sym, ◌∙◌, ap, subst, arith, append_assoc, length-append, Result, Ok, Err, None}
use Rattle.std.proofs.lemmas.List.{take_at, ext_get_or}
use Rattle.outside_api.specs.declared.disk.DiskFault.{DiskFault}
use Rattle.outside_api.specs.Disk.{FileState, DiskView, IsImage, Changes, Passes, Syncing, after_sync, after_fault, kept_file, partly_kept, synced, unsettled}
use Rattle.gated_journal.proofs.Durable.{durable_map, synced_so}
use Rattle.gated_journal.specs.Format.{before_gate, Reads, IsEnd}
use Rattle.gated_journal.specs.Journal.{IsShut, Holds}
use Rattle.gated_journal.specs.declared.state.State.TheVariants.{Clean}
use Rattle.gated_journal.proofs.Moments.{passes_one, passes_on, passes_still}
use Rattle.gated_journal.proofs.Appends.{view_of, held_clean}

-- a file of which everything is kept has one image
pub kept_image : (bytes image : List ℕ) → IsImage (kept_file bytes) image → image ≡ bytes
kept_image bytes image is =
    ext_get_or 0 image bytes (omega (arith, is.no_shorter, is.no_longer)) (λ k less. is.agrees k (omega (arith, less, is.no_longer)) tt)

abbrev pub WasThere : FileState → List ℕ → Type 0
WasThere file image = IsImage file image ⊎ (image ≡ file.bytes)

-- a file of which a part is kept has no more images than before
partly_images : (old : FileState) (image : List ℕ) → IsImage (partly_kept old) image → IsImage old image
partly_images old image is = record {
  no_shorter = omega (arith, is.no_shorter);
  no_longer = is.no_longer;
  agrees = λ k less durable. is.agrees k (omega (arith, less)) (durable_map k after_sync refl old.ranges durable);
}

-- nor has one whose sync failed
unsettled_images : (old : FileState) (image : List ℕ) → IsImage (unsettled old) image → IsImage old image
unsettled_images old image is = record {
  no_shorter = is.no_shorter;
  no_longer = is.no_longer;
  agrees = λ k less durable. is.agrees k less (durable_map k after_fault refl old.ranges durable);
}

synced_images : (old : FileState) (image : List ℕ) → IsImage (synced old) image → WasThere old image
synced_images old = synced_so (λ (f : FileState). (image : List ℕ) → IsImage f image → WasThere old image) old (λ settled image is. inr (kept_image old.bytes image is)) (λ image is. inl (partly_images old image is))

sync_images : {T : Type 0} (result : Result T DiskFault) (old new : FileState) → Syncing result old new → (image : List ℕ) → IsImage new image → WasThere old image
sync_images (Ok x) old new w image is = synced_images old image (subst (λ (f : FileState). IsImage f image) w is)
sync_images (Err e) old new (inl same) image is = inl (subst (λ (f : FileState). IsImage f image) same is)
sync_images (Err e) old new (inr w) image is = inl (unsettled_images old image (subst (λ (f : FileState). IsImage f image) w is))

pub loaded : {T : Type 0} (old new : DiskView) (file : ℕ) (result : Result T DiskFault) → Changes old new file (Syncing result) → Passes old new file (WasThere (old.now file))
loaded old new file result changes = passes_one old new file (Syncing result) (WasThere (old.now file)) changes (sync_images result (old.now file) (new.now file) changes.changed)

-- a sync that succeeded, and reads after it
pub loaded_still : (old mid new : DiskView) (file : ℕ) → Changes old mid file (λ (a b : FileState). b ≡ synced a)
    → (new.now ≡ mid.now) × ((moments : ℕ) × (new.past ≡ mid.past ++ replicate moments mid.now)) → Passes old new file (WasThere (old.now file))
loaded_still old mid new file changes same =
    passes_on old mid new file (WasThere (old.now file)) (passes_one old mid file (λ (a b : FileState). b ≡ synced a) (WasThere (old.now file)) changes images)
    (passes_still mid new file (WasThere (old.now file)) same.0 same.1.0 same.1.1 images)
  where
    images : (image : List ℕ) → IsImage (mid.now file) image → WasThere (old.now file) image
    images image is = synced_images (old.now file) image (subst (λ (f : FileState). IsImage f image) changes.changed is)

shut_of_rest : (bytes front rest : List ℕ) (end : ℕ) → length front ≡ end → bytes ≡ front ++ rest → IsEnd rest → IsShut (kept_file bytes) front end
shut_of_rest bytes front [] end sized split ends = absurd ends
shut_of_rest bytes front (gate ∷ rest) end sized split ends =
    let size : length (front ++ gate ∷ []) ≡ end + 1 = omega (arith, length-append front (gate ∷ []), sized) in
    record {
      gate = gate;
      shut = ends;
      bytes = ap (take (end + 1)) (split ∙ sym (append_assoc front (gate ∷ []) rest)) ∙ take_at (front ++ gate ∷ []) rest (end + 1) size;
      long = omega (arith, ap length split, length-append front (gate ∷ rest), sized);
      durable = λ k low high. tt;
    }

-- a file that holds these records, all of it kept
pub held_loaded : (file end : ℕ) (at : FileState) (bytes : List ℕ) (records : List (List ℕ)) → at ≡ kept_file bytes → Reads bytes records → end ≡ length (before_gate records) → Holds (view_of file end Clean) at records None
held_loaded file end at bytes records is reads place =
    held_clean file end at records place reads.sized
    (subst (λ (f : FileState). IsShut f (before_gate records) end) (sym is) (shut_of_rest bytes (before_gate records) reads.rest end (sym place) reads.split reads.ends))

-- the records of a file are followed by a gate
pub gate_after : (bytes : List ℕ) (records : List (List ℕ)) (end : ℕ) → Reads bytes records → end ≡ length (before_gate records) → end + 1 ≤ length bytes
gate_after bytes records end reads place = go reads.rest reads.ends reads.split
  where
    go : (rest : List ℕ) → IsEnd rest → bytes ≡ before_gate records ++ rest → end + 1 ≤ length bytes
    go [] ends split = absurd ends
    go (gate ∷ rest) ends split = omega (arith, ap length split, length-append (before_gate records) (gate ∷ rest), place)
