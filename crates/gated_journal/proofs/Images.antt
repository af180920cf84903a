-- What a crash leaves of a journal's file after each device call.
use Rattle.std.proofs.Common.{◌≡◌, ◌≢◌, inl, inr, ℕ, ◌+◌, ◌≤◌, ◌<◌, List, [], ◌∷◌, ◌++◌, length, get_or, take, drop, refl, sym, ◌∙◌, ap, subst, arith, append_assoc, length-append, length-take, length-drop, take-append-drop, map, Result, Ok, Err}
use Rattle.std.proofs.lemmas.Bool.{cases_lt}
use Rattle.std.proofs.lemmas.List.{take_at, drop_at, drop_more, get_or-take, get_or-drop, ext_get_or}
use Rattle.outside_api.specs.declared.disk.DiskFault.{DiskFault}
use Rattle.outside_api.specs.Disk.{FileState, IsImage, IsBeside, IsDurableAt, IsTorn, Writing, Syncing, in_state, put, written, spoiled, kept_file, partly_kept, synced, unsettled, after_sync, after_fault}
use Rattle.outside_api.specs.declared.range.RangeState.TheVariants.{Unsynced, Lost}
use Rattle.outside_api.specs.declared.range.RangeState.{RangeState}
use Rattle.gated_journal.specs.Format.{open_gate}
use Rattle.gated_journal.specs.Journal.{IsShut, IsAjar, IsDurableIn}
use Rattle.gated_journal.specs.Steps.{HasShut, HasAny}
use Rattle.gated_journal.proofs.Layouts.{put_behind}
use Rattle.gated_journal.proofs.Durable.{durable_push, durable_map, durable_new, synced_so}

-- an image agrees with reads in a stretch that is durable
pub stretch : (file : FileState) (image : List ℕ) (at n : ℕ) → IsImage file image → at + n ≤ file.least → at + n ≤ length file.bytes → IsDurableIn file at (at + n) → take n (drop at image) ≡ take n (drop at file.bytes)
stretch file image at n is long within durable =
    let here : length (take n (drop at image)) ≡ n = omega (arith, length-take n (drop at image), length-drop at image, is.no_shorter) in
    let there : length (take n (drop at file.bytes)) ≡ n = omega (arith, length-take n (drop at file.bytes), length-drop at file.bytes) in
    ext_get_or 0 (take n (drop at image)) (take n (drop at file.bytes)) (here ∙ sym there)
    (λ k less.
    let below : k < n = omega (arith, less, here) in
    get_or-take n (drop at image) k 0 below ∙ get_or-drop at image k 0
    ∙ is.agrees (at + k) (omega (arith, below, long)) (durable (at + k) (omega arith) (omega (arith, below)))
    ∙ sym (get_or-take n (drop at file.bytes) k 0 below ∙ get_or-drop at file.bytes k 0))

-- a list in three parts by its parts' bytes
pub joined : (bytes front following : List ℕ) (end : ℕ) → length front ≡ end → end < length bytes → take end bytes ≡ front → take (length following) (drop (end + 1) bytes) ≡ following → bytes ≡ front ++ get_or bytes end 0 ∷ (following ++ drop (length following) (drop (end + 1) bytes))
joined bytes front following end is long before after =
    sym (take-append-drop end bytes)
    ∙ ap (λ (l : List ℕ). l ++ drop end bytes) before
    ∙ ap (λ (l : List ℕ). front ++ l) (drop_more bytes end 0 long)
    ∙ ap (λ (l : List ℕ). front ++ get_or bytes end 0 ∷ l) (sym (take-append-drop (length following) (drop (end + 1) bytes)) ∙ ap (λ (l : List ℕ). l ++ drop (length following) (drop (end + 1) bytes)) after)

module _ (front : List ℕ) (end : ℕ) (sized : length front ≡ end) where
  shut_long : (file : FileState) → IsShut file front end → end + 1 ≤ length file.bytes
  shut_long file s = omega (arith, length-take (end + 1) file.bytes, ap length s.bytes, length-append front (s.gate ∷ []), sized)

  -- each image of a shut file is shut
  pub shut_images : (file : FileState) → IsShut file front end → (image : List ℕ) → IsImage file image → HasShut front image
  shut_images file s image is =
      let same = stretch file image 0 (end + 1) is (omega (arith, s.long)) (omega (arith, shut_long file s)) (λ k low high. s.durable k low (omega (arith, high))) in
      record {
        gate = s.gate;
        rest = drop (end + 1) image;
        shut = s.shut;
        split = sym (take-append-drop (end + 1) image) ∙ ap (λ (l : List ℕ). l ++ drop (end + 1) image) (same ∙ s.bytes) ∙ append_assoc front (s.gate ∷ []) (drop (end + 1) image);
      }

  -- so is what reads give
  pub shut_bytes : (file : FileState) → IsShut file front end → HasShut front file.bytes
  shut_bytes file s = record {
    gate = s.gate;
    rest = drop (end + 1) file.bytes;
    shut = s.shut;
    split = sym (take-append-drop (end + 1) file.bytes) ∙ ap (λ (l : List ℕ). l ++ drop (end + 1) file.bytes) s.bytes ∙ append_assoc front (s.gate ∷ []) (drop (end + 1) file.bytes);
  }

  -- whatever was written after the gate, whether that failed or not
  shut_by : (old new : FileState) → IsShut old front end → take (end + 1) new.bytes ≡ take (end + 1) old.bytes → old.least ≤ new.least → IsDurableIn new 0 (end + 1) → IsShut new front end
  shut_by old new s same long durable = record { gate = s.gate; shut = s.shut; bytes = same ∙ s.bytes; long = omega (arith, s.long, long); durable = durable }

  take_put : (bytes more : List ℕ) (at : ℕ) → at ≤ length bytes → take at (put bytes at more) ≡ take at bytes
  take_put bytes more at within =
      let size : length (take at bytes) ≡ at = omega (arith, length-take at bytes) in
      ap (take at) (append_assoc (take at bytes) more (drop (at + length more) bytes)) ∙ take_at (take at bytes) (more ++ drop (at + length more) bytes) at size

  pub shut_write : {T : Type 0} (more : List ℕ) (result : Result T DiskFault) (old new : FileState) → IsShut old front end → Writing (end + 1) more result old new → IsShut new front end
  shut_write more (Ok x) old new s w =
      subst (λ (f : FileState). IsShut f front end) (sym w)
      (shut_by old (written old (end + 1) (length more) (put old.bytes (end + 1) more)) s (take_put old.bytes more (end + 1) (shut_long old s)) (omega arith) (λ k low high. durable_push k old.ranges _ (inl high) (s.durable k low high)))
  shut_write more (Err e) old new s (inl same) = subst (λ (f : FileState). IsShut f front end) (sym same) s
  shut_write more (Err e) old new s (inr torn) =
      subst (λ (f : FileState). IsShut f front end) (sym torn.2)
      (shut_by old (spoiled old (end + 1) (length more) torn.0) s torn.1.before (omega arith) (λ k low high. durable_push k old.ranges _ (inl high) (s.durable k low high)))

  shut_kept : (old : FileState) → IsShut old front end → IsShut (kept_file old.bytes) front end
  shut_kept old s = record { gate = s.gate; shut = s.shut; bytes = s.bytes; long = shut_long old s; durable = λ k low high. tt }

  shut_partly : (old : FileState) → IsShut old front end → IsShut (partly_kept old) front end
  shut_partly old s = record { gate = s.gate; shut = s.shut; bytes = s.bytes; long = omega (arith, s.long); durable = λ k low high. durable_map k after_sync refl old.ranges (s.durable k low high) }

  shut_unsettled : (old : FileState) → IsShut old front end → IsShut (unsettled old) front end
  shut_unsettled old s = record { gate = s.gate; shut = s.shut; bytes = s.bytes; long = s.long; durable = λ k low high. durable_map k after_fault refl old.ranges (s.durable k low high) }

  pub shut_sync : {T : Type 0} (result : Result T DiskFault) (old new : FileState) → IsShut old front end → Syncing result old new → IsShut new front end
  shut_sync (Ok x) old new s w =
      subst (λ (f : FileState). IsShut f front end) (sym w) (synced_so (λ (f : FileState). IsShut f front end) old (λ settled. shut_kept old s) (shut_partly old s))
  shut_sync (Err e) old new s (inl same) = subst (λ (f : FileState). IsShut f front end) (sym same) s
  shut_sync (Err e) old new s (inr w) = subst (λ (f : FileState). IsShut f front end) (sym w) (shut_unsettled old s)

  module _ (following : List ℕ) where
    front_of : (bytes : List ℕ) (gate : ℕ) (rest : List ℕ) → bytes ≡ front ++ gate ∷ (following ++ rest) → take end bytes ≡ front
    front_of bytes gate rest is = ap (take end) is ∙ take_at front (gate ∷ (following ++ rest)) end sized

    after_of : (bytes : List ℕ) (gate : ℕ) (rest : List ℕ) → bytes ≡ front ++ gate ∷ (following ++ rest) → drop (end + 1) bytes ≡ following ++ rest
    after_of bytes gate rest is =
        let size : length (front ++ gate ∷ []) ≡ end + 1 = omega (arith, length-append front (gate ∷ []), sized) in
        ap (drop (end + 1)) (is ∙ sym (append_assoc front (gate ∷ []) (following ++ rest))) ∙ drop_at (front ++ gate ∷ []) (following ++ rest) (end + 1) size

    length_of : (bytes : List ℕ) (gate : ℕ) (rest : List ℕ) → bytes ≡ front ++ gate ∷ (following ++ rest) → end + 1 + length following ≤ length bytes
    length_of bytes gate rest is = omega (arith, ap length is, length-append front (gate ∷ (following ++ rest)), length-append following rest, sized)

    -- each image has the front part, any gate, and what stood after it
    pub ajar_images : (file : FileState) → IsAjar file front end following → (image : List ℕ) → IsImage file image → HasAny front following image
    ajar_images file a image is =
        let long = length_of file.bytes a.gate a.rest a.bytes in
        let before = stretch file image 0 end is (omega (arith, a.long)) (omega (arith, long)) (λ k low high. a.before k low (omega (arith, high))) in
        let after = stretch file image (end + 1) (length following) is a.long long a.after in
        record {
          gate = get_or image end 0;
          rest = drop (length following) (drop (end + 1) image);
          split = joined image front following end sized (omega (arith, is.no_shorter, a.long)) (before ∙ front_of file.bytes a.gate a.rest a.bytes)
              (after ∙ ap (take (length following)) (after_of file.bytes a.gate a.rest a.bytes) ∙ take_at following a.rest (length following) refl);
        }

    pub put_gate : (bytes : List ℕ) (gate new : ℕ) (rest : List ℕ) → bytes ≡ front ++ gate ∷ (following ++ rest) → put bytes end (new ∷ []) ≡ front ++ new ∷ (following ++ rest)
    put_gate bytes gate new rest is =
        ap (λ (l : List ℕ). put l end (new ∷ [])) is ∙ put_behind front (gate ∷ (following ++ rest)) (new ∷ []) end sized ∙ append_assoc front (new ∷ []) (following ++ rest)

    ajar_by : (old new : FileState) (gate : ℕ) (rest : List ℕ) → IsAjar old front end following → new.bytes ≡ front ++ gate ∷ (following ++ rest) → old.least ≤ new.least
        → ((k : ℕ) → k ≢ end → IsDurableAt k old.ranges → IsDurableAt k new.ranges) → IsAjar new front end following
    ajar_by old new gate rest a is long durable = record {
      gate = gate;
      rest = rest;
      bytes = is;
      long = omega (arith, a.long, long);
      before = λ k low high. durable k (omega (arith, high)) (a.before k low high);
      after = λ k low high. durable k (omega (arith, low)) (a.after k low high);
    }

    -- a range of the gate alone
    at_gate : (k : ℕ) (state : RangeState) → k ≢ end → IsBeside k (record { at = end; size = 1; state = state })
    at_gate k state apart = elim (cases_lt k end) [
      | inl low ↦ inl low
      | inr high ↦ inr (omega (arith, high, apart))
    ]

    torn_gate : (old : FileState) (torn : List ℕ) → IsAjar old front end following → IsTorn end 1 old.bytes torn → torn ≡ front ++ get_or torn end 0 ∷ (following ++ drop (length following) (drop (end + 1) torn))
    torn_gate old torn a t =
        joined torn front following end sized (omega (arith, t.no_shorter, length_of old.bytes a.gate a.rest a.bytes)) (t.before ∙ front_of old.bytes a.gate a.rest a.bytes)
        (ap (take (length following)) (t.after ∙ after_of old.bytes a.gate a.rest a.bytes) ∙ take_at following a.rest (length following) refl)

    -- whatever became of a write of the gate
    pub ajar_write : {T : Type 0} (gate : ℕ) (result : Result T DiskFault) (old new : FileState) → IsAjar old front end following → Writing end (gate ∷ []) result old new → IsAjar new front end following
    ajar_write gate (Ok x) old new a w =
        subst (λ (f : FileState). IsAjar f front end following) (sym w)
        (ajar_by old (written old end 1 (put old.bytes end (gate ∷ []))) gate a.rest a (put_gate old.bytes a.gate gate a.rest a.bytes) (omega arith) (λ k apart durable. durable_push k old.ranges _ (at_gate k Unsynced apart) durable))
    ajar_write gate (Err e) old new a (inl same) = subst (λ (f : FileState). IsAjar f front end following) (sym same) a
    ajar_write gate (Err e) old new a (inr torn) =
        subst (λ (f : FileState). IsAjar f front end following) (sym torn.2)
        (ajar_by old (spoiled old end 1 torn.0) (get_or torn.0 end 0) (drop (length following) (drop (end + 1) torn.0)) a (torn_gate old torn.0 a torn.1) (omega arith) (λ k apart durable. durable_push k old.ranges _ (at_gate k Lost apart) durable))

    ajar_kept : (old : FileState) → IsAjar old front end following → IsAjar (kept_file old.bytes) front end following
    ajar_kept old a = record { gate = a.gate; rest = a.rest; bytes = a.bytes; long = length_of old.bytes a.gate a.rest a.bytes; before = λ k low high. tt; after = λ k low high. tt }

    pub ajar_sync : {T : Type 0} (result : Result T DiskFault) (old new : FileState) → IsAjar old front end following → Syncing result old new → IsAjar new front end following
    ajar_sync (Ok x) old new a w =
        subst (λ (f : FileState). IsAjar f front end following) (sym w)
        (synced_so (λ (f : FileState). IsAjar f front end following) old (λ settled. ajar_kept old a)
        (ajar_by old (partly_kept old) a.gate a.rest a a.bytes (omega arith) (λ k apart durable. durable_map k after_sync refl old.ranges durable)))
    ajar_sync (Err e) old new a (inl same) = subst (λ (f : FileState). IsAjar f front end following) (sym same) a
    ajar_sync (Err e) old new a (inr w) =
        subst (λ (f : FileState). IsAjar f front end following) (sym w)
        (ajar_by old (unsettled old) a.gate a.rest a a.bytes (omega arith) (λ k apart durable. durable_map k after_fault refl old.ranges durable))

    -- what was written after a shut gate and synced stands there whatever becomes of the gate
    pub staged : (old : FileState) → IsShut old front end → IsAjar (synced (written old (end + 1) (length following) (put old.bytes (end + 1) following))) front end following
    staged old s =
        let rest = drop (end + 1 + length following) old.bytes in
        let is : put old.bytes (end + 1) following ≡ front ++ s.gate ∷ (following ++ rest) =
        ap (λ (l : List ℕ). l ++ following ++ rest) s.bytes ∙ append_assoc (front ++ s.gate ∷ []) following rest ∙ append_assoc front (s.gate ∷ []) (following ++ rest) in
        let size = length_of (put old.bytes (end + 1) following) s.gate rest is in
        synced_so (λ (f : FileState). IsAjar f front end following) (written old (end + 1) (length following) (put old.bytes (end + 1) following))
        (λ settled. record { gate = s.gate; rest = rest; bytes = is; long = size; before = λ k low high. tt; after = λ k low high. tt })
        (record {
          gate = s.gate;
          rest = rest;
          bytes = is;
          long = omega (arith, size);
          before = λ k low high. durable_map k after_sync refl (old.ranges ++ _ ∷ []) (durable_push k old.ranges _ (inl (omega (arith, high))) (s.durable k low (omega (arith, high))));
          after = λ k low high. durable_new k (end + 1) (length following) low high old.ranges;
        })

    -- a gate that was written and synced, and what follows it
    pub gated : (old : FileState) (gate : ℕ) → IsAjar old front end following → let new = synced (written old end 1 (put old.bytes end (gate ∷ []))) in
        (new.bytes ≡ put old.bytes end (gate ∷ [])) × (end + 1 + length following ≤ new.least) × IsDurableIn new 0 (end + 1 + length following)
    gated old gate a =
        let long = length_of (put old.bytes end (gate ∷ [])) gate a.rest (put_gate old.bytes a.gate gate a.rest a.bytes) in
        synced_so (λ (f : FileState). (f.bytes ≡ put old.bytes end (gate ∷ [])) × (end + 1 + length following ≤ f.least) × IsDurableIn f 0 (end + 1 + length following))
        (written old end 1 (put old.bytes end (gate ∷ []))) (λ settled. (refl, long, λ k low high. tt)) (refl, omega (arith, a.long), newly)
      where
        newly : (k : ℕ) → 0 ≤ k → k < end + 1 + length following → IsDurableAt k (map (in_state after_sync) (old.ranges ++ record { at = end; size = 1; state = Unsynced } ∷ []))
        newly k low high = elim (cases_lt k end) [
          | inl below ↦ durable_map k after_sync refl (old.ranges ++ _ ∷ []) (durable_push k old.ranges _ (inl below) (a.before k low below))
          | inr above ↦ elim (cases_lt k (end + 1)) [
            | inl here ↦ durable_new k end 1 above here old.ranges
            | inr past ↦ durable_map k after_sync refl (old.ranges ++ _ ∷ []) (durable_push k old.ranges _ (inr past) (a.after k past high))
          ]
        ]

    -- a gate that was closed and synced
    pub closed : (old : FileState) (gate : ℕ) → gate ≢ open_gate → IsAjar old front end following → IsShut (synced (written old end 1 (put old.bytes end (gate ∷ [])))) front end
    closed old gate shut a =
        let is = put_gate old.bytes a.gate gate a.rest a.bytes in
        let size : length (front ++ gate ∷ []) ≡ end + 1 = omega (arith, length-append front (gate ∷ []), sized) in
        let g = gated old gate a in
        record {
          gate = gate;
          shut = shut;
          bytes = ap (take (end + 1)) (g.0 ∙ is ∙ sym (append_assoc front (gate ∷ []) (following ++ a.rest))) ∙ take_at (front ++ gate ∷ []) (following ++ a.rest) (end + 1) size;
          long = omega (arith, g.1);
          durable = λ k low high. g.2 k low (omega (arith, high));
        }
