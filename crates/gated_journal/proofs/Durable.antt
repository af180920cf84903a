-- Which offsets of a file are durable after a write and a sync.
use Rattle.std.proofs.Common.{◌≡◌, inl, inr, ⊎_elim, ℕ, ◌+◌, ◌≤◌, ◌<◌, Bool, true, false, if◌then◌else◌, List, [], ◌∷◌, ◌++◌, map, refl, sym, ◌∙◌, ap, subst}
use Rattle.outside_api.specs.Disk.{FileState, IsBeside, IsKeptAt, IsDurableAt, IsSettled, in_state, after_sync, kept_file, partly_kept, synced, written}
use Rattle.outside_api.specs.declared.range.WrittenRange.{WrittenRange}
use Rattle.outside_api.specs.declared.range.RangeState.{RangeState}
use Rattle.outside_api.specs.declared.range.RangeState.TheVariants.{Unsynced, Kept}

module _ (k : ℕ) where
  kept_push : (ranges : List WrittenRange) (range : WrittenRange) → IsKeptAt k ranges → IsKeptAt k (ranges ++ range ∷ [])
  kept_push [] range kept = absurd kept
  kept_push (first ∷ ranges) range (inl here) = inl here
  kept_push (first ∷ ranges) range (inr there) = inr (kept_push ranges range there)

  -- a write elsewhere
  pub durable_push : (ranges : List WrittenRange) (range : WrittenRange) → IsBeside k range → IsDurableAt k ranges → IsDurableAt k (ranges ++ range ∷ [])
  durable_push [] range beside durable = (inl beside, tt)
  durable_push (first ∷ ranges) range beside durable =
      (⊎_elim (λ b. inl b) (λ kept. inr (⊎_elim (λ here. inl here) (λ there. inr (kept_push ranges range there)) kept)) durable.0, durable_push ranges range beside durable.1)

  -- a sync, whatever it answers
  module _ (step : RangeState → RangeState) (keeps : step Kept ≡ Kept) where
    kept_map : (ranges : List WrittenRange) → IsKeptAt k ranges → IsKeptAt k (map (in_state step) ranges)
    kept_map [] kept = absurd kept
    kept_map (first ∷ ranges) (inl here) = inl (ap step here.0 ∙ keeps, here.1, here.2)
    kept_map (first ∷ ranges) (inr there) = inr (kept_map ranges there)

    pub durable_map : (ranges : List WrittenRange) → IsDurableAt k ranges → IsDurableAt k (map (in_state step) ranges)
    durable_map [] durable = tt
    durable_map (first ∷ ranges) durable =
        (⊎_elim (λ b. inl b) (λ kept. inr (⊎_elim (λ here. inl (ap step here ∙ keeps)) (λ there. inr (kept_map ranges there)) kept)) durable.0, durable_map ranges durable.1)

  -- a write of this offset, and a sync that succeeded
  module _ (at n : ℕ) (low : at ≤ k) (high : k < at + n) where
    kept_new : (ranges : List WrittenRange) → IsKeptAt k (map (in_state after_sync) (ranges ++ record { at = at; size = n; state = Unsynced } ∷ []))
    kept_new [] = inl (refl, low, high)
    kept_new (first ∷ ranges) = inr (kept_new ranges)

    pub durable_new : (ranges : List WrittenRange) → IsDurableAt k (map (in_state after_sync) (ranges ++ record { at = at; size = n; state = Unsynced } ∷ []))
    durable_new [] = (inr (inl refl), tt)
    durable_new (first ∷ ranges) = (inr (inr (kept_new ranges)), durable_new ranges)

-- a file after a sync that succeeded, by whether one has failed
pub synced_so : (P : FileState → Type 0) (file : FileState) → (file.failed ≡ false → P (kept_file file.bytes)) → P (partly_kept file) → P (synced file)
synced_so P file whole partly = go file.failed refl
  where
    go : (failed : Bool) → file.failed ≡ failed → P (synced file)
    go true is = subst P (sym (ap (λ (b : Bool). if b then partly_kept file else kept_file file.bytes) is)) partly
    go false is = subst P (sym (ap (λ (b : Bool). if b then partly_kept file else kept_file file.bytes) is)) (whole is)

pub synced_bytes : (file : FileState) → (synced file).bytes ≡ file.bytes
synced_bytes file = synced_so (λ (f : FileState). f.bytes ≡ file.bytes) file (λ settled. refl) refl

pub synced_settled : (file : FileState) → IsSettled file → synced file ≡ kept_file file.bytes
synced_settled file settled = ap (λ (b : Bool). if b then partly_kept file else kept_file file.bytes) settled

-- a write and a sync that succeeded
pub wrote_bytes : (old new : FileState) (at n : ℕ) (bytes : List ℕ) → new ≡ synced (written old at n bytes) → new.bytes ≡ bytes
wrote_bytes old new at n bytes is = ap (λ (f : FileState). f.bytes) is ∙ synced_bytes (written old at n bytes)

pub wrote_settled : (old new : FileState) (at n : ℕ) (bytes : List ℕ) → new ≡ synced (written old at n bytes) → IsSettled old → new ≡ kept_file bytes
wrote_settled old new at n bytes is settled = is ∙ synced_settled (written old at n bytes) settled
