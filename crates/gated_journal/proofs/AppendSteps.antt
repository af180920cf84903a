-- The two steps of an append, of a journal as its caller sees it: each a write and a sync.
use Rattle.std.proofs.Common.{◌≡◌, ◌≤◌, ℕ, ◌+◌, Bool, IsTrue, arith, List, [], ◌∷◌, ◌++◌, length, subst, sym, ◌∙◌, ap, None, Some}
use Rattle.outside_api.specs.Disk.{FileState, DiskView, Passes, IsSettled, put, written, kept_file, synced}
use Rattle.gated_journal.specs.Format.{open_gate, IsPayload}
use Rattle.gated_journal.specs.Journal.{Keeps, HasLastGate, JournalView, MayRead, appended, body}
use Rattle.gated_journal.specs.Steps.{KeepsShut, KeepsAjar}
use Rattle.gated_journal.specs.declared.state.State.{State}
use Rattle.gated_journal.specs.declared.state.State.TheVariants.{Clean, BodyFailed, GateFailed}
use Rattle.gated_journal.proofs.Durable.{wrote_bytes, wrote_settled}
use Rattle.gated_journal.proofs.Reach.{length-put}
use Rattle.gated_journal.proofs.Appends.{view_of, body_failed, body_moments, gate_failed, gate_moments, added}

module _ (file end : ℕ) (state : State) (journal : JournalView) (is : view_of file end state ≡ journal) where
  -- the record's bytes could not be written
  pub failed_at_body : (old new : DiskView) → KeepsShut old new file end → new.tells ≡ old.tells
      → (records : List (List ℕ)) → Keeps old journal records None → Keeps new (view_of file end BodyFailed) records None
  failed_at_body old new shut same records =
      subst (λ (j : JournalView). Keeps old j records None → Keeps new (view_of file end BodyFailed) records None) is
      (body_failed file end records state old new shut same)

  pub moments_of_body : (payload : List ℕ) (old new : DiskView) → KeepsShut old new file end
      → (records : List (List ℕ)) → Keeps old journal records None → IsTrue old.tells → Passes old new journal.file (MayRead records (Some payload))
  moments_of_body payload old new shut records =
      subst (λ (j : JournalView). Keeps old j records None → IsTrue old.tells → Passes old new j.file (MayRead records (Some payload))) is
      (body_moments file end records state old new payload shut)

  -- the record's bytes were written, and are synced
  module _ (payload bytes : List ℕ) (one : IsPayload payload) (laid_out : bytes ≡ body payload) (old mid new : DiskView) (same : mid.tells ≡ old.tells)
      (kept : IsTrue old.tells → mid.now file ≡ synced (written (old.now file) (end + 1) (length bytes) (put (old.now file).bytes (end + 1) bytes))) where
    wrote : IsTrue old.tells → mid.now file ≡ synced (written (old.now file) (end + 1) (length (body payload)) (put (old.now file).bytes (end + 1) (body payload)))
    wrote tells = kept tells ∙ ap (λ (l : List ℕ). synced (written (old.now file) (end + 1) (length l) (put (old.now file).bytes (end + 1) l))) laid_out

    -- the gate could not be opened
    pub failed_at_gate : new.tells ≡ mid.tells → KeepsAjar mid new file end
        → (records : List (List ℕ)) → Keeps old journal records None → Keeps new (view_of file end GateFailed) records (Some payload)
    failed_at_gate same' ajar records =
        subst (λ (j : JournalView). Keeps old j records None → Keeps new (view_of file end GateFailed) records (Some payload)) is
        (gate_failed file end records payload one state old mid new same same' wrote ajar)

    pub moments_of_gate : KeepsShut old mid file end → KeepsAjar mid new file end
        → (records : List (List ℕ)) → Keeps old journal records None → IsTrue old.tells → Passes old new journal.file (MayRead records (Some payload))
    moments_of_gate shut ajar records =
        subst (λ (j : JournalView). Keeps old j records None → IsTrue old.tells → Passes old new j.file (MayRead records (Some payload))) is
        (gate_moments file end records payload one state old mid new same shut wrote ajar)

    -- the gate was opened
    pub added_record : new.tells ≡ mid.tells → (IsTrue mid.tells → new.now file ≡ synced (written (mid.now file) end 1 (put (mid.now file).bytes end (open_gate ∷ []))))
        → (records : List (List ℕ)) → Keeps old journal records None → Keeps new (view_of file (end + length bytes) Clean) (records ++ payload ∷ []) None
    added_record same' opens records =
        subst (λ (n : ℕ). Keeps old journal records None → Keeps new (view_of file (end + n) Clean) (records ++ payload ∷ []) None) (sym (ap length laid_out))
        (subst (λ (j : JournalView). Keeps old j records None → Keeps new (view_of file (end + length (body payload)) Clean) (records ++ payload ∷ []) None) is
        (added file end records payload one state old mid new same same' wrote opens))

    -- what reads then give
    module _ (opens : IsTrue mid.tells → new.now file ≡ synced (written (mid.now file) end 1 (put (mid.now file).bytes end (open_gate ∷ [])))) where
      at_mid : IsTrue old.tells → IsTrue mid.tells
      at_mid tells = subst (λ (b : Bool). IsTrue b) (sym same) tells

      pub appended_bytes : IsTrue old.tells → (new.now journal.file).bytes ≡ appended (old.now journal.file).bytes journal.end payload
      appended_bytes tells =
          subst (λ (j : JournalView). (new.now j.file).bytes ≡ appended (old.now j.file).bytes j.end payload) is
          (wrote_bytes (mid.now file) (new.now file) end 1 _ (opens (at_mid tells))
          ∙ ap (λ (l : List ℕ). put l end (open_gate ∷ [])) (wrote_bytes (old.now file) (mid.now file) (end + 1) (length (body payload)) _ (wrote tells)))

      pub appended_settled : IsTrue old.tells → IsSettled (old.now journal.file) → new.now journal.file ≡ kept_file (appended (old.now journal.file).bytes journal.end payload)
      appended_settled tells =
          subst (λ (j : JournalView). IsSettled (old.now j.file) → new.now j.file ≡ kept_file (appended (old.now j.file).bytes j.end payload)) is
          (λ settled.
          let half = wrote_settled (old.now file) (mid.now file) (end + 1) (length (body payload)) _ (wrote tells) settled in
          wrote_settled (mid.now file) (new.now file) end 1 _ (opens (at_mid tells)) (ap (λ (f : FileState). f.failed) half)
          ∙ ap (λ (f : FileState). kept_file (put f.bytes end (open_gate ∷ []))) half)

      pub gate_added : new.tells ≡ mid.tells → HasLastGate old journal → HasLastGate new (view_of file (end + length bytes) Clean)
      gate_added same' has tells =
          let t : IsTrue mid.tells = subst (λ (b : Bool). IsTrue b) same' tells in
          let t' : IsTrue old.tells = subst (λ (b : Bool). IsTrue b) same t in
          let within : end + 1 ≤ length (old.now file).bytes = subst (λ (j : JournalView). HasLastGate old j) (sym is) has t' in
          let half = ap length (wrote_bytes (old.now file) (mid.now file) (end + 1) (length bytes) _ (kept t')) in
          let whole = ap length (wrote_bytes (mid.now file) (new.now file) end 1 _ (opens t)) in
          let first = length-put (old.now file).bytes bytes (end + 1) within in
          omega (arith, within, half, whole, first, length-put (mid.now file).bytes (open_gate ∷ []) end (omega (arith, within, half, first)))
