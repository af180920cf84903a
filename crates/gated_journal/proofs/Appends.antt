-- An append and a repair, seen at each moment and at their end.
use Rattle.std.proofs.Common.{◌≡◌, inl, inr, ◌⊎◌, ℕ, ◌+◌, Bool, IsTrue, List, [], ◌∷◌, ◌++◌, length, take, refl, sym, ◌∙◌, subst, arith, Result, Ok, Err, Option, Some, None, OnErr}
use Rattle.std.specs.List.{AllByRecursion}
use Rattle.outside_api.specs.Disk.{FileState, DiskView, IsImage, Changes, Syncing, Passes, put, written, cut_to, synced}
use Rattle.outside_api.specs.declared.disk.DiskFault.{DiskFault}
use Rattle.gated_journal.specs.Format.{open_gate, closed_gate, spelled, before_gate, IsPayload}
use Rattle.gated_journal.specs.Journal.{IsShut, IsAjar, Stands, MayRead, Holds, Keeps, body, JournalView, fresh_bytes}
use Rattle.gated_journal.specs.Steps.{HasShut, HasAny, StaysShut, StaysAjar, KeepsShut, KeepsAjar}
use Rattle.gated_journal.specs.declared.state.State.{State}
use Rattle.gated_journal.specs.declared.state.State.TheVariants.{Clean, BodyFailed, GateFailed}
use Rattle.gated_journal.proofs.Moments.{passes_on, passes_weaker}
use Rattle.gated_journal.proofs.Images.{shut_images, shut_bytes, ajar_images, put_gate, staged, gated, closed}
use Rattle.gated_journal.proofs.Durable.{durable_new, synced_so}
use Rattle.gated_journal.proofs.Halves.{shut_one_sync}
use Rattle.gated_journal.proofs.Reading.{reads_shut, reads_any, sized_push, length-push, opened}

pub on_err : {T E : Type 0} (r : Result T E) (P : Type 0) → P → OnErr r P
on_err (Ok x) P p = tt
on_err (Err e) P p = p

-- a journal with no late payload has a shut gate
pub shut_of : (state : State) (file : FileState) (front : List ℕ) (end : ℕ) → Stands state file front end None → IsShut file front end
shut_of Clean file front end s = s
shut_of BodyFailed file front end s = s
shut_of GateFailed file front end s = absurd s

abbrev pub view_of : ℕ → ℕ → State → JournalView
view_of file end state = record { file = file; end = end; state = state }

holds_shut : (file end : ℕ) (at : FileState) (records : List (List ℕ)) → end ≡ length (before_gate records) → AllByRecursion IsPayload records → IsShut at (before_gate records) end → (image : List ℕ) → IsImage at image → MayRead records None image
holds_shut file end at records is sized s image i = reads_shut records image sized (shut_images (before_gate records) end (sym is) at s image i)

-- a shut gate, as a clean journal or one whose body failed holds it
pub held_clean : (file end : ℕ) (at : FileState) (records : List (List ℕ)) → end ≡ length (before_gate records) → AllByRecursion IsPayload records → IsShut at (before_gate records) end → Holds (view_of file end Clean) at records None
held_clean file end at records is sized s = record { end = is; sized = sized; stands = s; reads = reads_shut records at.bytes sized (shut_bytes (before_gate records) end (sym is) at s); images = holds_shut file end at records is sized s }

pub held_failed : (file end : ℕ) (at : FileState) (records : List (List ℕ)) → end ≡ length (before_gate records) → AllByRecursion IsPayload records → IsShut at (before_gate records) end → Holds (view_of file end BodyFailed) at records None
held_failed file end at records is sized s = record { end = is; sized = sized; stands = s; reads = reads_shut records at.bytes sized (shut_bytes (before_gate records) end (sym is) at s); images = holds_shut file end at records is sized s }

module _ (file end : ℕ) (records : List (List ℕ)) where
  told : (old new : DiskView) → new.tells ≡ old.tells → IsTrue new.tells → IsTrue old.tells
  told old new same tells = subst (λ (b : Bool). IsTrue b) same tells

  -- the first half
  pub stays : (state : State) (old new : DiskView) → KeepsShut old new file end → Keeps old (view_of file end state) records None → IsTrue old.tells → StaysShut old new file end (before_gate records)
  stays state old new shut keeps tells =
      let h = keeps tells in
      shut tells (before_gate records) (sym h.end) (shut_of state (old.now file) (before_gate records) end h.stands)

  pub body_failed : (state : State) (old new : DiskView) → KeepsShut old new file end → new.tells ≡ old.tells → Keeps old (view_of file end state) records None → Keeps new (view_of file end BodyFailed) records None
  body_failed state old new shut same keeps tells =
      let t = told old new same tells in
      held_failed file end (new.now file) records (keeps t).end (keeps t).sized (stays state old new shut keeps t).stands

  pub body_moments : (state : State) (old new : DiskView) (payload : List ℕ) → KeepsShut old new file end → Keeps old (view_of file end state) records None → IsTrue old.tells → Passes old new file (MayRead records (Some payload))
  body_moments state old new payload shut keeps tells =
      passes_weaker old new file (HasShut (before_gate records)) (MayRead records (Some payload)) (λ image has. inl (reads_shut records image (keeps tells).sized has)) (stays state old new shut keeps tells).passes

  held_ajar : (payload : List ℕ) → IsPayload payload → (at : FileState) → end ≡ length (before_gate records) → AllByRecursion IsPayload records → IsAjar at (before_gate records) end (body payload) → Holds (view_of file end GateFailed) at records (Some payload)
  held_ajar payload one at is sized a =
      record { end = is; sized = sized; stands = (one, a); reads = reads_any records payload at.bytes sized one (record { gate = a.gate; rest = a.rest; split = a.bytes }); images = λ image i. reads_any records payload image sized one (ajar_images (before_gate records) end (sym is) (body payload) at a image i) }

  module _ (payload : List ℕ) (one : IsPayload payload) where
    -- the second half, after a first one that succeeded
    pub ajar : (state : State) (old mid new : DiskView) → mid.tells ≡ old.tells → mid.now file ≡ synced (written (old.now file) (end + 1) (length (body payload)) (put (old.now file).bytes (end + 1) (body payload))) → KeepsAjar mid new file end
        → Keeps old (view_of file end state) records None → IsTrue old.tells → StaysAjar mid new file end (before_gate records) (body payload)
    ajar state old mid new same is keeps_ajar keeps tells =
        let h = keeps tells in
        keeps_ajar (told mid old (sym same) tells) (before_gate records) (body payload) (sym h.end)
        (subst (λ (f : FileState). IsAjar f (before_gate records) end (body payload)) (sym is)
        (staged (before_gate records) end (sym h.end) (body payload) (old.now file) (shut_of state (old.now file) (before_gate records) end h.stands)))

    pub gate_failed : (state : State) (old mid new : DiskView) → mid.tells ≡ old.tells → new.tells ≡ mid.tells → (IsTrue old.tells → mid.now file ≡ synced (written (old.now file) (end + 1) (length (body payload)) (put (old.now file).bytes (end + 1) (body payload)))) → KeepsAjar mid new file end
        → Keeps old (view_of file end state) records None → Keeps new (view_of file end GateFailed) records (Some payload)
    gate_failed state old mid new same same' is keeps_ajar keeps tells =
        let t = told old new (same' ∙ same) tells in
        let a = ajar state old mid new same (is t) keeps_ajar keeps t in
        held_ajar payload one (new.now file) (keeps t).end (keeps t).sized a.stands

    pub gate_moments : (state : State) (old mid new : DiskView) → mid.tells ≡ old.tells → KeepsShut old mid file end → (IsTrue old.tells → mid.now file ≡ synced (written (old.now file) (end + 1) (length (body payload)) (put (old.now file).bytes (end + 1) (body payload)))) → KeepsAjar mid new file end
        → Keeps old (view_of file end state) records None → IsTrue old.tells → Passes old new file (MayRead records (Some payload))
    gate_moments state old mid new same shut is keeps_ajar keeps tells =
        passes_on old mid new file (MayRead records (Some payload)) (body_moments state old mid payload shut keeps tells)
        (passes_weaker mid new file (HasAny (before_gate records) (body payload)) (MayRead records (Some payload)) (λ image has. reads_any records payload image (keeps tells).sized one has)
        (ajar state old mid new same (is tells) keeps_ajar keeps tells).passes)

    pub added : (state : State) (old mid new : DiskView) → mid.tells ≡ old.tells → new.tells ≡ mid.tells → (IsTrue old.tells → mid.now file ≡ synced (written (old.now file) (end + 1) (length (body payload)) (put (old.now file).bytes (end + 1) (body payload))))
        → (IsTrue mid.tells → new.now file ≡ synced (written (mid.now file) end 1 (put (mid.now file).bytes end (open_gate ∷ []))))
        → Keeps old (view_of file end state) records None → Keeps new (view_of file (end + length (body payload)) Clean) (records ++ payload ∷ []) None
    added state old mid new same same' is opens keeps tells =
        let t = told old new (same' ∙ same) tells in
        let h = keeps t in
        let s = shut_of state (old.now file) (before_gate records) end h.stands in
        let a : IsAjar (mid.now file) (before_gate records) end (body payload) =
        subst (λ (f : FileState). IsAjar f (before_gate records) end (body payload)) (sym (is t)) (staged (before_gate records) end (sym h.end) (body payload) (old.now file) s) in
        let split = put_gate (before_gate records) end (sym h.end) (body payload) (mid.now file).bytes a.gate open_gate a.rest a.bytes in
        let g = gated (before_gate records) end (sym h.end) (body payload) (mid.now file) open_gate a in
        let shut = subst (λ (f : FileState). IsShut f (before_gate (records ++ payload ∷ [])) (end + length (body payload))) (sym (opens (told mid old (sym same) t)))
        (opened records payload end _ a.rest h.end (g.0 ∙ split) g.1 g.2) in
        held_clean file (end + length (body payload)) (new.now file) (records ++ payload ∷ []) (length-push records payload end h.end) (sized_push records payload h.sized one) shut

  -- a sync of a file whose last gate is shut
  pub settled : {T : Type 0} (state : State) (old new : DiskView) (result : Result T DiskFault) → Changes old new file (Syncing result) → Keeps old (view_of file end state) records None → IsTrue old.tells → StaysShut old new file end (before_gate records)
  settled state old new result changes keeps tells =
      let h = keeps tells in
      shut_one_sync (before_gate records) end file (sym h.end) old new result changes (shut_of state (old.now file) (before_gate records) end h.stands)

  pub settled_moments : {T : Type 0} (state : State) (old new : DiskView) (result : Result T DiskFault) → Changes old new file (Syncing result) → Keeps old (view_of file end state) records None → IsTrue old.tells → Passes old new file (MayRead records None)
  settled_moments state old new result changes keeps tells =
      passes_weaker old new file (HasShut (before_gate records)) (MayRead records None) (λ image has. reads_shut records image (keeps tells).sized has) (settled state old new result changes keeps tells).passes

  pub settled_failed : {T : Type 0} (state : State) (old new : DiskView) (result : Result T DiskFault) → (IsTrue old.tells → Changes old new file (Syncing result)) → new.tells ≡ old.tells → Keeps old (view_of file end state) records None → Keeps new (view_of file end BodyFailed) records None
  settled_failed state old new result changes same keeps tells =
      let t = told old new same tells in
      held_failed file end (new.now file) records (keeps t).end (keeps t).sized (settled state old new result (changes t) keeps t).stands

  pub settled_clean : {T : Type 0} (state : State) (old new : DiskView) (result : Result T DiskFault) → (IsTrue old.tells → Changes old new file (Syncing result)) → new.tells ≡ old.tells → Keeps old (view_of file end state) records None → Keeps new (view_of file end Clean) records None
  settled_clean state old new result changes same keeps tells =
      let t = told old new same tells in
      held_clean file end (new.now file) records (keeps t).end (keeps t).sized (settled state old new result (changes t) keeps t).stands

  -- a repair of the gate
  module _ (payload : List ℕ) where
    pub mending : (old new : DiskView) → KeepsAjar old new file end → Keeps old (view_of file end GateFailed) records (Some payload) → IsTrue old.tells → StaysAjar old new file end (before_gate records) (body payload)
    mending old new ajar_stays keeps tells = let h = keeps tells in ajar_stays tells (before_gate records) (body payload) (sym h.end) h.stands.1

    pub mending_moments : (old new : DiskView) → KeepsAjar old new file end → Keeps old (view_of file end GateFailed) records (Some payload) → IsTrue old.tells → Passes old new file (MayRead records (Some payload))
    mending_moments old new ajar_stays keeps tells =
        passes_weaker old new file (HasAny (before_gate records) (body payload)) (MayRead records (Some payload)) (λ image has. reads_any records payload image (keeps tells).sized (keeps tells).stands.0 has)
        (mending old new ajar_stays keeps tells).passes

    pub mending_failed : (old new : DiskView) → KeepsAjar old new file end → new.tells ≡ old.tells → Keeps old (view_of file end GateFailed) records (Some payload) → Keeps new (view_of file end GateFailed) records (Some payload)
    mending_failed old new ajar_stays same keeps tells =
        let t = told old new same tells in
        let a = (mending old new ajar_stays keeps t).stands in
        held_ajar payload (keeps t).stands.0 (new.now file) (keeps t).end (keeps t).sized a

    pub mending_done : (old new : DiskView) → new.tells ≡ old.tells → (IsTrue old.tells → new.now file ≡ synced (written (old.now file) end 1 (put (old.now file).bytes end (closed_gate ∷ [])))) → Keeps old (view_of file end GateFailed) records (Some payload) → Keeps new (view_of file end Clean) records None
    mending_done old new same is keeps tells =
        let t = told old new same tells in
        let h = keeps t in
        let shut = subst (λ (f : FileState). IsShut f (before_gate records) end) (sym (is t)) (closed (before_gate records) end (sym h.end) (body payload) (old.now file) closed_gate (omega arith) h.stands.1) in
        held_clean file end (new.now file) records h.end h.sized shut

-- a repair, by the journal's state
module _ (file end : ℕ) (records : List (List ℕ)) (old new : DiskView) where
  pub mend_gate_failed : (state : State) (late : Option (List ℕ)) → state ≡ GateFailed → KeepsAjar old new file end → new.tells ≡ old.tells → Keeps old (view_of file end state) records late → Keeps new (view_of file end state) records late
  mend_gate_failed Clean late is ajar_stays same keeps = absurd (cc)
  mend_gate_failed BodyFailed late is ajar_stays same keeps = absurd (cc)
  mend_gate_failed GateFailed None is ajar_stays same keeps = λ tells. absurd (keeps (told file end records old new same tells)).stands
  mend_gate_failed GateFailed (Some payload) is ajar_stays same keeps = mending_failed file end records payload old new ajar_stays same keeps

  pub mend_gate_moments : (state : State) (late : Option (List ℕ)) → state ≡ GateFailed → KeepsAjar old new file end → Keeps old (view_of file end state) records late → IsTrue old.tells → Passes old new file (MayRead records late)
  mend_gate_moments Clean late is ajar_stays keeps = absurd (cc)
  mend_gate_moments BodyFailed late is ajar_stays keeps = absurd (cc)
  mend_gate_moments GateFailed None is ajar_stays keeps = λ tells. absurd (keeps tells).stands
  mend_gate_moments GateFailed (Some payload) is ajar_stays keeps = mending_moments file end records payload old new ajar_stays keeps

  pub mend_gate_done : (state : State) (late : Option (List ℕ)) → state ≡ GateFailed → new.tells ≡ old.tells → (IsTrue old.tells → new.now file ≡ synced (written (old.now file) end 1 (put (old.now file).bytes end (closed_gate ∷ [])))) → Keeps old (view_of file end state) records late → Keeps new (view_of file end Clean) records None
  mend_gate_done Clean late is same kept keeps = absurd (cc)
  mend_gate_done BodyFailed late is same kept keeps = absurd (cc)
  mend_gate_done GateFailed None is same kept keeps = λ tells. absurd (keeps (told file end records old new same tells)).stands
  mend_gate_done GateFailed (Some payload) is same kept keeps = mending_done file end records payload old new same kept keeps

  module _ {T : Type 0} (result : Result T DiskFault) (changes : IsTrue old.tells → Changes old new file (Syncing result)) where
    pub mend_body_failed : (state : State) (late : Option (List ℕ)) → (state ≡ Clean) ⊎ (state ≡ BodyFailed) → new.tells ≡ old.tells → Keeps old (view_of file end state) records late → Keeps new (view_of file end BodyFailed) records late
    mend_body_failed state None is same keeps = settled_failed file end records state old new result changes same keeps
    mend_body_failed Clean (Some payload) is same keeps = λ tells. absurd (keeps (told file end records old new same tells)).stands
    mend_body_failed BodyFailed (Some payload) is same keeps = λ tells. absurd (keeps (told file end records old new same tells)).stands
    mend_body_failed GateFailed (Some payload) (inl is) same keeps = absurd (cc)
    mend_body_failed GateFailed (Some payload) (inr is) same keeps = absurd (cc)

    pub mend_body_moments : (state : State) (late : Option (List ℕ)) → (state ≡ Clean) ⊎ (state ≡ BodyFailed) → Keeps old (view_of file end state) records late → IsTrue old.tells → Passes old new file (MayRead records late)
    mend_body_moments state None is keeps tells = settled_moments file end records state old new result (changes tells) keeps tells
    mend_body_moments Clean (Some payload) is keeps tells = absurd (keeps tells).stands
    mend_body_moments BodyFailed (Some payload) is keeps tells = absurd (keeps tells).stands
    mend_body_moments GateFailed (Some payload) (inl is) keeps tells = absurd (cc)
    mend_body_moments GateFailed (Some payload) (inr is) keeps tells = absurd (cc)

    pub mend_body_done : (state : State) (late : Option (List ℕ)) → (state ≡ Clean) ⊎ (state ≡ BodyFailed) → new.tells ≡ old.tells → Keeps old (view_of file end state) records late → Keeps new (view_of file end Clean) records None
    mend_body_done state None is same keeps = settled_clean file end records state old new result changes same keeps
    mend_body_done Clean (Some payload) is same keeps = λ tells. absurd (keeps (told file end records old new same tells)).stands
    mend_body_done BodyFailed (Some payload) is same keeps = λ tells. absurd (keeps (told file end records old new same tells)).stands
    mend_body_done GateFailed (Some payload) (inl is) same keeps = absurd (cc)
    mend_body_done GateFailed (Some payload) (inr is) same keeps = absurd (cc)

-- an empty journal, after whatever was there was truncated
pub length-fresh_bytes : length fresh_bytes ≡ 9
unfolding before_gate spelled
length-fresh_bytes = refl

take-fresh_bytes : take 9 fresh_bytes ≡ before_gate [] ++ closed_gate ∷ []
unfolding before_gate spelled
take-fresh_bytes = refl

pub fresh_shut : (old : FileState) → IsShut (synced (written (cut_to 0 old) 0 9 fresh_bytes)) (before_gate []) 8
fresh_shut old =
    synced_so (λ (f : FileState). IsShut f (before_gate []) 8) (written (cut_to 0 old) 0 9 fresh_bytes)
    (λ settled. record { gate = closed_gate; shut = omega arith; bytes = take-fresh_bytes; long = omega (arith, length-fresh_bytes); durable = λ k low high. tt })
    (record { gate = closed_gate; shut = omega arith; bytes = take-fresh_bytes; long = omega (arith, length-fresh_bytes); durable = λ k low high. durable_new k 0 9 low high old.ranges })

length-before_none : length (before_gate []) ≡ 8
unfolding before_gate spelled
length-before_none = refl

pub held_fresh : (file : ℕ) (old at : FileState) → at ≡ synced (written (cut_to 0 old) 0 9 fresh_bytes) → Holds (view_of file 8 Clean) at [] None
held_fresh file old at is = held_clean file 8 at [] (sym length-before_none) tt (subst (λ (f : FileState). IsShut f (before_gate []) 8) (sym is) (fresh_shut old))

-- the nine bytes over nothing
pub put_fresh : put [] 0 (0x71 ∷ 0x74 ∷ 0x70 ∷ 0x6c ∷ 0x61 ∷ 0x6e ∷ 0x74 ∷ 0x31 ∷ 0 ∷ []) ≡ fresh_bytes
unfolding before_gate spelled
put_fresh = refl
