-- A list of calls, made in parts.
use Rattle.std.proofs.Common.{◌≡◌, inl, inr, ⊎_elim, ℕ, true, false, IsTrue, List, [], ◌∷◌, ◌++◌, replicate, refl, sym, ◌∙◌, subst, append_assoc, Result, Ok, Err, IsErr, IsErrAnd}
use Rattle.outside_api.specs.Calls.{DiskCall, syncs, Called, AllDone, FailsIn, Makes}
use Rattle.outside_api.specs.Disk.{DiskView}
use Rattle.outside_api.specs.declared.disk.DiskFault.{DiskFault}
use Rattle.gated_journal.specs.Calls.{ReadMakes, LoadMakes, AppendMakes, record_calls, gate_calls}
use Rattle.gated_journal.specs.Format.{open_gate}
use Rattle.gated_journal.specs.Journal.{JournalView, body, fresh_bytes}
use Rattle.gated_journal.specs.Load.{IsRaised}
use Rattle.gated_journal.specs.declared.refusal.JournalRefusal.{JournalRefusal}
use Rattle.gated_journal.specs.declared.refusal.ReadRefusal.{ReadRefusal}
use Rattle.gated_journal.specs.declared.refusal.ReadRefusal.TheVariants as reading
use Rattle.gated_journal.specs.declared.state.State.TheVariants.{BodyFailed, GateFailed}
use Rattle.gated_journal.specs.Format.{before_gate, spelled}

-- the bytes of an empty journal, one by one
pub nine_bytes : 0x71 ∷ 0x74 ∷ 0x70 ∷ 0x6c ∷ 0x61 ∷ 0x6e ∷ 0x74 ∷ 0x31 ∷ 0 ∷ [] ≡ fresh_bytes
unfolding before_gate spelled
nine_bytes = refl

not_err : false ≡ true → ⊥
not_err e = cc

-- a call that failed
pub makes_failed : (T : Type 0) (r : Result T DiskFault) (old new : DiskView) (file : ℕ) (calls : List DiskCall) → IsErr r → (IsTrue old.tells → FailsIn file calls old new) → Makes old new file calls r
makes_failed T (Ok x) old new file calls e f = absurd (not_err e)
makes_failed T (Err x) old new file calls e f = f

pub body_failed : (T : Type 0) (r : Result T DiskFault) (old new : DiskView) (journal : JournalView) (payload : List ℕ) → IsErr r
    → (IsTrue old.tells → FailsIn journal.file (record_calls journal.end (body payload)) old new) → AppendMakes old new journal payload BodyFailed r
body_failed T (Ok x) old new journal payload e f = absurd (not_err e)
body_failed T (Err x) old new journal payload e f = f

pub gate_failed : (T : Type 0) (r : Result T DiskFault) (old mid new : DiskView) (journal : JournalView) (payload : List ℕ) → IsErr r
    → (IsTrue old.tells → AllDone journal.file (record_calls journal.end (body payload)) old mid)
    → (IsTrue old.tells → FailsIn journal.file (gate_calls journal.end open_gate) mid new) → AppendMakes old new journal payload GateFailed r
gate_failed T (Ok x) old mid new journal payload e a f = absurd (not_err e)
gate_failed T (Err x) old mid new journal payload e a f = λ tells. (mid, a tells, f tells)

-- a load whose reading was refused
module _ (T U : Type 0) (file : ℕ) (old mid new : DiskView) (same : mid.tells ≡ old.tells) (synced : IsTrue old.tells → Called file syncs (Ok (tt {0})) old mid) where
  raised_as : (r : ReadRefusal) (e : JournalRefusal) → ReadMakes {T = T} mid new file (Err r) → IsRaised r e → LoadMakes {T = U} old new file (Err e)
  raised_as reading.DiskFault e made is =
      subst (λ (e : JournalRefusal). LoadMakes {T = U} old new file (Err e)) (sym is) (λ tells. inr (mid, synced tells, made (subst IsTrue (sym same) tells)))
  raised_as reading.NoMemory e made is =
      subst (λ (e : JournalRefusal). LoadMakes {T = U} old new file (Err e)) (sym is)
      (λ tells. ⊎_elim (λ short. inl (mid, synced tells, short)) (λ whole. inr (mid, synced tells, whole)) (made (subst IsTrue (sym same) tells)))

  pub raised : (result : Result U JournalRefusal) (r : ReadRefusal) → IsErrAnd result (λ e. IsRaised r e) → ReadMakes {T = T} mid new file (Err r) → LoadMakes {T = U} old new file result
  raised (Ok x) r is made = absurd is
  raised (Err e) r is made = raised_as r e made is

-- one moment more, at which nothing changed
abbrev pub Looked : DiskView → DiskView → Type 0
Looked old new = (new.now ≡ old.now) × (new.past ≡ old.past ++ old.now ∷ [])

-- two of them
pub looked_twice : (old mid new : DiskView) → Looked old mid → Looked mid new → (new.now ≡ old.now) × ((moments : ℕ) × (new.past ≡ old.past ++ replicate moments old.now))
looked_twice old mid new l m =
    (m.0 ∙ l.0, (2, m.1 ∙ (λ i. l.1 i ++ l.0 i ∷ []) ∙ append_assoc old.past (old.now ∷ []) (old.now ∷ [])))
