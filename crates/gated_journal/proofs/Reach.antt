-- How long a file is after a write and a sync, as reads give it.
use Rattle.std.proofs.Common.{◌≡◌, inl, inr, ℕ, ◌+◌, ◌≤◌, max, Bool, IsTrue, List, ◌++◌, length, take, drop, ap, subst, sym, arith, append_assoc, length-append, length-take, length-drop, Result, Ok, Err}
use Rattle.outside_api.specs.declared.disk.DiskFault.{DiskFault}
use Rattle.outside_api.specs.Disk.{FileState, DiskView, Writing, Syncing, put}
use Rattle.gated_journal.specs.Journal.{HasLastGate, JournalView}
use Rattle.gated_journal.specs.Steps.{IsNoShorter}
use Rattle.gated_journal.proofs.Durable.{synced_bytes}

pub length-put : (old bytes : List ℕ) (at : ℕ) → at ≤ length old → length (put old at bytes) ≡ max (length old) (at + length bytes)
length-put old bytes at within =
    omega (arith, within, ap length (append_assoc (take at old) bytes (drop (at + length bytes) old)), length-append (take at old) (bytes ++ drop (at + length bytes) old), length-append bytes (drop (at + length bytes) old), length-take at old, length-drop (at + length bytes) old)

pub wrote : {T : Type 0} (at : ℕ) (bytes : List ℕ) (result : Result T DiskFault) (old new : FileState) → at ≤ length old.bytes → Writing at bytes result old new → length old.bytes ≤ length new.bytes
wrote at bytes (Ok x) old new within w = omega (arith, length-put old.bytes bytes at within, ap (λ (f : FileState). length f.bytes) w)
wrote at bytes (Err e) old new within (inl same) = omega (arith, ap (λ (f : FileState). length f.bytes) same)
wrote at bytes (Err e) old new within (inr torn) = omega (arith, torn.1.no_shorter, ap (λ (f : FileState). length f.bytes) torn.2)

pub sync_bytes : {T : Type 0} (result : Result T DiskFault) (old new : FileState) → Syncing result old new → new.bytes ≡ old.bytes
sync_bytes (Ok x) old new w = subst (λ (f : FileState). f.bytes ≡ old.bytes) (sym w) (synced_bytes old)
sync_bytes (Err e) old new (inl same) = ap (λ (f : FileState). f.bytes) same
sync_bytes (Err e) old new (inr w) = ap (λ (f : FileState). f.bytes) w

-- the last gate where it was
pub gate_stays : (old new : DiskView) (was is : JournalView) → new.tells ≡ old.tells → is.file ≡ was.file → is.end ≡ was.end → (IsTrue old.tells → IsNoShorter old new was.file) → HasLastGate old was → HasLastGate new is
gate_stays old new was is same file end longer has tells =
    let told = subst (λ (b : Bool). IsTrue b) same tells in
    omega (arith, longer told, has told, end, ap (λ (k : ℕ). length (new.now k).bytes) file)
