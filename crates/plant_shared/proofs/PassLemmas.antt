-- The pass that an access keeps, and what a step under the lock gives back.
use Rattle.std.proofs.Common.{◌≡◌, ℕ, ℤ, ◌+◌, List, [], ◌++◌, length, drop, Some, None}
use Rattle.std.proofs.Common.{refl, sym, ap, ◌∙◌, subst, arith}
use Rattle.std.specs.Prelude.{unwrap_or}
use mathlib.Core.List.{IsPrefix}
use Rattle.outside_api.specs.Disk.{DiskView}
use Rattle.day_rows.specs.declared.entry.Entry.{Entry}
use Rattle.plant_memory.specs.Chronicle.{by_of}
use Rattle.plant_memory.specs.Frame.{Frame}
use Rattle.plant_memory.specs.Memory.{MemoryView}
use Rattle.plant_memory.specs.declared.request.UpdRequest.{UpdRequest}
use Rattle.plant_lock.specs.Entries.{own, IsExtendedBy}
use Rattle.plant_lock.specs.Told.{Told}
use Rattle.plant_core.specs.Plant.{PlantView, IsSound, shown_by}
use Rattle.plant_core.specs.Turns.{UpdatesPlant, TicksPlant}
use Rattle.plant_core.specs.declared.access.TickTurn.{TickTurn}
use Rattle.plant_core.specs.declared.access.TickTurn.TheVariants as t
use Rattle.plant_core.specs.declared.access.UpdTurn.{UpdTurn}
use Rattle.plant_core.specs.declared.access.UpdTurn.TheVariants as u
use Rattle.plant_shared.specs.Steps.{IsLocked, StepsOnce, unchanging}
use Rattle.plant_shared.specs.Took.{Took, given}
use Rattle.atomic_table.specs.Seated.{TableId}
use Rattle.day_rows.specs.declared.schema.Shape.{Shape}
use Rattle.plant_shared.specs.Shared.{IsPass, IsShared, IsLatest}
use Rattle.plant_shared.proofs.SharedLemmas.{last_fault-others, latest_same}

-- a pass that has made nothing has made no fault
pub latest_fresh : (pass : Told Entry) → own by_of pass.number pass.seen ≡ pass.mine → pass.mine ≡ [] → IsLatest pass 0
latest_fresh pass own_is fresh =
    λ place h. absurd (let none = last_fault-others pass.number 0 None pass.seen (own_is ∙ fresh) in let no : None ≡ Some place = sym none ∙ h in cc)

-- the pass that an access keeps
pub kept_is : (lock : TableId) (frame : Frame) (pass : Told Entry) (latest : ℕ) (schema : List Shape) → IsShared lock frame (Some pass) latest schema
    → IsPass lock pass × IsLatest pass latest
kept_is lock frame pass latest schema h =
    let same : pass ≡ h.told = ap (λ o. unwrap_or o pass) h.kept in
    subst (λ (q : Told Entry). IsPass lock q × IsLatest q latest) (sym same) (h.pass_is, h.latest_is)

-- an access keeps a pass
pub kept_some : (lock : TableId) (frame : Frame) (latest : ℕ) (schema : List Shape) → IsShared lock frame None latest schema → ⊥
kept_some lock frame latest schema h = let no : None ≡ Some h.told = h.kept in cc

-- what was added to a plant under the lock is what the pass may give back
pub can_give : (n n' : ℕ) (seen seen' new : List Entry) → n' ≡ n → seen' ≡ seen → IsExtendedBy by_of n' seen' new → IsExtendedBy by_of n seen new
can_give n n' seen seen' new p q made = subst (λ (r : ℕ × List Entry). IsExtendedBy by_of r.0 r.1 new) (λ i. (p i, q i)) made

pub is_given : (old taken result : Told Entry) (plant new : MemoryView) → taken ≡ record old { seen = plant.entries }
    → result ≡ record taken { seen = new.entries; mine = taken.mine ++ drop (length taken.seen) new.entries } → result ≡ given old plant new
is_given old taken result plant new t r = r ∙ (λ i. record (t i) { seen = new.entries; mine = (t i).mine ++ drop (length (t i).seen) new.entries })

pub stays_pass : (lock : TableId) (old result : Told Entry) (plant new : MemoryView) → result ≡ given old plant new → IsPass lock old
    → own by_of result.number result.seen ≡ result.mine → IsPass lock result
stays_pass lock old result plant new is h own_is =
    let number : result.number ≡ old.number = ap (λ (q : Told Entry). q.number) is in
    record { of_lock = ap (λ (q : Told Entry). q.lock) is ∙ h.of_lock; few = let few = h.few in omega arith; own_is = own_is }

pub update_is : (origin origin' : DiskView) (plant plant' new : MemoryView) (n n' : ℕ) (request : UpdRequest) (now : ℤ) (turn : UpdTurn) → origin' ≡ origin
    → plant' ≡ plant → n' ≡ n → UpdatesPlant origin' plant' new n' request now turn → UpdatesPlant origin plant new n request now turn
update_is origin origin' plant plant' new n n' request now turn o p q u =
    subst (λ (r : DiskView × (MemoryView × ℕ)). UpdatesPlant r.0 r.1.0 new r.1.1 request now turn) (λ i. (o i, (p i, q i))) u

pub tick_is : (origin origin' : DiskView) (plant plant' new : MemoryView) (n n' : ℕ) (now : ℤ) (turn : TickTurn) → origin' ≡ origin → plant' ≡ plant
    → n' ≡ n → TicksPlant origin' plant' new n' now turn → TicksPlant origin plant new n now turn
tick_is origin origin' plant plant' new n n' now turn o p q u =
    subst (λ (r : DiskView × (MemoryView × ℕ)). TicksPlant r.0 r.1.0 new r.1.1 now turn) (λ i. (o i, (p i, q i))) u

-- the plant that was taken, which is sound as it is lent
pub is_found : {D : Type 0} (shown : D → DiskView) (lock found lent : PlantView D) → unchanging found ≡ unchanging lock → lent ≡ found
    → IsSound (shown_by shown lent) → IsLocked shown (unchanging lock) found
is_found shown lock found lent unchanged same sound = record {
  unchanged = unchanged;
  sound = subst (λ (p : PlantView _). IsSound (shown_by shown p)) same sound;
}

-- the disk that it was loaded from, which is the one of the lock
pub origin_is : {D : Type 0} (shown : D → DiskView) (lock found lent : PlantView D) → unchanging found ≡ unchanging lock → lent ≡ found
    → shown lent.origin ≡ shown lock.origin
origin_is shown lock found lent unchanged same = ap (λ p. shown p.origin) same ∙ ap (λ u. shown u.origin) unchanged

-- a plant that was taken from a lock and then changed has what the lock's plants have in common
pub frame_kept : {D : Type 0} (new was taken first lock : PlantView D) → new.memory.frame ≡ was.memory.frame → new.origin ≡ was.origin → was ≡ taken
    → unchanging taken ≡ unchanging first → lock ≡ first → unchanging new ≡ unchanging lock
frame_kept new was taken first lock frame origin same kept is =
    (λ i. record { frame = frame i; origin = origin i }) ∙ (ap unchanging same ∙ (kept ∙ sym (ap unchanging is)))

-- what the pass is after the plant was looked at under the lock and given back as it was
pub record Looked {D : Type 0} (shown : D → DiskView) (lock : TableId) (made : PlantView D) (old : Told Entry) (found : PlantView D) (result : Told Entry) : Type 1 where
  pub took : Took made.memory.frame old found.memory
  pub is : result ≡ given old found.memory found.memory
  pub pass : IsPass lock result
  pub number : result.number ≡ old.number
  pub latest : (latest : ℕ) → IsLatest old latest → IsLatest result latest
  pub step : (P : PlantView D → PlantView D → Type 0) → P found found → StepsOnce shown (unchanging made) old.seen result.seen P

pub looked : {D : Type 0} (shown : D → DiskView) (lock : TableId) (made found lent : PlantView D) (old taken result : Told Entry) → IsPass lock old
    → taken ≡ record old { seen = found.memory.entries } → IsPrefix old.seen found.memory.entries → unchanging found ≡ unchanging made
    → own by_of old.number found.memory.entries ≡ old.mine → lent ≡ found → IsSound (shown_by shown lent)
    → result ≡ record taken { seen = lent.memory.entries; mine = taken.mine ++ drop (length taken.seen) lent.memory.entries }
    → own by_of result.number result.seen ≡ result.mine → Looked shown lock made old found result
looked {D} shown lock made found lent old taken result is_pass taken_is begins frame own_all same sound given_is own_is =
    let took : Took made.memory.frame old found.memory = record {
      rest = begins.0;
      whole = begins.1;
      frame_is = ap (λ u. u.frame) frame;
      own_all = own_all;
      own_seen = is_pass.own_is;
    } in
    let is : result ≡ given old found.memory found.memory =
    is_given old taken result found.memory lent.memory taken_is given_is ∙ (λ i. given old found.memory ((same i).memory)) in
    let there = is_found shown made found lent frame same sound in
    record {
      took = took;
      is = is;
      pass = stays_pass lock old result found.memory found.memory is is_pass own_is;
      number = ap (λ (t : Told Entry). t.number) is;
      latest = λ latest h. subst (λ (q : Told Entry). IsLatest q latest) (sym is)
          (latest_same made.memory.frame (shown made.origin) old found.memory found.memory took latest h refl);
      step = λ P made_is. record {
        before = found;
        after = found;
        found = there;
        left = there;
        begins = begins;
        whole = ap (λ (t : Told Entry). t.seen) is;
        made = made_is;
      };
    }
