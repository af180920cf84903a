-- What a step under the lock makes of the pass that took it.
use Rattle.std.proofs.Common.{◌≡◌, ℕ, ℤ, ◌+◌, Bool, true, false, eqb, cond, List, [], ◌∷◌, ◌++◌, length, drop, Option, Some, None, Result, Ok, Err}
use Rattle.std.proofs.Common.{refl, sym, ap, ◌∙◌, arith, append-nil, append_assoc, length-append}
use Rattle.std.specs.Prelude.{unwrap_or, IfOk}
use Rattle.std.proofs.lemmas.Bool.{false≢true}
use Rattle.outside_api.specs.Disk.{DiskView}
use Rattle.q_values.specs.Tree.{Tree, trees}
use Rattle.q_values.specs.declared.refusal.NoMemory.{NoMemory}
use Rattle.day_rows.specs.declared.entry.Entry.{Entry}
use Rattle.day_rows.specs.declared.entry.Entry.TheVariants as e
use Rattle.plant_memory.specs.Chronicle.{by_of, last_fault_from, last_fault}
use Rattle.plant_memory.specs.Frame.{Frame}
use Rattle.plant_memory.specs.Memory.{MemoryView, SnapshotView, TailView, next_roll}
use Rattle.plant_memory.specs.declared.refusal.UpdRefusal.{UpdRefusal}
use Rattle.plant_memory.specs.declared.request.UpdRequest.{UpdRequest}
use Rattle.plant_memory.proofs.MadeLemmas.{verdict_made}
use Rattle.plant_lock.specs.Entries.{own}
use Rattle.plant_lock.specs.Told.{Told}
use Rattle.plant_lock.proofs.ListLemmas.{own-append, nil_of_length}
use Rattle.plant_core.specs.Access.{AccessView, Home, SeesMore, Logs, Looks, Fails, Waits, Rolls, FailsRoll, Wants, Asks, Sees, next_count}
use Rattle.plant_core.specs.Adds.{roll_place}
use Rattle.plant_core.specs.Turns.{turn_of, UpdatesPlant, TicksPlant}
use Rattle.plant_core.specs.declared.access.TickTurn.{TickTurn}
use Rattle.plant_core.specs.declared.access.TickTurn.TheVariants as t
use Rattle.plant_core.specs.declared.access.UpdTurn.{UpdTurn}
use Rattle.plant_core.specs.declared.access.UpdTurn.TheVariants as u
use Rattle.plant_core.proofs.SoloLemmas.{last_fault-append, last_fault-more, last_fault-own, made_logged}
use Rattle.plant_shared.specs.Took.{Took, given}
use Rattle.plant_shared.specs.Shared.{shown_pass, IsLatest, UpdatesPass, TicksPass, SnapsPass, TailsPass, latest_update, latest_tick}

drop_whole : {A : Type 0} (xs : List A) → drop (length xs) xs ≡ []
drop_whole [] = refl
drop_whole (x ∷ xs) = drop_whole xs

not_alone : {A : Type 0} → false ≡ true → A
not_alone h = absurd (false≢true h)

-- nothing was seen beside what the plant has
alone_saw : (origin : DiskView) (plant : MemoryView) (by : ℕ) (others : List Entry) → SeesMore (turn_of origin plant plant by 0) others
    → plant.entries ++ others ≡ plant.entries
alone_saw origin plant by others saw = ap (λ xs. plant.entries ++ xs) (saw.alone refl) ∙ append-nil plant.entries

module _ (frame : Frame) (home : Home) (origin : DiskView) (old : Told Entry) (plant new : MemoryView) (took : Took frame old plant) where
  base : (others : List Entry) → SeesMore (turn_of origin plant plant old.number 0) others → plant.entries ++ others ≡ old.seen ++ took.rest
  base others saw = alone_saw origin plant old.number others saw ∙ sym took.whole

  made : (added : List Entry) → drop (length plant.entries) new.entries ≡ drop (length plant.entries) plant.entries ++ added
      → old.mine ++ drop (length plant.entries) new.entries ≡ old.mine ++ added
  made added h = ap (λ l. old.mine ++ l) (h ∙ ap (λ l. l ++ added) (drop_whole plant.entries))

  shown : (snapshots ticks : ℕ) (seen mine : List Entry) → new.entries ≡ seen → old.mine ++ drop (length plant.entries) new.entries ≡ mine
      → shown_pass frame home (given old plant new) snapshots ticks ≡ record (shown_pass frame home old snapshots ticks) { seen = seen; mine = mine }
  shown snapshots ticks seen mine p q = λ i. record {
    by = old.number;
    frame = frame;
    alone = false;
    seen = p i;
    mine = q i;
    snapshots = snapshots;
    ticks = ticks;
    home = home;
  }

  saw_rest : (snapshots ticks : ℕ) → SeesMore (shown_pass frame home old snapshots ticks) took.rest
  saw_rest snapshots ticks = record { alone = not_alone }

  logs_shared : (table : List ℕ) (items : List Tree) (now : ℤ) (rolled : Option ℕ) (place : ℕ)
      → Logs (turn_of origin plant plant old.number 0) (turn_of origin plant new old.number 0) table items now rolled place
      → (snapshots ticks : ℕ)
      → Logs (shown_pass frame home old snapshots ticks) (shown_pass frame home (given old plant new) snapshots ticks) table items now rolled place
  logs_shared table items now rolled place r snapshots ticks = let b = base r.others r.saw in record {
    others = took.rest;
    saw = saw_rest snapshots ticks;
    entries = r.entries;
    accepted = rw (← b, ← took.frame_is) r.accepted;
    rolled_is = r.rolled_is ∙ ap (λ xs. roll_place (length xs) r.entries) b;
    last = r.last ∙ ap (λ xs. length (xs ++ r.entries)) b;
    after = shown snapshots ticks _ _ (ap (λ (v : AccessView). v.seen) r.after ∙ ap (λ xs. xs ++ r.entries) b)
        (made r.entries (ap (λ (v : AccessView). v.mine) r.after));
  }

  mine_kept : drop (length plant.entries) new.entries ≡ drop (length plant.entries) plant.entries
      → old.mine ++ drop (length plant.entries) new.entries ≡ old.mine
  mine_kept h = ap (λ l. old.mine ++ l) (h ∙ drop_whole plant.entries) ∙ append-nil old.mine

  looks_shared : (table : List ℕ) (items : List Tree) (now : ℤ) (length_now : ℕ) (why : UpdRefusal)
      → Looks (turn_of origin plant plant old.number 0) (turn_of origin plant new old.number 0) table items now length_now why
      → (snapshots ticks : ℕ)
      → Looks (shown_pass frame home old snapshots ticks) (shown_pass frame home (given old plant new) snapshots ticks) table items now length_now why
  looks_shared table items now length_now why r snapshots ticks = let b = base r.others r.saw in record {
    others = took.rest;
    saw = saw_rest snapshots ticks;
    refused = rw (← b, ← took.frame_is) r.refused;
    length = r.length ∙ ap length b;
    after = shown snapshots ticks _ _ (ap (λ (v : AccessView). v.seen) r.after ∙ b) (mine_kept (ap (λ (v : AccessView). v.mine) r.after));
  }

  fails_shared : (table : List ℕ) (items : List Tree) (now : ℤ) (rolled : Option ℕ) (place : ℕ)
      → Fails (turn_of origin plant plant old.number 0) (turn_of origin plant new old.number 0) table items now rolled place
      → (snapshots ticks : ℕ)
      → Fails (shown_pass frame home old snapshots ticks) (shown_pass frame home (given old plant new) snapshots ticks) table items now rolled place
  fails_shared table items now rolled place r snapshots ticks =
      let b = base r.others r.saw in let fault : List Entry = e.Fault old.number ∷ [] in
      let mine : drop (length plant.entries) new.entries ≡ drop (length plant.entries) plant.entries ++ r.before ++ fault =
      ap (λ (v : AccessView). v.mine) r.after in
      record {
        others = took.rest;
        saw = saw_rest snapshots ticks;
        before = r.before;
        failed = r.failed;
        rest = r.rest;
        accepted = rw (← b, ← took.frame_is) r.accepted;
        rolled_is = r.rolled_is ∙ ap (λ xs. roll_place (length xs) r.before) b;
        last = r.last ∙ ap (λ xs. length (xs ++ r.before)) b;
        after = shown snapshots ticks _ _ (ap (λ (v : AccessView). v.seen) r.after ∙ ap (λ xs. xs ++ r.before ++ fault) b)
            (made (r.before ++ fault) (mine ∙ append_assoc (drop (length plant.entries) plant.entries) r.before fault)
            ∙ sym (append_assoc old.mine r.before fault));
      }

  shown_tick : (snapshots ticks after : ℕ) (seen mine : List Entry) → after ≡ next_count ticks → new.entries ≡ seen
      → old.mine ++ drop (length plant.entries) new.entries ≡ mine
      → shown_pass frame home (given old plant new) snapshots after ≡ record (shown_pass frame home old snapshots ticks)
      { seen = seen; mine = mine; ticks = next_count ticks }
  shown_tick snapshots ticks after seen mine r p q = λ i. record {
    by = old.number;
    frame = frame;
    alone = false;
    seen = p i;
    mine = q i;
    snapshots = snapshots;
    ticks = r i;
    home = home;
  }

  waits_shared : (now : ℤ) (length_now : ℕ) → Waits (turn_of origin plant plant old.number 0) (turn_of origin plant new old.number 1) now length_now
      → (snapshots ticks : ℕ)
      → Waits (shown_pass frame home old snapshots ticks) (shown_pass frame home (given old plant new) snapshots (next_count ticks)) now length_now
  waits_shared now length_now r snapshots ticks = let b = base r.others r.saw in record {
    others = took.rest;
    saw = saw_rest snapshots ticks;
    early = rw (← b, ← took.frame_is) r.early;
    length = r.length ∙ ap length b;
    after = shown_tick snapshots ticks _ _ _ refl (ap (λ (v : AccessView). v.seen) r.after ∙ b) (mine_kept (ap (λ (v : AccessView). v.mine) r.after));
  }

  wants_shared : (now : ℤ) → Wants (turn_of origin plant plant old.number 0) (turn_of origin plant new old.number 1) now
      → (snapshots ticks : ℕ) → Wants (shown_pass frame home old snapshots ticks) (shown_pass frame home (given old plant new) snapshots (next_count ticks)) now
  wants_shared now r snapshots ticks = let b = base r.others r.saw in record {
    others = took.rest;
    saw = saw_rest snapshots ticks;
    due = rw (← b, ← took.frame_is) r.due;
    after = shown_tick snapshots ticks _ _ _ refl (ap (λ (v : AccessView). v.seen) r.after ∙ b) (mine_kept (ap (λ (v : AccessView). v.mine) r.after));
  }

  rolls_shared : (now : ℤ) (place : ℕ) → Rolls (turn_of origin plant plant old.number 0) (turn_of origin plant new old.number 1) now place
      → (snapshots ticks : ℕ)
      → Rolls (shown_pass frame home old snapshots ticks) (shown_pass frame home (given old plant new) snapshots (next_count ticks)) now place
  rolls_shared now place r snapshots ticks = let b = base r.others r.saw in
      let roll_is : next_roll plant.frame.first (plant.entries ++ r.others) old.number ≡ next_roll frame.first (old.seen ++ took.rest) old.number =
      (λ i. next_roll (took.frame_is i).first (b i) old.number) in record {
        others = took.rest;
        saw = saw_rest snapshots ticks;
        due = rw (← b, ← took.frame_is) r.due;
        at_end = r.at_end ∙ ap length b;
        after = shown_tick snapshots ticks _ _ _ refl (ap (λ (v : AccessView). v.seen) r.after ∙ (λ i. b i ++ roll_is i ∷ []))
            (made (next_roll plant.frame.first (plant.entries ++ r.others) old.number ∷ []) (ap (λ (v : AccessView). v.mine) r.after)
            ∙ ap (λ x. old.mine ++ x ∷ []) roll_is);
      }

  fails_roll_shared : (now : ℤ) (place : ℕ) → FailsRoll (turn_of origin plant plant old.number 0) (turn_of origin plant new old.number 1) now place
      → (snapshots ticks : ℕ)
      → FailsRoll (shown_pass frame home old snapshots ticks) (shown_pass frame home (given old plant new) snapshots (next_count ticks)) now place
  fails_roll_shared now place r snapshots ticks = let b = base r.others r.saw in record {
    others = took.rest;
    saw = saw_rest snapshots ticks;
    due = rw (← b, ← took.frame_is) r.due;
    at_end = r.at_end ∙ ap length b;
    after = shown_tick snapshots ticks _ _ _ refl (ap (λ (v : AccessView). v.seen) r.after ∙ ap (λ xs. xs ++ e.Fault old.number ∷ []) b)
        (made (e.Fault old.number ∷ []) (ap (λ (v : AccessView). v.mine) r.after));
  }

  pub updates_shared : (request : UpdRequest) (now : ℤ) (turn : UpdTurn) → UpdatesPlant origin plant new old.number request now turn
      → UpdatesPass frame home old (given old plant new) request now turn
  updates_shared request now (u.Logged rolled place) r = logs_shared _ _ now rolled place r
  updates_shared request now (u.Refused length why) r = looks_shared _ _ now length why r
  updates_shared request now (u.Failed rolled place) r = fails_shared _ _ now rolled place r

  pub ticks_shared : (now : ℤ) (turn : TickTurn) → TicksPlant origin plant new old.number now turn → TicksPass frame home old (given old plant new) now turn
  ticks_shared now (t.Quiet length) r = waits_shared now length r
  ticks_shared now (t.Rolled place) r = rolls_shared now place r
  ticks_shared now (t.Failed place) r = fails_roll_shared now place r
  ticks_shared now t.NoMemory r = wants_shared now r

-- others' entries
none_of : (by : ℕ) (x : Entry) (xs : List Entry) (P : Type 0) → own by_of by (x ∷ xs) ≡ [] → (eqb (by_of x) by ≡ false → own by_of by xs ≡ [] → P) → P
none_of by x xs P h k = go (eqb (by_of x) by) refl h
  where
    go : (b : Bool) → eqb (by_of x) by ≡ b → cond b (x ∷ own by_of by xs) (own by_of by xs) ≡ [] → P
    go true is h = absurd cc
    go false is h = k is h

pub last_fault-others : (by i : ℕ) (found : Option ℕ) (xs : List Entry) → own by_of by xs ≡ [] → last_fault_from by i found xs ≡ found
last_fault-others by i found [] h = refl
last_fault-others by i found (e.Upd b table columns ∷ xs) h =
    none_of by (e.Upd b table columns) xs _ h (λ other rest. last_fault-others by (i + 1) found xs rest)
last_fault-others by i found (e.Roll b date ∷ xs) h = none_of by (e.Roll b date) xs _ h (λ other rest. last_fault-others by (i + 1) found xs rest)
last_fault-others by i found (e.Fault b ∷ xs) h =
    none_of by (e.Fault b) xs _ h
    (λ other rest. ap (λ c. last_fault_from by (i + 1) (cond c (Some i) found) xs) other ∙ last_fault-others by (i + 1) found xs rest)

no_others : {A : Type 0} (xs ys : List A) → xs ++ ys ≡ xs → ys ≡ []
no_others xs ys h = nil_of_length ys (omega (arith, ap length h, length-append xs ys))

-- the last fault of a pass stays so where others' entries are appended
took_fault : (frame : Frame) (old : Told Entry) (plant : MemoryView) → Took frame old plant
    → last_fault old.number plant.entries ≡ last_fault old.number old.seen
took_fault frame old plant took =
    let n = old.number in
    let split : own by_of n old.seen ++ own by_of n took.rest ≡ own by_of n old.seen =
    sym (own-append by_of n old.seen took.rest) ∙ (ap (own by_of n) took.whole ∙ (took.own_all ∙ sym took.own_seen)) in
    let none : own by_of n took.rest ≡ [] = no_others (own by_of n old.seen) (own by_of n took.rest) split in
    ap (last_fault n) (sym took.whole)
    ∙ (last_fault-append n 0 None old.seen took.rest ∙ last_fault-others n (0 + length old.seen) (last_fault n old.seen) took.rest none)

some_same : {a b : ℕ} → Some a ≡ Some b → a ≡ b
some_same h = ap (λ o. unwrap_or o 0) h

module _ (frame : Frame) (origin : DiskView) (old : Told Entry) (plant new : MemoryView) (took : Took frame old plant) (latest : ℕ)
    (is : IsLatest old latest) where
  -- updates and rolls were added to what was seen
  latest_kept : last_fault old.number new.entries ≡ last_fault old.number plant.entries → IsLatest (given old plant new) latest
  latest_kept same = λ place h. is place (sym (same ∙ took_fault frame old plant took) ∙ h)

  pub latest_same : new.entries ≡ plant.entries → IsLatest (given old plant new) latest
  latest_same same = latest_kept (ap (last_fault old.number) same)

  -- a fault of the pass's own was added
  latest_new : (front : List Entry) (place : ℕ) → new.entries ≡ front ++ e.Fault old.number ∷ [] → place ≡ length front → IsLatest (given old plant new) place
  latest_new front place whole at = λ found h. some_same (ap Some at ∙ (sym (last_fault-own old.number front) ∙ (sym (ap (last_fault old.number) whole) ∙ h)))

  pub latest_updates : (request : UpdRequest) (now : ℤ) (turn : UpdTurn) → UpdatesPlant origin plant new old.number request now turn
      → IsLatest (given old plant new) (latest_update latest turn)
  latest_updates request now (u.Logged rolled place) r =
      let more : new.entries ≡ plant.entries ++ r.entries =
      ap (λ (v : AccessView). v.seen) r.after ∙ ap (λ xs. xs ++ r.entries) (alone_saw origin plant old.number r.others r.saw) in
      latest_kept (ap (last_fault old.number) more
      ∙ last_fault-more old.number plant.entries r.entries
      (made_logged r.entries
      (verdict_made plant.frame old.number (plant.entries ++ r.others) r.entries request.table (trees request.items) now r.accepted)))
  latest_updates request now (u.Refused length why) r = latest_same (ap (λ (v : AccessView). v.seen) r.after ∙ alone_saw origin plant old.number r.others r.saw)
  latest_updates request now (u.Failed rolled place) r =
      latest_new ((plant.entries ++ r.others) ++ r.before) place (ap (λ (v : AccessView). v.seen) r.after) r.last

  pub latest_ticks : (now : ℤ) (turn : TickTurn) → TicksPlant origin plant new old.number now turn → IsLatest (given old plant new) (latest_tick latest turn)
  latest_ticks now (t.Quiet length) r = latest_same (ap (λ (v : AccessView). v.seen) r.after ∙ alone_saw origin plant old.number r.others r.saw)
  latest_ticks now (t.Rolled place) r =
      let roll = next_roll plant.frame.first (plant.entries ++ r.others) old.number in
      let more : new.entries ≡ plant.entries ++ roll ∷ [] =
      ap (λ (v : AccessView). v.seen) r.after ∙ ap (λ xs. xs ++ roll ∷ []) (alone_saw origin plant old.number r.others r.saw) in
      latest_kept (ap (last_fault old.number) more ∙ last_fault-more old.number plant.entries (roll ∷ []) (refl, tt))
  latest_ticks now (t.Failed place) r = latest_new (plant.entries ++ r.others) place (ap (λ (v : AccessView). v.seen) r.after) r.at_end
  latest_ticks now t.NoMemory r = latest_same (ap (λ (v : AccessView). v.seen) r.after ∙ alone_saw origin plant old.number r.others r.saw)

-- the pass after nothing was added
module _ (frame : Frame) (home : Home) (old : Told Entry) (plant : MemoryView) (took : Took frame old plant) where
  saw_whole : (snapshots after ticks : ℕ) → shown_pass frame home (given old plant plant) after ticks
      ≡ record (shown_pass frame home old snapshots ticks) { seen = old.seen ++ took.rest; snapshots = after }
  saw_whole snapshots after ticks = λ i. record {
    by = old.number;
    frame = frame;
    alone = false;
    seen = sym took.whole i;
    mine = mine_kept frame home (home.origin) old plant plant took refl i;
    snapshots = after;
    ticks = ticks;
    home = home;
  }

  asks : (snapshots ticks : ℕ) → Asks (shown_pass frame home old snapshots ticks) (shown_pass frame home (given old plant plant) (next_count snapshots) ticks)
  asks snapshots ticks = record {
    others = took.rest;
    saw = record { alone = not_alone };
    after = saw_whole snapshots (next_count snapshots) ticks;
  }

  sees : (snapshots ticks : ℕ) → Sees (shown_pass frame home old snapshots ticks) (shown_pass frame home (given old plant plant) snapshots ticks)
  sees snapshots ticks = record { others = took.rest; saw = record { alone = not_alone }; after = saw_whole snapshots snapshots ticks }

  pub snaps_shared : (answer : Result SnapshotView NoMemory)
      → IfOk answer (λ (s : SnapshotView). s ≡ record { frame = plant.frame; entries = plant.entries }) → SnapsPass frame home old (given old plant plant) answer
  snaps_shared (Ok s) h snapshots ticks = (asks snapshots ticks, h ∙ (λ i. record { frame = took.frame_is i; entries = plant.entries }))
  snaps_shared (Err why) h snapshots ticks = asks snapshots ticks

  pub tails_shared : (from : ℕ) (answer : Result TailView NoMemory)
      → IfOk answer (λ (t : TailView). t ≡ record { frame = plant.frame; entries = plant.entries; from = from })
      → TailsPass frame home old (given old plant plant) from answer
  tails_shared from (Ok t) h snapshots ticks =
      (sees snapshots ticks, h ∙ (λ i. record { frame = took.frame_is i; entries = plant.entries; from = from }))
  tails_shared from (Err why) h snapshots ticks = sees snapshots ticks
