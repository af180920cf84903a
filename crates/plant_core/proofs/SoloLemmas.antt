-- What a pass that is alone sees.
use Rattle.std.proofs.Common.{◌≡◌, ℕ, ℤ, pos, drop, ◌≤◌, ◌∷◌, ◌++◌, [], List, length, refl, sym, ap, ◌∙◌, arith, append-nil, true, false, Bool, Option, None}
use Rattle.std.proofs.lemmas.List.{length-append, drop-append-le}
use Rattle.outside_api.specs.Disk.{DiskView}
use Rattle.q_values.specs.Tree.{Tree}
use Rattle.day_rows.specs.Chronicle.{date_of, is_logged}
use Rattle.day_rows.specs.declared.entry.Entry.{Entry}
use Rattle.day_rows.specs.declared.entry.Entry.TheVariants as e
use Rattle.std.specs.List.{AllByRecursion}
use Rattle.std.proofs.Common.{◌<◌, ◌^◌, suc, ◌+◌, Some}
use Rattle.std.specs.Prelude.{◌==◌, ◌+ℤ◌, cond, unwrap_or}
use Rattle.std.proofs.lemmas.Bool.{eqb-true}
use Rattle.std.proofs.Math.Dec.{eqb_refl}
use lib.Dec.{T}
use Rattle.plant_memory.specs.Chronicle.{last_fault_from, last_fault, top_by}
use Rattle.plant_core.specs.Access.{AccessView, SeesMore, Logs, Looks, Fails, Waits, Rolls, FailsRoll, Wants, access_of, next_count, IsSolo}
use Rattle.plant_memory.specs.Memory.{MemoryView, PreparedView, PreparedRollView, Prepares, due, next_roll}
use Rattle.plant_core.specs.Adds.{Adds, Faults, roll_place, additions}
use Rattle.plant_memory.specs.Turns.{IsRefusal}
use Rattle.plant_memory.specs.Verdict.{accepts, verdict, is_next_day}
use Rattle.plant_memory.specs.declared.refusal.UpdRefusal.{UpdRefusal}
use Rattle.plant_memory.proofs.MadeLemmas.{IsMade, verdict_made}

-- the disk failed at the roll that was due
pub roll_faults : (old new : MemoryView) (update : PreparedView) (place : ℕ) → update.rolls ≡ true → new.frame ≡ old.frame → new.entries ≡ old.entries ++ e.Fault update.by ∷ [] → place ≡ length old.entries
    → Faults old new update.by (additions update) None place
roll_faults old new update place rolls frame entries at = record {
  before = [];
  failed = e.Roll update.by (date_of update.frame.first update.entries +ℤ pos 1);
  rest = update.entry ∷ [];
  split = rw rolls refl;
  frame = frame;
  whole = entries ∙ ap (λ l. l ++ e.Fault update.by ∷ []) (sym (append-nil old.entries));
  rolled_is = refl;
  last = at ∙ ap length (sym (append-nil old.entries));
}

saw_nothing : (old : AccessView) → SeesMore old []
saw_nothing old = record { alone = λ _. refl }

pub waits_alone : (origin later : DiskView) → later ≡ origin → (plant : MemoryView) (by began snapshots ticks after : ℕ) (now : ℤ) (length_now : ℕ) → false ≡ is_next_day (date_of plant.frame.first plant.entries) now → length_now ≡ length plant.entries → after ≡ next_count ticks
    → Waits (access_of origin plant by began snapshots ticks) (access_of later plant by began snapshots after) now length_now
waits_alone origin later kept plant by began snapshots ticks after now length_now early at more = record {
  others = [];
  saw = saw_nothing (access_of origin plant by began snapshots ticks);
  early = rw (append-nil plant.entries) (sym early);
  length = rw (append-nil plant.entries) at;
  after = rw (kept, append-nil plant.entries, more) refl;
}

pub rolls_alone : (origin later : DiskView) → later ≡ origin → (plant new : MemoryView) (by began snapshots ticks after : ℕ) (now : ℤ) (place : ℕ) → true ≡ is_next_day (date_of plant.frame.first plant.entries) now → place ≡ length plant.entries → after ≡ next_count ticks
    → new.frame ≡ plant.frame → new.entries ≡ plant.entries ++ next_roll plant.frame.first plant.entries by ∷ [] → began ≤ length plant.entries → Rolls (access_of origin plant by began snapshots ticks) (access_of later new by began snapshots after) now place
rolls_alone origin later kept plant new by began snapshots ticks after now place is at more frame made within = record {
  others = [];
  saw = saw_nothing (access_of origin plant by began snapshots ticks);
  due = rw (append-nil plant.entries) (sym is);
  at_end = rw (append-nil plant.entries) at;
  after = rw (kept, append-nil plant.entries, more, frame, made, drop-append-le began plant.entries (next_roll plant.frame.first plant.entries by ∷ []) within) refl;
}

pub wants_alone : (origin later : DiskView) → later ≡ origin → (plant new : MemoryView) (by began snapshots ticks after : ℕ) (now : ℤ) → true ≡ is_next_day (date_of plant.frame.first plant.entries) now → after ≡ next_count ticks → new.frame ≡ plant.frame → new.entries ≡ plant.entries
    → Wants (access_of origin plant by began snapshots ticks) (access_of later new by began snapshots after) now
wants_alone origin later kept plant new by began snapshots ticks after now is more frame entries = record {
  others = [];
  saw = saw_nothing (access_of origin plant by began snapshots ticks);
  due = rw (append-nil plant.entries) (sym is);
  after = rw (kept, append-nil plant.entries, more, frame, entries) refl;
}

pub looks_alone : (origin later : DiskView) → later ≡ origin → (plant new : MemoryView) (by began snapshots ticks : ℕ) (table : List ℕ) (items : List Tree) (now : ℤ) (length_now : ℕ) (why : UpdRefusal) → new.frame ≡ plant.frame → new.entries ≡ plant.entries → length_now ≡ length plant.entries
    → IsRefusal (verdict plant.frame by plant.entries table items now) why → Looks (access_of origin plant by began snapshots ticks) (access_of later new by began snapshots ticks) table items now length_now why
looks_alone origin later kept plant new by began snapshots ticks table items now length_now why frame entries at refused = record {
  others = [];
  saw = saw_nothing (access_of origin plant by began snapshots ticks);
  refused = rw (append-nil plant.entries) refused;
  length = rw (append-nil plant.entries) at;
  after = rw (kept, append-nil plant.entries, frame, entries) refl;
}

pub logs_alone : (origin later : DiskView) → later ≡ origin → (plant prepared new : MemoryView) (by began snapshots ticks : ℕ) (table : List ℕ) (items : List Tree) (now : ℤ) (update : PreparedView) (rolled : Option ℕ) (place : ℕ) → Prepares plant prepared by table items now update
    → Adds prepared new (due update ++ update.entry ∷ []) rolled place → began ≤ length plant.entries → Logs (access_of origin plant by began snapshots ticks) (access_of later new by began snapshots ticks) table items now rolled place
logs_alone origin later kept plant prepared new by began snapshots ticks table items now update rolled place p a within =
    let entries = due update ++ update.entry ∷ [] in
    let same : prepared.entries ≡ plant.entries = ap (λ (x : MemoryView). x.entries) p.after in
    let frame : new.frame ≡ plant.frame = a.frame ∙ ap (λ (x : MemoryView). x.frame) p.after in
    let whole : new.entries ≡ plant.entries ++ entries = a.whole ∙ ap (λ es. es ++ entries) same in
    record {
      others = [];
      saw = saw_nothing (access_of origin plant by began snapshots ticks);
      entries = entries;
      accepted = rw (append-nil plant.entries) p.accepted;
      rolled_is = rw (append-nil plant.entries) (a.rolled_is ∙ ap (λ es. roll_place (length es) entries) same);
      last = rw (append-nil plant.entries) (a.last ∙ ap (λ es. length (es ++ entries)) same);
      after = rw (kept, append-nil plant.entries, frame, whole, drop-append-le began plant.entries entries within) refl;
    }

pub fails_alone : (origin later : DiskView) → later ≡ origin → (plant prepared new : MemoryView) (by began snapshots ticks : ℕ) (table : List ℕ) (items : List Tree) (now : ℤ) (update : PreparedView) (rolled : Option ℕ) (place : ℕ) → Prepares plant prepared by table items now update
    → Faults prepared new update.by (additions update) rolled place → began ≤ length plant.entries → Fails (access_of origin plant by began snapshots ticks) (access_of later new by began snapshots ticks) table items now rolled place
fails_alone origin later kept plant prepared new by began snapshots ticks table items now update rolled place p f within =
    let same : prepared.entries ≡ plant.entries = ap (λ (x : MemoryView). x.entries) p.after in
    let frame : new.frame ≡ plant.frame = f.frame ∙ ap (λ (x : MemoryView). x.frame) p.after in
    let whole : new.entries ≡ (plant.entries ++ f.before) ++ e.Fault by ∷ [] = f.whole ∙ (λ i. same i ++ f.before ++ e.Fault (p.own i) ∷ []) in
    let longer : began ≤ length (plant.entries ++ f.before) = omega (arith, within, length-append plant.entries f.before) in
    let mine : drop began ((plant.entries ++ f.before) ++ e.Fault by ∷ []) ≡ (drop began plant.entries ++ f.before) ++ e.Fault by ∷ [] =
    drop-append-le began (plant.entries ++ f.before) (e.Fault by ∷ []) longer ∙ ap (λ l. l ++ e.Fault by ∷ []) (drop-append-le began plant.entries f.before within) in
    record {
      others = [];
      saw = saw_nothing (access_of origin plant by began snapshots ticks);
      before = f.before;
      failed = f.failed;
      rest = f.rest;
      accepted = rw (append-nil plant.entries) (p.accepted ∙ ap accepts f.split);
      rolled_is = rw (append-nil plant.entries) (f.rolled_is ∙ ap (λ es. roll_place (length es) f.before) same);
      last = rw (append-nil plant.entries) (f.last ∙ ap (λ es. length (es ++ f.before)) same);
      after = rw (kept, append-nil plant.entries, frame, whole, mine) refl;
    }

pub fails_roll_alone : (origin later : DiskView) → later ≡ origin → (plant new : MemoryView) (by began snapshots ticks after : ℕ) (now : ℤ) (place : ℕ) → true ≡ is_next_day (date_of plant.frame.first plant.entries) now → place ≡ length plant.entries → after ≡ next_count ticks
    → new.frame ≡ plant.frame → new.entries ≡ plant.entries ++ e.Fault by ∷ [] → began ≤ length plant.entries → FailsRoll (access_of origin plant by began snapshots ticks) (access_of later new by began snapshots after) now place
fails_roll_alone origin later kept plant new by began snapshots ticks after now place is at more frame made within = record {
  others = [];
  saw = saw_nothing (access_of origin plant by began snapshots ticks);
  due = rw (append-nil plant.entries) (sym is);
  at_end = rw (append-nil plant.entries) at;
  after = rw (kept, append-nil plant.entries, more, frame, made, drop-append-le began plant.entries (e.Fault by ∷ []) within) refl;
}

pub last_fault-append : (by i : ℕ) (found : Option ℕ) (xs ys : List Entry) → last_fault_from by i found (xs ++ ys) ≡ last_fault_from by (i + length xs) (last_fault_from by i found xs) ys
last_fault-append by i found [] ys = let same : i ≡ i + 0 = omega arith in ap (λ n. last_fault_from by n found ys) same
last_fault-append by i found (e.Upd own table columns ∷ xs) ys =
    let same : (i + 1) + length xs ≡ i + suc (length xs) = omega arith in
    last_fault-append by (i + 1) found xs ys ∙ ap (λ n. last_fault_from by n (last_fault_from by (i + 1) found xs) ys) same
last_fault-append by i found (e.Roll own date ∷ xs) ys =
    let same : (i + 1) + length xs ≡ i + suc (length xs) = omega arith in
    last_fault-append by (i + 1) found xs ys ∙ ap (λ n. last_fault_from by n (last_fault_from by (i + 1) found xs) ys) same
last_fault-append by i found (e.Fault own ∷ xs) ys =
    let same : (i + 1) + length xs ≡ i + suc (length xs) = omega arith in
    let latest = cond (own == by) (Some i) found in
    last_fault-append by (i + 1) latest xs ys ∙ ap (λ n. last_fault_from by n (last_fault_from by (i + 1) latest xs) ys) same

-- an update or a roll
abbrev pub IsLogged : Entry → Type 0
IsLogged entry = is_logged entry ≡ true

last_fault-logged : (by i : ℕ) (found : Option ℕ) (es : List Entry) → AllByRecursion IsLogged es → last_fault_from by i found es ≡ found
last_fault-logged by i found [] all = refl
last_fault-logged by i found (e.Upd own table columns ∷ es) all = last_fault-logged by (i + 1) found es all.1
last_fault-logged by i found (e.Roll own date ∷ es) all = last_fault-logged by (i + 1) found es all.1
last_fault-logged by i found (e.Fault own ∷ es) all = absurd (let h = all.0 in cc)

-- the last fault stays so where updates and rolls are appended
pub last_fault-more : (by : ℕ) (old es : List Entry) → AllByRecursion IsLogged es → last_fault by (old ++ es) ≡ last_fault by old
last_fault-more by old es all = last_fault-append by 0 None old es ∙ last_fault-logged by (0 + length old) (last_fault by old) es all

other_pass : (own by : ℕ) → own < by → (own == by) ≡ false
other_pass own by less = elim (own == by) as (λ b. (own == by) ≡ b → b ≡ false) [ true ↦ λ h. absurd (let same = eqb-true own by h in omega arith) | false ↦ λ h. refl ] refl

last_fault-none_from : (by i : ℕ) (es : List Entry) → top_by es < by → last_fault_from by i None es ≡ None
last_fault-none_from by i [] less = refl
last_fault-none_from by i (e.Upd own table columns ∷ es) less = last_fault-none_from by (i + 1) es (omega arith)
last_fault-none_from by i (e.Roll own date ∷ es) less = last_fault-none_from by (i + 1) es (omega arith)
last_fault-none_from by i (e.Fault own ∷ es) less = rw (other_pass own by (omega arith)) (last_fault-none_from by (i + 1) es (omega arith))

-- a pass with a number above all others has made no fault
pub last_fault-none : (by : ℕ) (es : List Entry) → top_by es < by → last_fault by es ≡ None
last_fault-none by es less = last_fault-none_from by 0 es less

-- a pass that begins
pub solo_begins : (plant : MemoryView) (by began : ℕ) → by ≡ top_by plant.entries + 1 → by + 1 < 2 ^ 64 → began ≡ length plant.entries → IsSolo plant by began 0
solo_begins plant by began is few at = record {
  few = few;
  within = omega (arith, at);
  latest_is = λ place found. absurd (let none = last_fault-none by plant.entries (omega (arith, is)) in let h : None ≡ Some place = sym none ∙ found in cc);
}

-- a pass after it has made updates and rolls
pub solo_goes : (plant new : MemoryView) (by began latest : ℕ) (es : List Entry) → IsSolo plant by began latest → new.entries ≡ plant.entries ++ es → AllByRecursion IsLogged es → IsSolo new by began latest
solo_goes plant new by began latest es h made all = record {
  few = h.few;
  within = omega (arith, h.within, ap length made, length-append plant.entries es);
  latest_is = λ place found. h.latest_is place (sym (last_fault-more by plant.entries es all) ∙ ap (last_fault by) (sym made) ∙ found);
}

-- a pass after nothing was made
pub solo_stays : (plant new : MemoryView) (by began latest : ℕ) → IsSolo plant by began latest → new.entries ≡ plant.entries → IsSolo new by began latest
solo_stays plant new by began latest h same = solo_goes plant new by began latest [] h (same ∙ sym (append-nil plant.entries)) tt

holds-true : (b : Bool) → T b → b ≡ true
holds-true true h = refl
holds-true false h = absurd h

own_pass : (by : ℕ) → (by == by) ≡ true
own_pass by = holds-true (by == by) (eqb_refl by)

pub last_fault-own : (by : ℕ) (es : List Entry) → last_fault by (es ++ e.Fault by ∷ []) ≡ Some (length es)
last_fault-own by es = last_fault-append by 0 None es (e.Fault by ∷ []) ∙ rw (own_pass by) (ap Some (omega arith))

-- a pass after the disk failed
pub solo_fails : (plant new : MemoryView) (by began latest place : ℕ) (before : List Entry) → IsSolo plant by began latest → new.entries ≡ plant.entries ++ before ++ e.Fault by ∷ [] → place ≡ length (plant.entries ++ before) → IsSolo new by began place
solo_fails plant new by began latest place before h made at =
    record {
      few = h.few;
      within = omega (arith, h.within, ap length made, length-append (plant.entries ++ before) (e.Fault by ∷ []), length-append plant.entries before);
      latest_is = λ found is. some_same (at_place is made at);
    }
  where
    some_same : {a b : ℕ} → Some a ≡ Some b → a ≡ b
    some_same h = ap (λ o. unwrap_or o 0) h

    at_place : {found : ℕ} → last_fault by new.entries ≡ Some found → new.entries ≡ (plant.entries ++ before) ++ e.Fault by ∷ [] → place ≡ length (plant.entries ++ before) → Some place ≡ Some found
    at_place is whole at = ap Some at ∙ sym (last_fault-own by (plant.entries ++ before)) ∙ ap (last_fault by) (sym whole) ∙ is

-- what an accepted update adds is logged
pub made_logged : (es : List Entry) → IsMade es → AllByRecursion IsLogged es
made_logged [] made = absurd made
made_logged (e.Fault by ∷ es) made = absurd made
made_logged (e.Upd by table columns ∷ []) made = (refl, tt)
made_logged (e.Upd by table columns ∷ x ∷ es) made = absurd made
made_logged (e.Roll by date ∷ []) made = absurd made
made_logged (e.Roll by date ∷ e.Roll by' date' ∷ es) made = absurd made
made_logged (e.Roll by date ∷ e.Fault by' ∷ es) made = absurd made
made_logged (e.Roll by date ∷ e.Upd by' table columns ∷ []) made = (refl, (refl, tt))
made_logged (e.Roll by date ∷ e.Upd by' table columns ∷ x ∷ es) made = absurd made

-- a pass after an update was logged
pub solo_logs : (plant prepared new : MemoryView) (by began latest : ℕ) (table : List ℕ) (items : List Tree) (now : ℤ) (update : PreparedView) (rolled : Option ℕ) (place : ℕ) → IsSolo plant by began latest → Prepares plant prepared by table items now update
    → Adds prepared new (due update ++ update.entry ∷ []) rolled place → IsSolo new by began latest
solo_logs plant prepared new by began latest table items now update rolled place h p a =
    let entries = due update ++ update.entry ∷ [] in
    let same : prepared.entries ≡ plant.entries = ap (λ (x : MemoryView). x.entries) p.after in
    solo_goes plant new by began latest entries h (a.whole ∙ ap (λ es. es ++ entries) same) (made_logged entries (verdict_made plant.frame by plant.entries entries table items now p.accepted))

-- the roll that was prepared and made
pub roll_made : (plant ready new : MemoryView) (roll : PreparedRollView) (by : ℕ) → ready.entries ≡ plant.entries → roll ≡ record { frame = plant.frame; entries = plant.entries; by = by; date = date_of plant.frame.first plant.entries +ℤ pos 1 }
    → new.entries ≡ ready.entries ++ e.Roll roll.by roll.date ∷ [] → new.entries ≡ plant.entries ++ next_roll plant.frame.first plant.entries by ∷ []
roll_made plant ready new roll by entries ok made = made ∙ (λ i. entries i ++ e.Roll (ok i).by (ok i).date ∷ [])

-- the fault that was noted in its place
pub fault_made : (plant ready new : MemoryView) (roll : PreparedRollView) (by : ℕ) → ready.entries ≡ plant.entries → roll ≡ record { frame = plant.frame; entries = plant.entries; by = by; date = date_of plant.frame.first plant.entries +ℤ pos 1 }
    → new.entries ≡ ready.entries ++ e.Fault roll.by ∷ [] → new.entries ≡ plant.entries ++ e.Fault by ∷ []
fault_made plant ready new roll by entries ok made = made ∙ (λ i. entries i ++ e.Fault (ok i).by ∷ [])

-- a pass after the disk failed at an update
pub solo_faults : (plant prepared new : MemoryView) (by began latest : ℕ) (table : List ℕ) (items : List Tree) (now : ℤ) (update : PreparedView) (rolled : Option ℕ) (place : ℕ) → IsSolo plant by began latest → Prepares plant prepared by table items now update
    → Faults prepared new update.by (additions update) rolled place → IsSolo new by began place
solo_faults plant prepared new by began latest table items now update rolled place h p f =
    let same : prepared.entries ≡ plant.entries = ap (λ (x : MemoryView). x.entries) p.after in
    solo_fails plant new by began latest place f.before h (f.whole ∙ (λ i. same i ++ f.before ++ e.Fault (p.own i) ∷ [])) (f.last ∙ ap (λ es. length (es ++ f.before)) same)

-- a pass after the disk failed at its roll
pub solo_fails_now : (plant new : MemoryView) (by began latest place : ℕ) → IsSolo plant by began latest → new.entries ≡ plant.entries ++ e.Fault by ∷ [] → place ≡ length plant.entries → IsSolo new by began place
solo_fails_now plant new by began latest place h made at =
    let none : plant.entries ≡ plant.entries ++ [] = sym (append-nil plant.entries) in
    solo_fails plant new by began latest place [] h (made ∙ ap (λ l. l ++ e.Fault by ∷ []) none) (at ∙ ap length none)
