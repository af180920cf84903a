-- What a turn adds has the number of its pass.
use Rattle.std.proofs.Common.{◌≡◌, ℕ, ℤ, ◌<◌, Bool, true, false, List, [], ◌∷◌, ◌++◌, length, cond, Option, Some, None, All, refl, sym, ap, ◌∙◌, subst, arith, append-nil, append_assoc}
use Rattle.std.proofs.lemmas.List.Elements.{All-nil, All-cons, All-head, All-tail, All-push}
use Rattle.day_rows.specs.Chronicle.{date_of}
use Rattle.day_rows.specs.Day.{total_rows}
use Rattle.day_rows.specs.declared.entry.Entry.{Entry}
use Rattle.day_rows.specs.declared.entry.Entry.TheVariants as e
use Rattle.plant_lock.specs.Entries.{IsExtendedBy}
use Rattle.plant_memory.specs.Chronicle.{by_of, top_by, time_of_day, today}
use Rattle.plant_memory.specs.Frame.{Frame}
use Rattle.plant_memory.specs.Items.{timed, have_matching_lengths, wrong_from, columns_of}
use Rattle.plant_memory.specs.Limit.{is_beyond}
use Rattle.plant_memory.specs.Memory.{MemoryView, PreparedView, Prepares, due}
use Rattle.plant_memory.specs.Verdict.{Verdict, accepts, refuses, verdict, table_from, table_judged, items_judged, kinds_judged, dated, roll_due, is_next_day, is_past_next_day}
use Rattle.plant_memory.specs.declared.refusal.UpdRefusal.{UpdRefusal}
use Rattle.plant_core.specs.Adds.{Adds, Faults, additions}
use Rattle.q_values.specs.Tree.{Tree}
use Rattle.q_values.specs.declared.kind.Kind.{Kind}
use Rattle.q_values.specs.declared.limits.Limits.{Limits}

-- each entry has this number
abbrev pub Own : ℕ → List Entry → Type 0
Own by entries = All (λ x. by_of x ≡ by) entries

due_own : (rolls : Bool) (by : ℕ) (date : ℤ) (update : Entry) → by_of update ≡ by → Own by (roll_due rolls by date ++ update ∷ [])
due_own true by date update own = All-cons (λ x. by_of x ≡ by) _ (update ∷ []) refl (All-cons (λ x. by_of x ≡ by) update [] own (All-nil (λ x. by_of x ≡ by)))
due_own false by date update own = All-cons (λ x. by_of x ≡ by) update [] own (All-nil (λ x. by_of x ≡ by))

ruled_own : (past beyond rolls : Bool) (a b : UpdRefusal) (by : ℕ) (date : ℤ) (update : Entry) (entries : List Entry) → Own by (roll_due rolls by date ++ update ∷ []) → cond past (refuses a) (cond beyond (refuses b) (accepts (roll_due rolls by date ++ update ∷ []))) ≡ accepts entries → Own by entries
ruled_own true beyond rolls a b by date update entries made h = absurd cc
ruled_own false true rolls a b by date update entries made h = absurd cc
ruled_own false false rolls a b by date update entries made h = let same : roll_due rolls by date ++ update ∷ [] ≡ entries = cc in subst (Own by) same made

dated_own : (limits : Limits) (by : ℕ) (date : ℤ) (rows : ℕ) (now : ℤ) (name : List ℕ) (table : ℕ) (items : List Tree) (entries : List Entry) → dated limits by date rows now name table items ≡ accepts entries → Own by entries
dated_own limits by date rows now name table items entries h =
    ruled_own (is_past_next_day date now) (is_beyond limits (cond (is_next_day date now) 0 rows) name items) (is_next_day date now) _ _ by date (e.Upd by table (columns_of items)) entries (due_own (is_next_day date now) by date (e.Upd by table (columns_of items)) refl) h

kinds_own : (by : ℕ) (column : Option ℕ) (rest : Verdict) (entries : List Entry) → (rest ≡ accepts entries → Own by entries) → kinds_judged column rest ≡ accepts entries → Own by entries
kinds_own by (Some column) rest entries f h = absurd cc
kinds_own by None rest entries f h = f h

even_own : (by : ℕ) (even : Bool) (a : UpdRefusal) (rest : Verdict) (entries : List Entry) → (rest ≡ accepts entries → Own by entries) → cond even rest (refuses a) ≡ accepts entries → Own by entries
even_own by true a rest entries f h = f h
even_own by false a rest entries f h = absurd cc

items_own : (limits : Limits) (by : ℕ) (date : ℤ) (rows : ℕ) (now : ℤ) (name : List ℕ) (table : ℕ × List Kind) (items : List Tree) (entries : List Entry) → items_judged limits by date rows now name table items ≡ accepts entries → Own by entries
items_own limits by date rows now name table items entries h =
    even_own by (have_matching_lengths (length table.1) items) _ (kinds_judged (wrong_from 0 table.1 items) (dated limits by date rows now name table.0 items)) entries
    (kinds_own by (wrong_from 0 table.1 items) (dated limits by date rows now name table.0 items) entries (dated_own limits by date rows now name table.0 items entries)) h

table_own : (by : ℕ) (name : List ℕ) (found : Option (ℕ × List Kind)) (judged : ℕ × List Kind → Verdict) (entries : List Entry) → ((t : ℕ × List Kind) → judged t ≡ accepts entries → Own by entries) → table_judged name found judged ≡ accepts entries → Own by entries
table_own by name None judged entries f h = absurd cc
table_own by name (Some t) judged entries f h = f t h

-- what the verdict accepts of a pass has its number
pub verdict_own : (frame : Frame) (by : ℕ) (chronicle entries : List Entry) (name : List ℕ) (items : List Tree) (now : ℤ) → verdict frame by chronicle name items now ≡ accepts entries → Own by entries
verdict_own frame by chronicle entries name items now h =
    table_own by name (table_from 0 name frame.schema) (λ t. items_judged frame.limits by (date_of frame.first chronicle) (total_rows (today chronicle)) now name t (timed (time_of_day now) items)) entries
    (λ t. items_own frame.limits by (date_of frame.first chronicle) (total_rows (today chronicle)) now name t (timed (time_of_day now) items) entries) h

own_front : (by : ℕ) (xs ys : List Entry) → Own by (xs ++ ys) → Own by xs
own_front by [] ys h = All-nil (λ x. by_of x ≡ by)
own_front by (x ∷ xs) ys h = All-cons (λ x. by_of x ≡ by) x xs (All-head (λ x. by_of x ≡ by) x (xs ++ ys) h) (own_front by xs ys (All-tail (λ x. by_of x ≡ by) x (xs ++ ys) h))

-- nothing was added
pub none_added : (by : ℕ) (old new : List Entry) → new ≡ old → IsExtendedBy by_of by old new
none_added by old new same = ([], same ∙ sym (append-nil old), All-nil (λ x. by_of x ≡ by))

-- one entry was added
pub one_added : (by : ℕ) (old new : List Entry) (entry : Entry) → by_of entry ≡ by → new ≡ old ++ entry ∷ [] → IsExtendedBy by_of by old new
one_added by old new entry own made = (entry ∷ [], made, All-cons (λ x. by_of x ≡ by) entry [] own (All-nil (λ x. by_of x ≡ by)))

-- an update was logged
pub update_added : (plant prepared new : MemoryView) (by : ℕ) (table : List ℕ) (items : List Tree) (now : ℤ) (update : PreparedView) (rolled : Option ℕ) (place : ℕ) → Prepares plant prepared by table items now update
    → Adds prepared new (due update ++ update.entry ∷ []) rolled place → IsExtendedBy by_of by plant.entries new.entries
update_added plant prepared new by table items now update rolled place p a =
    let entries = due update ++ update.entry ∷ [] in
    let same : prepared.entries ≡ plant.entries = ap (λ (x : MemoryView). x.entries) p.after in
    (entries, a.whole ∙ ap (λ es. es ++ entries) same, verdict_own plant.frame by plant.entries entries table items now p.accepted)

-- the disk failed at an update, or at the roll before it
pub fault_added : (plant prepared new : MemoryView) (by : ℕ) (table : List ℕ) (items : List Tree) (now : ℤ) (update : PreparedView) (rolled : Option ℕ) (place : ℕ) → Prepares plant prepared by table items now update
    → Faults prepared new update.by (additions update) rolled place → IsExtendedBy by_of by plant.entries new.entries
fault_added plant prepared new by table items now update rolled place p f =
    let same : prepared.entries ≡ plant.entries = ap (λ (x : MemoryView). x.entries) p.after in
    let whole : new.entries ≡ (plant.entries ++ f.before) ++ e.Fault by ∷ [] = f.whole ∙ (λ i. same i ++ f.before ++ e.Fault (p.own i) ∷ []) in
    let all : Own by (f.before ++ f.failed ∷ f.rest) = subst (Own by) f.split (verdict_own plant.frame by plant.entries (additions update) table items now p.accepted) in (
      f.before ++ e.Fault by ∷ [],
      whole ∙ append_assoc plant.entries f.before (e.Fault by ∷ []),
      All-push (λ x. by_of x ≡ by) f.before (e.Fault by) (own_front by f.before (f.failed ∷ f.rest) all) refl,
    )

-- no entry has a number above the greatest
pub below_top : (es : List Entry) (n : ℕ) → top_by es < n → All (λ x. by_of x < n) es
below_top [] n lt = All-nil (λ x. by_of x < n)
below_top (x ∷ es) n lt = All-cons (λ y. by_of y < n) x es (omega arith) (below_top es n (omega arith))
