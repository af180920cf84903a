-- What an accepted update adds: a roll, where one is due, and the update.
use Rattle.std.proofs.Common.{◌≡◌, ℕ, ℤ, Bool, true, false, List, [], ◌∷◌, ◌++◌, length, cond, Option, Some, None, subst}
use Rattle.day_rows.specs.Chronicle.{date_of}
use Rattle.day_rows.specs.Day.{total_rows}
use Rattle.day_rows.specs.declared.entry.Entry.{Entry}
use Rattle.day_rows.specs.declared.entry.Entry.TheVariants as e
use Rattle.plant_memory.specs.Chronicle.{time_of_day, today}
use Rattle.plant_memory.specs.Frame.{Frame}
use Rattle.plant_memory.specs.Items.{timed, have_matching_lengths, wrong_from, columns_of}
use Rattle.plant_memory.specs.Limit.{is_beyond}
use Rattle.plant_memory.specs.Verdict.{Verdict, accepts, refuses, verdict, table_from, table_judged, items_judged, kinds_judged, dated, roll_due, is_next_day, is_past_next_day}
use Rattle.plant_memory.specs.declared.refusal.UpdRefusal.{UpdRefusal}
use Rattle.q_values.specs.Tree.{Tree}
use Rattle.q_values.specs.declared.kind.Kind.{Kind}
use Rattle.q_values.specs.declared.limits.Limits.{Limits}

-- the entries are an update, and perhaps a roll before it
abbrev pub IsMade : List Entry → Type 0
IsMade (e.Upd by table columns ∷ []) = Unit {0}
IsMade (e.Roll by date ∷ e.Upd by' table columns ∷ []) = Unit {0}
IsMade entries = ⊥

made_by : (past beyond rolls : Bool) (a b : UpdRefusal) (by : ℕ) (date : ℤ) (update : Entry) (entries : List Entry) → IsMade (roll_due rolls by date ++ update ∷ []) → cond past (refuses a) (cond beyond (refuses b) (accepts (roll_due rolls by date ++ update ∷ []))) ≡ accepts entries → IsMade entries
made_by true beyond rolls a b by date update entries made h = absurd cc
made_by false true rolls a b by date update entries made h = absurd cc
made_by false false rolls a b by date update entries made h = let same : roll_due rolls by date ++ update ∷ [] ≡ entries = cc in subst IsMade same made

update_made : (rolls : Bool) (by : ℕ) (date : ℤ) (table : ℕ) (columns : _) → IsMade (roll_due rolls by date ++ e.Upd by table columns ∷ [])
update_made true by date table columns = tt
update_made false by date table columns = tt

dated_made : (limits : Limits) (by : ℕ) (date : ℤ) (rows : ℕ) (now : ℤ) (name : List ℕ) (table : ℕ) (items : List Tree) (entries : List Entry) → dated limits by date rows now name table items ≡ accepts entries → IsMade entries
dated_made limits by date rows now name table items entries h =
    made_by (is_past_next_day date now) (is_beyond limits (cond (is_next_day date now) 0 rows) name items) (is_next_day date now) _ _ by date (e.Upd by table (columns_of items)) entries (update_made (is_next_day date now) by date table (columns_of items)) h

kinds_made : (column : Option ℕ) (rest : Verdict) (entries : List Entry) → (rest ≡ accepts entries → IsMade entries) → kinds_judged column rest ≡ accepts entries → IsMade entries
kinds_made (Some column) rest entries f h = absurd cc
kinds_made None rest entries f h = f h

even_made : (even : Bool) (a : UpdRefusal) (rest : Verdict) (entries : List Entry) → (rest ≡ accepts entries → IsMade entries) → cond even rest (refuses a) ≡ accepts entries → IsMade entries
even_made true a rest entries f h = f h
even_made false a rest entries f h = absurd cc

items_made : (limits : Limits) (by : ℕ) (date : ℤ) (rows : ℕ) (now : ℤ) (name : List ℕ) (table : ℕ × List Kind) (items : List Tree) (entries : List Entry) → items_judged limits by date rows now name table items ≡ accepts entries → IsMade entries
items_made limits by date rows now name table items entries h =
    even_made (have_matching_lengths (length table.1) items) _ (kinds_judged (wrong_from 0 table.1 items) (dated limits by date rows now name table.0 items)) entries
    (kinds_made (wrong_from 0 table.1 items) (dated limits by date rows now name table.0 items) entries (dated_made limits by date rows now name table.0 items entries)) h

table_made : (name : List ℕ) (found : Option (ℕ × List Kind)) (judged : ℕ × List Kind → Verdict) (entries : List Entry) → ((t : ℕ × List Kind) → judged t ≡ accepts entries → IsMade entries) → table_judged name found judged ≡ accepts entries → IsMade entries
table_made name None judged entries f h = absurd cc
table_made name (Some t) judged entries f h = f t h

pub verdict_made : (frame : Frame) (by : ℕ) (chronicle entries : List Entry) (name : List ℕ) (items : List Tree) (now : ℤ) → verdict frame by chronicle name items now ≡ accepts entries → IsMade entries
verdict_made frame by chronicle entries name items now h =
    table_made name (table_from 0 name frame.schema) (λ t. items_judged frame.limits by (date_of frame.first chronicle) (total_rows (today chronicle)) now name t (timed (time_of_day now) items)) entries
    (λ t. items_made frame.limits by (date_of frame.first chronicle) (total_rows (today chronicle)) now name t (timed (time_of_day now) items) entries) h
