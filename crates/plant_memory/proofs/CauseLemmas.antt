-- The verdict on an update is its first cause.
use Rattle.std.specs.Prelude.{ℤ, not, ◌||◌, Some}
use Rattle.std.proofs.Common.{◌≡◌, ℕ, ◌+◌, Bool, true, false, cond, List, [], ◌∷◌, ◌++◌, length, refl}
use Rattle.std.specs.Str.{bytes_eq}
use Rattle.q_values.specs.Tree.{Tree}
use Rattle.q_values.specs.declared.kind.Kind.{Kind}
use Rattle.q_values.specs.declared.limits.Limits.{Limits}
use Rattle.day_rows.specs.Chronicle.{date_of}
use Rattle.day_rows.specs.Day.{total_rows}
use Rattle.day_rows.specs.declared.entry.Entry.TheVariants as e
use Rattle.day_rows.specs.declared.schema.Shape.{Shape}
use Rattle.plant_memory.specs.Causes.{is_table, kinds_of, wrong_types, first_cause, refusal_of}
use Rattle.plant_memory.specs.Chronicle.{time_of_day, today}
use Rattle.plant_memory.specs.Items.{timed, have_matching_lengths, is_of_kind, wrong_from, columns_of}
use Rattle.plant_memory.specs.Laws.{FirstCauseRefuses}
use Rattle.plant_memory.specs.Limit.{is_beyond}
use Rattle.plant_memory.specs.Verdict.{Verdict, accepts, refuses, is_next_day, is_past_next_day, roll_due, table_from, dated, kinds_judged, items_judged, table_judged}
use Rattle.plant_memory.specs.declared.refusal.UpdRefusal.{UpdRefusal}
use Rattle.plant_memory.specs.declared.refusal.UpdRefusal.TheVariants as r

-- the causes of the date and the limits
abbrev last_causes : Limits → ℤ → ℕ → ℤ → List ℕ → List Tree → List (UpdRefusal × Bool)
last_causes limits date rows now name items =
    (r.MoreThanOneDay, is_past_next_day date now) ∷ (r.Limit, is_beyond limits (cond (is_next_day date now) 0 rows) name items) ∷ []

dated-causes : (limits : Limits) (by : ℕ) (date : ℤ) (rows : ℕ) (now : ℤ) (name : List ℕ) (table : ℕ) (items : List Tree)
    → refusal_of (dated limits by date rows now name table items) ≡ first_cause (last_causes limits date rows now name items)
dated-causes limits by date rows now name table items = go (is_past_next_day date now) (is_beyond limits (cond (is_next_day date now) 0 rows) name items)
  where
    go : (past beyond : Bool)
        → refusal_of (cond past (refuses r.MoreThanOneDay) (cond beyond (refuses r.Limit) (accepts (roll_due (is_next_day date now) by date ++ e.Upd by table (columns_of items) ∷ []))))
        ≡ first_cause ((r.MoreThanOneDay, past) ∷ (r.Limit, beyond) ∷ [])
    go true beyond = refl
    go false true = refl
    go false false = refl

kinds-causes : (i : ℕ) (kinds : List Kind) (items : List Tree) (rest : Verdict) (more : List (UpdRefusal × Bool)) → refusal_of rest ≡ first_cause more
    → refusal_of (kinds_judged (wrong_from i kinds items) rest) ≡ first_cause (wrong_types i kinds items ++ more)
kinds-causes i [] items rest more h = h
kinds-causes i (kind ∷ kinds) [] rest more h = h
kinds-causes i (kind ∷ kinds) (item ∷ items) rest more h = go (is_of_kind kind item) (kinds-causes (i + 1) kinds items rest more h)
  where
    go : (t : Bool) → refusal_of (kinds_judged (wrong_from (i + 1) kinds items) rest) ≡ first_cause (wrong_types (i + 1) kinds items ++ more)
        → refusal_of (kinds_judged (cond t (wrong_from (i + 1) kinds items) (Some i)) rest) ≡ first_cause ((r.WrongType i, not t) ∷ wrong_types (i + 1) kinds items ++ more)
    go true h = h
    go false h = refl

items-causes : (limits : Limits) (by : ℕ) (date : ℤ) (rows : ℕ) (now : ℤ) (name : List ℕ) (table : ℕ) (kinds : List Kind) (items : List Tree)
    → refusal_of (items_judged limits by date rows now name (table, kinds) items)
    ≡ first_cause ((r.Length, not (have_matching_lengths (length kinds) items)) ∷ wrong_types 0 kinds items ++ last_causes limits date rows now name items)
items-causes limits by date rows now name table kinds items =
    go (have_matching_lengths (length kinds) items)
    (kinds-causes 0 kinds items (dated limits by date rows now name table items) (last_causes limits date rows now name items) (dated-causes limits by date rows now name table items))
  where
    go : (t : Bool)
        → refusal_of (kinds_judged (wrong_from 0 kinds items) (dated limits by date rows now name table items)) ≡ first_cause (wrong_types 0 kinds items ++ last_causes limits date rows now name items)
        → refusal_of (cond t (kinds_judged (wrong_from 0 kinds items) (dated limits by date rows now name table items)) (refuses r.Length))
        ≡ first_cause ((r.Length, not t) ∷ wrong_types 0 kinds items ++ last_causes limits date rows now name items)
    go true h = h
    go false h = refl

table-causes : (i : ℕ) (name : List ℕ) (schema : List Shape) (judged : ℕ × List Kind → Verdict) (more : List Kind → List (UpdRefusal × Bool))
    → ((table : ℕ) (kinds : List Kind) → refusal_of (judged (table, kinds)) ≡ first_cause (more kinds))
    → refusal_of (table_judged name (table_from i name schema) judged) ≡ first_cause ((r.NoTable name, not (is_table name schema)) ∷ more (kinds_of name schema))
table-causes i name [] judged more h = refl
table-causes i name (shape ∷ shapes) judged more h = go (bytes_eq shape.table name) (table-causes (i + 1) name shapes judged more h)
  where
    go : (t : Bool)
        → refusal_of (table_judged name (table_from (i + 1) name shapes) judged) ≡ first_cause ((r.NoTable name, not (is_table name shapes)) ∷ more (kinds_of name shapes))
        → refusal_of (table_judged name (cond t (Some (i, shape.kinds)) (table_from (i + 1) name shapes)) judged)
        ≡ first_cause ((r.NoTable name, not (t || is_table name shapes)) ∷ more (cond t shape.kinds (kinds_of name shapes)))
    go true past = h i shape.kinds
    go false past = past

pub first_cause-refuses : FirstCauseRefuses
first_cause-refuses frame by chronicle name items now =
    table-causes 0 name frame.schema (λ table. items_judged frame.limits by (date_of frame.first chronicle) (total_rows (today chronicle)) now name table (timed (time_of_day now) items))
    (λ kinds. (r.Length, not (have_matching_lengths (length kinds) (timed (time_of_day now) items))) ∷ wrong_types 0 kinds (timed (time_of_day now) items)
    ++ last_causes frame.limits (date_of frame.first chronicle) (total_rows (today chronicle)) now name (timed (time_of_day now) items))
    (λ table kinds. items-causes frame.limits by (date_of frame.first chronicle) (total_rows (today chronicle)) now name table kinds (timed (time_of_day now) items))
