-- The entries of dates, and how they grow.
use Rattle.std.proofs.Common.{◌≡◌, ℕ, ℤ, ◌+◌, List, [], ◌∷◌, ◌++◌, refl, sym, ap, ◌∙◌, arith}
use Rattle.std.proofs.lemmas.List.{append_assoc, append-nil}
use Rattle.std.proofs.lemmas.List.Sums.{sum_by-append}
use Rattle.day_rows.specs.Day.{entry_rows, total_rows}
use Rattle.day_rows.specs.declared.entry.Entry.{Entry}
use Rattle.day_rows.specs.declared.entry.Entry.TheVariants as e
use Rattle.day_rows.specs.declared.schema.Shape.{Shape}
use Rattle.tick_log.specs.Replay.{AreChunks}
use Rattle.date_logs.specs.Restart.{Dated, rolled, entries_of, open_rows_from, open_rows}

pub rolled-append : (xs ys : List Dated) → rolled (xs ++ ys) ≡ rolled xs ++ rolled ys
rolled-append [] ys = refl
rolled-append (x ∷ xs) ys = ap (λ l. e.Roll x.by x.date ∷ (x.updates ++ l)) (rolled-append xs ys) ∙ ap (λ l. e.Roll x.by x.date ∷ l) (sym (append_assoc x.updates (rolled xs) (rolled ys)))

-- one date more
entries-last : (dates : List Dated) (d next : Dated) → entries_of ((d ∷ dates) ++ next ∷ []) ≡ entries_of (d ∷ dates) ++ rolled (next ∷ [])
entries-last dates d next = ap (λ l. d.updates ++ l) (rolled-append dates (next ∷ [])) ∙ sym (append_assoc d.updates (rolled dates) (rolled (next ∷ [])))

pub entries-next : (ended : List Dated) (last next : Dated) → entries_of ((ended ++ last ∷ []) ++ next ∷ []) ≡ entries_of (ended ++ last ∷ []) ++ rolled (next ∷ [])
entries-next [] last next = entries-last [] last next
entries-next (d ∷ ended) last next = entries-last (ended ++ last ∷ []) d next

-- the date with one update more
abbrev pub more : Dated → Entry → Dated
more d entry = record { by = d.by; date = d.date; updates = d.updates ++ entry ∷ [] }

rolled-more : (last : Dated) (entry : Entry) → rolled (more last entry ∷ []) ≡ rolled (last ∷ []) ++ entry ∷ []
rolled-more last entry =
    ap (λ l. e.Roll last.by last.date ∷ l) (append-nil (last.updates ++ entry ∷ []) ∙ ap (λ l. l ++ entry ∷ []) (sym (append-nil last.updates)))

pub entries-more : (ended : List Dated) (last : Dated) (entry : Entry) → entries_of (ended ++ more last entry ∷ []) ≡ entries_of (ended ++ last ∷ []) ++ entry ∷ []
entries-more [] last entry = append-nil (last.updates ++ entry ∷ []) ∙ ap (λ l. l ++ entry ∷ []) (sym (append-nil last.updates))
entries-more (d ∷ ended) last entry =
    ap (λ l. d.updates ++ l) (rolled-append ended (more last entry ∷ []) ∙ ap (λ l. rolled ended ++ l) (rolled-more last entry) ∙ sym (append_assoc (rolled ended) (rolled (last ∷ [])) (entry ∷ [])) ∙ ap (λ l. l ++ entry ∷ []) (sym (rolled-append ended (last ∷ []))))
    ∙ sym (append_assoc d.updates (rolled (ended ++ last ∷ [])) (entry ∷ []))

-- the rows of updates
total-first : (x : Entry) (xs : List Entry) → total_rows (x ∷ xs) ≡ entry_rows x + total_rows xs
total-first x xs = sum_by-append entry_rows (x ∷ []) xs ∙ omega arith

rows-updates : (schema : List Shape) (before n : ℕ) (payloads : List (List ℕ)) (updates : List Entry) → AreChunks schema before payloads updates → open_rows_from n updates ≡ n + total_rows updates
rows-updates schema before n [] [] h = omega arith
rows-updates schema before n [] (x ∷ xs) h = absurd h
rows-updates schema before n (p ∷ ps) [] h = absurd h
rows-updates schema before n (p ∷ ps) (e.Upd by table columns ∷ xs) h =
    rows-updates schema (before + entry_rows (e.Upd by table columns)) (n + entry_rows (e.Upd by table columns)) ps xs h.1 ∙ omega (arith, total-first (e.Upd by table columns) xs)
rows-updates schema before n (p ∷ ps) (e.Roll by date ∷ xs) h = absurd h.0
rows-updates schema before n (p ∷ ps) (e.Fault by ∷ xs) h = absurd h.0

rows-skip : (n : ℕ) (front : List Entry) (by : ℕ) (date : ℤ) (updates : List Entry) → open_rows_from n (front ++ e.Roll by date ∷ updates) ≡ open_rows_from 0 updates
rows-skip n [] by date updates = refl
rows-skip n (e.Upd b table columns ∷ front) by date updates = rows-skip (n + entry_rows (e.Upd b table columns)) front by date updates
rows-skip n (e.Roll b d ∷ front) by date updates = rows-skip 0 front by date updates
rows-skip n (e.Fault b ∷ front) by date updates = rows-skip n front by date updates

-- the open date has the rows of its updates
pub rows-open : (schema : List Shape) (payloads : List (List ℕ)) (ended : List Dated) (last : Dated) → AreChunks schema 0 payloads last.updates
    → open_rows (entries_of (ended ++ last ∷ [])) ≡ total_rows last.updates
rows-open schema payloads [] last h =
    ap (open_rows_from 0) (append-nil last.updates) ∙ rows-updates schema 0 0 payloads last.updates h ∙ omega arith
rows-open schema payloads (d ∷ ended) last h =
    let split : entries_of ((d ∷ ended) ++ last ∷ []) ≡ (d.updates ++ rolled ended) ++ e.Roll last.by last.date ∷ last.updates =
    entries-last ended d last ∙ ap (λ l. (d.updates ++ rolled ended) ++ e.Roll last.by last.date ∷ l) (append-nil last.updates) in
    ap (open_rows_from 0) split ∙ rows-skip 0 (d.updates ++ rolled ended) last.by last.date last.updates ∙ rows-updates schema 0 0 payloads last.updates h ∙ omega arith
