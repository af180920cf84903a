-- Batches of updates, one after the other.
use Rattle.std.proofs.Common.{add-one, ◌⊎◌, inl, inr, Option, ◌≡◌, ℕ, ℤ, zero, suc, ◌+◌, ◌*◌, ◌/◌, ◌<◌, ◌≤◌, ◌++◌, true, Some, None, List, [], ◌∷◌, length, map, take, drop, get_or, refl, sym, ap, ap₂, ◌∙◌, subst, arith, slice_get}
use Rattle.std.specs.List.{flat_map, range_with_len, AllByRecursion}
use Rattle.std.proofs.lemmas.List.{append-nil, append_assoc, length-append, take_all, take_at, take_more, take-append-drop, drop_at, drop-drop, drop_more}
use Rattle.std.proofs.lemmas.List.Concat.{flat_map-append}
use Rattle.q_values.specs.declared.atom.Atom.{Atom}
use Rattle.day_rows.specs.Chronicle.{KeepsDate}
use Rattle.day_rows.specs.declared.entry.Entry.{Entry}
use Rattle.day_rows.specs.declared.entry.Entry.TheVariants as e
use Rattle.day_rows.specs.declared.schema.Shape.{Shape}
use Rattle.pubsub.specs.Filters.{Subscribed}
use Rattle.pubsub.specs.Steps.{IsBatch, IsRoll, told_one, date_after, table_told, tables_told}
use Rattle.pubsub.specs.Told.{Publication, published, rows_told, end_told, lines_in, updates_today, batches_of, batch_told, told_today, told_later, told}

-- ---- cutting after every 16

cut_at : {X : Type 0} (us vs : List X) (k : ℕ) → length us ≡ 16 → drop (16 * (k + 1)) (us ++ vs) ≡ drop (16 * k) vs
cut_at us vs k size =
    ap (λ n. drop n (us ++ vs)) (omega arith)
    ∙ sym (drop-drop (16 * k) 16 (us ++ vs))
    ∙ ap (drop (16 * k)) (drop_at us vs 16 size)

cuts_after : {X : Type 0} (us vs : List X) (a n : ℕ) → length us ≡ 16 → map (λ k. take 16 (drop (16 * k) (us ++ vs))) (range_with_len (a + 1) n) ≡ map (λ k. take 16 (drop (16 * k) vs)) (range_with_len a n)
cuts_after us vs a zero size = refl
cuts_after us vs a (suc n) size = ap₂ ◌∷◌ (ap (take 16) (cut_at us vs a size)) (cuts_after us vs (a + 1) n size)

first_batch : (us vs : List Entry) → length us ≡ 16 → batches_of (us ++ vs) ≡ us ∷ batches_of vs
first_batch us vs size =
    let count : (length (us ++ vs) + 15) / 16 ≡ suc ((length vs + 15) / 16) = omega (arith, length-append us vs, size) in
    ap (λ n. map (λ k. take 16 (drop (16 * k) (us ++ vs))) (range_with_len 0 n)) count
    ∙ ap₂ ◌∷◌ (take_at us vs 16 size) (cuts_after us vs 0 ((length vs + 15) / 16) size)

one_batch : (us : List Entry) → 0 < length us → length us ≤ 16 → batches_of us ≡ us ∷ []
one_batch us some few =
    let count : (length us + 15) / 16 ≡ 1 = omega (arith, some, few) in
    ap (λ n. map (λ k. take 16 (drop (16 * k) us)) (range_with_len 0 n)) count
    ∙ ap (λ (b : List Entry). b ∷ []) (take_all 16 us few)

-- ---- the updates of entries

updates-append : (xs ys : List Entry) → AllByRecursion KeepsDate xs → updates_today (xs ++ ys) ≡ updates_today xs ++ updates_today ys
updates-append [] ys quiet = refl
updates-append (e.Upd by table columns ∷ xs) ys quiet = ap (λ (l : List Entry). e.Upd by table columns ∷ l) (updates-append xs ys quiet.1)
updates-append (e.Roll by next ∷ xs) ys quiet = absurd quiet.0
updates-append (e.Fault by ∷ xs) ys quiet = updates-append xs ys quiet.1

later-append : (s : Subscribed) (date : ℤ) (xs ys : List Entry) → AllByRecursion KeepsDate xs → told_later s date (xs ++ ys) ≡ told_later s date ys
later-append s date [] ys quiet = refl
later-append s date (e.Upd by table columns ∷ xs) ys quiet = later-append s date xs ys quiet.1
later-append s date (e.Roll by next ∷ xs) ys quiet = absurd quiet.0
later-append s date (e.Fault by ∷ xs) ys quiet = later-append s date xs ys quiet.1

lines-updates : (table : ℕ) (xs : List Entry) → AllByRecursion KeepsDate xs → flat_map (lines_in table) (updates_today xs) ≡ flat_map (lines_in table) xs
lines-updates table [] quiet = refl
lines-updates table (e.Upd by to columns ∷ xs) quiet = ap (λ (l : List (List Atom)). lines_in table (e.Upd by to columns) ++ l) (lines-updates table xs quiet.1)
lines-updates table (e.Roll by next ∷ xs) quiet = absurd quiet.0
lines-updates table (e.Fault by ∷ xs) quiet = lines-updates table xs quiet.1

-- faults don't count
batch-updates : (s : Subscribed) (xs : List Entry) → AllByRecursion KeepsDate xs → batch_told s (updates_today xs) ≡ batch_told s xs
batch-updates s xs quiet = λ i. flat_map (λ table. rows_told s table (lines-updates table xs quiet i)) (range_with_len 0 (length s.schema))

no_lines : (o : Option Shape) → published o [] ≡ []
no_lines None = refl
no_lines (Some shape) = refl

nothing_told : (s : Subscribed) (a n : ℕ) → flat_map (λ table. rows_told s table []) (range_with_len a n) ≡ []
nothing_told s a zero = refl
nothing_told s a (suc n) = ap₂ (λ (l m : List Publication). l ++ m) (no_lines (slice_get s.schema a)) (nothing_told s (a + 1) n)

-- fewer than 16 updates, or 16, are one batch
few_told : (s : Subscribed) (us : List Entry) → length us ≤ 16 → flat_map (batch_told s) (batches_of us) ≡ batch_told s us
few_told s [] few = sym (nothing_told s 0 (length s.schema))
few_told s (u ∷ us) few = ap (flat_map (batch_told s)) (one_batch (u ∷ us) (omega arith) few) ∙ append-nil (batch_told s (u ∷ us))

today-few : (s : Subscribed) (xs : List Entry) → AllByRecursion KeepsDate xs → length (updates_today xs) < 16 → told_today s xs ≡ batch_told s xs
today-few s xs quiet few = few_told s (updates_today xs) (omega (arith, few)) ∙ batch-updates s xs quiet

-- ---- what is told of a batch, and of what follows it

-- the updates of a batch, followed by those up to the next roll
today-append : (s : Subscribed) (xs ys : List Entry) → AllByRecursion KeepsDate xs → (length (updates_today xs) ≡ 16) ⊎ ((length (updates_today xs) < 16) × (updates_today ys ≡ [])) → told_today s (xs ++ ys) ≡ batch_told s xs ++ told_today s ys
today-append s xs ys quiet (inl full) =
    ap (λ (us : List Entry). flat_map (batch_told s) (batches_of us)) (updates-append xs ys quiet)
    ∙ ap (flat_map (batch_told s)) (first_batch (updates_today xs) (updates_today ys) full)
    ∙ ap (λ (told : List Publication). told ++ told_today s ys) (batch-updates s xs quiet)
today-append s xs ys quiet (inr few) =
    ap (λ (us : List Entry). flat_map (batch_told s) (batches_of us)) (updates-append xs ys quiet ∙ ap (λ (us : List Entry). updates_today xs ++ us) few.1 ∙ append-nil (updates_today xs))
    ∙ few_told s (updates_today xs) (omega (arith, few.0))
    ∙ batch-updates s xs quiet
    ∙ sym (append-nil (batch_told s xs))
    ∙ ap (λ (us : List Entry). batch_told s xs ++ flat_map (batch_told s) (batches_of us)) (sym few.1)

batch_then : (s : Subscribed) (date : ℤ) (xs ys : List Entry) → AllByRecursion KeepsDate xs → (length (updates_today xs) ≡ 16) ⊎ ((length (updates_today xs) < 16) × (updates_today ys ≡ [])) → told true s date (xs ++ ys) ≡ batch_told s xs ++ told true s date ys
batch_then s date xs ys quiet full =
    ap₂ (λ (l m : List Publication). l ++ m) (today-append s xs ys quiet full) (later-append s date xs ys quiet) ∙ append_assoc (batch_told s xs) (told_today s ys) (told_later s date ys)

-- one more batch
pub batch_more : (s : Subscribed) (first date : ℤ) (entries : List Entry) (from n : ℕ) (before after : List Publication) → IsBatch (drop from entries) n
    → before ++ told true s date (drop from entries) ≡ told true s first entries → after ≡ before ++ batch_told s (take n (drop from entries))
    → after ++ told true s date (drop (from + n) entries) ≡ told true s first entries
batch_more s first date entries from n before after is so_far more =
    let rest = drop from entries in
    ap₂ (λ (ps : List Publication) (es : List Entry). ps ++ told true s date es) more (sym (drop-drop n from entries))
    ∙ append_assoc before (batch_told s (take n rest)) (told true s date (drop n rest))
    ∙ ap (λ (ps : List Publication). before ++ ps) (sym (batch_then s date (take n rest) (drop n rest) is.quiet is.full) ∙ ap (told true s date) (take-append-drop n rest))
    ∙ so_far

roll_then : (s : Subscribed) (date : ℤ) (entry : Entry) (rest : List Entry) → IsRoll entry → told true s date (entry ∷ rest) ≡ told_one s date entry ++ told true s (date_after date entry) rest
roll_then s date (e.Upd by table columns) rest is = absurd is
roll_then s date (e.Roll by next) rest is = append_assoc (end_told s date) (told_today s rest) (told_later s next rest)
roll_then s date (e.Fault by) rest is = absurd is

-- one more roll
pub roll_more : (s : Subscribed) (first date next : ℤ) (entries : List Entry) (from : ℕ) (entry : Entry) (before after : List Publication) → from < length entries → entry ≡ get_or entries from entry → IsRoll entry
    → before ++ told true s date (drop from entries) ≡ told true s first entries → after ≡ before ++ told_one s date entry → next ≡ date_after date entry
    → after ++ told true s next (drop (from + 1) entries) ≡ told true s first entries
roll_more s first date next entries from entry before after from_in read is so_far more then =
    let rest = drop (from + 1) entries in
    let here : drop from entries ≡ entry ∷ rest = drop_more entries from entry from_in ∙ ap (λ (x : Entry). x ∷ rest) (sym read) in
    ap₂ (λ (ps : List Publication) (d : ℤ). ps ++ told true s d rest) more then
    ∙ append_assoc before (told_one s date entry) (told true s (date_after date entry) rest)
    ∙ ap (λ (ps : List Publication). before ++ ps) (sym (roll_then s date entry rest is) ∙ ap (told true s date) (sym here))
    ∙ so_far

-- ---- where a batch ends

count-append : (xs ys : List Entry) → AllByRecursion KeepsDate xs → length (updates_today (xs ++ ys)) ≡ length (updates_today xs) + length (updates_today ys)
count-append xs ys quiet = ap length (updates-append xs ys quiet) ∙ length-append (updates_today xs) (updates_today ys)

all_push : {X : Type 0} (P : X → Type 0) (xs : List X) (x : X) → AllByRecursion P xs → P x → AllByRecursion P (xs ++ x ∷ [])
all_push P [] x all p = (p, tt)
all_push P (y ∷ xs) x all p = (all.0, all_push P xs x all.1 p)

-- one more entry of a date
pub quiet_more : (entries : List Entry) (i : ℕ) (entry : Entry) → i < length entries → entry ≡ get_or entries i entry → AllByRecursion KeepsDate (take i entries) → KeepsDate entry → AllByRecursion KeepsDate (take (i + 1) entries)
quiet_more entries i entry i_in is quiet keeps =
    subst (AllByRecursion KeepsDate) (sym (take_more entries i entry i_in ∙ ap (λ (x : Entry). take i entries ++ x ∷ []) (sym is))) (all_push KeepsDate (take i entries) entry quiet keeps)

pub count_more : (entries : List Entry) (i : ℕ) (entry : Entry) → i < length entries → entry ≡ get_or entries i entry → AllByRecursion KeepsDate (take i entries) → length (updates_today (take (i + 1) entries)) ≡ length (updates_today (take i entries)) + length (updates_today (entry ∷ []))
count_more entries i entry i_in is quiet =
    ap (λ (es : List Entry). length (updates_today es)) (take_more entries i entry i_in ∙ ap (λ (x : Entry). take i entries ++ x ∷ []) (sym is)) ∙ count-append (take i entries) (entry ∷ []) quiet

-- a full batch
pub ends_full : (entries : List Entry) (n : ℕ) → AllByRecursion KeepsDate (take n entries) → length (updates_today (take n entries)) ≡ 16 → IsBatch entries n
ends_full entries n quiet full = record { quiet = quiet; full = inl full }

-- ---- the tables of a batch

range_from : (a n : ℕ) → range_with_len a (suc n) ≡ range_with_len a n ++ (a + n) ∷ []
range_from a zero = ap (λ (k : ℕ). k ∷ []) (omega arith)
range_from a (suc n) = ap (λ (l : List ℕ). a ∷ l) (range_from (a + 1) n ∙ ap (λ (k : ℕ). range_with_len (a + 1) n ++ k ∷ []) (omega arith))

tables_more : (f : ℕ → List Publication) (n : ℕ) → flat_map f (range_with_len 0 (n + 1)) ≡ flat_map f (range_with_len 0 n) ++ f n
tables_more f n =
    rw add-one
    (ap (flat_map f) (range_from 0 n ∙ ap (λ (k : ℕ). range_with_len 0 n ++ k ∷ []) (omega arith))
    ∙ flat_map-append f (range_with_len 0 n) (n ∷ [])
    ∙ ap (λ (ps : List Publication). flat_map f (range_with_len 0 n) ++ ps) (append-nil (f n)))

-- before the first table
pub no_table : (before : List Publication) (s : Subscribed) (batch : List Entry) → before ≡ before ++ tables_told s batch 0
unfolding tables_told
no_table before s batch = sym (append-nil before)

-- one more table
pub one_more_table : (before : List Publication) (s : Subscribed) (batch : List Entry) (n : ℕ) → (before ++ tables_told s batch n) ++ table_told s batch n ≡ before ++ tables_told s batch (n + 1)
unfolding tables_told
one_more_table before s batch n = append_assoc before (tables_told s batch n) (table_told s batch n) ∙ ap (λ (ps : List Publication). before ++ ps) (sym (tables_more (table_told s batch) n))

-- all tables
pub all_tables : (before after : List Publication) (s : Subscribed) (schema : List Shape) (batch : List Entry) (n : ℕ) → s.schema ≡ schema → n ≡ length schema → after ≡ before ++ tables_told s batch n → after ≡ before ++ batch_told s batch
unfolding tables_told table_told
all_tables before after s schema batch n own all told = told ∙ ap (λ (k : ℕ). before ++ tables_told s batch k) (all ∙ ap length (sym own))
