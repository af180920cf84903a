-- The view of a chronicle, date by date.
use Rattle.std.proofs.Common.{◌≡◌, ℕ, ℤ, ◌+◌, ◌<◌, ◌==◌, Bool, true, false, cond, List, [], ◌∷◌, ◌++◌, refl, sym, ap, ◌∙◌, arith, append_assoc, flat_map, Ordering, Less, Equal, is_gt, ◌⊎◌, inl, inr, IsPermutation}
use Rattle.std.proofs.lemmas.List.Sorted.{IsPermutation-refl, IsPermutation-sym, IsPermutation-cons, IsPermutation-trans, IsPermutation-middle}
use Rattle.std.specs.List.{AllByRecursion}
use Rattle.std.specs.Ordering.{nat_cmp, int_cmp}
use Rattle.std.proofs.lemmas.Cmp.{int_cmp_total, tied_itself}
use Rattle.std.proofs.lemmas.Bool.Decides.{nat_tests}
use Rattle.q_values.specs.Table.{rows_of}
use Rattle.q_values.specs.declared.atom.Atom.{Atom}
use Rattle.day_rows.specs.Chronicle.{date_of, ended_cmp, documented_cmp, view, KeepsDate, DatesAscend}
use Rattle.day_rows.specs.Day.{Day, settled}
use Rattle.day_rows.specs.Rows.{Row, lines_of, numbered, rows_from, rows}
use Rattle.day_rows.specs.Sorted.{inserted, in_order, IsAscending}
use Rattle.day_rows.specs.declared.entry.Entry.{Entry}
use Rattle.day_rows.specs.declared.entry.Entry.TheVariants as e
use Rattle.day_rows.proofs.DayLemmas.{all-append}
use Rattle.day_rows.proofs.RowsLemmas.{lines_in, length-lines_of, numbered-append, numbered-apart, ended_total}
use Rattle.day_rows.proofs.Sorting.{all_weaker, rises-in_order}

all_inserted : {X : Type 0} (cmp : X → X → Ordering) (P : X → Type 0) (x : X) (ys : List X) → P x → AllByRecursion P ys → AllByRecursion P (inserted cmp x ys)
all_inserted cmp P x [] own all = (own, tt)
all_inserted cmp P x (y ∷ ys) own all =
    elim (is_gt (cmp x y)) as (λ b. AllByRecursion P (cond b (y ∷ inserted cmp x ys) (x ∷ y ∷ ys))) [ true ↦ (all.0, all_inserted cmp P x ys own all.1) | false ↦ (own, all) ]

all_in_order : {X : Type 0} (cmp : X → X → Ordering) (P : X → Type 0) (xs : List X) → AllByRecursion P xs → AllByRecursion P (in_order cmp xs)
all_in_order cmp P [] all = tt
all_in_order cmp P (x ∷ xs) all = all_inserted cmp P x (in_order cmp xs) all.0 (all_in_order cmp P xs all.1)

inserted-append : {X : Type 0} (cmp : X → X → Ordering) (x : X) (ys zs : List X) → AllByRecursion (λ z. is_gt (cmp x z) ≡ false) zs → inserted cmp x (ys ++ zs) ≡ inserted cmp x ys ++ zs
inserted-append cmp x [] [] below = refl
inserted-append cmp x [] (z ∷ zs) below = rw below.0 refl
inserted-append cmp x (y ∷ ys) zs below =
    elim (is_gt (cmp x y)) as (λ b. cond b (y ∷ inserted cmp x (ys ++ zs)) (x ∷ y ∷ (ys ++ zs)) ≡ cond b (y ∷ inserted cmp x ys) (x ∷ y ∷ ys) ++ zs)
    [ true ↦ ap (λ l. y ∷ l) (inserted-append cmp x ys zs below) | false ↦ refl ]

-- two lists in order, where nothing of the first is above anything of the second
in_order-append : {X : Type 0} (cmp : X → X → Ordering) (P Q : X → Type 0) → ((x y : X) → P x → Q y → is_gt (cmp x y) ≡ false) → (xs ys : List X) → AllByRecursion P xs → AllByRecursion Q ys → in_order cmp (xs ++ ys) ≡ in_order cmp xs ++ in_order cmp ys
in_order-append cmp P Q below [] ys all other = refl
in_order-append cmp P Q below (x ∷ xs) ys all other =
    ap (inserted cmp x) (in_order-append cmp P Q below xs ys all.1 other)
    ∙ inserted-append cmp x (in_order cmp xs) (in_order cmp ys) (all_weaker Q (λ z. is_gt (cmp x z) ≡ false) (λ z q. below x z all.0 q) (in_order cmp ys) (all_in_order cmp Q ys other))

inserted-same : {X : Type 0} (cmp other : X → X → Ordering) (P : X → Type 0) → ((x y : X) → P x → P y → cmp x y ≡ other x y) → (x : X) (ys : List X) → P x → AllByRecursion P ys → inserted cmp x ys ≡ inserted other x ys
inserted-same cmp other P same x [] own all = refl
inserted-same cmp other P same x (y ∷ ys) own all = rw (same x y own all.0, inserted-same cmp other P same x ys own all.1) refl

-- two orders that compare alike
in_order-same : {X : Type 0} (cmp other : X → X → Ordering) (P : X → Type 0) → ((x y : X) → P x → P y → cmp x y ≡ other x y) → (xs : List X) → AllByRecursion P xs → in_order cmp xs ≡ in_order other xs
in_order-same cmp other P same [] all = refl
in_order-same cmp other P same (x ∷ xs) all =
    ap (inserted cmp x) (in_order-same cmp other P same xs all.1) ∙ inserted-same cmp other P same x (in_order other xs) all.0 (all_in_order other P xs all.1)

-- a list that is in order
in_order-kept : {X : Type 0} (cmp : X → X → Ordering) (xs : List X) → IsAscending (λ x y. is_gt (cmp x y) ≡ false) xs → in_order cmp xs ≡ xs
in_order-kept cmp [] up = refl
in_order-kept cmp (x ∷ xs) up = ap (inserted cmp x) (in_order-kept cmp xs up.1) ∙ inserted-append cmp x [] xs up.0

-- the rows of entries that keep the date
rows-lines : (date : ℤ) (n : ℕ) (es : List Entry) (t : ℕ) → AllByRecursion KeepsDate es → rows_from date n es t ≡ numbered date n (flat_map (lines_in t) es)
rows-lines date n [] t all = refl
rows-lines date n (e.Upd by to columns ∷ es) t all = go (to == t) (rows-lines date n es t all.1) (rows-lines date (n + rows_of columns) es t all.1)
  where
    go : (b : Bool) → rows_from date n es t ≡ numbered date n (flat_map (lines_in t) es) → rows_from date (n + rows_of columns) es t ≡ numbered date (n + rows_of columns) (flat_map (lines_in t) es)
        → cond b (numbered date n (lines_of columns) ++ rows_from date (n + rows_of columns) es t) (rows_from date n es t) ≡ numbered date n (cond b (lines_of columns) [] ++ flat_map (lines_in t) es)
    go false here later = here
    go true here later = rw (later, numbered-append date n (lines_of columns) (flat_map (lines_in t) es), length-lines_of columns) refl
rows-lines date n (e.Roll by next ∷ es) t all = absurd all.0
rows-lines date n (e.Fault by ∷ es) t all = rows-lines date n es t all.1

rows-roll : (date next : ℤ) (n by : ℕ) (es later : List Entry) (t : ℕ) → AllByRecursion KeepsDate es → rows_from date n (es ++ e.Roll by next ∷ later) t ≡ rows_from date n es t ++ rows_from next 0 later t
rows-roll date next n by [] later t all = refl
rows-roll date next n by (e.Upd own to columns ∷ es) later t all = go (to == t) (rows-roll date next n by es later t all.1) (rows-roll date next (n + rows_of columns) by es later t all.1)
  where
    go : (b : Bool) → rows_from date n (es ++ e.Roll by next ∷ later) t ≡ rows_from date n es t ++ rows_from next 0 later t
        → rows_from date (n + rows_of columns) (es ++ e.Roll by next ∷ later) t ≡ rows_from date (n + rows_of columns) es t ++ rows_from next 0 later t
        → cond b (numbered date n (lines_of columns) ++ rows_from date (n + rows_of columns) (es ++ e.Roll by next ∷ later) t) (rows_from date n (es ++ e.Roll by next ∷ later) t)
        ≡ cond b (numbered date n (lines_of columns) ++ rows_from date (n + rows_of columns) es t) (rows_from date n es t) ++ rows_from next 0 later t
    go false here more = here
    go true here more = ap (λ l. numbered date n (lines_of columns) ++ l) more ∙ sym (append_assoc (numbered date n (lines_of columns)) (rows_from date (n + rows_of columns) es t) (rows_from next 0 later t))
rows-roll date next n by (e.Roll own other ∷ es) later t all = absurd all.0
rows-roll date next n by (e.Fault own ∷ es) later t all = rows-roll date next n by es later t all.1

date_of-kept : (date : ℤ) (es : List Entry) → AllByRecursion KeepsDate es → date_of date es ≡ date
date_of-kept date [] all = refl
date_of-kept date (e.Upd own to columns ∷ es) all = date_of-kept date es all.1
date_of-kept date (e.Roll own other ∷ es) all = absurd all.0
date_of-kept date (e.Fault own ∷ es) all = date_of-kept date es all.1

date_of-roll : (date next : ℤ) (by : ℕ) (es later : List Entry) → AllByRecursion KeepsDate es → date_of date (es ++ e.Roll by next ∷ later) ≡ date_of next later
date_of-roll date next by [] later all = refl
date_of-roll date next by (e.Upd own to columns ∷ es) later all = date_of-roll date next by es later all.1
date_of-roll date next by (e.Roll own other ∷ es) later all = absurd all.0
date_of-roll date next by (e.Fault own ∷ es) later all = date_of-roll date next by es later all.1

-- a date that is this one or a later one
abbrev IsFrom : ℤ → ℤ → Type 0
IsFrom date other = (other ≡ date) ⊎ (int_cmp date other ≡ Less)

from-later : (date next other : ℤ) → int_cmp date next ≡ Less → IsFrom next other → int_cmp date other ≡ Less
from-later date next other less (inl same) = rw same less
from-later date next other less (inr more) = int_cmp_total.trans date next other less more

date_of-from : (date : ℤ) (es : List Entry) → DatesAscend date es → IsFrom date (date_of date es)
date_of-from date [] up = inl refl
date_of-from date (e.Upd own to columns ∷ es) up = date_of-from date es up
date_of-from date (e.Roll own next ∷ es) up = inr (from-later date next (date_of next es) up.0 (date_of-from next es up.1))
date_of-from date (e.Fault own ∷ es) up = date_of-from date es up

numbered-dated : (date : ℤ) (n : ℕ) (ls : List (List Atom)) → AllByRecursion (λ r. r.date ≡ date) (numbered date n ls)
numbered-dated date n [] = tt
numbered-dated date n (l ∷ ls) = (refl, numbered-dated date (n + 1) ls)

rows-from : (date : ℤ) (n : ℕ) (es : List Entry) (t : ℕ) → DatesAscend date es → AllByRecursion (λ r. IsFrom date r.date) (rows_from date n es t)
rows-from date n [] t up = tt
rows-from date n (e.Upd by to columns ∷ es) t up =
    elim (to == t) as (λ b. AllByRecursion (λ (r : Row). IsFrom date r.date) (cond b (numbered date n (lines_of columns) ++ rows_from date (n + rows_of columns) es t) (rows_from date n es t))) [
      | true ↦ all-append (λ (r : Row). IsFrom date r.date) (numbered date n (lines_of columns)) (rows_from date (n + rows_of columns) es t) (all_weaker (λ (r : Row). r.date ≡ date) (λ (r : Row). IsFrom date r.date) (λ r h. inl h) (numbered date n (lines_of columns)) (numbered-dated date n (lines_of columns))) (rows-from date (n + rows_of columns) es t up)
      | false ↦ rows-from date n es t up
    ]
rows-from date n (e.Roll by next ∷ es) t up =
    all_weaker (λ (r : Row). IsFrom next r.date) (λ (r : Row). IsFrom date r.date) (λ r h. inr (from-later date next r.date up.0 h)) (rows_from next 0 es t) (rows-from next 0 es t up.1)
rows-from date n (e.Fault by ∷ es) t up = rows-from date n es t up

-- in the open date, later arrivals come later
later-after : (row : Row) (date : ℤ) (n : ℕ) (ls : List (List Atom)) → row.date ≡ date → row.arrival < n → AllByRecursion (λ r. is_gt (documented_cmp date row r) ≡ false) (numbered date n ls)
later-after row date n [] own below = tt
later-after row date n (l ∷ ls) own below =
    let less : nat_cmp row.arrival n ≡ Less = grind (arith, nat_tests) in
    let tied : int_cmp date date ≡ Equal = tied_itself int_cmp_total date in
    (rw (own, tied, less) refl, later-after row date (n + 1) ls own (omega arith))

numbered-kept : (date : ℤ) (n : ℕ) (ls : List (List Atom)) → IsAscending (λ a b. is_gt (documented_cmp date a b) ≡ false) (numbered date n ls)
numbered-kept date n [] = tt
numbered-kept date n (l ∷ ls) = (later-after (record { date = date; arrival = n; fields = l }) date (n + 1) ls refl (omega arith), numbered-kept date (n + 1) ls)

pub view-open : (date : ℤ) (t : ℕ) (today : List Entry) → AllByRecursion KeepsDate today → view date today t ≡ rows date today t
view-open date t today keep =
    rw (date_of-kept date today keep, rows-lines date 0 today t keep) (in_order-kept (documented_cmp date) (numbered date 0 (flat_map (lines_in t) today)) (numbered-kept date 0 (flat_map (lines_in t) today)))

pub view-ended : (date next : ℤ) (by t : ℕ) (ended later : List Entry) → AllByRecursion KeepsDate ended → int_cmp date next ≡ Less → DatesAscend next later
    → view date (ended ++ e.Roll by next ∷ later) t ≡ in_order ended_cmp (rows date ended t) ++ view next later t
view-ended date next by t ended later keep less up =
    let last : ℤ = date_of next later in
    let past : int_cmp date last ≡ Less = from-later date next last less (date_of-from next later up) in
    let tied : int_cmp date date ≡ Equal = tied_itself int_cmp_total date in
    let dated : AllByRecursion (λ (r : Row). r.date ≡ date) (rows date ended t) = rw (rows-lines date 0 ended t keep) (numbered-dated date 0 (flat_map (lines_in t) ended)) in
    let below : (a b : Row) → a.date ≡ date → IsFrom next b.date → is_gt (documented_cmp last a b) ≡ false = λ a b own from.
    let before : int_cmp a.date b.date ≡ Less = rw own (from-later date next b.date less from) in rw before refl in
    let alike : (a b : Row) → a.date ≡ date → b.date ≡ date → documented_cmp last a b ≡ ended_cmp a b = λ a b own other.
    let same : int_cmp a.date b.date ≡ Equal = rw (own, other) tied in
    let old : int_cmp a.date last ≡ Less = rw own past in
    rw (same, old) refl in
    rw (date_of-roll date next by ended later keep, rows-roll date next 0 by ended later t keep)
    (in_order-append (documented_cmp last) (λ (r : Row). r.date ≡ date) (λ (r : Row). IsFrom next r.date) below (rows date ended t) (rows next later t) dated (rows-from next 0 later t up)
    ∙ ap (λ l. l ++ view next later t) (in_order-same (documented_cmp last) ended_cmp (λ (r : Row). r.date ≡ date) alike (rows date ended t) dated))

moved-inserted : {X : Type 0} (cmp : X → X → Ordering) (x : X) (ys : List X) → IsPermutation (x ∷ ys) (inserted cmp x ys)
moved-inserted cmp x [] = IsPermutation-refl (x ∷ [])
moved-inserted cmp x (y ∷ ys) =
    elim (is_gt (cmp x y)) as (λ b. IsPermutation (x ∷ y ∷ ys) (cond b (y ∷ inserted cmp x ys) (x ∷ y ∷ ys))) [
      | true ↦ IsPermutation-trans (x ∷ y ∷ ys) (y ∷ x ∷ ys) (y ∷ inserted cmp x ys) (IsPermutation-sym (y ∷ x ∷ ys) (x ∷ y ∷ ys) (IsPermutation-middle (y ∷ []) x ys)) (IsPermutation-cons y (x ∷ ys) (inserted cmp x ys) (moved-inserted cmp x ys))
      | false ↦ IsPermutation-refl (x ∷ y ∷ ys)
    ]

pub moved-in_order : {X : Type 0} (cmp : X → X → Ordering) (xs : List X) → IsPermutation xs (in_order cmp xs)
moved-in_order cmp [] = IsPermutation-refl []
moved-in_order cmp (x ∷ xs) = IsPermutation-trans (x ∷ xs) (x ∷ in_order cmp xs) (inserted cmp x (in_order cmp xs)) (IsPermutation-cons x xs (in_order cmp xs) (moved-in_order cmp xs)) (moved-inserted cmp x (in_order cmp xs))

pub settled-ascends : (day : Day) (t : ℕ) → AllByRecursion KeepsDate day.updates → IsAscending (λ a b. ended_cmp a b ≡ Less) (settled day t)
settled-ascends day t keep =
    let ls : List (List Atom) = flat_map (lines_in t) day.updates in
    rw (rows-lines day.date 0 day.updates t keep) (rises-in_order ended_cmp ended_total (numbered day.date 0 ls) (numbered-apart day.date 0 ls))
