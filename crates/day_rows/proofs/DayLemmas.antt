-- Days: what a push keeps, and what an ended day shows.
use Rattle.std.proofs.Common.{◌≡◌, ℕ, zero, suc, ◌+◌, ◌-◌, ◌<◌, ◌≤◌, ◌++◌, min, List, [], ◌∷◌, length, get_or, take, drop, map, refl, sym, ap, ◌∙◌, subst, arith, All, Some, slice_get}
use Rattle.std.specs.List.{range_with_len, AllByRecursion}
use Rattle.std.proofs.lemmas.List.{drop_more, length-map, take_more, get_or-map, take-map, drop-map, get_or-take, get_or-drop, length-take, length-drop}
use Rattle.std.proofs.lemmas.List.Elements.{All-head, All-tail}
use Rattle.std.proofs.lemmas.List.FromFn.{get_or-range_with_len, length-range_with_len}
use Rattle.std.proofs.lemmas.List.Sums.{sum_by-le-sum_by}
use Rattle.std.proofs.lemmas.List.Sorted.{length_permutation}
use Rattle.std.proofs.lemmas.List.Sums.{sum_by-append}
use Rattle.std.proofs.lemmas.Option.{slice_get_within, slice_get_read, get_or_from_slice_get}
use Rattle.q_values.specs.Contents.{Contents}
use Rattle.q_values.specs.Lists.{gathered}
use Rattle.q_values.specs.Order.{atom_cmp, IsOrder}
use Rattle.q_values.specs.declared.atom.Atom.{Atom}
use Rattle.q_values.specs.declared.kind.Kind.{Kind}
use Rattle.q_values.specs.declared.kind.Kind.TheVariants as k
use Rattle.q_values.proofs.ListLemmas.{map-gathered}
use Rattle.day_rows.specs.Chronicle.{ended_cmp}
use Rattle.day_rows.specs.Day.{Day, Opened, IsDay, HasRoom, IsUpdate, AreTableKinds, entry_rows, total_rows, arrived, settled}
use Rattle.day_rows.specs.Joined.{rows_in, joined}
use Rattle.day_rows.specs.Rows.{Row, absent, numbered, field, symbol_of, column_of}
use Rattle.day_rows.specs.Schema.{IsShape}
use Rattle.day_rows.specs.Settled.{AreOrders}
use Rattle.day_rows.specs.declared.schema.Shape.{Shape}
use Rattle.day_rows.specs.declared.entry.Entry.{Entry}
use Rattle.day_rows.proofs.Sorting.{IsPermutation-in_order}
use Rattle.day_rows.proofs.Lists.{part-all}
use Rattle.day_rows.proofs.RowsLemmas.{column-arrived, gathered-read, gathered-numbered, arrived-numbered, arrivals-numbered, length-arrived, length-numbered, ended_total, lines_of_day, rows_in-le}

pub take_one : {X : Type 0} (xs : List X) (x : X) → take 1 xs ≡ x ∷ [] → xs ≡ x ∷ drop 1 xs
take_one [] x h = cc
take_one (y ∷ ys) x h = let same : y ≡ x = cc in ap (λ z. z ∷ ys) same

pub all-append : {X : Type 0} (P : X → Type 0) (xs ys : List X) → AllByRecursion P xs → AllByRecursion P ys → AllByRecursion P (xs ++ ys)
all-append P [] ys h more = more
all-append P (x ∷ xs) ys h more = (h.0, all-append P xs ys h.1 more)

pub all-slice_get : {X : Type 0} (P : X → Type 0) (xs : List X) (i : ℕ) (x : X) → slice_get xs i ≡ Some x → AllByRecursion P xs → P x
all-slice_get P [] i x is h = cc
all-slice_get P (y ∷ xs) zero x is h = let same : y ≡ x = cc in subst P same h.0
all-slice_get P (y ∷ xs) (suc i) x is h = all-slice_get P xs i x is h.1

-- the next of the entries that room was made for
pub day-pushed : (opened : Opened) (entry : Entry) → IsDay opened.day → HasRoom opened → take 1 opened.room ≡ entry ∷ []
    → IsDay (record opened.day { updates = opened.day.updates ++ entry ∷ [] }) × HasRoom (record { day = record opened.day { updates = opened.day.updates ++ entry ∷ [] }; room = drop 1 opened.room })
day-pushed opened entry day room next =
    let split = take_one opened.room entry next in
    let own : AllByRecursion (IsUpdate opened.day.kinds) (entry ∷ drop 1 opened.room) = subst (AllByRecursion (IsUpdate opened.day.kinds)) split room.updates in
    let whole : total_rows opened.room ≡ total_rows (entry ∷ []) + total_rows (drop 1 opened.room) = ap total_rows split ∙ sum_by-append entry_rows (entry ∷ []) (drop 1 opened.room) in
    let grown = sum_by-append entry_rows opened.day.updates (entry ∷ []) in
    let updates = all-append (IsUpdate opened.day.kinds) opened.day.updates (entry ∷ []) day.updates (own.0, tt) in (
      record { few = day.few; tables = day.tables; updates = updates; bounded = omega (arith, whole, grown, room.bounded) },
      record { updates = own.1; bounded = omega (arith, whole, grown, room.bounded) },
    )

-- the rows, taken in the order of their symbols, are those of the ended day
pub gathered-arrived : (day : Day) (t : ℕ) (places : List ℕ) → IsDay day → IsOrder atom_cmp (map symbol_of (arrived day t)) places → gathered (arrived day t) places ≡ settled day t
gathered-arrived day t places is h =
    let same : arrived day t ≡ numbered day.date 0 (lines_of_day day t) = arrived-numbered day t is.updates in
    rw same (gathered-numbered day.date (lines_of_day day t) places (subst (λ r. IsOrder atom_cmp (map symbol_of r) places) same h))

gathered-range : (n : ℕ) (places : List ℕ) → All (λ p. p < n) places → gathered (range_with_len 0 n) places ≡ places
gathered-range n [] within = refl
gathered-range n (p ∷ places) within =
    let p_in : p < n = All-head (λ q. q < n) p places within in
    let there : get_or (range_with_len 0 n) p 0 ≡ p = omega (arith, get_or-range_with_len 0 n p 0 p_in) in
    rw (drop_more (range_with_len 0 n) p 0 (omega (arith, p_in, length-range_with_len 0 n)), there)
    (ap (λ l. p ∷ l) (gathered-range n places (All-tail (λ q. q < n) p places within)))

pub arrivals-settled : (day : Day) (t : ℕ) (places : List ℕ) → IsDay day → IsOrder atom_cmp (map symbol_of (arrived day t)) places → places ≡ map (λ row. row.arrival) (settled day t)
arrivals-settled day t places is h =
    let same = arrived-numbered day t is.updates in
    let n : ℕ = length (lines_of_day day t) in
    let numbers : map (λ row. row.arrival) (arrived day t) ≡ range_with_len 0 n = ap (map (λ (row : Row). row.arrival)) same ∙ arrivals-numbered day.date 0 (lines_of_day day t) in
    let size : length (map symbol_of (arrived day t)) ≡ n = length-map (arrived day t) symbol_of ∙ ap length same ∙ length-numbered day.date 0 (lines_of_day day t) in
    sym (gathered-range n places (subst (λ m. All (λ p. p < m) places) size h.within))
    ∙ ap (λ l. gathered l places) (sym numbers)
    ∙ sym (map-gathered (λ (row : Row). row.arrival) (arrived day t) places)
    ∙ ap (map (λ (row : Row). row.arrival)) (gathered-arrived day t places is h)

pub length-settled : (day : Day) (t : ℕ) → length (settled day t) ≡ length (arrived day t)
length-settled day t = sym (length_permutation (settled day t) (arrived day t) (IsPermutation-in_order ended_cmp ended_total (arrived day t)))

-- a column of the ended day is the column by arrival, gathered
pub column-settled : (day : Day) (t c : ℕ) (kind : Kind) (places : List ℕ) → IsDay day → IsOrder atom_cmp (map symbol_of (arrived day t)) places
    → record (column_of kind c (arrived day t)) { atoms = gathered (map (field c) (arrived day t)) places } ≡ column_of kind c (settled day t)
column-settled day t c kind places is h =
    ap (λ a. record { kind = kind; atoms = a }) (sym (map-gathered (field c) (arrived day t) places) ∙ ap (map (field c)) (gathered-arrived day t places is h))

-- each table has a symbol column
pub has_symbols : (kinds : List Kind) → AreTableKinds kinds → slice_get kinds 1 ≡ Some k.Symbol
has_symbols [] are = let h = are.begin in cc
has_symbols (first ∷ []) are = let h = are.begin in cc
has_symbols (first ∷ second ∷ kinds) are = let h = are.begin in let same : second ≡ k.Symbol = cc in ap Some same

pub bounded-arrived : (day : Day) (t : ℕ) → IsDay day → length (arrived day t) ≤ 4294967295
bounded-arrived day t is =
    let below = sum_by-le-sum_by (rows_in t) entry_rows day.updates (rows_in-le t) in
    omega (arith, length-arrived day t is.updates, below, is.bounded)

-- what holds of each element and its index, with one more element
pub each-push : {X : Type 0} (P : ℕ → X → Type 0) (xs : List X) (x : X) → ((t : ℕ) (y : X) → slice_get xs t ≡ Some y → P t y) → P (length xs) x → (t : ℕ) (y : X) → slice_get (xs ++ x ∷ []) t ≡ Some y → P t y
each-push P [] x h new zero y is = let same : x ≡ y = cc in subst (P 0) same new
each-push P [] x h new (suc t) y is = cc
each-push P (z ∷ xs) x h new zero y is = h zero y is
each-push P (z ∷ xs) x h new (suc t) y is = each-push (λ n. P (suc n)) xs x (λ n v e. h (suc n) v e) new t y is

pub take_more_mapped : {X Y : Type 0} (f : X → Y) (xs : List X) (i : ℕ) (x : X) → slice_get xs i ≡ Some x → take (i + 1) (map f xs) ≡ take i (map f xs) ++ f x ∷ []
take_more_mapped f xs i x is =
    let i_in = slice_get_within xs i x is in
    take_more (map f xs) i (f x) (omega (arith, i_in, length-map xs f))
    ∙ ap (λ y. take i (map f xs) ++ y ∷ []) (get_or-map f xs i x (f x) i_in ∙ ap f (get_or_from_slice_get xs i x x is))

pub table_kinds : (shape : Shape) → IsShape shape → AreTableKinds shape.kinds
table_kinds shape is = record { begin = is.first_kinds; few = omega (arith, is.few, is.named) }

-- the order of a table that is one of the day's
pub kept-order : (day : Day) (orders : List (List ℕ)) (t : ℕ) (order : List ℕ) → AreOrders day orders → t < length day.kinds → order ≡ get_or orders t order → IsOrder atom_cmp (map symbol_of (arrived day t)) order
kept-order day orders t order all t_in is = all.each t order (slice_get_read orders (length orders) t order refl (omega (arith, t_in, all.count)) is)

pub All-part : (P : ℕ → Type 0) (n from : ℕ) (xs : List ℕ) → All P xs → All P (take n (drop from xs))
All-part P n from xs all =
    λ k d k_in.
    let size : length (take n (drop from xs)) ≡ min n (length xs - from) = length-take n (drop from xs) ∙ ap (min n) (length-drop from xs) in
    let k_n : k < n = omega (arith, k_in, size) in
    let k_all : from + k < length xs = omega (arith, k_in, size) in
    subst P (sym (get_or-take n (drop from xs) k d k_n ∙ get_or-drop from xs k d)) (all (from + k) d k_all)

-- a part of a column in an order is the column, read at the part of the order
pub gathered-part : {X : Type 0} (xs : List X) (d : X) (n from : ℕ) (places : List ℕ) → All (λ p. p < length xs) places → gathered xs (take n (drop from places)) ≡ take n (drop from (gathered xs places))
gathered-part xs d n from places within =
    gathered-read xs (take n (drop from places)) d (All-part (λ p. p < length xs) n from places within) ∙ sym (take-map (λ p. get_or xs p d) n (drop from places)) ∙ ap (take n) (sym (drop-map (λ p. get_or xs p d) from places)) ∙ ap (λ l. take n (drop from l)) (sym (gathered-read xs places d within))

-- a table's joined column is its column by arrival
pub whole-arrived : (day : Day) (t c rows : ℕ) (kinds : List Kind) (kind : Kind) → IsDay day → slice_get day.kinds t ≡ Some kinds → c < length kinds → rows ≡ length (settled day t)
    → record { kind = kind; atoms = take rows (drop 0 (joined t c day.updates)) } ≡ column_of kind c (arrived day t)
whole-arrived day t c rows kinds kind is known c_in rows_are =
    let read = column-arrived day t c kinds is.updates known c_in in
    let size : rows ≡ length (joined t c day.updates) = rows_are ∙ length-settled day t ∙ sym (length-map (arrived day t) (field c)) ∙ ap length read in
    ap (λ a. record { kind = kind; atoms = a }) (part-all rows (joined t c day.updates) size ∙ sym read)

-- a part of a column of the ended day is the column by arrival, gathered by a part of the order
pub settled-part : (day : Day) (t c n from : ℕ) (kind : Kind) (order : List ℕ) (whole part : Contents) → IsDay day → IsOrder atom_cmp (map symbol_of (arrived day t)) order → whole ≡ column_of kind c (arrived day t)
    → part ≡ record whole { atoms = gathered whole.atoms (take n (drop from order)) } → part ≡ record { kind = kind; atoms = take n (drop from (column_of kind c (settled day t)).atoms) }
settled-part day t c n from kind order whole part is h whole_is part_is =
    let atoms : List Atom = map (field c) (arrived day t) in
    let size : length (map symbol_of (arrived day t)) ≡ length atoms = length-map (arrived day t) symbol_of ∙ sym (length-map (arrived day t) (field c)) in
    let within : All (λ p. p < length atoms) order = subst (λ m. All (λ p. p < m) order) size h.within in
    part_is ∙ ap (λ (v : Contents). record { kind = v.kind; atoms = gathered v.atoms (take n (drop from order)) }) whole_is
    ∙ ap (λ a. record { kind = kind; atoms = a }) (gathered-part atoms absent n from order within ∙ ap (λ (v : Contents). take n (drop from v.atoms)) (column-settled day t c kind order is h))
