-- Groups of rows, and what is read of them.
use Rattle.std.proofs.Common.{◌≡◌, ◌≢◌, ℕ, ◌+◌, ◌-◌, ◌<◌, Bool, true, false, cond, Bor, List, [], ◌∷◌, ◌++◌, length, get_or, set, map, refl, sym, ap, ◌∙◌, arith, zero, suc, All, subst, length-append}
use Rattle.std.specs.Prelude.{slice_index}
use Rattle.std.specs.List.{filter, flat_map, range_with_len}
use Rattle.std.specs.Simd.Lanes.{zip2}
use Rattle.std.proofs.lemmas.List.{length-map, ext_get_or, get_or-map, get_or-set_same, get_or-set_other}
use Rattle.std.proofs.lemmas.List.FromFn.{length-map-range_with_len, get_or-map-range_with_len}
use Rattle.std.proofs.lemmas.List.Elements.{All-nil, All-cons, All-head, All-tail}
use Rattle.q_values.specs.Contents.{Contents}
use Rattle.q_values.specs.Table.{rows_of}
use Rattle.q_values.specs.Tree.{Tree, atom, vector}
use Rattle.q_values.specs.declared.atom.Atom.{Atom}
use Rattle.q_values.proofs.ListLemmas.{length-gathered}
use Rattle.q_keys.specs.Keys.{key_rows, keys_in, codes_in, firsts_in, rows_of_group}
use Rattle.qsql_request.specs.Forms.{Form}
use Rattle.qsql_request.specs.Shapes.{shape, is_scalar, is_rows}
use Rattle.qsql_request.specs.Views.{form, column_form}
use Rattle.qsql_request.specs.declared.request.Col.{Col}
use Rattle.qsql_request.specs.declared.shapes.Shape.{Shape}
use Rattle.qsql_request.specs.declared.shapes.Shape.TheVariants as s
use Rattle.qsql_values.specs.Frames.{Frame, AreColumns, kind_beside, rows_at, rows_beside}
use Rattle.qsql_values.specs.Operands.{HasShape}
use Rattle.qsql_values.specs.Places.{column_at}
use Rattle.qsql_values.specs.Ready.{IsReady}
use Rattle.qsql_values.specs.Values.{items_in, val}
use Rattle.qsql_values.proofs.FrameLemmas.{AreOfSize, length-rows}
use Rattle.qsql_values.proofs.PlacesLemmas.{Within}
use Rattle.qsql_values.proofs.ShapeLemmas.{val_shape}
use Rattle.qsql_groups.specs.Groups.{key_columns, parts, last_row, items_over, AreGroups}
use Rattle.qsql_groups.specs.Ready.{IsKey, IsValue}
use Rattle.qsql_groups.proofs.PartLemmas.{part_within, has}

no : {P : Type 0} → false ≡ true → P
no e = absurd cc

no_again : {P : Type 0} → true ≡ false → P
no_again e = absurd cc

-- ---- key columns have an item for each row, values one for each group

rows_size : (n : ℕ) (of : Shape) (t : Tree) → is_rows of ≡ true → HasShape n of t → length (items_in t).atoms ≡ n
rows_size n s.Scalar t p h = no p
rows_size n s.List t p h = no p
rows_size n s.Rows (vector c) p h = h
rows_size n s.Rows t p h = absurd h

scalar_size : (n : ℕ) (of : Shape) (t : Tree) → is_scalar of ≡ true → HasShape n of t → length (items_in t).atoms ≡ 1
scalar_size n s.Rows t p h = no p
scalar_size n s.List t p h = no p
scalar_size n s.Scalar (atom x) p h = refl
scalar_size n s.Scalar t p h = absurd h

pub key_size : (frame : Frame) (e : Form) → IsKey frame e → length (items_in (val frame e)).atoms ≡ length frame.rows
key_size frame e is = rows_size (length frame.rows) (shape e) (val frame e) is.rows (val_shape frame (kind_beside frame) e is.ready.kind is.ready.built)

pub value_size : (frame : Frame) (e : Form) → IsValue frame e → length (items_in (val frame e)).atoms ≡ 1
value_size frame e is = scalar_size (length frame.rows) (shape e) (val frame e) is.scalar (val_shape frame (kind_beside frame) e is.ready.kind is.ready.built)

pub keys_even_of : (frame : Frame) (by : List Col) → All (λ (c : Col). IsKey frame (form c.expr)) by → AreOfSize (length frame.rows) (key_columns (map column_form by) frame)
keys_even_of frame [] all = All-nil (λ (d : Contents). length d.atoms ≡ length frame.rows)
keys_even_of frame (c ∷ by) all =
    All-cons (λ (d : Contents). length d.atoms ≡ length frame.rows) (items_in (val frame (form c.expr))) (key_columns (map column_form by) frame)
    (key_size frame (form c.expr) (All-head (λ (d : Col). IsKey frame (form d.expr)) c by all))
    (keys_even_of frame by (All-tail (λ (d : Col). IsKey frame (form d.expr)) c by all))

pub key_count : (frame : Frame) (by : List Col) → length (key_columns (map column_form by) frame) ≡ length by
key_count frame by = length-map (map column_form by) _ ∙ length-map by column_form

-- some rows have the columns that all rows have
pub ready_part : (frame : Frame) (e : Form) (part : List ℕ) → IsReady frame e → IsReady (rows_at part frame) e
ready_part frame e part r = record { kind = r.kind; built = r.built }

value_part : (frame : Frame) (e : Form) (part : List ℕ) → IsValue frame e → IsValue (rows_at part frame) e
value_part frame e part v = record { ready = ready_part frame e part v.ready; scalar = v.scalar }

-- an expression has one value for each group
pub values_size : (frame : Frame) (e : Form) (parts : List (List ℕ)) → IsValue frame e → length (flat_map (items_over frame e) parts) ≡ length parts
values_size frame e [] is = refl
values_size frame e (part ∷ parts) is =
    let here : length (items_over frame e part) ≡ 1 = value_size (rows_at part frame) e (value_part frame e part is) in
    let rest : length (flat_map (items_over frame e) parts) ≡ length parts = values_size frame e parts is in
    let both = length-append (items_over frame e part) (flat_map (items_over frame e) parts) in
    omega (arith, here, rest, both)

-- ---- the indices of rows

pub at_within : (n : ℕ) (part : List ℕ) (k : ℕ) → 0 < n → All (λ (p : ℕ). p < n) part → slice_index part k < n
at_within n [] k some all = some
at_within n (p ∷ part) zero some all = All-head (λ (q : ℕ). q < n) p part all
at_within n (p ∷ part) (suc k) some all = at_within n part k some (All-tail (λ (q : ℕ). q < n) p part all)

pub places_within : (n : ℕ) (at : List ℕ → ℕ) (parts : List (List ℕ)) → ((part : List ℕ) → 0 < n → All (λ (p : ℕ). p < n) part → at part < n) → (0 < length parts → 0 < n) → All (λ (part : List ℕ). All (λ (p : ℕ). p < n) part) parts → All (λ (p : ℕ). p < n) (map at parts)
places_within n at [] is some all = All-nil (λ (p : ℕ). p < n)
places_within n at (part ∷ parts) is some all =
    let one : 0 < length (part ∷ parts) = omega arith in
    All-cons (λ (p : ℕ). p < n) (at part) (map at parts) (is part (some one) (All-head (λ (q : List ℕ). All (λ (p : ℕ). p < n) q) part parts all))
    (places_within n at parts is (λ h. some one) (All-tail (λ (q : List ℕ). All (λ (p : ℕ). p < n) q) part parts all))

pub last_within : (n : ℕ) (parts : List (List ℕ)) → (0 < length parts → 0 < n) → All (λ (part : List ℕ). All (λ (p : ℕ). p < n) part) parts → All (λ (p : ℕ). p < n) (map last_row parts)
last_within n parts some all = places_within n last_row parts (λ part h a. at_within n part (length part - 1) h a) some all

pub groups_within : (codes is : List ℕ) → All (λ (part : List ℕ). All (λ (p : ℕ). p < length codes) part) (map (λ (g : ℕ). rows_of_group g codes) is)
groups_within codes [] = All-nil (λ (part : List ℕ). All (λ (p : ℕ). p < length codes) part)
groups_within codes (g ∷ is) = All-cons (λ (part : List ℕ). All (λ (p : ℕ). p < length codes) part) (rows_of_group g codes) (map (λ (h : ℕ). rows_of_group h codes) is) (part_within g codes) (groups_within codes is)

-- ---- rows grouped by key columns

pub rows_of_even : (n : ℕ) (columns : List Contents) → 0 < length columns → AreOfSize n columns → rows_of columns ≡ n
rows_of_even n [] none even = absurd (omega arith)
rows_of_even n (c ∷ columns) some even = All-head (λ (d : Contents). length d.atoms ≡ n) c columns even

length-codes : (rows : List (List Atom)) → length (codes_in rows) ≡ length rows
length-codes rows = length-map rows _

length-firsts : (rows : List (List Atom)) → length (firsts_in rows) ≡ length (keys_in rows)
length-firsts rows = length-map (keys_in rows) _

some_rows : (rows : List (List Atom)) → 0 < length (keys_in rows) → 0 < length rows
some_rows [] some = absurd (omega arith)
some_rows (row ∷ rows) some = omega arith

-- the rows of key columns, as rows of columns
key_rows_beside : (n : ℕ) (columns : List Contents) → key_rows n columns ≡ rows_beside n columns
key_rows_beside n [] = refl
key_rows_beside n (c ∷ columns) = ap (zip2 (λ (x : Atom) (row : List Atom). x ∷ row) c.atoms) (key_rows_beside n columns)

length-key_rows : (n : ℕ) (columns : List Contents) → AreOfSize n columns → length (key_rows n columns) ≡ n
length-key_rows n columns even = ap length (key_rows_beside n columns) ∙ length-rows n columns even

pub all_within : (n : ℕ) (places : List ℕ) (columns : List Contents) → AreOfSize n columns → All (λ (p : ℕ). p < n) places → Within places columns
all_within n places [] even all = All-nil (λ (c : Contents). All (λ (p : ℕ). p < length c.atoms) places)
all_within n places (c ∷ columns) even all =
    All-cons (λ (d : Contents). All (λ (p : ℕ). p < length d.atoms) places) c columns
    (subst (λ (m : ℕ). All (λ (p : ℕ). p < m) places) (sym (All-head (λ (d : Contents). length d.atoms ≡ n) c columns even)) all)
    (all_within n places columns (All-tail (λ (d : Contents). length d.atoms ≡ n) c columns even) all)

pub even_at : (n : ℕ) (places : List ℕ) (columns : List Contents) → AreOfSize n columns → All (λ (p : ℕ). p < n) places → AreOfSize (length places) (map (column_at places) columns)
even_at n places [] even all = All-nil (λ (d : Contents). length d.atoms ≡ length places)
even_at n places (c ∷ columns) even all =
    let size = All-head (λ (d : Contents). length d.atoms ≡ n) c columns even in
    All-cons (λ (d : Contents). length d.atoms ≡ length places) (column_at places c) (map (column_at places) columns)
    (length-gathered c.atoms places (subst (λ (m : ℕ). All (λ (p : ℕ). p < m) places) (sym size) all))
    (even_at n places columns (All-tail (λ (d : Contents). length d.atoms ≡ n) c columns even) all)

-- ---- groups of key columns of the length of other columns

pub codes_size : (n : ℕ) (keys : List Contents) (codes : List ℕ) → 0 < length keys → AreOfSize n keys → codes ≡ codes_in (key_rows (rows_of keys) keys) → length codes ≡ n
codes_size n keys codes some even is =
    let size : rows_of keys ≡ n = rows_of_even n keys some even in
    ap length is ∙ length-codes (key_rows (rows_of keys) keys) ∙ length-key_rows (rows_of keys) keys (subst (λ (m : ℕ). AreOfSize m keys) (sym size) even) ∙ size

pub keys_fit : (n : ℕ) (keys : List Contents) (codes firsts : List ℕ) → 0 < length keys → AreOfSize n keys → codes ≡ codes_in (key_rows (rows_of keys) keys) → All (λ (f : ℕ). f < length codes) firsts → All (λ (c : Contents). All (λ (f : ℕ). f < length c.atoms) firsts) keys
keys_fit n keys codes firsts some even is within = all_within n firsts keys even (subst (λ (m : ℕ). All (λ (f : ℕ). f < m) firsts) (codes_size n keys codes some even is) within)

pub are_groups : (names : List (List ℕ)) (columns keys made : List Contents) (codes firsts : List ℕ) → AreColumns names columns → 0 < length keys → AreOfSize (rows_of columns) keys → codes ≡ codes_in (key_rows (rows_of keys) keys)
    → All (λ (c : ℕ). c < length firsts) codes → All (λ (f : ℕ). f < length codes) firsts → made ≡ map (column_at firsts) keys → AreGroups names columns made codes firsts
are_groups names columns keys made codes firsts are some even is low within is_made =
    let size = codes_size (rows_of columns) keys codes some even is in
    let rows : All (λ (f : ℕ). f < rows_of columns) firsts = subst (λ (m : ℕ). All (λ (f : ℕ). f < m) firsts) size within in
    record { even = are; size = size; keyed = subst (AreOfSize (length firsts)) (sym is_made) (even_at (rows_of columns) firsts keys even rows); low = low; within = rows }

pub parts_size : (codes : List ℕ) (n : ℕ) → length (parts codes n) ≡ n
parts_size codes n = length-map-range_with_len (λ (g : ℕ). rows_of_group g codes) 0 n

pub parts_within : (codes : List ℕ) (n : ℕ) → All (λ (part : List ℕ). All (λ (p : ℕ). p < length codes) part) (parts codes n)
parts_within codes n = groups_within codes (range_with_len 0 n)

-- where there are groups there are rows
pub rows_there : (n : ℕ) (firsts : List ℕ) → All (λ (f : ℕ). f < n) firsts → 0 < length firsts → 0 < n
rows_there n [] within some = absurd (omega (arith, some))
rows_there n (f ∷ firsts) within some = let low = All-head (λ (f : ℕ). f < n) f firsts within in omega (arith, low)

pub lasts_within : (n count : ℕ) (codes firsts : List ℕ) → length codes ≡ n → count ≡ length firsts → All (λ (f : ℕ). f < n) firsts → All (λ (p : ℕ). p < n) (map last_row (parts codes count))
lasts_within n count codes firsts size is within =
    last_within n (parts codes count) (λ some. rows_there n firsts within (omega (arith, some, is, parts_size codes count)))
    (subst (λ (m : ℕ). All (λ (part : List ℕ). All (λ (p : ℕ). p < m) part) (parts codes count)) size (parts_within codes count))

-- ---- the last row of each group

range_more : (a n : ℕ) → range_with_len a (suc n) ≡ range_with_len a n ++ (a + n) ∷ []
range_more a zero = let e : a + 0 ≡ a = omega arith in rw e refl
range_more a (suc n) = let e : a + suc n ≡ a + 1 + n = omega arith in rw e (ap (λ l. a ∷ l) (range_more (a + 1) n))

filter-push : (p : ℕ → Bool) (xs : List ℕ) (x : ℕ) → filter p (xs ++ x ∷ []) ≡ filter p xs ++ filter p (x ∷ [])
filter-push p [] x = refl
filter-push p (y ∷ xs) x = go (p y) (filter-push p xs x)
  where
    go : (b : Bool) → filter p (xs ++ x ∷ []) ≡ filter p xs ++ filter p (x ∷ []) → cond b (y ∷ filter p (xs ++ x ∷ [])) (filter p (xs ++ x ∷ [])) ≡ cond b (y ∷ filter p xs) (filter p xs) ++ filter p (x ∷ [])
    go true h = ap (λ l. y ∷ l) h
    go false h = h

get_last : (xs : List ℕ) (y n : ℕ) → n ≡ length xs → get_or (xs ++ y ∷ []) n 0 ≡ y
get_last [] y zero e = refl
get_last [] y (suc n) e = absurd (omega (arith, e))
get_last (x ∷ xs) y zero e = absurd (omega (arith, e))
get_last (x ∷ xs) y (suc n) e = get_last xs y n (omega (arith, e))

last_pushed : (xs : List ℕ) (y : ℕ) → last_row (xs ++ y ∷ []) ≡ y
last_pushed xs y = get_last xs y (length (xs ++ y ∷ []) - 1) (omega (arith, length-append xs (y ∷ [])))

append_none : (xs : List ℕ) → xs ++ [] ≡ xs
append_none [] = refl
append_none (x ∷ xs) = ap (λ l. x ∷ l) (append_none xs)

-- the rows of group g among the first ones
abbrev pub rows_before : List ℕ → ℕ → ℕ → List ℕ
rows_before codes g row = filter (has codes g) (range_with_len 0 row)

before_more : (codes : List ℕ) (g row : ℕ) (b : Bool) → has codes g row ≡ b → rows_before codes g (row + 1) ≡ rows_before codes g row ++ cond b (row ∷ []) []
before_more codes g row b e =
    ap (λ (n : ℕ). rows_before codes g n) (let one : row + 1 ≡ suc row = omega arith in one)
    ∙ ap (filter (has codes g)) (range_more 0 row ∙ (let z : 0 + row ≡ row = omega arith in ap (λ k. range_with_len 0 row ++ k ∷ []) z))
    ∙ filter-push (has codes g) (range_with_len 0 row) row
    ∙ ap (λ c. rows_before codes g row ++ cond c (row ∷ []) []) e

-- one more row is the last one of its group
pub last_more : (places codes : List ℕ) (row g : ℕ) → get_or codes row 0 < length places → g < length places → get_or places g 0 ≡ last_row (rows_before codes g row) → get_or (set places (get_or codes row 0) row) g 0 ≡ last_row (rows_before codes g (row + 1))
last_more places codes row g low g_in before = go (has codes g row) refl
  where
    go : (b : Bool) → has codes g row ≡ b → get_or (set places (get_or codes row 0) row) g 0 ≡ last_row (rows_before codes g (row + 1))
    go true e =
        let same : get_or codes row 0 ≡ g = grind arith in
        ap (λ (k : ℕ). get_or (set places (get_or codes row 0) row) k 0) (sym same)
        ∙ get_or-set_same places (get_or codes row 0) row 0 low
        ∙ sym (ap last_row (before_more codes g row true e) ∙ last_pushed (rows_before codes g row) row)
    go false e =
        let other : g ≢ get_or codes row 0 = grind arith in
        get_or-set_other places (get_or codes row 0) g row 0 other
        ∙ before
        ∙ sym (ap last_row (before_more codes g row false e ∙ append_none (rows_before codes g row)))

pub lasts_are : (places codes : List ℕ) (groups : ℕ) → length places ≡ groups → ((g : ℕ) → g < groups → get_or places g 0 ≡ last_row (rows_before codes g (length codes))) → places ≡ map last_row (parts codes groups)
lasts_are places codes groups size each =
    ext_get_or 0 places (map last_row (parts codes groups)) (size ∙ sym (length-map (parts codes groups) last_row ∙ parts_size codes groups)) (λ g low. at g (omega (arith, low, size)))
  where
    plain : (g : ℕ) → 0 + g ≡ g
    plain g = omega arith

    at : (g : ℕ) → g < groups → get_or places g 0 ≡ get_or (map last_row (parts codes groups)) g 0
    at g low =
        each g low
        ∙ sym (get_or-map last_row (parts codes groups) g [] 0 (omega (arith, low, parts_size codes groups))
        ∙ ap last_row (get_or-map-range_with_len (λ (h : ℕ). rows_of_group h codes) 0 groups g g [] low (plain g)))

-- a lent column, among the columns that are lent
abbrev pub lent_columns : List (Bor Contents) → List Contents
lent_columns columns = map (λ (c : Bor Contents). c.now) columns

pub column_is : (columns : List (Bor Contents)) (i : ℕ) (column : Bor Contents) → column ≡ get_or columns i column → i < length columns → column.now ≡ get_or (lent_columns columns) i column.now
column_is columns i column is low = ap (λ (c : Bor Contents). c.now) is ∙ sym (get_or-map (λ (c : Bor Contents). c.now) columns i column column.now low)
