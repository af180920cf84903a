-- Blocks: what their columns and marks are made of, and what they hold.
use Rattle.std.proofs.Common.{◌≡◌, ℕ, zero, suc, ◌+◌, ◌<◌, ◌≤◌, ◌==◌, ◌++◌, Bool, true, false, cond, List, [], ◌∷◌, length, get_or, take, drop, map, refl, sym, ap, ap₂, ◌∙◌, subst, arith, Some, None, slice_get, set, pos, inl, inr}
use Rattle.std.specs.List.{AllByRecursion, sum_by, flat_map}
use Rattle.std.proofs.lemmas.Bool.{eqb-true, eq-eqb, cases_eq}
use Rattle.std.proofs.lemmas.List.{length-map, take_more, get_or-map, get_or-set_same, get_or-set_other}
use Rattle.std.proofs.lemmas.Grind.{flat_map-append}
use Rattle.std.proofs.lemmas.List.Concat.{length-flat_map}
use Rattle.std.proofs.lemmas.List.Sums.{sum_by-append, sum_by-le-sum_by}
use Rattle.std.proofs.lemmas.Option.{slice_get_within, slice_get_cases, get_or_from_slice_get, slice_get_read}
use Rattle.q_values.specs.Contents.{Contents}
use Rattle.q_values.specs.Table.{rows_of}
use Rattle.q_values.specs.declared.atom.Atom.{Atom}
use Rattle.q_values.specs.declared.kind.Kind.{Kind}
use Rattle.day_rows.specs.Blocks.{mark_of, updates_in, columns_or_none, atoms_at, columns_with, tables_with}
use Rattle.day_rows.specs.Day.{Day, IsUpdate, entry_rows, total_rows, arrived}
use Rattle.day_rows.specs.Rows.{field}
use Rattle.day_rows.proofs.DayLemmas.{all-slice_get}
use Rattle.day_rows.proofs.Lists.{flat_map_more}
use Rattle.day_rows.proofs.RowsLemmas.{column-arrived, length-arrived, rows_in-le}
use Rattle.day_rows.specs.Joined.{atoms_of, atoms_in, rows_in, joined}
use Rattle.day_rows.specs.declared.block.Mark.{Mark}
use Rattle.day_rows.specs.declared.entry.Entry.{Entry}
use Rattle.day_rows.specs.declared.entry.Entry.TheVariants as e

pub take_more_got : {X : Type 0} (xs : List X) (i : ℕ) (x : X) → slice_get xs i ≡ Some x → take (i + 1) xs ≡ take i xs ++ x ∷ []
take_more_got xs i x is = take_more xs i x (slice_get_within xs i x is) ∙ ap (λ y. take i xs ++ y ∷ []) (get_or_from_slice_get xs i x x is)

pub columns_with-push : (i : ℕ) (kinds : List Kind) (kind : Kind) (atoms : ℕ → List Atom) → columns_with i (kinds ++ kind ∷ []) atoms ≡ columns_with i kinds atoms ++ record { kind = kind; atoms = atoms (i + length kinds) } ∷ []
columns_with-push i [] kind atoms = let same : i + 0 ≡ i = omega arith in rw same refl
columns_with-push i (first ∷ kinds) kind atoms =
    let same : i + suc (length kinds) ≡ (i + 1) + length kinds = omega arith in
    rw same (ap (λ l. record { kind = first; atoms = atoms i } ∷ l) (columns_with-push (i + 1) kinds kind atoms))

pub tables_with-push : (i : ℕ) (tables : List (List Kind)) (kinds : List Kind) (updates : List Entry) → tables_with i (tables ++ kinds ∷ []) updates ≡ tables_with i tables updates ++ columns_with 0 kinds (λ column. joined (i + length tables) column updates) ∷ []
tables_with-push i [] kinds updates = let same : i + 0 ≡ i = omega arith in rw same refl
tables_with-push i (first ∷ tables) kinds updates =
    let same : i + suc (length tables) ≡ (i + 1) + length tables = omega arith in
    rw same (ap (λ l. columns_with 0 first (λ column. joined i column updates) ∷ l) (tables_with-push (i + 1) tables kinds updates))

-- the atoms of each index, where none has an index past the kinds
atoms-columns_with : (i : ℕ) (kinds : List Kind) (atoms : ℕ → List Atom) (c : ℕ) → (length kinds ≤ c → atoms (i + c) ≡ []) → atoms_of (slice_get (columns_with i kinds atoms) c) ≡ atoms (i + c)
atoms-columns_with i [] atoms c none = sym (none (omega arith))
atoms-columns_with i (kind ∷ kinds) atoms zero none = let same : i + 0 ≡ i = omega arith in rw same refl
atoms-columns_with i (kind ∷ kinds) atoms (suc c) none =
    let same : i + suc c ≡ (i + 1) + c = omega arith in
    rw same (atoms-columns_with (i + 1) kinds atoms c (λ past. rw same at (none (omega (arith, past)))))

-- no update adds to a column that its table doesn't have
none-entry : (tables : List (List Kind)) (t c : ℕ) (entry : Entry) → ((kinds : List Kind) → slice_get tables t ≡ Some kinds → length kinds ≤ c) → IsUpdate tables entry → atoms_in t c entry ≡ []
none-entry tables t c (e.Upd by to columns) past is = go (to == t) refl
  where
    go : (b : Bool) → (to == t) ≡ b → cond b (atoms_of (slice_get columns c)) [] ≡ []
    go false h = refl
    go true h =
        let known : slice_get tables t ≡ Some is.0 = subst (λ n. slice_get tables n ≡ Some is.0) (eqb-true to t h) is.1 in
        let size : length columns ≡ length is.0 = sym (length-map columns (λ (x : Contents). x.kind)) ∙ ap length is.2.of_kinds in
        elim (slice_get_cases columns c).1 [
          | inl w ↦ absurd (omega (arith, slice_get_within columns c w.0 w.2, size, past is.0 known))
          | inr w ↦ ap atoms_of w.1
        ]
none-entry tables t c (e.Roll by date) past is = absurd is
none-entry tables t c (e.Fault by) past is = absurd is

none-joined : (tables : List (List Kind)) (t c : ℕ) (updates : List Entry) → ((kinds : List Kind) → slice_get tables t ≡ Some kinds → length kinds ≤ c) → AllByRecursion (IsUpdate tables) updates → joined t c updates ≡ []
none-joined tables t c [] past all = refl
none-joined tables t c (entry ∷ updates) past all = rw (none-entry tables t c entry past all.0) (none-joined tables t c updates past all.1)

slice_get-tables_with : (i : ℕ) (tables : List (List Kind)) (updates : List Entry) (t : ℕ) (kinds : List Kind) → slice_get tables t ≡ Some kinds → slice_get (tables_with i tables updates) t ≡ Some (columns_with 0 kinds (λ column. joined (i + t) column updates))
slice_get-tables_with i [] updates t kinds is = cc
slice_get-tables_with i (first ∷ tables) updates zero kinds is = let own : first ≡ kinds = cc in let same : i + 0 ≡ i = omega arith in rw (own, same) refl
slice_get-tables_with i (first ∷ tables) updates (suc t) kinds is =
    let same : i + suc t ≡ (i + 1) + t = omega arith in rw same (slice_get-tables_with (i + 1) tables updates t kinds is)

slice_get-tables_past : (i : ℕ) (tables : List (List Kind)) (updates : List Entry) (t : ℕ) → slice_get tables t ≡ None → slice_get (tables_with i tables updates) t ≡ None
slice_get-tables_past i [] updates t is = refl
slice_get-tables_past i (first ∷ tables) updates zero is = cc
slice_get-tables_past i (first ∷ tables) updates (suc t) is = slice_get-tables_past (i + 1) tables updates t is

-- the joined tables hold the columns of the updates
pub atoms-tables_with : (tables : List (List Kind)) (updates : List Entry) → AllByRecursion (IsUpdate tables) updates → (t c : ℕ) → atoms_at (tables_with 0 tables updates) t c ≡ joined t c updates
atoms-tables_with tables updates all t c =
    elim (slice_get_cases tables t).1 [
      | inl w ↦
          let here : 0 + t ≡ t = omega arith in
          let there : 0 + c ≡ c = omega arith in
          let none : length w.0 ≤ c → joined (0 + t) (0 + c) updates ≡ [] = λ past. rw (here, there) (none-joined tables t c updates (λ kinds known. let same : w.0 ≡ kinds = cc (known, w.2) in subst (λ (l : List Kind). length l ≤ c) same past) all) in
          ap (λ o. atoms_of (slice_get (columns_or_none o) c)) (slice_get-tables_with 0 tables updates t w.0 w.2)
          ∙ atoms-columns_with 0 w.0 (λ column. joined (0 + t) column updates) c none
          ∙ ap₂ (λ a b. joined a b updates) here there
      | inr w ↦
          ap (λ o. atoms_of (slice_get (columns_or_none o) c)) (slice_get-tables_past 0 tables updates t w.1)
          ∙ sym (none-joined tables t c updates (λ kinds known. let no : None ≡ Some kinds = sym w.1 ∙ known in cc) all)
    ]

length-atoms_in : (t : ℕ) (entry : Entry) → length (atoms_in t 0 entry) ≡ rows_in t entry
length-atoms_in t (e.Upd by to []) = elim (to == t) as (λ b. length (cond b (atoms_of None) []) ≡ cond b 0 0) [ true ↦ refl | false ↦ refl ]
length-atoms_in t (e.Upd by to (column ∷ columns)) =
    elim (to == t) as (λ b. length (cond b (column.atoms) []) ≡ cond b (length column.atoms) 0) [ true ↦ refl | false ↦ refl ]
length-atoms_in t (e.Roll by date) = refl
length-atoms_in t (e.Fault by) = refl

-- a table's rows are as many as the atoms of its first column
pub length-joined : (t : ℕ) (updates : List Entry) → length (joined t 0 updates) ≡ sum_by (rows_in t) updates
length-joined t updates = length-flat_map (atoms_in t 0) updates ∙ (λ i. sum_by (λ x. length-atoms_in t x i) updates)

pub all-left : (P : Entry → Type 0) (xs ys : List Entry) → AllByRecursion P (xs ++ ys) → AllByRecursion P xs
all-left P [] ys all = tt
all-left P (x ∷ xs) ys all = (all.0, all-left P xs ys all.1)

pub all-right : (P : Entry → Type 0) (xs ys : List Entry) → AllByRecursion P (xs ++ ys) → AllByRecursion P ys
all-right P [] ys all = all
all-right P (x ∷ xs) ys all = all-right P xs ys all.1

-- a table's column has as many atoms as the table has rows
pub length-column : (tables : List (List Kind)) (t c : ℕ) (kinds : List Kind) (updates : List Entry) → AllByRecursion (IsUpdate tables) updates → slice_get tables t ≡ Some kinds → c < length kinds → length (joined t c updates) ≡ sum_by (rows_in t) updates
length-column tables t c kinds updates all known c_in =
    let day : Day = record { date = pos 0; kinds = tables; updates = updates } in
    sym (ap length (column-arrived day t c kinds all known c_in)) ∙ length-map (arrived day t) (field c) ∙ length-arrived day t all

columns_with-same : (i : ℕ) (columns : List Contents) (atoms : ℕ → List Atom) → ((c : ℕ) (column : Contents) → slice_get columns c ≡ Some column → atoms (i + c) ≡ column.atoms) → columns_with i (map (λ (x : Contents). x.kind) columns) atoms ≡ columns
columns_with-same i [] atoms same = refl
columns_with-same i (column ∷ columns) atoms same =
    let here : i + 0 ≡ i = omega arith in
    let first : atoms i ≡ column.atoms = rw here at (same 0 column refl) in
    let later : (c : ℕ) (x : Contents) → slice_get columns c ≡ Some x → atoms ((i + 1) + c) ≡ x.atoms = λ c x is. let next : (i + 1) + c ≡ i + suc c = omega arith in rw next (same (suc c) x is) in
    ap₂ (λ a l. record { kind = column.kind; atoms = a } ∷ l) first (columns_with-same (i + 1) columns atoms later)

take-own : {X : Type 0} (ys zs : List X) → take (length ys) (ys ++ zs) ≡ ys
take-own [] zs = refl
take-own (y ∷ ys) zs = ap (λ l. y ∷ l) (take-own ys zs)

part-middle : {X : Type 0} (n from : ℕ) (xs ys zs : List X) → length xs ≡ from → length ys ≡ n → take n (drop from (xs ++ (ys ++ zs))) ≡ ys
part-middle n from [] ys zs size own = rw (← size, ← own) (take-own ys zs)
part-middle n zero (x ∷ xs) ys zs size own = absurd (omega (arith, size))
part-middle n (suc from) (x ∷ xs) ys zs size own = part-middle n from xs ys zs (omega (arith, size)) own

split_at : {X : Type 0} (xs : List X) (i : ℕ) (x : X) → slice_get xs i ≡ Some x → xs ≡ take i xs ++ (x ∷ drop (i + 1) xs)
split_at [] i x is = cc
split_at (y ∷ xs) zero x is = let same : y ≡ x = cc in ap (λ z. z ∷ xs) same
split_at (y ∷ xs) (suc i) x is = let same : suc i + 1 ≡ suc (i + 1) = omega arith in rw same (ap (λ l. y ∷ l) (split_at xs i x is))

pub all-take : {X : Type 0} (P : X → Type 0) (i : ℕ) (xs : List X) → AllByRecursion P xs → AllByRecursion P (take i xs)
all-take P zero xs all = tt
all-take P (suc i) [] all = tt
all-take P (suc i) (x ∷ xs) all = (all.0, all-take P i xs all.1)

-- the atoms that an update added to a column of its table
part-joined : (tables : List (List Kind)) (updates : List Entry) (i by t c : ℕ) (columns : List Contents) (column : Contents) → AllByRecursion (IsUpdate tables) updates → slice_get updates i ≡ Some (e.Upd by t columns) → slice_get columns c ≡ Some column
    → take (rows_of columns) (drop (sum_by (rows_in t) (take i updates)) (joined t c updates)) ≡ column.atoms
part-joined tables updates i by t c columns column all is has =
    let own = all-slice_get (IsUpdate tables) updates i (e.Upd by t columns) is all in
    let c_in : c < length own.0 = omega (arith, slice_get_within columns c column has, sym (length-map columns (λ (x : Contents). x.kind)) ∙ ap length own.2.of_kinds) in
    let before = joined t c (take i updates) in
    let after = joined t c (drop (i + 1) updates) in
    let size : length before ≡ sum_by (rows_in t) (take i updates) = length-column tables t c own.0 (take i updates) (all-take (IsUpdate tables) i updates all) own.1 c_in in
    let mine : atoms_in t c (e.Upd by t columns) ≡ column.atoms = rw (eq-eqb t t refl) (ap atoms_of has) in
    let rows : length column.atoms ≡ rows_of columns = subst (λ (x : Contents). length x.atoms ≡ rows_of columns) (get_or_from_slice_get columns c column column has) (own.2.equal_lengths c column (slice_get_within columns c column has)) in
    let whole : joined t c updates ≡ before ++ (column.atoms ++ after) = ap (joined t c) (split_at updates i (e.Upd by t columns) is) ∙ flat_map-append (atoms_in t c) (take i updates) (e.Upd by t columns ∷ drop (i + 1) updates) ∙ ap (λ a. before ++ (a ++ after)) mine in
    ap (λ l. take (rows_of columns) (drop (sum_by (rows_in t) (take i updates)) l)) whole ∙ part-middle (rows_of columns) (sum_by (rows_in t) (take i updates)) before column.atoms after size rows

-- what a mark and the columns give back is the update
abbrev pub GivesBack : List (List Kind) → List Entry → ℕ → Entry → Type 0
GivesBack tables updates i entry =
    (kinds : List Kind) → slice_get tables (mark_of entry).table ≡ Some kinds
    → e.Upd (mark_of entry).by (mark_of entry).table (columns_with 0 kinds (λ c. take (mark_of entry).rows (drop (sum_by (rows_in (mark_of entry).table) (take i updates)) (joined (mark_of entry).table c updates)))) ≡ entry

pub gives_back : (tables : List (List Kind)) (updates : List Entry) (i : ℕ) (entry : Entry) → AllByRecursion (IsUpdate tables) updates → slice_get updates i ≡ Some entry → GivesBack tables updates i entry
gives_back tables updates i (e.Upd by t columns) all is =
    λ kinds known.
    let own = all-slice_get (IsUpdate tables) updates i (e.Upd by t columns) is all in
    let same : kinds ≡ map (λ (x : Contents). x.kind) columns = (let one : kinds ≡ own.0 = cc (known, own.1) in one) ∙ sym own.2.of_kinds in
    let atoms : ℕ → List Atom = λ c. take (rows_of columns) (drop (sum_by (rows_in t) (take i updates)) (joined t c updates)) in
    let each : (c : ℕ) (column : Contents) → slice_get columns c ≡ Some column → atoms (0 + c) ≡ column.atoms =
    λ c column has. let here : 0 + c ≡ c = omega arith in rw here (part-joined tables updates i by t c columns column all is has) in
    ap (λ l. e.Upd by t l) (ap (λ l. columns_with 0 l atoms) same ∙ columns_with-same 0 columns atoms each)
gives_back tables updates i (e.Roll by date) all is = absurd (all-slice_get (IsUpdate tables) updates i (e.Roll by date) is all)
gives_back tables updates i (e.Fault by) all is = absurd (all-slice_get (IsUpdate tables) updates i (e.Fault by) is all)

-- a marked update is of one of the tables
pub marked : (tables : List (List Kind)) (entry : Entry) → IsUpdate tables entry → (kinds : List Kind) × (slice_get tables (mark_of entry).table ≡ Some kinds)
marked tables (e.Upd by t columns) is = (is.0, is.1)
marked tables (e.Roll by date) is = absurd is
marked tables (e.Fault by) is = absurd is

pub rows-marked : (entry : Entry) → rows_in (mark_of entry).table entry ≡ (mark_of entry).rows
rows-marked (e.Upd by t columns) = rw (eq-eqb t t refl) refl
rows-marked (e.Roll by date) = refl
rows-marked (e.Fault by) = refl

pub rows-other : (t : ℕ) (tables : List (List Kind)) (entry : Entry) → IsUpdate tables entry → ((mark_of entry).table ≡ t → ⊥) → rows_in t entry ≡ 0
rows-other t tables (e.Upd by to columns) is other = elim (to == t) as (λ b. (to == t) ≡ b → cond b (rows_of columns) 0 ≡ 0) [ true ↦ λ h. absurd (other (eqb-true to t h)) | false ↦ λ h. refl ] refl
rows-other t tables (e.Roll by date) is other = refl
rows-other t tables (e.Fault by) is other = refl

-- a join with one more block
pub joined_more : {B : Type 0} (f : B → List Entry) (t c : ℕ) (blocks : List B) (i : ℕ) (block : B) → i < length blocks → block ≡ get_or blocks i block → joined t c (flat_map f (take (i + 1) blocks)) ≡ joined t c (flat_map f (take i blocks)) ++ joined t c (f block)
joined_more f t c blocks i block i_in is =
    ap (joined t c) (flat_map_more f blocks i block i_in is) ∙ flat_map-append (atoms_in t c) (flat_map f (take i blocks)) (f block)

pub loose-all : (P : Entry → Type 0) (blocks : List (List Entry)) (loose : List Entry) → AllByRecursion P (updates_in blocks loose) → AllByRecursion P loose
loose-all P blocks loose all = all-right P (flat_map (λ b. b) blocks) loose all

pub blocks-all : (P : Entry → Type 0) (blocks : List (List Entry)) (loose : List Entry) → AllByRecursion P (updates_in blocks loose) → AllByRecursion P (flat_map (λ b. b) blocks)
blocks-all P blocks loose all = all-left P (flat_map (λ b. b) blocks) loose all

pub block-all : {B : Type 0} (f : B → List Entry) (P : Entry → Type 0) (blocks : List B) (i : ℕ) (block : B) → i < length blocks → block ≡ get_or blocks i block → AllByRecursion P (flat_map f blocks) → AllByRecursion P (f block)
block-all f P [] i block i_in is all = absurd (omega (arith, i_in))
block-all f P (first ∷ blocks) zero block i_in is all = subst (λ b. AllByRecursion P (f b)) (sym is) (all-left P (f first) (flat_map f blocks) all)
block-all f P (first ∷ blocks) (suc i) block i_in is all = block-all f P blocks i block (omega (arith, i_in)) is (all-right P (f first) (flat_map f blocks) all)

pub block-sum : {B : Type 0} (f : B → List Entry) (g : Entry → ℕ) (blocks : List B) (i : ℕ) (block : B) → i < length blocks → block ≡ get_or blocks i block → sum_by g (flat_map f (take i blocks)) + sum_by g (f block) ≤ sum_by g (flat_map f blocks)
block-sum f g [] i block i_in is = absurd (omega (arith, i_in))
block-sum f g (first ∷ blocks) zero block i_in is = let own = ap (λ b. sum_by g (f b)) is in omega (arith, own, sum_by-append g (f first) (flat_map f blocks))
block-sum f g (first ∷ blocks) (suc i) block i_in is =
    omega (arith, block-sum f g blocks i block (omega (arith, i_in)) is, sum_by-append g (f first) (flat_map f (take i blocks)), sum_by-append g (f first) (flat_map f blocks))

past-none : {X : Type 0} (xs : List X) (t : ℕ) → length xs ≤ t → slice_get xs t ≡ None
past-none [] t past = refl
past-none (x ∷ xs) zero past = absurd (omega (arith, past))
past-none (x ∷ xs) (suc t) past = past-none xs t (omega (arith, past))

pub sum-one : (f : Entry → ℕ) (n : ℕ) (entry : Entry) → n + sum_by f (entry ∷ []) ≡ n + f entry
sum-one f n entry = let one : sum_by f (entry ∷ []) ≡ 0 + f entry = refl in omega (arith, one)

-- the column that is found in a block
pub column-there : (tables : List (List Contents)) (t c : ℕ) (columns : List Contents) (J : List Atom) → t < length tables → columns ≡ get_or tables t columns → atoms_at tables t c ≡ J → atoms_of (slice_get columns c) ≡ J
column-there tables t c columns J t_in is all = ap (λ o. atoms_of (slice_get (columns_or_none o) c)) (sym (slice_get_read tables (length tables) t columns refl t_in is)) ∙ all

pub column-past : (tables : List (List Contents)) (t c : ℕ) (J : List Atom) → length tables ≤ t → atoms_at tables t c ≡ J → J ≡ []
column-past tables t c J past all = sym all ∙ ap (λ o. atoms_of (slice_get (columns_or_none o) c)) (past-none tables t past)

-- the start of a table's rows, after an update
pub starts-more : (tables : List (List Kind)) (updates : List Entry) (i : ℕ) (entry : Entry) (starts : List ℕ) → AllByRecursion (IsUpdate tables) updates → slice_get updates i ≡ Some entry → length starts ≡ length tables
    → ((t : ℕ) → t < length tables → get_or starts t 0 ≡ sum_by (rows_in t) (take i updates))
    → (t : ℕ) → t < length tables → get_or (set starts (mark_of entry).table (get_or starts (mark_of entry).table 0 + (mark_of entry).rows)) t 0 ≡ sum_by (rows_in t) (take (i + 1) updates)
starts-more tables updates i entry starts all is count before t t_in =
    let own = all-slice_get (IsUpdate tables) updates i entry is all in
    let more : sum_by (rows_in t) (take (i + 1) updates) ≡ sum_by (rows_in t) (take i updates) + rows_in t entry =
    ap (sum_by (rows_in t)) (take_more_got updates i entry is) ∙ sum_by-append (rows_in t) (take i updates) (entry ∷ []) ∙ sum-one (rows_in t) (sum_by (rows_in t) (take i updates)) entry in
    elim (cases_eq (mark_of entry).table t) [
      | inl same ↦
          let here : get_or (set starts t (get_or starts t 0 + (mark_of entry).rows)) t 0 ≡ get_or starts t 0 + (mark_of entry).rows = get_or-set_same starts t (get_or starts t 0 + (mark_of entry).rows) 0 (omega (arith, t_in, count)) in
          let rows : rows_in t entry ≡ (mark_of entry).rows = subst (λ n. rows_in n entry ≡ (mark_of entry).rows) same (rows-marked entry) in
          subst (λ n. get_or (set starts n (get_or starts n 0 + (mark_of entry).rows)) t 0 ≡ sum_by (rows_in t) (take (i + 1) updates)) (sym same) (omega (arith, here, rows, more, before t t_in))
      | inr other ↦
          let here = get_or-set_other starts (mark_of entry).table t (get_or starts (mark_of entry).table 0 + (mark_of entry).rows) 0 (λ e. other (sym e)) in
          omega (arith, here, more, before t t_in, rows-other t tables entry own other)
    ]

-- the rows of a table up to an update and with it fit those of all tables
pub starts-fit : (updates : List Entry) (i : ℕ) (entry : Entry) → slice_get updates i ≡ Some entry → sum_by (rows_in (mark_of entry).table) (take i updates) + (mark_of entry).rows ≤ total_rows updates
starts-fit updates i entry is =
    let t : ℕ = (mark_of entry).table in
    let whole = ap (sum_by (rows_in t)) (split_at updates i entry is) ∙ sum_by-append (rows_in t) (take i updates) (entry ∷ drop (i + 1) updates) in
    let below = sum_by-le-sum_by (rows_in t) entry_rows updates (rows_in-le t) in
    let tail = sum_by-append (rows_in t) (entry ∷ []) (drop (i + 1) updates) in
    omega (arith, whole, below, tail, sum-one (rows_in t) 0 entry, rows-marked entry)

-- a mark is that of its update
pub mark-got : (updates : List Entry) (marks : List Mark) (i : ℕ) (none : Mark) → marks ≡ map mark_of updates → i < length marks → (entry : Entry) × (slice_get updates i ≡ Some entry) × (get_or marks i none ≡ mark_of entry)
mark-got updates marks i none are i_in =
    elim (slice_get_cases updates i).1 [
      | inl w ↦ (w.0, w.2, ap (λ l. get_or l i none) are ∙ get_or-map mark_of updates i w.0 none w.1 ∙ ap mark_of w.3)
      | inr w ↦ absurd (omega (arith, w.0, i_in, ap length are, length-map updates mark_of))
    ]

pub got-zero : (xs : List ℕ) (i x : ℕ) → i < length xs → x ≡ get_or xs i x → x ≡ get_or xs i 0
got-zero xs i x i_in is = sym (get_or_from_slice_get xs i x 0 (slice_get_read xs (length xs) i x refl i_in is))

-- the start that is kept, after an update with this mark
pub starts-set : (tables : List (List Kind)) (updates : List Entry) (i : ℕ) (mark : Mark) (entry : Entry) (starts : List ℕ) (start : ℕ) → AllByRecursion (IsUpdate tables) updates → slice_get updates i ≡ Some entry → mark ≡ mark_of entry → start ≡ get_or starts mark.table 0 → length starts ≡ length tables
    → ((t : ℕ) → t < length tables → get_or starts t 0 ≡ sum_by (rows_in t) (take i updates))
    → (t : ℕ) → t < length tables → get_or (set starts mark.table (start + mark.rows)) t 0 ≡ sum_by (rows_in t) (take (i + 1) updates)
starts-set tables updates i mark entry starts start all is same begins count before t t_in =
    rw (begins, same) (starts-more tables updates i entry starts all is count before t t_in)

split-marked : (tables : List (List Kind)) (updates : List Entry) (i : ℕ) (mark : Mark) (entry : Entry) (kinds : List Kind) → AllByRecursion (IsUpdate tables) updates → slice_get updates i ≡ Some entry → mark ≡ mark_of entry → slice_get tables mark.table ≡ Some kinds
    → e.Upd mark.by mark.table (columns_with 0 kinds (λ c. take mark.rows (drop (sum_by (rows_in mark.table) (take i updates)) (joined mark.table c updates)))) ≡ entry
split-marked tables updates i mark entry kinds all is same =
    subst (λ (m : Mark). slice_get tables m.table ≡ Some kinds → e.Upd m.by m.table (columns_with 0 kinds (λ c. take m.rows (drop (sum_by (rows_in m.table) (take i updates)) (joined m.table c updates)))) ≡ entry) (sym same) (gives_back tables updates i entry all is kinds)

-- the update that a mark and the columns give back
pub split-one : (tables : List (List Kind)) (updates : List Entry) (i : ℕ) (mark : Mark) (entry : Entry) (start : ℕ) (kinds : List Kind) (columns : List Contents) → AllByRecursion (IsUpdate tables) updates → slice_get updates i ≡ Some entry → mark ≡ mark_of entry → slice_get tables mark.table ≡ Some kinds
    → start ≡ sum_by (rows_in mark.table) (take i updates) → columns ≡ columns_with 0 kinds (λ c. take mark.rows (drop start (joined mark.table c updates))) → e.Upd mark.by mark.table columns ≡ entry
split-one tables updates i mark entry start kinds columns all is same known begins are =
    ap (λ l. e.Upd mark.by mark.table l) (are ∙ ap (λ n. columns_with 0 kinds (λ c. take mark.rows (drop n (joined mark.table c updates)))) begins)
    ∙ split-marked tables updates i mark entry kinds all is same known
