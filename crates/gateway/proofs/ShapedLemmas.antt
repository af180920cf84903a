-- Answers are well shaped, and a value that is and whose encoding is short enough can be written.
use Rattle.std.proofs.Common.{◌≡◌, ℕ, ℤ, ◌+◌, ◌<◌, ◌≤◌, ◌&&◌, ◌||◌, Bool, true, false, not, cond, suc, List, [], ◌∷◌, length, map, refl, sym, ap, ◌∙◌, arith, All, Option, Some, None, subst}
use Rattle.std.specs.List.{flat_map, list_all}
use Rattle.std.proofs.lemmas.List.{length-append, length-map}
use Rattle.std.proofs.lemmas.List.Elements.{All-nil, All-cons, All-head, All-tail}
use Rattle.day_rows.specs.declared.schema.Shape.{Shape}
use Rattle.ipc_codec.specs.Reading.{extent, number_of_items}
use Rattle.ipc_codec.specs.Written.{depth, deepest, element_bytes, vector_bytes, grid_bytes, written, written_items, GridFits, Fits, AllFit, IsPlain}
use Rattle.ipc_codec.proofs.LengthLemmas.{length-atom, length-list, length-dict, length-keyed, length-plain, length-table, length-identity, length-wrong, length-vector, length-grid, length-text}
use Rattle.q_values.specs.Bytes.{HasNoNul}
use Rattle.q_values.specs.Contents.{Contents}
use Rattle.q_values.specs.Table.{IsTable, rows_of}
use Rattle.q_values.specs.Tree.{Tree, Items, Grid, items_of, atom, vector, list, dict, table, keyed, identity, wrong, no_items, item}
use Rattle.q_values.specs.declared.atom.Atom.{Atom}
use Rattle.q_values.specs.declared.atom.Atom.TheVariants as a
use Rattle.q_values.specs.declared.kind.Kind.{Kind}
use Rattle.qsql_request.specs.Forms.{ColumnForm}
use Rattle.qsql_request.specs.Unbuilt.{column_name, is_empty}
use Rattle.qsql_request.specs.Views.{form, column_form, query_of}
use Rattle.qsql_request.specs.declared.request.Col.{Col}
use Rattle.qsql_request.specs.declared.request.Query.{Query}
use Rattle.qsql_request.specs.declared.shapes.Shape.{Shape as Form_shape}
use Rattle.qsql_request.specs.declared.shapes.Shape.TheVariants as s
use Rattle.qsql_values.specs.Frames.{Frame, column_in, kind_beside}
use Rattle.qsql_values.specs.Operands.{HasShape}
use Rattle.qsql_values.specs.Ready.{IsReady}
use Rattle.qsql_values.specs.Values.{items_in, val, kept}
use Rattle.qsql_values.proofs.FrameLemmas.{AreOfSize}
use Rattle.qsql_values.proofs.ShapeLemmas.{val_shape}
use Rattle.std.specs.List.{list_any, position_or_len}
use Rattle.std.specs.Ordering.{is_eq}
use Rattle.std.proofs.lemmas.Cmp.{tied_itself}
use Rattle.std.proofs.lemmas.List.Elements.{All-map, All-weaker}
use Rattle.q_keys.specs.Keys.{key_cmp, key_rows, keys_in, codes_in, firsts_in, same_key}
use Rattle.q_keys.proofs.AscendingLemmas.{any_ascending}
use Rattle.q_keys.proofs.KeyLemmas.{key_total}
use Rattle.qsql_groups.specs.Groups.{Groups, groups, key_columns, last_row, parts_of}
use Rattle.qsql_groups.specs.Ready.{IsValue}
use Rattle.qsql_eval.specs.Judgement.{IsFit, all_columns}
use Rattle.qsql_eval.specs.Meaning.{values_of, grid_of, grid_of_columns, selection, is_atom_of, one_kind, together_of, together, names_vector, execution_of, execution, key_grid, group_columns, other_names, last_grid, column_grid, value_grid, dictionary_of, value_over_groups, value_over_rows, value_over_kept, meaning}
use Rattle.qsql_eval.specs.Ready.{IsAnswerable, IsGroupable}
use Rattle.qsql_eval.specs.Views.{has_columns}
use Rattle.qsql_eval.proofs.FitLemmas.{fit_answerable, kept_kinds, kept_answerable}
use Rattle.qsql_eval.proofs.GroupFit.{fit_groupable, kept_groupable}
use Rattle.qsql_groups.proofs.GroupLemmas.{keys_even_of, key_count, codes_size, even_at, lasts_within}
use Rattle.qsql_eval.proofs.GroupLemmas.{group_columns_even, IsTableOf, key_table_of, column_table_of, last_table_of}
use Rattle.qsql_eval.proofs.ReadyLemmas.{AreReady, AreFlat, shown_table, every_table}
use Rattle.gateway.specs.Shaped.{IsGrid, PartsFit, AllPartsFit, IsShaped}

-- ---- counts are at most the length of what is written

-- a list is no longer than its items' bytes, where each has some
counted : {X : Type 0} (f : X → List ℕ) → ((x : X) → 0 < length (f x)) → (xs : List X) → length xs ≤ length (flat_map f xs)
counted f some [] = omega arith
counted f some (x ∷ xs) = omega (arith, length-append (f x) (flat_map f xs), some x, counted f some xs)

element_some : (x : Atom) → 0 < length (element_bytes x)
element_some (a.Boolean x) = omega arith
element_some (a.Byte x) = omega arith
element_some (a.Short x) = omega arith
element_some (a.Integer x) = omega arith
element_some (a.Long x) = omega arith
element_some (a.Character x) = omega arith
element_some (a.Symbol text) = omega (arith, length-text text)
element_some (a.Timestamp x) = omega arith
element_some (a.Month x) = omega arith
element_some (a.Date x) = omega arith
element_some (a.Timespan x) = omega arith
element_some (a.Minute x) = omega arith
element_some (a.Second x) = omega arith
element_some (a.Time x) = omega arith

atoms_within : (v : Contents) → length v.atoms ≤ length (vector_bytes v)
atoms_within v = omega (arith, length-vector v, counted element_bytes element_some v.atoms)

vector_some : (v : Contents) → 0 < length (vector_bytes v)
vector_some v = omega (arith, length-vector v)

rows_within : (columns : List Contents) → rows_of columns ≤ length (flat_map vector_bytes columns)
rows_within [] = omega arith
rows_within (c ∷ columns) = omega (arith, atoms_within c, length-append (vector_bytes c) (flat_map vector_bytes columns))

grid_fits : (grid : Grid) → IsGrid grid → length (grid_bytes grid) ≤ 2147483647 → GridFits grid
grid_fits grid shape short = record {
  shape = shape;
  columns = omega (arith, short, length-grid grid, counted vector_bytes vector_some grid.columns);
  rows = omega (arith, short, length-grid grid, rows_within grid.columns);
}

written_some : (t : Tree) → 0 < length (written t)
written_some (atom x) = omega (arith, length-atom x)
written_some (vector v) = omega (arith, length-plain v, vector_some v)
written_some (list items) = omega (arith, length-list items)
written_some (dict keys values) = omega (arith, length-dict keys values)
written_some (table grid) = omega (arith, length-table grid, length-grid grid)
written_some (keyed keys values) = omega (arith, length-keyed keys values)
written_some identity = omega (arith, length-identity)
written_some (wrong text) = omega (arith, length-wrong text)

length-item : (t : Tree) (items : Items) → length (written_items (item t items)) ≡ length (written t) + length (written_items items)
unfolding written_items
length-item t items = length-append (written t) (written_items items)

items_within : (items : Items) → number_of_items items ≤ length (written_items items)
items_within no_items = omega arith
items_within (item t items) = omega (arith, length-item t items, written_some t, items_within items)

mutual
  fits_of : (t : Tree) → PartsFit t → length (written t) ≤ 2147483647 → Fits t
  fits_of (atom x) h short = tt
  fits_of (vector v) h short = omega (arith, short, length-plain v, atoms_within v)
  fits_of (list items) h short = (omega (arith, short, length-list items, items_within items), all_fit items h (omega (arith, short, length-list items)))
  fits_of (dict keys values) h short = (fits_of keys h.0 (omega (arith, short, length-dict keys values)), fits_of values h.1 (omega (arith, short, length-dict keys values)), h.2, h.3)
  fits_of (table grid) h short = grid_fits grid h (omega (arith, short, length-table grid))
  fits_of (keyed keys values) h short = (grid_fits keys h.0 (omega (arith, short, length-keyed keys values)), grid_fits values h.1 (omega (arith, short, length-keyed keys values)), h.2)
  fits_of identity h short = tt
  fits_of (wrong text) h short = h

  all_fit : (items : Items) → AllPartsFit items → length (written_items items) ≤ 2147483647 → AllFit items
  all_fit no_items h short = tt
  all_fit (item t items) h short = (fits_of t h.0 (omega (arith, short, length-item t items)), all_fit items h.1 (omega (arith, short, length-item t items)))

pub shaped_plain : (t : Tree) → IsShaped t → length (written t) ≤ 2147483647 → IsPlain t
shaped_plain t h short = record { nested = h.nested; fits = fits_of t h.parts short }

-- ---- atoms and vectors

abbrev IsFlat : Tree → Type 0
IsFlat (atom x) = Unit {0}
IsFlat (vector c) = Unit {0}
IsFlat _ = ⊥

flat_of : (n : ℕ) (of : Form_shape) (t : Tree) → HasShape n of t → IsFlat t
flat_of n s.Scalar (atom x) h = tt
flat_of n s.Rows (vector c) h = tt
flat_of n s.List (vector c) h = tt
flat_of n of t h = absurd h

flat_depth : (t : Tree) → IsFlat t → depth t ≡ 1
flat_depth (atom x) h = refl
flat_depth (vector c) h = refl
flat_depth t h = absurd h

flat_fits : (t : Tree) → IsFlat t → PartsFit t
flat_fits (atom x) h = tt
flat_fits (vector c) h = tt
flat_fits t h = absurd h

flat_shaped : (t : Tree) → IsFlat t → IsShaped t
flat_shaped t h = record { nested = omega (arith, flat_depth t h); parts = flat_fits t h }

flat_deepest : (ts : List Tree) → All IsFlat ts → deepest (items_of ts) ≤ 1
flat_deepest [] h = omega arith
flat_deepest (t ∷ ts) h = omega (arith, flat_depth t (All-head IsFlat t ts h), flat_deepest ts (All-tail IsFlat t ts h))

all_flat_fit : (ts : List Tree) → All IsFlat ts → AllPartsFit (items_of ts)
all_flat_fit [] h = tt
all_flat_fit (t ∷ ts) h = (flat_fits t (All-head IsFlat t ts h), all_flat_fit ts (All-tail IsFlat t ts h))

count_items : (ts : List Tree) → number_of_items (items_of ts) ≡ length ts
count_items [] = refl
count_items (t ∷ ts) = ap suc (count_items ts)

values_flat : (frame : Frame) (columns : List Col) → AreReady frame columns → All IsFlat (values_of frame (map column_form columns))
values_flat frame [] ready = All-nil IsFlat
values_flat frame (c ∷ columns) ready =
    let own = All-head (λ (d : Col). IsReady frame (form d.expr)) c columns ready in
    let shape = val_shape frame (kind_beside frame) (form c.expr) own.kind own.built in
    All-cons IsFlat (val frame (form c.expr)) (values_of frame (map column_form columns)) (flat_of (length frame.rows) _ (val frame (form c.expr)) shape)
    (values_flat frame columns (All-tail (λ (d : Col). IsReady frame (form d.expr)) c columns ready))

pub atom_shaped : (x : Atom) → IsShaped (atom x)
atom_shaped x = record { nested = omega arith; parts = tt }

pub wrong_shaped : (text : List ℕ) → HasNoNul text → IsShaped (wrong text)
wrong_shaped text h = record { nested = omega arith; parts = h }

-- ---- `exec`

-- the values of a dictionary with this number of keys
record AreValues (n : ℕ) (t : Tree) : Type 0 where
  nested : depth t ≤ 2
  parts : PartsFit t
  count : extent t ≡ n

no : {P : Type 0} → false ≡ true → P
no e = absurd cc

both : (a b : Bool) → (a && b) ≡ true → (a ≡ true) × (b ≡ true)
both true b h = (refl, h)
both false b h = no h

one_kind_all : (ts : List Tree) (kind : Kind) → one_kind ts ≡ Some kind → list_all (is_atom_of kind) ts ≡ true
one_kind_all [] kind e = absurd cc
one_kind_all (t ∷ ts) kind e = by_test (list_all (is_atom_of (items_in t).kind) (t ∷ ts)) refl e
  where
    by_test : (b : Bool) → list_all (is_atom_of (items_in t).kind) (t ∷ ts) ≡ b → cond b (Some (items_in t).kind) None ≡ Some kind → list_all (is_atom_of kind) (t ∷ ts) ≡ true
    by_test true p q = let same : (items_in t).kind ≡ kind = cc in subst (λ (k : Kind). list_all (is_atom_of k) (t ∷ ts) ≡ true) same p
    by_test false p q = absurd cc

atoms_count : (kind : Kind) (ts : List Tree) → list_all (is_atom_of kind) ts ≡ true → length (flat_map (λ (t : Tree). (items_in t).atoms) ts) ≡ length ts
atoms_count kind [] h = refl
atoms_count kind (atom x ∷ ts) h = ap suc (atoms_count kind ts (both (is_atom_of kind (atom x)) (list_all (is_atom_of kind) ts) h).1)
atoms_count kind (t ∷ ts) h = no h

are_values : (ts : List Tree) → All IsFlat ts → AreValues (length ts) (together ts)
are_values ts flat = by_kind (one_kind ts) refl
  where
    by_kind : (o : Option Kind) → one_kind ts ≡ o → AreValues (length ts) (together_of o ts)
    by_kind None e = record { nested = omega (arith, flat_deepest ts flat); parts = all_flat_fit ts flat; count = count_items ts }
    by_kind (Some kind) e = record { nested = omega arith; parts = tt; count = atoms_count kind ts (one_kind_all ts kind e) }

named_shaped : (names : List (List ℕ)) (ts : List Tree) → length names ≡ length ts → All IsFlat ts → IsShaped (dict (names_vector names) (together ts))
named_shaped names ts same flat =
    let values = are_values ts flat in
    record { nested = omega (arith, values.nested); parts = (tt, values.parts, length-map names _ ∙ same ∙ sym values.count, tt) }

named_count : (frame : Frame) (columns : List Col) → length (map column_name (map column_form columns)) ≡ length (values_of frame (map column_form columns))
named_count frame columns = length-map (map column_form columns) column_name ∙ sym (length-map (map column_form columns) (λ (c : ColumnForm). val frame c.expr))

execution_shaped : (frame : Frame) (columns : List Col) → AreReady frame columns → IsShaped (execution_of (map column_name (map column_form columns)) (values_of frame (map column_form columns)))
execution_shaped frame [] ready = named_shaped [] [] refl (All-nil IsFlat)
execution_shaped frame (c ∷ []) ready = flat_shaped (val frame (form c.expr)) (All-head IsFlat (val frame (form c.expr)) [] (values_flat frame (c ∷ []) ready))
execution_shaped frame (c ∷ d ∷ columns) ready =
    named_shaped (map column_name (map column_form (c ∷ d ∷ columns))) (values_of frame (map column_form (c ∷ d ∷ columns))) (named_count frame (c ∷ d ∷ columns)) (values_flat frame (c ∷ d ∷ columns) ready)

-- ---- `select`

pub table_shaped : (grid : Grid) → IsTable grid.names grid.columns → IsShaped (table grid)
table_shaped grid is = record { nested = omega arith; parts = is }

selection_shaped : (shape : Shape) (first : Option ℤ) (frame : Frame) (columns : List Col) → AreReady frame columns → AreFlat columns
    → IsShaped (cond (is_empty (map column_form columns)) (grid_of first (all_columns shape) (map (column_in frame) (all_columns shape))) (grid_of_columns first frame (map column_form columns)))
selection_shaped shape first frame [] ready flat = table_shaped _ (every_table frame first (all_columns shape) (all_columns shape) _ (omega arith) refl refl)
selection_shaped shape first frame (c ∷ columns) ready flat = table_shaped _ (shown_table frame first (c ∷ columns) _ _ _ (omega arith) ready flat refl refl refl)

rows_shaped : (frame : Frame) (shape : Shape) (q : Query) → IsAnswerable frame shape q → IsShaped (value_over_rows (all_columns shape) (query_of q) frame)
rows_shaped frame shape q h = by_exec q.exec refl
  where
    by_exec : (b : Bool) → q.exec ≡ b → IsShaped (cond b (execution (query_of q) frame) (selection (all_columns shape) (query_of q) frame))
    by_exec true e = execution_shaped frame q.columns h.ready
    by_exec false e = selection_shaped shape q.first frame q.columns h.ready (h.flat e)

-- ---- `by`

entry_shaped : (n : ℕ) (keys values : List Contents) → AreOfSize n keys → AreOfSize n values → IsShaped (dictionary_of keys values)
entry_shaped n [] values h j = record { nested = omega arith; parts = tt }
entry_shaped n (k ∷ []) [] h j = record { nested = omega arith; parts = tt }
entry_shaped n (k ∷ []) (v ∷ []) h j =
    let first = All-head (λ (c : Contents). length c.atoms ≡ n) k [] h in
    let second = All-head (λ (c : Contents). length c.atoms ≡ n) v [] j in
    record { nested = omega arith; parts = (tt, tt, first ∙ sym second, tt) }
entry_shaped n (k ∷ []) (v ∷ w ∷ values) h j = record { nested = omega arith; parts = tt }
entry_shaped n (k ∷ l ∷ keys) values h j = record { nested = omega arith; parts = tt }

keyed_shaped : (n : ℕ) (keys values : Grid) → IsTableOf n keys.names keys.columns → IsTableOf n values.names values.columns → IsShaped (keyed keys values)
keyed_shaped n keys values k v = record { nested = omega arith; parts = (k.is, v.is, k.size ∙ sym v.size) }

-- the rows of a query, grouped
abbrev grouped : Frame → Query → Groups
grouped frame q = groups (map column_form q.by) frame

-- ---- each group has a first row

found : {X : Type 0} (test : X → Bool) (xs : List X) → list_any test xs ≡ true → position_or_len test xs < length xs
found test [] some = no some
found test (x ∷ xs) some = by_test (found test xs) (test x) some
  where
    by_test : (list_any test xs ≡ true → position_or_len test xs < length xs) → (b : Bool) → (b || list_any test xs) ≡ true → cond (not b) (1 + position_or_len test xs) 0 < suc (length xs)
    by_test rest true h = omega arith
    by_test rest false h = let low = rest h in omega (arith, low)

or_true : (x y : Bool) → y ≡ true → (x || y) ≡ true
or_true true y h = refl
or_true false y h = h

-- each key is among the keys
own_keys : (keys : List (List Atom)) → All (λ (key : List Atom). list_any (same_key key) keys ≡ true) keys
own_keys [] = All-nil (λ (key : List Atom). list_any (same_key key) [] ≡ true)
own_keys (k ∷ keys) =
    All-cons (λ (key : List Atom). list_any (same_key key) (k ∷ keys) ≡ true) k keys (ap (λ (b : Bool). b || list_any (same_key k) keys) (ap is_eq (tied_itself key_total k)))
    (All-weaker (λ (key : List Atom). list_any (same_key key) keys ≡ true) (λ (key : List Atom). list_any (same_key key) (k ∷ keys) ≡ true) (λ key h. or_true (same_key key k) (list_any (same_key key) keys) h) keys (own_keys keys))

firsts_within : (rows : List (List Atom)) → All (λ (f : ℕ). f < length rows) (firsts_in rows)
firsts_within rows =
    All-map (λ (f : ℕ). f < length rows) (λ (key : List Atom). position_or_len (same_key key) rows) (keys_in rows)
    (All-weaker (λ (key : List Atom). list_any (same_key key) (keys_in rows) ≡ true) (λ (key : List Atom). position_or_len (same_key key) rows < length rows)
    (λ key h. found (same_key key) rows (sym (any_ascending key_cmp key_total key rows) ∙ h)) (keys_in rows) (own_keys (keys_in rows)))

-- ---- the groups have rows, and their keys are of one length

record AreGrouped (g : Groups) : Type 0 where
  keys : AreOfSize (length g.firsts) g.keys
  last : All (λ (p : ℕ). p < length g.rows.rows) (map last_row (parts_of g))

are_grouped : (frame : Frame) (shape : Shape) (q : Query) → IsGroupable frame shape q → AreGrouped (grouped frame q)
are_grouped frame shape q h =
    let keys = key_columns (map column_form q.by) frame in
    let even : AreOfSize (length frame.rows) keys = keys_even_of frame q.by h.keys in
    let some : 0 < length keys = omega (arith, key_count frame q.by, h.some) in
    let rows = key_rows (rows_of keys) keys in
    let codes = codes_in rows in
    let firsts = firsts_in rows in
    let many : length codes ≡ length frame.rows = codes_size (length frame.rows) keys codes some even refl in
    let size : length rows ≡ length frame.rows = sym (length-map rows _) ∙ many in
    let within : All (λ (f : ℕ). f < length frame.rows) firsts = subst (λ (n : ℕ). All (λ (f : ℕ). f < n) firsts) size (firsts_within rows) in
    record {
      keys = even_at (length frame.rows) firsts keys even within;
      last = lasts_within (length frame.rows) (length firsts) codes firsts many refl within;
    }

-- the columns of a `select` with `by`
others_table : (frame : Frame) (shape : Shape) (q : Query) → IsGroupable frame shape q → q.exec ≡ false → All (λ (p : ℕ). p < length frame.rows) (map last_row (parts_of (grouped frame q))) → (columns : List Col) → q.columns ≡ columns → All (λ (c : Col). IsValue frame (form c.expr)) columns
    → (grid : Grid) → grid ≡ cond (is_empty (map column_form columns)) (last_grid (other_names (all_columns shape) (query_of q)) (grouped frame q)) (column_grid (map column_form columns) (grouped frame q))
    → IsTableOf (length (grouped frame q).firsts) grid.names grid.columns
others_table frame shape q h select last [] none values grid is =
    subst (λ (g : Grid). IsTableOf (length (grouped frame q).firsts) g.names g.columns) (sym is)
    (last_table_of (grouped frame q) (other_names (all_columns shape) (query_of q)) (map last_row (parts_of (grouped frame q))) _ (h.left select none) last refl refl)
others_table frame shape q h select last (c ∷ columns) some values grid is =
    subst (λ (g : Grid). IsTableOf (length (grouped frame q).firsts) g.names g.columns) (sym is)
    (column_table_of (grouped frame q) (c ∷ columns) _ _ (omega arith) values refl refl)

groups_shaped : (frame : Frame) (shape : Shape) (q : Query) → IsGroupable frame shape q → IsShaped (value_over_groups (all_columns shape) (query_of q) (grouped frame q))
groups_shaped frame shape q h = by_exec q.exec refl
  where
    by_exec : (b : Bool) → q.exec ≡ b → IsShaped (cond b (dictionary_of (grouped frame q).keys (group_columns (map column_form q.columns) (grouped frame q))) (keyed (key_grid (map column_form q.by) (grouped frame q)) (value_grid (all_columns shape) (query_of q) (grouped frame q))))
    by_exec true e = entry_shaped (length (grouped frame q).firsts) (grouped frame q).keys (group_columns (map column_form q.columns) (grouped frame q)) (are_grouped frame shape q h).keys (group_columns_even (grouped frame q) q.columns h.values)
    by_exec false e =
        let are = are_grouped frame shape q h in
        keyed_shaped (length (grouped frame q).firsts) (key_grid (map column_form q.by) (grouped frame q)) (value_grid (all_columns shape) (query_of q) (grouped frame q))
        (key_table_of (grouped frame q) q.by _ (grouped frame q).keys h.some (length-map (key_columns (map column_form q.by) frame) _ ∙ key_count frame q.by) refl refl are.keys)
        (others_table frame shape q h e are.last q.columns refl h.values (value_grid (all_columns shape) (query_of q) (grouped frame q)) refl)

-- ---- every query that fits its table

kept_shaped : (frame rows : Frame) (shape : Shape) (q : Query) → kind_beside rows ≡ kind_beside frame → IsFit shape (query_of q) → has_columns shape (query_of q) frame ≡ true
    → IsShaped (value_over_kept (all_columns shape) (query_of q) rows)
kept_shaped frame rows shape q same fit has = by_groups (is_empty (query_of q).by) refl
  where
    by_groups : (b : Bool) → is_empty (query_of q).by ≡ b → IsShaped (cond b (value_over_rows (all_columns shape) (query_of q) rows) (value_over_groups (all_columns shape) (query_of q) (grouped rows q)))
    by_groups true e = rows_shaped rows shape q (kept_answerable frame rows shape q same (fit_answerable shape q frame fit has e))
    by_groups false e = groups_shaped rows shape q (kept_groupable frame rows shape q same (fit_groupable shape q frame fit has e))

-- the value of a query that fits its table, over rows that have its columns
pub meaning_shaped : (shape : Shape) (q : Query) (frame : Frame) → IsFit shape (query_of q) → has_columns shape (query_of q) frame ≡ true → IsShaped (meaning (all_columns shape) (query_of q) frame)
meaning_shaped shape q frame fit has = kept_shaped frame (kept (query_of q).phrases frame) shape q (kept_kinds (query_of q).phrases frame) fit has
