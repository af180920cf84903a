-- What `measure` keeps is the outline of what is read.
use Rattle.std.proofs.Common.{nat_eq, ◌≡◌, ℕ, zero, suc, ◌-◌, ◌*◌, Bool, true, false, cond, ltb, List, [], ◌∷◌, length, drop, map, Option, Some, None, Result, Ok, Err, refl, sym, ap, ◌∙◌, arith}
use Rattle.std.specs.Prelude.{◌&&◌}
use Rattle.std.proofs.lemmas.List.{length-map}
use Rattle.std.proofs.lemmas.Bool.Decides.{nat_tests}
use Rattle.q_values.specs.Contents.{Contents}
use Rattle.q_values.specs.Table.{rows_of}
use Rattle.q_values.specs.Tree.{Tree, Items, Grid, atom, vector, list, dict, table, keyed, wrong, item}
use Rattle.q_values.specs.declared.atom.Atom.{Atom}
use Rattle.q_values.specs.declared.atom.Atom.TheVariants as a
use Rattle.q_values.specs.declared.kind.Kind.{Kind}
use Rattle.ipc_codec.specs.declared.fault.Fault.{Fault}
use Rattle.ipc_codec.specs.declared.fault.Fault.TheVariants.{Truncated, BadShape}
use Rattle.ipc_codec.specs.declared.form.Form.{Form}
use Rattle.ipc_codec.specs.declared.form.Form.TheVariants as f
use Rattle.ipc_codec.specs.declared.order.Order.{Order}
use Rattle.ipc_codec.specs.declared.reach.Outline.{Outline}
use Rattle.ipc_codec.specs.declared.reach.Block.{Block}
use Rattle.q_values.specs.Kind.{kind_at, width}
use Rattle.ipc_codec.specs.Types.{form_of}
use Rattle.ipc_codec.specs.Numbers.{element, cells}
use Rattle.ipc_codec.specs.Reading.{◌>>=◌, count_at, text_at, texts_at, cells_at, symbols_at, is_symbol, elements_at, vector_at, atom_at, part_at, column_by, column_at, columns_at, have_equal_lengths, is_grid, shaped, names_at, list_of_columns_at, grid_at, extent, number_of_items, checked, joined, identity_at, items_at, list_at, dictionary_at, object_by, object_at, placed, counted, object_of, measured}
use Rattle.ipc_codec.specs.Extent.{outline, after_texts, after_elements, after_vector, after_atom, after_column_by, after_column, after_columns, after_block, after_list_of_columns, after_names, rows_in, after_grid, after_identity, after_items, after_list, paired, after_dictionary, plain, after_form, after_object}

-- what is kept of a value that was read
abbrev pub kept : {A B : Type 0} → (A → B) → Result (A × List ℕ) Fault → Result (B × List ℕ) Fault
kept view (Ok x) = Ok (view x.0, x.1)
kept view (Err e) = Err e

-- the bytes after it
abbrev pub rest_of : {A : Type 0} → Result (A × List ℕ) Fault → Result (List ℕ) Fault
rest_of (Ok x) = Ok x.1
rest_of (Err e) = Err e

-- these bytes, after a value of n items
abbrev pub sized : ℕ → Result (List ℕ) Fault → Result (ℕ × List ℕ) Fault
sized n r = r >>= λ rest. Ok (n, rest)

-- ---- steps

kept-then : {A B C D : Type 0} (v : A → C) (w : B → D) (r : Result (A × List ℕ) Fault) (s : Result (C × List ℕ) Fault) (g : A × List ℕ → Result (B × List ℕ) Fault) (h : C × List ℕ → Result (D × List ℕ) Fault) → kept v r ≡ s → ((x : A × List ℕ) → kept w (g x) ≡ h (v x.0, x.1)) → kept w (r >>= g) ≡ (s >>= h)
kept-then v w (Ok x) s g h e k = k x ∙ ap (λ t. t >>= h) e
kept-then v w (Err d) s g h e k = ap (λ t. t >>= h) e

kept-after : {X B D : Type 0} (w : B → D) (r : Result X Fault) (g : X → Result (B × List ℕ) Fault) (h : X → Result (D × List ℕ) Fault) → ((x : X) → kept w (g x) ≡ h x) → kept w (r >>= g) ≡ (r >>= h)
kept-after w (Ok x) g h k = k x
kept-after w (Err d) g h k = refl

kept-done : {A B C : Type 0} (view : B → C) (g : A → B) (r : Result (A × List ℕ) Fault) → kept view (r >>= λ x. Ok (g x.0, x.1)) ≡ kept (λ x. view (g x)) r
kept-done view g (Ok x) = refl
kept-done view g (Err e) = refl

kept-plain : {A B : Type 0} (view : A → ℕ) (g : ℕ → B) (r : Result (A × List ℕ) Fault) → kept (λ x. g (view x)) r ≡ (kept view r >>= λ x. Ok (g x.0, x.1))
kept-plain view g (Ok x) = refl
kept-plain view g (Err e) = refl

-- a value that was read, and the bytes after it
abbrev pub read_as : {A : Type 0} → A → List ℕ → Result (A × List ℕ) Fault
read_as x rest = Ok (x, rest)

pub same_read : {A : Type 0} (p q : A × List ℕ) → read_as p.0 p.1 ≡ read_as q.0 q.1 → p ≡ q
same_read p q e = cc

pub same_value : {A : Type 0} (x y : A) (r s : List ℕ) → read_as x r ≡ read_as y s → x ≡ y
same_value {A = A} x y r s e = ap (λ (p : A × List ℕ). p.0) (same_read (x, r) (y, s) e)

pub same_rest : {A : Type 0} (x y : A) (r s : List ℕ) → read_as x r ≡ read_as y s → r ≡ s
same_rest {A = A} x y r s e = ap (λ (p : A × List ℕ). p.1) (same_read (x, r) (y, s) e)

pub same_number : (n : ℕ) → nat_eq n n ≡ true
same_number n = grind (arith, nat_tests)

-- a longer list
one_more : {A : Type 0} (x : A) (n : ℕ) (r : Result (List A × List ℕ) Fault) (s : Result (List ℕ) Fault) → kept length r ≡ sized n s → kept length (r >>= λ others. Ok (x ∷ others.0, others.1)) ≡ sized (suc n) s
one_more x n (Ok y) (Ok z) e = rw (same_value (length y.0) n y.1 z e, same_rest (length y.0) n y.1 z e) refl
one_more x n (Ok y) (Err z) e = absurd cc
one_more x n (Err y) (Ok z) e = absurd cc
one_more x n (Err y) (Err z) e = cc

sized-bind : {A : Type 0} (n : ℕ) (r : Result A Fault) (g : A → Result (List ℕ) Fault) → sized n (r >>= g) ≡ (r >>= λ x. sized n (g x))
sized-bind n (Ok x) g = refl
sized-bind n (Err e) g = refl

-- ---- elements

texts-sized : (n : ℕ) (bytes : List ℕ) → kept length (texts_at n bytes) ≡ sized n (after_texts n bytes)
unfolding after_texts texts_at
texts-sized zero bytes = refl
texts-sized (suc n) bytes =
    kept-after length (text_at bytes) (λ first. texts_at n first.1 >>= λ others. Ok (first.0 ∷ others.0, others.1)) (λ first. sized (suc n) (after_texts n first.1)) (λ first. one_more first.0 n (texts_at n first.1) (after_texts n first.1) (texts-sized n first.1))
    ∙ sym (sized-bind (suc n) (text_at bytes) (λ first. after_texts n first.1))

pub length-cells : {X : Type 0} (g : List ℕ → X) (w n : ℕ) (bytes : List ℕ) → length (cells g w n bytes) ≡ n
unfolding cells
length-cells g w zero bytes = refl
length-cells g w (suc n) bytes = ap suc (length-cells g w n (drop w bytes))

symbols-sized : (n : ℕ) (bytes : List ℕ) → kept length (symbols_at n bytes) ≡ sized n (after_texts n bytes)
unfolding symbols_at
symbols-sized n bytes = by_cases (texts_at n bytes) ∙ texts-sized n bytes
  where
    by_cases : (r : Result (List (List ℕ) × List ℕ) Fault) → kept length (r >>= λ texts. Ok (map (λ text. a.Symbol text) texts.0, texts.1)) ≡ kept length r
    by_cases (Ok x) = rw (length-map x.0 (λ (text : List ℕ). a.Symbol text)) refl
    by_cases (Err e) = refl

cells-sized : (order : Order) (kind : Kind) (n : ℕ) (bytes : List ℕ) → kept length (cells_at order kind n bytes) ≡ sized n (cond (ltb (length bytes) (n * width kind)) (Err Truncated) (Ok (drop (n * width kind) bytes)))
unfolding cells_at
cells-sized order kind n bytes = by_cases (ltb (length bytes) (n * width kind)) (drop (n * width kind) bytes) (cells (element order kind) (width kind) n bytes) (length-cells (element order kind) (width kind) n bytes)
  where
    by_cases : (b : Bool) (rest : List ℕ) (xs : List Atom) → length xs ≡ n → kept length (cond b (Err Truncated) (Ok (xs, rest))) ≡ sized n (cond b (Err Truncated) (Ok rest))
    by_cases true rest xs e = refl
    by_cases false rest xs e = rw e refl

elements-sized : (order : Order) (kind : Kind) (n : ℕ) (bytes : List ℕ) → kept length (elements_at order kind n bytes) ≡ sized n (after_elements kind n bytes)
unfolding elements_at after_elements
elements-sized order kind n bytes = by_cases (is_symbol kind) (symbols_at n bytes) (cells_at order kind n bytes) (after_texts n bytes) (cond (ltb (length bytes) (n * width kind)) (Err Truncated) (Ok (drop (n * width kind) bytes))) (symbols-sized n bytes) (cells-sized order kind n bytes)
  where
    by_cases : (b : Bool) (r s : Result (List Atom × List ℕ) Fault) (t u : Result (List ℕ) Fault) → kept length r ≡ sized n t → kept length s ≡ sized n u → kept length (cond b r s) ≡ sized n (cond b t u)
    by_cases true r s t u d e = d
    by_cases false r s t u d e = e

abbrev pub rows_at : Contents → ℕ
rows_at v = length v.atoms

vector-sized : (order : Order) (kind : Kind) (bytes : List ℕ) → kept rows_at (vector_at order kind bytes) ≡ after_vector order kind bytes
unfolding vector_at after_vector
vector-sized order kind bytes =
    kept-after rows_at (count_at order bytes) (λ n. elements_at order kind n.0 n.1 >>= λ atoms. Ok (record { kind = kind; atoms = atoms.0 }, atoms.1)) (λ n. sized n.0 (after_elements kind n.0 n.1)) (λ n.
    kept-done rows_at (λ atoms. record { kind = kind; atoms = atoms }) (elements_at order kind n.0 n.1) ∙ elements-sized order kind n.0 n.1)

atom-rest_of : (order : Order) (kind : Kind) (bytes : List ℕ) → rest_of (atom_at order kind bytes) ≡ after_atom kind bytes
unfolding atom_at after_atom
atom-rest_of order kind bytes = by_kind (is_symbol kind) (text_at bytes) (ltb (length bytes) (width kind)) (element order kind bytes) (drop (width kind) bytes)
  where
    by_text : (r : Result (List ℕ × List ℕ) Fault) → rest_of (r >>= λ text. Ok (a.Symbol text.0, text.1)) ≡ (r >>= λ text. Ok text.1)
    by_text (Ok x) = refl
    by_text (Err e) = refl

    by_size : (b : Bool) (x : Atom) (rest : List ℕ) → rest_of (cond b (Err Truncated) (Ok (x, rest))) ≡ cond b (Err Truncated) (Ok rest)
    by_size true x rest = refl
    by_size false x rest = refl

    by_kind : (b : Bool) (r : Result (List ℕ × List ℕ) Fault) (d : Bool) (x : Atom) (rest : List ℕ) → rest_of (cond b (r >>= λ text. Ok (a.Symbol text.0, text.1)) (cond d (Err Truncated) (Ok (x, rest)))) ≡ cond b (r >>= λ text. Ok text.1) (cond d (Err Truncated) (Ok rest))
    by_kind true r d x rest = by_text r
    by_kind false r d x rest = by_size d x rest

-- ---- tables

column-sized : (room : ℕ) (order : Order) (bytes : List ℕ) → kept rows_at (column_at room order bytes) ≡ after_column room order bytes
unfolding column_at after_column
column-sized room order [] = refl
column-sized zero order (b ∷ bytes) = refl
column-sized (suc room) order (b ∷ bytes) = by_kind (kind_at b) (length (b ∷ bytes))
  where
    by_kind : (kind : Option Kind) (left : ℕ) → kept rows_at (column_by order kind left bytes) ≡ after_column_by order kind left bytes
    by_kind None left = refl
    by_kind (Some kind) left = vector-sized order kind bytes

-- whether all columns have this number of rows, and how many columns there are
abbrev shape_of : ℕ → List Contents → Bool × ℕ
shape_of rows columns = (have_equal_lengths rows columns, length columns)

abbrev rowed : ℕ → Result (Bool × List ℕ) Fault → Result ((Bool × ℕ) × List ℕ) Fault
rowed n r = r >>= λ x. Ok ((x.0, n), x.1)

columns-shaped : (room : ℕ) (order : Order) (rows n : ℕ) (bytes : List ℕ) → kept (shape_of rows) (columns_at room order n bytes) ≡ rowed n (after_columns room order rows n bytes)
unfolding columns_at after_columns
columns-shaped room order rows zero bytes = refl
columns-shaped room order rows (suc n) bytes =
    kept-then rows_at (shape_of rows) (column_at room order bytes) (after_column room order bytes) (λ first. columns_at room order n first.1 >>= λ others. Ok (first.0 ∷ others.0, others.1)) (λ first. rowed (suc n) (after_columns room order rows n first.1 >>= λ others. Ok (nat_eq first.0 rows && others.0, others.1))) (column-sized room order bytes) (λ first.
    by_others first.0 (columns_at room order n first.1) (after_columns room order rows n first.1) (columns-shaped room order rows n first.1))
    ∙ by_column (after_column room order bytes)
  where
    by_others : (c : Contents) (r : Result (List Contents × List ℕ) Fault) (s : Result (Bool × List ℕ) Fault) → kept (shape_of rows) r ≡ rowed n s → kept (shape_of rows) (r >>= λ others. Ok (c ∷ others.0, others.1)) ≡ rowed (suc n) (s >>= λ others. Ok (nat_eq (rows_at c) rows && others.0, others.1))
    by_others c (Ok x) (Ok y) e =
        let parts = same_value (shape_of rows x.0) (y.0, n) x.1 y.1 e in
        let flag : have_equal_lengths rows x.0 ≡ y.0 = ap (λ (p : Bool × ℕ). p.0) parts in
        let size : length x.0 ≡ n = ap (λ (p : Bool × ℕ). p.1) parts in
        rw (flag, size, same_rest (shape_of rows x.0) (y.0, n) x.1 y.1 e) refl
    by_others c (Ok x) (Err y) e = absurd cc
    by_others c (Err x) (Ok y) e = absurd cc
    by_others c (Err x) (Err y) e = cc

    by_column : (r : Result (ℕ × List ℕ) Fault) → (r >>= λ first. rowed (suc n) (after_columns room order rows n first.1 >>= λ others. Ok (nat_eq first.0 rows && others.0, others.1))) ≡ rowed (suc n) (r >>= λ first. after_columns room order rows n first.1 >>= λ others. Ok (nat_eq first.0 rows && others.0, others.1))
    by_column (Ok x) = refl
    by_column (Err e) = refl

abbrev pub block_of : List Contents → Block
block_of columns = record { columns = length columns; rows = rows_of columns; have_equal_lengths = have_equal_lengths (rows_of columns) columns }

columns-block : (room : ℕ) (order : Order) (n : ℕ) (bytes : List ℕ) → kept block_of (columns_at room order n bytes) ≡ after_block room order n bytes
unfolding columns_at after_block
columns-block room order zero bytes = refl
columns-block room order (suc n) bytes =
    kept-then rows_at block_of (column_at room order bytes) (after_column room order bytes) (λ first. columns_at room order n first.1 >>= λ others. Ok (first.0 ∷ others.0, others.1)) (λ first. after_columns room order first.0 n first.1 >>= λ others. Ok (record { columns = suc n; rows = first.0; have_equal_lengths = others.0 }, others.1)) (column-sized room order bytes) (λ first.
    by_others first.0 (columns_at room order n first.1) (after_columns room order (rows_at first.0) n first.1) (columns-shaped room order (rows_at first.0) n first.1))
  where
    by_others : (c : Contents) (r : Result (List Contents × List ℕ) Fault) (s : Result (Bool × List ℕ) Fault) → kept (shape_of (rows_at c)) r ≡ rowed n s → kept block_of (r >>= λ others. Ok (c ∷ others.0, others.1)) ≡ (s >>= λ others. Ok (record { columns = suc n; rows = rows_at c; have_equal_lengths = others.0 }, others.1))
    by_others c (Ok x) (Ok y) e =
        let even : nat_eq (rows_at c) (rows_at c) ≡ true = same_number (rows_at c) in
        let parts = same_value (shape_of (rows_at c) x.0) (y.0, n) x.1 y.1 e in
        let flag : have_equal_lengths (rows_at c) x.0 ≡ y.0 = ap (λ (p : Bool × ℕ). p.0) parts in
        let size : length x.0 ≡ n = ap (λ (p : Bool × ℕ). p.1) parts in
        let rest = same_rest (shape_of (rows_at c) x.0) (y.0, n) x.1 y.1 e in
        rw (even, flag, size, rest) refl
    by_others c (Ok x) (Err y) e = absurd cc
    by_others c (Err x) (Ok y) e = absurd cc
    by_others c (Err x) (Err y) e = cc

names-sized : (room : ℕ) (order : Order) (bytes : List ℕ) → kept length (names_at room order bytes) ≡ after_names room order bytes
unfolding names_at after_names
names-sized room order bytes =
    kept-after length (part_at room 11 11 bytes) (λ inner. count_at order inner >>= λ n. texts_at n.0 n.1) (λ inner. count_at order inner >>= λ n. sized n.0 (after_texts n.0 n.1)) (λ inner.
    kept-after length (count_at order inner) (λ n. texts_at n.0 n.1) (λ n. sized n.0 (after_texts n.0 n.1)) (λ n. texts-sized n.0 n.1))

list_of_columns-block : (room : ℕ) (order : Order) (bytes : List ℕ) → kept block_of (list_of_columns_at room order bytes) ≡ after_list_of_columns room order bytes
unfolding list_of_columns_at after_list_of_columns
list_of_columns-block room order bytes =
    kept-after block_of (part_at room 0 0 bytes) (λ inner. count_at order inner >>= λ n. columns_at (room - 1) order n.0 n.1) (λ inner. count_at order inner >>= λ n. after_block (room - 1) order n.0 n.1) (λ inner.
    kept-after block_of (count_at order inner) (λ n. columns_at (room - 1) order n.0 n.1) (λ n. after_block (room - 1) order n.0 n.1) (λ n. columns-block (room - 1) order n.0 n.1))

abbrev pub rows_of_grid : Grid → ℕ
rows_of_grid grid = rows_of grid.columns

grid-sized : (left room : ℕ) (order : Order) (bytes : List ℕ) → kept rows_of_grid (grid_at left room order bytes) ≡ after_grid left room order bytes
unfolding grid_at after_grid
grid-sized left room order [] = refl
grid-sized left room order (attribute ∷ bytes) =
    kept-after rows_of_grid (part_at room 99 127 bytes) (λ inner. names_at (room - 1) order inner >>= λ names. list_of_columns_at (room - 1) order names.1 >>= λ columns. (shaped left names.0 columns.0 >>= λ grid. Ok (grid, columns.1))) (λ inner. after_names (room - 1) order inner >>= λ names. after_list_of_columns (room - 1) order names.1 >>= λ block. rows_in left names.0 block.0 block.1) (λ inner.
    kept-then length rows_of_grid (names_at (room - 1) order inner) (after_names (room - 1) order inner) (λ names. list_of_columns_at (room - 1) order names.1 >>= λ columns. (shaped left names.0 columns.0 >>= λ grid. Ok (grid, columns.1))) (λ names. after_list_of_columns (room - 1) order names.1 >>= λ block. rows_in left names.0 block.0 block.1) (names-sized (room - 1) order inner) (λ names.
    kept-then block_of rows_of_grid (list_of_columns_at (room - 1) order names.1) (after_list_of_columns (room - 1) order names.1) (λ columns. (shaped left names.0 columns.0 >>= λ grid. Ok (grid, columns.1))) (λ block. rows_in left (length names.0) block.0 block.1) (list_of_columns-block (room - 1) order names.1) (λ columns.
    by_shape (is_grid names.0 columns.0) names.0 columns.0 columns.1)))
  where
    by_shape : (b : Bool) (names : List (List ℕ)) (columns : List Contents) (rest : List ℕ) → kept rows_of_grid (cond b (Ok (record { names = names; columns = columns })) (Err (BadShape left)) >>= λ grid. Ok (grid, rest)) ≡ cond b (Ok (rows_of columns, rest)) (Err (BadShape left))
    by_shape true names columns rest = refl
    by_shape false names columns rest = refl

-- ---- objects

abbrev as_plain : Result (ℕ × List ℕ) Fault → Result (Outline × List ℕ) Fault
as_plain r = r >>= λ x. Ok (plain x.0, x.1)

abbrev as_one : Result (List ℕ) Fault → Result (Outline × List ℕ) Fault
as_one r = r >>= λ rest. Ok (plain 1, rest)

abbrev as_table : Result (ℕ × List ℕ) Fault → Result (Outline × List ℕ) Fault
as_table r = r >>= λ x. Ok (record { is_table = true; count = x.0 }, x.1)

identity-rest_of : (left : ℕ) (bytes : List ℕ) → kept outline (identity_at left bytes) ≡ (after_identity left bytes >>= λ rest. Ok (plain 1, rest))
unfolding identity_at after_identity
identity-rest_of left [] = refl
identity-rest_of left (zero ∷ bytes) = refl
identity-rest_of left (suc b ∷ bytes) = refl

items-sized : (object : List ℕ → Result (Tree × List ℕ) Fault) (reach : List ℕ → Result (Outline × List ℕ) Fault) → ((bytes : List ℕ) → kept outline (object bytes) ≡ reach bytes) → (n : ℕ) (bytes : List ℕ) → kept number_of_items (items_at object n bytes) ≡ sized n (after_items reach n bytes)
unfolding items_at after_items
items-sized object reach same zero bytes = refl
items-sized object reach same (suc n) bytes =
    kept-then outline number_of_items (object bytes) (reach bytes) (λ first. items_at object n first.1 >>= λ others. Ok (item first.0 others.0, others.1)) (λ first. sized (suc n) (after_items reach n first.1)) (same bytes) (λ first.
    by_others first.0 (items_at object n first.1) (after_items reach n first.1) (items-sized object reach same n first.1))
    ∙ sym (sized-bind (suc n) (reach bytes) (λ first. after_items reach n first.1))
  where
    by_others : (t : Tree) (r : Result (Items × List ℕ) Fault) (s : Result (List ℕ) Fault) → kept number_of_items r ≡ sized n s → kept number_of_items (r >>= λ others. Ok (item t others.0, others.1)) ≡ sized (suc n) s
    by_others t (Ok x) (Ok y) e = rw (same_value (number_of_items x.0) n x.1 y e, same_rest (number_of_items x.0) n x.1 y e) refl
    by_others t (Ok x) (Err y) e = absurd cc
    by_others t (Err x) (Ok y) e = absurd cc
    by_others t (Err x) (Err y) e = cc

list-sized : (object : List ℕ → Result (Tree × List ℕ) Fault) (reach : List ℕ → Result (Outline × List ℕ) Fault) → ((bytes : List ℕ) → kept outline (object bytes) ≡ reach bytes) → (order : Order) (bytes : List ℕ) → kept outline (list_at object order bytes) ≡ as_plain (after_list reach order bytes)
unfolding list_at after_list
list-sized object reach same order bytes =
    kept-after outline (count_at order bytes) (λ n. items_at object n.0 n.1 >>= λ items. Ok (list items.0, items.1)) (λ n. as_plain (sized n.0 (after_items reach n.0 n.1))) (λ n.
    by_items (items_at object n.0 n.1) ∙ ap as_plain (items-sized object reach same n.0 n.1))
    ∙ by_count (count_at order bytes)
  where
    by_items : (r : Result (Items × List ℕ) Fault) → kept outline (r >>= λ items. Ok (list items.0, items.1)) ≡ as_plain (kept number_of_items r)
    by_items (Ok x) = refl
    by_items (Err e) = refl

    by_count : (r : Result (ℕ × List ℕ) Fault) → (r >>= λ n. as_plain (sized n.0 (after_items reach n.0 n.1))) ≡ as_plain (r >>= λ n. sized n.0 (after_items reach n.0 n.1))
    by_count (Ok x) = refl
    by_count (Err e) = refl

checked-is : (b : Bool) (left : ℕ) (t : Tree) (x : Outline) (rest : List ℕ) → outline t ≡ x → kept outline (checked b left t >>= λ both. Ok (both, rest)) ≡ (cond b (Ok x) (Err (BadShape left)) >>= λ both. Ok (both, rest))
checked-is true left t x rest e = rw e refl
checked-is false left t x rest e = refl

joined-is : (left : ℕ) (keys values : Tree) (rest : List ℕ) → kept outline (joined left keys values >>= λ both. Ok (both, rest)) ≡ (paired left (outline keys) (outline values) >>= λ both. Ok (both, rest))
joined-is left (table keys) (table values) rest = checked-is (nat_eq (rows_of keys.columns) (rows_of values.columns)) left (keyed keys values) _ rest refl
joined-is left keys values rest = checked-is (nat_eq (extent keys) (extent values)) left (dict keys values) _ rest refl

dictionary-is : (object : List ℕ → Result (Tree × List ℕ) Fault) (reach : List ℕ → Result (Outline × List ℕ) Fault) → ((bytes : List ℕ) → kept outline (object bytes) ≡ reach bytes) → (left : ℕ) (bytes : List ℕ) → kept outline (dictionary_at object left bytes) ≡ after_dictionary reach left bytes
unfolding dictionary_at after_dictionary
dictionary-is object reach same left bytes =
    kept-then outline outline (object bytes) (reach bytes) (λ keys. object keys.1 >>= λ values. joined left keys.0 values.0 >>= λ both. Ok (both, values.1)) (λ keys. reach keys.1 >>= λ values. paired left keys.0 values.0 >>= λ both. Ok (both, values.1)) (same bytes) (λ keys.
    kept-then outline outline (object keys.1) (reach keys.1) (λ values. joined left keys.0 values.0 >>= λ both. Ok (both, values.1)) (λ values. paired left (outline keys.0) values.0 >>= λ both. Ok (both, values.1)) (same keys.1) (λ values.
    joined-is left keys.0 values.0 values.1))

form-is : (object : List ℕ → Result (Tree × List ℕ) Fault) (reach : List ℕ → Result (Outline × List ℕ) Fault) → ((bytes : List ℕ) → kept outline (object bytes) ≡ reach bytes) → (room : ℕ) (order : Order) (form : Form) (left : ℕ) (bytes : List ℕ) → kept outline (object_by object room order form left bytes) ≡ after_form reach room order form left bytes
unfolding object_by after_form
form-is object reach same room order (f.Atom kind) left bytes = by_cases (atom_at order kind bytes) ∙ ap as_one (atom-rest_of order kind bytes)
  where
    by_cases : (r : Result (Atom × List ℕ) Fault) → kept outline (r >>= λ x. Ok (atom x.0, x.1)) ≡ as_one (rest_of r)
    by_cases (Ok x) = refl
    by_cases (Err e) = refl
form-is object reach same room order (f.Vector kind) left bytes = by_cases (vector_at order kind bytes) ∙ ap as_plain (vector-sized order kind bytes)
  where
    by_cases : (r : Result (Contents × List ℕ) Fault) → kept outline (r >>= λ x. Ok (vector x.0, x.1)) ≡ as_plain (kept rows_at r)
    by_cases (Ok x) = refl
    by_cases (Err e) = refl
form-is object reach same room order f.List left bytes = list-sized object reach same order bytes
form-is object reach same room order f.Dictionary left bytes = dictionary-is object reach same left bytes
form-is object reach same room order f.Table left bytes = by_cases (grid_at left room order bytes) ∙ ap as_table (grid-sized left room order bytes)
  where
    by_cases : (r : Result (Grid × List ℕ) Fault) → kept outline (r >>= λ x. Ok (table x.0, x.1)) ≡ as_table (kept rows_of_grid r)
    by_cases (Ok x) = refl
    by_cases (Err e) = refl
form-is object reach same room order f.Identity left bytes = identity-rest_of left bytes
form-is object reach same room order f.Wrong left bytes = by_cases (text_at bytes)
  where
    by_cases : (r : Result (List ℕ × List ℕ) Fault) → kept outline (r >>= λ x. Ok (wrong x.0, x.1)) ≡ (r >>= λ text. Ok (plain 1, text.1))
    by_cases (Ok x) = refl
    by_cases (Err e) = refl
form-is object reach same room order f.Unbuilt left bytes = refl
form-is object reach same room order f.Unknown left bytes = refl

object-is : (room : ℕ) (order : Order) (bytes : List ℕ) → kept outline (object_at room order bytes) ≡ after_object room order bytes
unfolding object_at after_object
object-is room order [] = refl
object-is zero order (b ∷ bytes) = refl
object-is (suc room) order (b ∷ bytes) = form-is (object_at room order) (after_object room order) (object-is room order) room order (form_of b) (length (b ∷ bytes)) bytes

-- ---- what is measured

pub measured-ok : (order : Order) (bytes : List ℕ) (x : Outline) (rest : List ℕ) → after_object 64 order bytes ≡ Ok (x, rest) → measured (object_of order bytes) ≡ Ok (length bytes - length rest)
unfolding object_of
measured-ok order bytes x rest h = by_cases (object_at 64 order bytes) (object-is 64 order bytes ∙ h)
  where
    by_cases : (r : Result (Tree × List ℕ) Fault) → kept outline r ≡ Ok (x, rest) → measured (counted (length bytes) r) ≡ Ok (length bytes - length rest)
    by_cases (Ok y) e = rw (same_rest (outline y.0) x y.1 rest e) refl
    by_cases (Err d) e = absurd cc

pub measured-err : (order : Order) (bytes : List ℕ) (e : Fault) → after_object 64 order bytes ≡ Err e → measured (object_of order bytes) ≡ Err (placed (length bytes) e)
unfolding object_of
measured-err order bytes e h = by_cases (object_at 64 order bytes) (object-is 64 order bytes ∙ h)
  where
    by_cases : (r : Result (Tree × List ℕ) Fault) → kept outline r ≡ Err e → measured (counted (length bytes) r) ≡ Err (placed (length bytes) e)
    by_cases (Ok y) d = absurd cc
    by_cases (Err y) d = let same : y ≡ e = cc in rw same refl
