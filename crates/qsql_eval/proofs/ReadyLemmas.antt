-- The columns of a result.
use Rattle.std.proofs.Common.{◌≡◌, ◌==◌, ℕ, ℤ, get_or, ◌-◌, ◌<◌, Bool, true, false, cond, ◌&&◌, List, [], ◌∷◌, length, map, replicate, refl, sym, ap, ◌∙◌, arith, suc, All, Option, Some, None, subst, min}
use Rattle.std.specs.Prelude.{pos, negsuc}
use Rattle.std.specs.List.{list_all}
use Rattle.std.proofs.lemmas.List.{length-map, length-replicate, length-take, length-drop}
use Rattle.std.proofs.lemmas.List.Elements.{All-nil, All-cons, All-head, All-tail}
use Rattle.q_values.specs.Contents.{Contents}
use Rattle.q_values.specs.Table.{rows_of, IsTable}
use Rattle.q_values.specs.Tree.{Tree, tree, atom, vector}
use Rattle.q_values.specs.declared.value.Value.{Value}
use Rattle.q_values.specs.declared.atom.Atom.{Atom}
use Rattle.q_values.specs.declared.kind.Kind.{Kind}
use Rattle.day_rows.specs.Rows.{absent}
use Rattle.qsql_request.specs.Forms.{Form, ColumnForm}
use Rattle.qsql_request.specs.Shapes.{shape, is_scalar, is_list, is_atom}
use Rattle.qsql_request.specs.Unbuilt.{column_name}
use Rattle.qsql_request.specs.Views.{form, column_form}
use Rattle.qsql_request.specs.declared.request.Col.{Col}
use Rattle.qsql_request.specs.declared.shapes.Shape.{Shape}
use Rattle.qsql_request.specs.declared.shapes.Shape.TheVariants as s
use Rattle.qsql_values.specs.Frames.{Frame, kind_beside, column_in, field_in}
use Rattle.qsql_eval.specs.Meaning.{values_of, is_atom_of, one_kind, limited, limited_column, spread, row_count}
use Rattle.qsql_values.specs.Operands.{HasShape}
use Rattle.qsql_values.specs.Ready.{IsReady}
use Rattle.qsql_eval.specs.Ready.{are_scalars}
use Rattle.qsql_values.specs.Values.{val, items_in}
use Rattle.qsql_values.proofs.FrameLemmas.{AreOfSize}
use Rattle.qsql_values.proofs.ShapeLemmas.{val_shape}

no : {P : Type 0} → false ≡ true → P
no e = absurd cc

no_again : {P : Type 0} → true ≡ false → P
no_again e = absurd cc

-- ---- atoms are the values of scalars

scalar_is_atom : (n : ℕ) (of : Shape) (t : Tree) → HasShape n of t → is_atom t ≡ is_scalar of
scalar_is_atom n s.Scalar (atom x) h = refl
scalar_is_atom n s.Rows (vector c) h = refl
scalar_is_atom n s.List (vector c) h = refl
scalar_is_atom n of t h = absurd h

ready_shape : (frame : Frame) (e : Form) → IsReady frame e → HasShape (length frame.rows) (shape e) (val frame e)
ready_shape frame e ready = val_shape frame (kind_beside frame) e ready.kind ready.built

abbrev pub AreReady : Frame → List Col → Type 0
AreReady frame columns = All (λ (c : Col). IsReady frame (form c.expr)) columns

pub scalars_are_atoms : (frame : Frame) (columns : List Col) → AreReady frame columns → list_all is_atom (values_of frame (map column_form columns)) ≡ are_scalars (map column_form columns)
scalars_are_atoms frame [] ready = refl
scalars_are_atoms frame (c ∷ columns) ready =
    let first = scalar_is_atom (length frame.rows) (shape (form c.expr)) (val frame (form c.expr)) (ready_shape frame (form c.expr) (All-head (λ (d : Col). IsReady frame (form d.expr)) c columns ready)) in
    let rest = scalars_are_atoms frame columns (All-tail (λ (d : Col). IsReady frame (form d.expr)) c columns ready) in
    ap (λ (b : Bool). b && list_all is_atom (values_of frame (map column_form columns))) first ∙ ap (λ (b : Bool). is_scalar (shape (form c.expr)) && b) rest

-- ---- columns of one length

pub limited_length : (first : Option ℤ) (xs ys : List Atom) → length xs ≡ length ys → length (limited first xs) ≡ length (limited first ys)
limited_length None xs ys e = e
limited_length (Some (pos n)) xs ys e = length-take n xs ∙ ap (min n) e ∙ sym (length-take n ys)
limited_length (Some (negsuc n)) xs ys e = length-drop (length xs - suc n) xs ∙ ap (λ (m : ℕ). m - (m - suc n)) e ∙ sym (length-drop (length ys - suc n) ys)

even_limited : (first : Option ℤ) (n : ℕ) (columns : List Contents) → AreOfSize n columns → AreOfSize (length (limited first (replicate n absent))) (map (limited_column first) columns)
even_limited first n [] even = All-nil (λ (d : Contents). length d.atoms ≡ length (limited first (replicate n absent)))
even_limited first n (c ∷ columns) even =
    All-cons (λ (d : Contents). length d.atoms ≡ length (limited first (replicate n absent))) (limited_column first c) (map (limited_column first) columns)
    (limited_length first c.atoms (replicate n absent) (All-head (λ (d : Contents). length d.atoms ≡ n) c columns even ∙ sym (length-replicate n absent)))
    (even_limited first n columns (All-tail (λ (d : Contents). length d.atoms ≡ n) c columns even))

pub even_rows : (n : ℕ) (columns : List Contents) → AreOfSize n columns → AreOfSize (rows_of columns) columns
even_rows n [] even = All-nil (λ (d : Contents). length d.atoms ≡ 0)
even_rows n (c ∷ columns) even = subst (λ (m : ℕ). AreOfSize m (c ∷ columns)) (sym (All-head (λ (d : Contents). length d.atoms ≡ n) c columns even)) even

pub limited_even : (first : Option ℤ) (n : ℕ) (columns : List Contents) → AreOfSize n columns → AreOfSize (rows_of (map (limited_column first) columns)) (map (limited_column first) columns)
limited_even first n columns even = even_rows (length (limited first (replicate n absent))) (map (limited_column first) columns) (even_limited first n columns even)

-- where all are atoms there is one row
atoms_even : (values : List Tree) → list_all is_atom values ≡ true → AreOfSize 1 (map (spread 1) values)
atoms_even [] all = All-nil (λ (d : Contents). length d.atoms ≡ 1)
atoms_even (atom x ∷ values) all = All-cons (λ (d : Contents). length d.atoms ≡ 1) (spread 1 (atom x)) (map (spread 1) values) refl (atoms_even values all)
atoms_even (value ∷ values) all = no all

-- an atom, or an item for each row
Cell : ℕ → Tree → Type 0
Cell n (atom x) = Unit {0}
Cell n (vector c) = length c.atoms ≡ n
Cell n value = ⊥

cell_of : (n : ℕ) (of : Shape) (t : Tree) → is_list of ≡ false → HasShape n of t → Cell n t
unfolding Cell
cell_of n s.List t p h = no_again p
cell_of n s.Scalar (atom x) p h = tt
cell_of n s.Rows (vector c) p h = h
cell_of n of t p h = absurd h

cell_size : (n : ℕ) (t : Tree) → Cell n t → length (spread n t).atoms ≡ n
unfolding Cell
cell_size n (atom x) h = length-replicate n x
cell_size n (vector c) h = h
cell_size n t h = absurd h

abbrev pub AreFlat : List Col → Type 0
AreFlat columns = All (λ (c : Col). is_list (shape (form c.expr)) ≡ false) columns

rows_even : (frame : Frame) (columns : List Col) → AreReady frame columns → AreFlat columns → AreOfSize (length frame.rows) (map (spread (length frame.rows)) (values_of frame (map column_form columns)))
rows_even frame [] ready flat = All-nil (λ (d : Contents). length d.atoms ≡ length frame.rows)
rows_even frame (c ∷ columns) ready flat =
    let n = length frame.rows in
    let here = ready_shape frame (form c.expr) (All-head (λ (d : Col). IsReady frame (form d.expr)) c columns ready) in
    let cell = cell_of n (shape (form c.expr)) (val frame (form c.expr)) (All-head (λ (d : Col). is_list (shape (form d.expr)) ≡ false) c columns flat) here in
    All-cons (λ (d : Contents). length d.atoms ≡ n) (spread n (val frame (form c.expr))) (map (spread n) (values_of frame (map column_form columns))) (cell_size n (val frame (form c.expr)) cell)
    (rows_even frame columns (All-tail (λ (d : Col). IsReady frame (form d.expr)) c columns ready) (All-tail (λ (d : Col). is_list (shape (form d.expr)) ≡ false) c columns flat))

pub spread_even : (frame : Frame) (columns : List Col) → AreReady frame columns → AreFlat columns → AreOfSize (row_count frame (values_of frame (map column_form columns))) (map (spread (row_count frame (values_of frame (map column_form columns)))) (values_of frame (map column_form columns)))
spread_even frame columns ready flat = by_kind (list_all is_atom (values_of frame (map column_form columns))) refl
  where
    by_kind : (b : Bool) → list_all is_atom (values_of frame (map column_form columns)) ≡ b → AreOfSize (cond b 1 (length frame.rows)) (map (spread (cond b 1 (length frame.rows))) (values_of frame (map column_form columns)))
    by_kind true all = atoms_even (values_of frame (map column_form columns)) all
    by_kind false some = rows_even frame columns ready flat

-- ---- tables

length-twice : {X Y Z : Type 0} (f : X → Y) (g : Y → Z) (xs : List X) → length (map g (map f xs)) ≡ length xs
length-twice f g xs = length-map (map f xs) g ∙ length-map xs f

pub columns_read_even : (frame : Frame) (names : List (List ℕ)) → AreOfSize (length frame.rows) (map (column_in frame) names)
columns_read_even frame [] = All-nil (λ (d : Contents). length d.atoms ≡ length frame.rows)
columns_read_even frame (name ∷ names) =
    All-cons (λ (d : Contents). length d.atoms ≡ length frame.rows) (column_in frame name) (map (column_in frame) names) (length-map frame.rows (field_in frame.names name)) (columns_read_even frame names)

same_table : (names names' : List (List ℕ)) (made made' : List Contents) → names ≡ names' → made ≡ made' → IsTable names' made' → IsTable names made
same_table names names' made made' p q is = subst (λ (n : List (List ℕ)). IsTable n made) (sym p) (subst (IsTable names') (sym q) is)

pub shown_table : (frame : Frame) (first : Option ℤ) (columns : List Col) (count : ℕ) (names : List (List ℕ)) (made : List Contents) → 0 < length columns → AreReady frame columns → AreFlat columns → count ≡ row_count frame (values_of frame (map column_form columns))
    → names ≡ map column_name (map column_form columns) → made ≡ map (limited_column first) (map (spread count) (values_of frame (map column_form columns))) → IsTable names made
shown_table frame first columns count names made some ready flat is_count is_names is_made =
    let forms = map column_form columns in
    let values = values_of frame forms in
    let n = row_count frame values in
    let shown = map (limited_column first) (map (spread n) values) in
    let same : made ≡ shown = is_made ∙ ap (λ (m : ℕ). map (limited_column first) (map (spread m) values)) is_count in
    let size : length shown ≡ length forms = length-twice (spread n) (limited_column first) values ∙ length-map forms (λ (c : ColumnForm). val frame c.expr) in
    let in_all : 0 < length shown = omega (arith, size, length-map columns column_form, some) in
    same_table names (map column_name forms) made shown is_names same (record { some = in_all; named = length-map forms column_name ∙ sym size; even = limited_even first n (map (spread n) values) (spread_even frame columns ready flat) })

pub every_table : (frame : Frame) (first : Option ℤ) (names slice : List (List ℕ)) (made : List Contents) → 0 < length names → slice ≡ names → made ≡ map (limited_column first) (map (column_in frame) slice) → IsTable names made
every_table frame first names slice made some is_slice is_made =
    let shown = map (limited_column first) (map (column_in frame) names) in
    let same : made ≡ shown = is_made ∙ ap (λ (ns : List (List ℕ)). map (limited_column first) (map (column_in frame) ns)) is_slice in
    let size : length shown ≡ length names = length-twice (column_in frame) (limited_column first) names in
    let in_all : 0 < length shown = omega (arith, size, some) in
    same_table names names made shown refl same (record { some = in_all; named = sym size; even = limited_even first (length frame.rows) (map (column_in frame) names) (columns_read_even frame names) })

-- ---- values that pass a test

all_parts : (a b : Bool) → (a && b) ≡ true → (a ≡ true) × (b ≡ true)
all_parts true b h = (refl, h)
all_parts false b h = no h

pub all_of_trees : (test : Tree → Bool) (values : List Value) → list_all test (map tree values) ≡ true → All (λ (v : Value). test (tree v) ≡ true) values
all_of_trees test [] h = All-nil (λ (v : Value). test (tree v) ≡ true)
all_of_trees test (v ∷ values) h =
    let b = all_parts (test (tree v)) (list_all test (map tree values)) h in
    All-cons (λ (w : Value). test (tree w) ≡ true) v values b.0 (all_of_trees test values b.1)

-- ---- values of one kind

pub one_kind_none : (values : List Value) → (length values == 0) ≡ true → one_kind (map tree values) ≡ None
one_kind_none [] none = refl
one_kind_none (v ∷ values) none = let zero_long : length (v ∷ values) ≡ 0 = grind arith in absurd (omega (arith, zero_long))

pub one_kind_of : (values : List Value) (first : Value) (kind : Kind) (b : Bool) → 0 < length values → first ≡ get_or values 0 first → kind ≡ (items_in (tree first)).kind → list_all (is_atom_of kind) (map tree values) ≡ b → one_kind (map tree values) ≡ cond b (Some kind) None
one_kind_of [] first kind b some is of test = absurd (omega arith)
one_kind_of (v ∷ values) first kind b some is of test =
    let own : (items_in (tree v)).kind ≡ kind = ap (λ (w : Value). (items_in (tree w)).kind) (sym is) ∙ sym of in
    ap (λ (k : Kind). cond (list_all (is_atom_of k) (map tree (v ∷ values))) (Some k) None) own ∙ ap (λ (t : Bool). cond t (Some kind) None) test

one_kind_all : (ts : List Tree) (kind : Kind) → one_kind ts ≡ Some kind → list_all (is_atom_of kind) ts ≡ true
one_kind_all [] kind e = absurd cc
one_kind_all (t ∷ ts) kind e = by_test (list_all (is_atom_of (items_in t).kind) (t ∷ ts)) refl e
  where
    by_test : (b : Bool) → list_all (is_atom_of (items_in t).kind) (t ∷ ts) ≡ b → cond b (Some (items_in t).kind) None ≡ Some kind → list_all (is_atom_of kind) (t ∷ ts) ≡ true
    by_test true p q = let same : (items_in t).kind ≡ kind = cc in subst (λ (k : Kind). list_all (is_atom_of k) (t ∷ ts) ≡ true) same p
    by_test false p q = absurd cc

pub all_of_one_kind : (values : List Value) (kind : Kind) → one_kind (map tree values) ≡ Some kind → All (λ (v : Value). is_atom_of kind (tree v) ≡ true) values
all_of_one_kind values kind e = all_of_trees (is_atom_of kind) values (one_kind_all (map tree values) kind e)
