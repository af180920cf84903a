-- The value of a query is determined by the columns that it needs.
use Rattle.std.proofs.Common.{◌≡◌, ℕ, Bool, true, false, cond, not, List, [], ◌∷◌, ◌++◌, length, map, refl, sym, ap, ap₂, ◌∙◌, All, Option, subst, arith, suc}
use Rattle.std.specs.Prelude.{unwrap_or}
use Rattle.std.specs.List.{flat_map, list_all}
use Rattle.std.proofs.lemmas.List.Elements.{All-head, All-tail, All-weaker, All-filter}
use Rattle.q_values.specs.Contents.{Contents}
use Rattle.q_values.specs.Lists.{gathered}
use Rattle.q_values.specs.Tree.{Grid, Tree, vector, keyed}
use Rattle.q_values.specs.declared.atom.Atom.{Atom}
use Rattle.q_values.specs.declared.kind.Kind.{Kind}
use Rattle.q_values.specs.declared.kind.Kind.TheVariants as k
use Rattle.q_values.proofs.ListLemmas.{map-gathered}
use Rattle.qsql_request.specs.Forms.{Form, constant, column, one, two, ColumnForm, QueryForm}
use Rattle.qsql_request.specs.Shapes.{is_atom}
use Rattle.qsql_request.specs.Names.{names_in, names_in_columns, names_in_phrases, names_of}
use Rattle.qsql_request.specs.Unbuilt.{is_empty, column_name}
use Rattle.qsql_values.specs.Frames.{Frame, column_in, field_in, kind_beside, rows_at}
use Rattle.qsql_values.specs.Kinds.{kind_in}
use Rattle.qsql_values.specs.Values.{val, value_of_one, value_of_two, items_in, truths, selected, rows_where, kept}
use Rattle.q_keys.specs.Keys.{key_rows, codes_in, firsts_in}
use Rattle.q_values.specs.Table.{rows_of}
use Rattle.qsql_groups.specs.Groups.{Groups, groups, groups_by, key_columns, parts, last_row, items_over, value_by_group}
use Rattle.qsql_values.specs.Places.{column_at}
use Rattle.qsql_eval.specs.Judgement.{all_columns, is_name_of_by}
use Rattle.qsql_eval.specs.Meaning.{values_of, spread, grid_of, grid_of_columns, selection, execution_of, key_grid, group_columns, other_names, last_grid, column_grid, value_grid, dictionary_of, value_over_groups, value_over_rows}
use Rattle.qsql_eval.proofs.FitLemmas.{kinds_agree, All-left, All-right}
use Rattle.gateway.specs.Needs.{SameColumn, AreSame, NeededColumnsSuffice}

abbrev Same : Frame → Frame → List (List ℕ) → Type 0
Same f g names = All (SameColumn f g) names

-- ---- an expression

pub same_val : (f g : Frame) (e : Form) → Same f g (names_in e) → val f e ≡ val g e
same_val f g (constant value) same = refl
same_val f g (column name) same = ap vector (All-head (SameColumn f g) name [] same).column
same_val f g (one verb side) same = ap (value_of_one verb) (same_val f g side same)
same_val f g (two verb left right) same =
    ap₂ (value_of_two verb)
    (same_val f g left (All-left (SameColumn f g) (names_in left) (names_in right) same))
    (same_val f g right (All-right (SameColumn f g) (names_in left) (names_in right) same))

same_kind : (f g : Frame) (e : Form) → Same f g (names_in e) → kind_in (kind_beside f) e ≡ kind_in (kind_beside g) e
same_kind f g e same = kinds_agree (kind_beside f) (kind_beside g) e (All-weaker (SameColumn f g) (λ (n : List ℕ). kind_beside f n ≡ kind_beside g n) (λ n s. s.kind) (names_in e) same)

-- ---- rows that are kept

pub selected-map : {X Y : Type 0} (f : X → Y) (flags : List Bool) (xs : List X) → map f (selected flags xs) ≡ selected flags (map f xs)
selected-map f [] xs = refl
selected-map f (b ∷ flags) [] = refl
selected-map f (true ∷ flags) (x ∷ xs) = ap (λ l. f x ∷ l) (selected-map f flags xs)
selected-map f (false ∷ flags) (x ∷ xs) = selected-map f flags xs

-- the number of elements that are kept is told by the number of all
selected_size : {X Y : Type 0} (flags : List Bool) (xs : List X) (ys : List Y) → length xs ≡ length ys → length (selected flags xs) ≡ length (selected flags ys)
selected_size [] xs ys e = refl
selected_size (b ∷ flags) [] [] e = refl
selected_size (b ∷ flags) [] (y ∷ ys) e = absurd (omega arith)
selected_size (b ∷ flags) (x ∷ xs) [] e = absurd (omega arith)
selected_size (true ∷ flags) (x ∷ xs) (y ∷ ys) e = ap suc (selected_size flags xs ys (omega arith))
selected_size (false ∷ flags) (x ∷ xs) (y ∷ ys) e = selected_size flags xs ys (omega arith)

abbrev with_rows : Frame → List (List Atom) → Frame
with_rows f rows = record f { rows = rows }

abbrev atoms_in : Frame → List ℕ → List Atom
atoms_in f name = map (field_in f.names name) f.rows

-- taking rows by their indices or flags keeps columns the same
part_same : (f g : Frame) (rows other : List (List Atom)) (items : List Atom → List Atom)
    → ((name : List ℕ) → map (field_in f.names name) rows ≡ items (atoms_in f name))
    → ((name : List ℕ) → map (field_in g.names name) other ≡ items (atoms_in g name))
    → (name : List ℕ) → SameColumn f g name → SameColumn (with_rows f rows) (with_rows g other) name
part_same f g rows other items mine its name same = record {
  kind = same.kind;
  column =
      ap₂ (λ (kind : Kind) (xs : List Atom). record { kind = kind; atoms = xs })
      (ap (λ (c : Contents). c.kind) same.column)
      (mine name ∙ ap items (ap (λ (c : Contents). c.atoms) same.column) ∙ sym (its name));
}

same_where : (f g : Frame) (flags : List Bool) (names : List (List ℕ)) → Same f g names → Same (with_rows f (selected flags f.rows)) (with_rows g (selected flags g.rows)) names
same_where f g flags names same =
    All-weaker (SameColumn f g) (SameColumn (with_rows f (selected flags f.rows)) (with_rows g (selected flags g.rows)))
    (part_same f g (selected flags f.rows) (selected flags g.rows) (selected flags) (λ name. selected-map (field_in f.names name) flags f.rows) (λ name. selected-map (field_in g.names name) flags g.rows))
    names same

pub same_at : (f g : Frame) (places : List ℕ) (names : List (List ℕ)) → Same f g names → Same (rows_at places f) (rows_at places g) names
same_at f g places names same =
    All-weaker (SameColumn f g) (SameColumn (rows_at places f) (rows_at places g))
    (part_same f g (gathered f.rows places) (gathered g.rows places) (λ (xs : List Atom). gathered xs places) (λ name. map-gathered (field_in f.names name) f.rows places) (λ name. map-gathered (field_in g.names name) g.rows places))
    names same

pub same_kept : (phrases : List Form) (f g : Frame) (names : List (List ℕ)) → AreSame f g (names_in_phrases phrases) → Same f g names → AreSame (kept phrases f) (kept phrases g) names
same_kept [] f g names both same = record { size = both.size; columns = same }
same_kept (phrase ∷ phrases) f g names both same =
    let here = All-left (SameColumn f g) (names_in phrase) (names_in_phrases phrases) both.columns in
    let rest = All-right (SameColumn f g) (names_in phrase) (names_in_phrases phrases) both.columns in
    let flags = truths (val f phrase) in
    let next = with_rows g (selected flags g.rows) in
    let is : rows_where phrase g ≡ next = ap (λ (t : Tree). with_rows g (selected (truths t) g.rows)) (sym (same_val f g phrase here)) in
    let kept_same : AreSame (kept phrases (rows_where phrase f)) (kept phrases next) names =
    same_kept phrases (rows_where phrase f) next names
    (record { size = selected_size flags f.rows g.rows both.size; columns = same_where f g flags (names_in_phrases phrases) rest })
    (same_where f g flags names same) in
    subst (λ (h : Frame). AreSame (kept phrases (rows_where phrase f)) (kept phrases h) names) (sym is) kept_same

-- ---- a query without `by`

pub same_values : (f g : Frame) (cs : List ColumnForm) → Same f g (names_in_columns cs) → values_of f cs ≡ values_of g cs
same_values f g [] same = refl
same_values f g (c ∷ cs) same =
    ap₂ (λ (t : Tree) (ts : List Tree). t ∷ ts)
    (same_val f g c.expr (All-left (SameColumn f g) (names_in c.expr) (names_in_columns cs) same))
    (same_values f g cs (All-right (SameColumn f g) (names_in c.expr) (names_in_columns cs) same))

same_columns : (f g : Frame) (names : List (List ℕ)) → Same f g names → map (column_in f) names ≡ map (column_in g) names
same_columns f g [] same = refl
same_columns f g (name ∷ names) same =
    ap₂ (λ (c : Contents) (cs : List Contents). c ∷ cs) (All-head (SameColumn f g) name names same).column (same_columns f g names (All-tail (SameColumn f g) name names same))

-- the columns that a query without columns shows
abbrev shown_names : List ColumnForm → List (List ℕ) → List (List ℕ)
shown_names cs all = cond (is_empty cs) all []

abbrev count_of : ℕ → List Tree → ℕ
count_of n values = cond (list_all is_atom values) 1 n

same_selection : (all : List (List ℕ)) (q : QueryForm) (f g : Frame) → length f.rows ≡ length g.rows → Same f g (names_in_columns q.columns) → Same f g (shown_names q.columns all) → selection all q f ≡ selection all q g
same_selection all q f g size named shown = by_columns (is_empty q.columns) shown
  where
    of_columns : grid_of_columns q.first f q.columns ≡ grid_of_columns q.first g q.columns
    of_columns =
        ap₂ (λ (n : ℕ) (values : List Tree). grid_of q.first (map column_name q.columns) (map (spread (count_of n values)) values)) size (same_values f g q.columns named)

    by_columns : (b : Bool) → Same f g (cond b all []) → cond b (grid_of q.first all (map (column_in f) all)) (grid_of_columns q.first f q.columns) ≡ cond b (grid_of q.first all (map (column_in g) all)) (grid_of_columns q.first g q.columns)
    by_columns true h = ap (grid_of q.first all) (same_columns f g all h)
    by_columns false h = of_columns

same_over_rows : (all : List (List ℕ)) (q : QueryForm) (f g : Frame) → length f.rows ≡ length g.rows → Same f g (names_in_columns q.columns) → Same f g (shown_names q.columns all) → value_over_rows all q f ≡ value_over_rows all q g
same_over_rows all q f g size named shown =
    ap₂ (λ (values : List Tree) (t : Tree). cond q.exec (execution_of (map column_name q.columns) values) t) (same_values f g q.columns named) (same_selection all q f g size named shown)

-- ---- a query with `by`

same_keys : (f g : Frame) (by : List ColumnForm) → Same f g (names_in_columns by) → key_columns by f ≡ key_columns by g
same_keys f g [] same = refl
same_keys f g (c ∷ by) same =
    ap₂ (λ (k : Contents) (ks : List Contents). k ∷ ks)
    (ap items_in (same_val f g c.expr (All-left (SameColumn f g) (names_in c.expr) (names_in_columns by) same)))
    (same_keys f g by (All-right (SameColumn f g) (names_in c.expr) (names_in_columns by) same))

-- rows in these groups
abbrev grouped : Frame → List Contents → List ℕ → List ℕ → Groups
grouped f keys codes firsts = record { rows = f; keys = keys; codes = codes; firsts = firsts }

same_items : (f g : Frame) (e : Form) → Same f g (names_in e) → (parts : List (List ℕ)) → flat_map (items_over f e) parts ≡ flat_map (items_over g e) parts
same_items f g e same [] = refl
same_items f g e same (part ∷ parts) =
    ap₂ (λ (xs ys : List Atom). xs ++ ys)
    (ap (λ (t : Tree). (items_in t).atoms) (same_val (rows_at part f) (rows_at part g) e (same_at f g part (names_in e) same)))
    (same_items f g e same parts)

same_by_group : (f g : Frame) (keys : List Contents) (codes firsts : List ℕ) (e : Form) → Same f g (names_in e) → value_by_group (grouped f keys codes firsts) e ≡ value_by_group (grouped g keys codes firsts) e
same_by_group f g keys codes firsts e same =
    ap₂ (λ (kind : Kind) (xs : List Atom). record { kind = kind; atoms = xs }) (ap (λ (o : Option Kind). unwrap_or o k.Boolean) (same_kind f g e same)) (same_items f g e same (parts codes (length firsts)))

same_group_columns : (f g : Frame) (keys : List Contents) (codes firsts : List ℕ) (cs : List ColumnForm) → Same f g (names_in_columns cs) → group_columns cs (grouped f keys codes firsts) ≡ group_columns cs (grouped g keys codes firsts)
same_group_columns f g keys codes firsts [] same = refl
same_group_columns f g keys codes firsts (c ∷ cs) same =
    ap₂ (λ (d : Contents) (ds : List Contents). d ∷ ds)
    (same_by_group f g keys codes firsts c.expr (All-left (SameColumn f g) (names_in c.expr) (names_in_columns cs) same))
    (same_group_columns f g keys codes firsts cs (All-right (SameColumn f g) (names_in c.expr) (names_in_columns cs) same))

same_value_grid : (all : List (List ℕ)) (q : QueryForm) (f g : Frame) (keys : List Contents) (codes firsts : List ℕ) → Same f g (names_in_columns q.columns) → Same f g (shown_names q.columns all) → value_grid all q (grouped f keys codes firsts) ≡ value_grid all q (grouped g keys codes firsts)
same_value_grid all q f g keys codes firsts named shown = by_columns (is_empty q.columns) shown
  where
    last_of : Same f g all → last_grid (other_names all q) (grouped f keys codes firsts) ≡ last_grid (other_names all q) (grouped g keys codes firsts)
    last_of h =
        let others = All-filter (λ (name : List ℕ). not (is_name_of_by q name)) (SameColumn f g) all h in
        let last = same_at f g (map last_row (parts codes (length firsts))) (other_names all q) others in
        ap (λ (cs : List Contents). record { names = other_names all q; columns = cs }) (same_columns (rows_at (map last_row (parts codes (length firsts))) f) (rows_at (map last_row (parts codes (length firsts))) g) (other_names all q) last)

    by_columns : (b : Bool) → Same f g (cond b all []) → cond b (last_grid (other_names all q) (grouped f keys codes firsts)) (column_grid q.columns (grouped f keys codes firsts)) ≡ cond b (last_grid (other_names all q) (grouped g keys codes firsts)) (column_grid q.columns (grouped g keys codes firsts))
    by_columns true h = last_of h
    by_columns false h = ap (λ (cs : List Contents). record { names = map column_name q.columns; columns = cs }) (same_group_columns f g keys codes firsts q.columns named)

same_over_groups : (all : List (List ℕ)) (q : QueryForm) (f g : Frame) → Same f g (names_in_columns q.by) → Same f g (names_in_columns q.columns) → Same f g (shown_names q.columns all) → value_over_groups all q (groups q.by f) ≡ value_over_groups all q (groups q.by g)
same_over_groups all q f g by named shown =
    let keys = key_columns q.by f in
    let rows = key_rows (rows_of keys) keys in
    let shown_keys = map (column_at (firsts_in rows)) keys in
    let codes = codes_in rows in
    let firsts = firsts_in rows in
    let fixed : value_over_groups all q (groups_by f keys) ≡ value_over_groups all q (groups_by g keys) =
    ap₂ (λ (cs : List Contents) (grid : Grid). cond q.exec (dictionary_of shown_keys cs) (keyed (key_grid q.by (grouped f shown_keys codes firsts)) grid))
    (same_group_columns f g shown_keys codes firsts q.columns named) (same_value_grid all q f g shown_keys codes firsts named shown) in
    fixed ∙ ap (λ (ks : List Contents). value_over_groups all q (groups_by g ks)) (same_keys f g q.by by)

-- ---- a query

pub needed_suffice : NeededColumnsSuffice
needed_suffice table q f g same =
    let all = all_columns table in
    let P = SameColumn f g in
    let named = All-left P (names_of q) (shown_names q.columns all) same.columns in
    let shown = All-right P (names_of q) (shown_names q.columns all) same.columns in
    let cols = All-left P (names_in_columns q.columns) (names_in_columns q.by ++ names_in_phrases q.phrases) named in
    let rest = All-right P (names_in_columns q.columns) (names_in_columns q.by ++ names_in_phrases q.phrases) named in
    let by = All-left P (names_in_columns q.by) (names_in_phrases q.phrases) rest in
    let phrases : AreSame f g (names_in_phrases q.phrases) = record { size = same.size; columns = All-right P (names_in_columns q.by) (names_in_phrases q.phrases) rest } in
    let kept_cols = same_kept q.phrases f g (names_in_columns q.columns) phrases cols in
    let kept_by = same_kept q.phrases f g (names_in_columns q.by) phrases by in
    let kept_shown = same_kept q.phrases f g (shown_names q.columns all) phrases shown in
    ap₂ (λ (t u : Tree). cond (is_empty q.by) t u)
    (same_over_rows all q (kept q.phrases f) (kept q.phrases g) kept_cols.size kept_cols.columns kept_shown.columns)
    (same_over_groups all q (kept q.phrases f) (kept q.phrases g) kept_by.columns kept_cols.columns kept_shown.columns)
