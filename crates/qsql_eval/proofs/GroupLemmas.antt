-- Groups of rows, and the columns that they give.
use Rattle.std.proofs.Common.{◌≡◌, ℕ, ◌<◌, ◌==◌, Bool, true, false, cond, not, List, [], ◌∷◌, length, get_or, map, refl, sym, ap, ◌∙◌, arith, All, subst, None}
use Rattle.std.specs.Prelude.{is_some}
use Rattle.std.specs.List.{filter, list_any}
use Rattle.std.specs.Str.{bytes_eq}
use Rattle.std.proofs.lemmas.List.{length-map}
use Rattle.std.proofs.lemmas.List.Elements.{All-nil, All-cons, All-head, All-tail, All-filter}
use Rattle.q_values.specs.Contents.{Contents}
use Rattle.q_values.specs.Table.{rows_of, IsTable}
use Rattle.q_values.specs.Tree.{vector, dict}
use Rattle.q_values.proofs.ListLemmas.{length-gathered}
use Rattle.qsql_request.specs.Unbuilt.{column_name, is_empty}
use Rattle.qsql_request.specs.Views.{form, column_form, query_of}
use Rattle.qsql_request.specs.declared.request.Col.{Col}
use Rattle.qsql_request.specs.declared.request.Query.{Query}
use Rattle.qsql_values.specs.Frames.{Frame, column_in, kind_beside, rows_at}
use Rattle.qsql_values.proofs.FrameLemmas.{AreOfSize}
use Rattle.qsql_groups.specs.Groups.{Groups, parts_of, last_row, value_by_group, last_rows}
use Rattle.qsql_eval.specs.Meaning.{group_columns, other_names, last_grid, column_grid, value_grid, limited_column, dictionary_of}
use Rattle.qsql_groups.specs.Ready.{IsValue}
use Rattle.qsql_groups.proofs.GroupLemmas.{values_size, rows_of_even, parts_size}
use Rattle.qsql_eval.proofs.ReadyLemmas.{even_rows, columns_read_even}

no : {P : Type 0} → false ≡ true → P
no e = absurd cc

no_again : {P : Type 0} → true ≡ false → P
no_again e = absurd cc

-- ---- the columns of a table with `by`

pub group_columns_even : (g : Groups) (columns : List Col) → All (λ (c : Col). IsValue g.rows (form c.expr)) columns → AreOfSize (length g.firsts) (group_columns (map column_form columns) g)
group_columns_even g [] all = All-nil (λ (d : Contents). length d.atoms ≡ length g.firsts)
group_columns_even g (c ∷ columns) all =
    All-cons (λ (d : Contents). length d.atoms ≡ length g.firsts) (value_by_group g (form c.expr)) (group_columns (map column_form columns) g)
    (values_size g.rows (form c.expr) (parts_of g) (All-head (λ (d : Col). IsValue g.rows (form d.expr)) c columns all) ∙ parts_size g.codes (length g.firsts))
    (group_columns_even g columns (All-tail (λ (d : Col). IsValue g.rows (form d.expr)) c columns all))

pub last_rows_size : (g : Groups) → All (λ (p : ℕ). p < length g.rows.rows) (map last_row (parts_of g)) → length (last_rows g).rows ≡ length g.firsts
last_rows_size g within = length-gathered g.rows.rows (map last_row (parts_of g)) within ∙ length-map (parts_of g) last_row ∙ parts_size g.codes (length g.firsts)

pub last_columns_even : (g : Groups) (names : List (List ℕ)) → All (λ (p : ℕ). p < length g.rows.rows) (map last_row (parts_of g)) → AreOfSize (length g.firsts) (map (column_in (last_rows g)) names)
last_columns_even g names within = subst (λ (n : ℕ). AreOfSize n (map (column_in (last_rows g)) names)) (last_rows_size g within) (columns_read_even (last_rows g) names)

pub limited_none : (columns : List Contents) → map (limited_column None) columns ≡ columns
limited_none [] = refl
limited_none (c ∷ columns) = ap (λ (cs : List Contents). c ∷ cs) (limited_none columns)

-- columns of one length with a name for each are a table of this many rows
pub record IsTableOf (n : ℕ) (names : List (List ℕ)) (columns : List Contents) : Type 0 where
  pub is : IsTable names columns
  pub size : rows_of columns ≡ n

pub table_of : (n : ℕ) (names : List (List ℕ)) (columns : List Contents) → 0 < length columns → length names ≡ length columns → AreOfSize n columns → IsTableOf n names columns
table_of n names columns some named even = record { is = record { some = some; named = named; even = even_rows n columns even }; size = rows_of_even n columns some even }

pub key_table_of : (g : Groups) (by : List Col) (names : List (List ℕ)) (keys : List Contents) → 0 < length by → length g.keys ≡ length by → names ≡ map column_name (map column_form by) → keys ≡ g.keys → AreOfSize (length g.firsts) keys
    → IsTableOf (length g.firsts) names keys
key_table_of g by names keys some is_keys is_names is_made even =
    let count : length keys ≡ length by = ap length is_made ∙ is_keys in
    let named : length names ≡ length by = ap length is_names ∙ length-map (map column_form by) column_name ∙ length-map by column_form in
    table_of (length g.firsts) names keys (omega (arith, count, some)) (named ∙ sym count) even

pub column_table_of : (g : Groups) (columns : List Col) (names : List (List ℕ)) (made : List Contents) → 0 < length columns → All (λ (c : Col). IsValue g.rows (form c.expr)) columns → names ≡ map column_name (map column_form columns) → made ≡ group_columns (map column_form columns) g
    → IsTableOf (length g.firsts) names made
column_table_of g columns names made some values is_names is_made =
    let count : length made ≡ length columns = ap length is_made ∙ length-map (map column_form columns) _ ∙ length-map columns column_form in
    let named : length names ≡ length columns = ap length is_names ∙ length-map (map column_form columns) column_name ∙ length-map columns column_form in
    table_of (length g.firsts) names made (omega (arith, count, some)) (named ∙ sym count) (subst (AreOfSize (length g.firsts)) (sym is_made) (group_columns_even g columns values))

pub last_columns_are : (g : Groups) (names slice : List (List ℕ)) (places : List ℕ) (scope : Frame) (made : List Contents) → places ≡ map last_row (parts_of g) → scope ≡ rows_at places g.rows → slice ≡ names → made ≡ map (limited_column None) (map (column_in scope) slice)
    → made ≡ map (column_in (last_rows g)) names
last_columns_are g names slice places scope made is_places is_scope is_slice is_made =
    is_made
    ∙ limited_none (map (column_in scope) slice)
    ∙ ap (λ (f : Frame). map (column_in f) slice) (is_scope ∙ ap (λ (ps : List ℕ). rows_at ps g.rows) is_places)
    ∙ ap (map (column_in (last_rows g))) is_slice

pub last_table_of : (g : Groups) (names : List (List ℕ)) (places : List ℕ) (made : List Contents) → 0 < length names → All (λ (p : ℕ). p < length g.rows.rows) places → places ≡ map last_row (parts_of g) → made ≡ map (column_in (last_rows g)) names → IsTableOf (length g.firsts) names made
last_table_of g names places made some within is_places is_made =
    let all : All (λ (p : ℕ). p < length g.rows.rows) (map last_row (parts_of g)) = subst (λ (ps : List ℕ). All (λ (p : ℕ). p < length g.rows.rows) ps) is_places within in
    let count : length made ≡ length names = ap length is_made ∙ length-map names _ in
    table_of (length g.firsts) names made (omega (arith, count, some)) (sym count) (subst (AreOfSize (length g.firsts)) (sym is_made) (last_columns_even g names all))

-- ---- the columns that a `select` shows

pub no_columns : (columns : List Col) → (length columns == 0) ≡ true → columns ≡ []
no_columns [] none = refl
no_columns (c ∷ columns) none = let zero_long : length (c ∷ columns) ≡ 0 = grind arith in absurd (omega (arith, zero_long))

pub some_columns : (columns : List Col) → (length columns == 0) ≡ false → 0 < length columns
some_columns [] some = no_again some
some_columns (c ∷ columns) some = omega arith

pub empty_of : (columns : List Col) (b : Bool) → (length columns == 0) ≡ b → is_empty (map column_form columns) ≡ b
empty_of [] b is = is
empty_of (c ∷ columns) true is = let zero_long : length (c ∷ columns) ≡ 0 = grind arith in absurd (omega (arith, zero_long))
empty_of (c ∷ columns) false is = refl

pub grid_of_last : (all : List (List ℕ)) (q : Query) (g : Groups) → q.columns ≡ [] → value_grid all (query_of q) g ≡ last_grid (other_names all (query_of q)) g
grid_of_last all q g none = ap (λ (cs : List Col). cond (is_empty (map column_form cs)) (last_grid (other_names all (query_of q)) g) (column_grid (map column_form cs) g)) none

pub grid_of_columns : (all : List (List ℕ)) (q : Query) (g : Groups) → 0 < length q.columns → value_grid all (query_of q) g ≡ column_grid (map column_form q.columns) g
grid_of_columns all q g some = by_columns q.columns some
  where
    by_columns : (cs : List Col) → 0 < length cs → cond (is_empty (map column_form cs)) (last_grid (other_names all (query_of q)) g) (column_grid (map column_form cs) g) ≡ column_grid (map column_form cs) g
    by_columns [] none = absurd (omega arith)
    by_columns (c ∷ cs) there = refl

-- the names that no column after `by` has
pub left_names : (all slice names : List (List ℕ)) (q : Query) (by : List Col) → names ≡ filter (λ (name : List ℕ). not (list_any (bytes_eq name) (map column_name (map column_form by)))) slice → by ≡ q.by → slice ≡ all → names ≡ other_names all (query_of q)
left_names all slice names q by is_names is_by is_slice =
    is_names
    ∙ ap (λ (cs : List Col). filter (λ (name : List ℕ). not (list_any (bytes_eq name) (map column_name (map column_form cs)))) slice) is_by
    ∙ ap (filter (λ (name : List ℕ). not (list_any (bytes_eq name) (map column_name (map column_form q.by))))) is_slice

pub left_kinds : (frame : Frame) (all : List (List ℕ)) (q : Query) → All (λ (name : List ℕ). is_some (kind_beside frame name) ≡ true) all → All (λ (name : List ℕ). is_some (kind_beside frame name) ≡ true) (other_names all (query_of q))
left_kinds frame all q every = All-filter _ (λ (name : List ℕ). is_some (kind_beside frame name) ≡ true) all every

-- ---- the dictionary of an `exec`

pub one_entry : (g : Groups) (columns : List Col) (c : Col) (keys : List Contents) (key value : Contents) → length columns ≡ 1 → c ≡ get_or columns 0 c → keys ≡ key ∷ [] → value ≡ value_by_group g (form c.expr) → dict (vector key) (vector value) ≡ dictionary_of keys (group_columns (map column_form columns) g)
one_entry g [] c keys key value one is is_keys is_value = absurd (omega (arith, one))
one_entry g (d ∷ e ∷ columns) c keys key value one is is_keys is_value = absurd (omega (arith, one))
one_entry g (d ∷ []) c keys key value one is is_keys is_value =
    ap (λ (v : Contents). dict (vector key) (vector v)) (is_value ∙ ap (λ (x : Col). value_by_group g (form x.expr)) is)
    ∙ ap (λ (ks : List Contents). dictionary_of ks (value_by_group g (form d.expr) ∷ [])) (sym is_keys)
