-- Rows of columns: reading a column, and keeping rows.
use Rattle.std.proofs.Common.{◌≡◌, ℕ, ◌==◌, ◌&&◌, ◌<◌, Bool, true, false, cond, List, [], ◌∷◌, length, map, refl, sym, ap, ap₂, ◌∙◌, arith, zero, suc, All, Option, Some, None, Bor, subst}
use Rattle.std.specs.Prelude.{option_map, option_copied, unwrap_or, is_some}
use Rattle.std.specs.Str.{bytes_eq}
use Rattle.std.specs.Simd.Lanes.{zip2}
use Rattle.std.proofs.lemmas.List.{length-replicate, length-map}
use Rattle.std.proofs.lemmas.List.Elements.{All-nil, All-cons, All-head, All-tail}
use Rattle.q_values.specs.Contents.{Contents}
use Rattle.q_values.specs.Lists.{gathered}
use Rattle.q_values.specs.Table.{rows_of}
use Rattle.q_values.specs.declared.atom.Atom.{Atom}
use Rattle.q_values.specs.declared.kind.Kind.{Kind}
use Rattle.q_values.specs.declared.kind.Kind.TheVariants as k
use Rattle.q_values.proofs.ListLemmas.{map-gathered, length-gathered}
use Rattle.day_rows.specs.Rows.{absent}
use Rattle.qsql_values.specs.Beside.{beside}
use Rattle.qsql_values.specs.Frames.{field_in, column_in, rows_beside, frame_of, AreColumns, are_of_size, kind_beside}

abbrev pub AreOfSize : ℕ → List Contents → Type 0
AreOfSize n columns = All (λ (c : Contents). length c.atoms ≡ n) columns

abbrev joined : Atom → List Atom → List Atom
joined x row = x ∷ row

length-zip2 : {X Y Z : Type 0} (f : X → Y → Z) (n : ℕ) (xs : List X) (ys : List Y) → length xs ≡ n → length ys ≡ n → length (zip2 f xs ys) ≡ n
length-zip2 f n [] ys p q = p
length-zip2 f n (x ∷ xs) [] p q = absurd (omega (arith, p, q))
length-zip2 f zero (x ∷ xs) (y ∷ ys) p q = absurd (omega (arith, p))
length-zip2 f (suc n) (x ∷ xs) (y ∷ ys) p q = ap suc (length-zip2 f n xs ys (omega (arith, p)) (omega (arith, q)))

pub length-rows : (n : ℕ) (columns : List Contents) → AreOfSize n columns → length (rows_beside n columns) ≡ n
length-rows n [] even = length-replicate n []
length-rows n (c ∷ columns) even =
    length-zip2 joined n c.atoms (rows_beside n columns) (All-head (λ (c : Contents). length c.atoms ≡ n) c columns even) (length-rows n columns (All-tail (λ (c : Contents). length c.atoms ≡ n) c columns even))

-- ---- reading a column

-- the first fields of rows are the first column
first_fields : (name other : List ℕ) (names : List (List ℕ)) (n : ℕ) (xs : List Atom) (rows : List (List Atom)) → bytes_eq name other ≡ true → length xs ≡ n → length rows ≡ n → map (field_in (other ∷ names) name) (zip2 joined xs rows) ≡ xs
first_fields name other names n [] rows same p q = refl
first_fields name other names n (x ∷ xs) [] same p q = absurd (omega (arith, p, q))
first_fields name other names zero (x ∷ xs) (row ∷ rows) same p q = absurd (omega (arith, p))
first_fields name other names (suc n) (x ∷ xs) (row ∷ rows) same p q =
    ap₂ (λ (y : Atom) (ys : List Atom). y ∷ ys) (ap (λ (b : Bool). unwrap_or (cond b (Some x) (beside name names row)) absent) same) (first_fields name other names n xs rows same (omega (arith, p)) (omega (arith, q)))

-- the fields of another name are those of the rest
other_fields : (name other : List ℕ) (names : List (List ℕ)) (n : ℕ) (xs : List Atom) (rows : List (List Atom)) → bytes_eq name other ≡ false → length xs ≡ n → length rows ≡ n → map (field_in (other ∷ names) name) (zip2 joined xs rows) ≡ map (field_in names name) rows
other_fields name other names n [] [] differs p q = refl
other_fields name other names n [] (row ∷ rows) differs p q = absurd (omega (arith, p, q))
other_fields name other names n (x ∷ xs) [] differs p q = absurd (omega (arith, p, q))
other_fields name other names zero (x ∷ xs) (row ∷ rows) differs p q = absurd (omega (arith, p))
other_fields name other names (suc n) (x ∷ xs) (row ∷ rows) differs p q =
    ap₂ (λ (y : Atom) (ys : List Atom). y ∷ ys) (ap (λ (b : Bool). unwrap_or (cond b (Some x) (beside name names row)) absent) differs) (other_fields name other names n xs rows differs (omega (arith, p)) (omega (arith, q)))

some_same : {X : Type 0} (x y : X) → Some x ≡ Some y → x ≡ y
some_same x y e = cc

never_none : {X : Type 0} (x : X) → None ≡ Some x → ⊥
never_none x e = cc

pub column-read : (name : List ℕ) (names : List (List ℕ)) (n : ℕ) (columns : List Contents) (c : Contents) → AreOfSize n columns → beside name names columns ≡ Some c → map (field_in names name) (rows_beside n columns) ≡ c.atoms
column-read name [] n columns c even found = absurd (never_none c found)
column-read name (other ∷ names) n [] c even found = absurd (never_none c found)
column-read name (other ∷ names) n (d ∷ columns) c even found =
    by_name (column-read name names n columns c (All-tail (λ (e : Contents). length e.atoms ≡ n) d columns even)) (bytes_eq name other) refl
  where
    first : length d.atoms ≡ n
    first = All-head (λ (e : Contents). length e.atoms ≡ n) d columns even

    rest : AreOfSize n columns
    rest = All-tail (λ (e : Contents). length e.atoms ≡ n) d columns even

    by_name : (beside name names columns ≡ Some c → map (field_in names name) (rows_beside n columns) ≡ c.atoms) → (b : Bool) → bytes_eq name other ≡ b → map (field_in (other ∷ names) name) (rows_beside n (d ∷ columns)) ≡ c.atoms
    by_name again true same =
        first_fields name other names n d.atoms (rows_beside n columns) same first (length-rows n columns rest)
        ∙ ap (λ (e : Contents). e.atoms) (some_same d c (ap (λ (b : Bool). cond b (Some d) (beside name names columns)) (sym same) ∙ found))
    by_name again false differs =
        other_fields name other names n d.atoms (rows_beside n columns) differs first (length-rows n columns rest)
        ∙ again (ap (λ (b : Bool). cond b (Some d) (beside name names columns)) (sym differs) ∙ found)

pub beside-map : {X Y : Type 0} (f : X → Y) (name : List ℕ) (names : List (List ℕ)) (xs : List X) → beside name names (map f xs) ≡ option_map f (beside name names xs)
beside-map f name [] xs = refl
beside-map f name (other ∷ names) [] = refl
beside-map {X = X} f name (other ∷ names) (x ∷ xs) = by_name (bytes_eq name other) (beside-map f name names xs)
  where
    by_name : (b : Bool) → beside name names (map f xs) ≡ option_map f (beside name names xs) → cond b (Some (f x)) (beside name names (map f xs)) ≡ option_map f (cond b (Some x) (beside name names xs))
    by_name true e = refl
    by_name false e = e

-- a column that lies among the columns is the one that the rows have
pub column-lent : (names : List (List ℕ)) (columns : List Contents) (name : List ℕ) (c : Contents) → AreColumns names columns → beside name names columns ≡ Some c → c ≡ column_in (frame_of names columns) name
column-lent names columns name c are found =
    let kinds : kind_beside (frame_of names columns) name ≡ Some c.kind = beside-map (λ (d : Contents). d.kind) name names columns ∙ ap (option_map (λ (d : Contents). d.kind)) found in
    let read : map (field_in names name) (rows_beside (rows_of columns) columns) ≡ c.atoms = column-read name names (rows_of columns) columns c are.even found in
    ap₂ (λ (kind : Kind) (atoms : List Atom). record { kind = kind; atoms = atoms }) (sym (ap (λ (o : Option Kind). unwrap_or o k.Boolean) kinds)) (sym read)

pub length_frame : (names : List (List ℕ)) (columns : List Contents) → AreColumns names columns → length (rows_beside (rows_of columns) columns) ≡ rows_of columns
length_frame names columns are = length-rows (rows_of columns) columns are.even

-- a column that lies among the columns has an item for each row
pub size-lent : (names : List (List ℕ)) (columns : List Contents) (name : List ℕ) (c : Contents) → AreColumns names columns → beside name names columns ≡ Some c → length c.atoms ≡ rows_of columns
size-lent names columns name c are found =
    ap (λ (d : Contents). length d.atoms) (column-lent names columns name c are found)
    ∙ length-map (rows_beside (rows_of columns) columns) (field_in names name)
    ∙ length_frame names columns are

-- the kind of a column that lies among the columns
pub kind-lent : (names : List (List ℕ)) (columns : List Contents) (name : List ℕ) (c : Contents) → beside name names columns ≡ Some c → beside name names (map (λ (d : Contents). d.kind) columns) ≡ Some c.kind
kind-lent names columns name c found = beside-map (λ (d : Contents). d.kind) name names columns ∙ ap (option_map (λ (d : Contents). d.kind)) found

-- a column with a kind lies among the columns
pub some-lent : (names : List (List ℕ)) (columns : List Contents) (name : List ℕ) → is_some (beside name names (map (λ (d : Contents). d.kind) columns)) ≡ true → is_some (beside name names columns) ≡ true
some-lent names columns name some = by_option (beside name names columns) (sym (ap is_some (beside-map (λ (d : Contents). d.kind) name names columns)) ∙ some)
  where
    by_option : (o : Option Contents) → is_some (option_map (λ (d : Contents). d.kind) o) ≡ true → is_some o ≡ true
    by_option None h = h
    by_option (Some c) h = refl

pub never-missing : (names : List (List ℕ)) (columns : List Contents) (name : List ℕ) (o : Option (Bor Contents)) → option_copied o ≡ beside name names columns → o ≡ None → is_some (beside name names (map (λ (d : Contents). d.kind) columns)) ≡ true → ⊥
never-missing names columns name o is none some =
    let never : false ≡ true = ap is_some (sym (ap option_copied none) ∙ is) ∙ some-lent names columns name some in
    cc

pub ruleset lent = (column-lent, kind-lent, some-lent, size-lent)

pub kind_lent : (name : List ℕ) (names : List (List ℕ)) (columns : List Contents) → beside name names (map (λ (d : Contents). d.kind) columns) ≡ option_map (λ (d : Contents). d.kind) (beside name names columns)
kind_lent name names columns = beside-map (λ (d : Contents). d.kind) name names columns

pub kind_some : (name : List ℕ) (names : List (List ℕ)) (columns : List Contents) (c : Contents) → Some c ≡ beside name names columns → Some c.kind ≡ beside name names (map (λ (d : Contents). d.kind) columns)
kind_some name names columns c found = sym (kind-lent names columns name c (sym found))

pub kind_none : (name : List ℕ) (names : List (List ℕ)) (columns : List Contents) → None ≡ beside name names columns → None ≡ beside name names (map (λ (d : Contents). d.kind) columns)
kind_none name names columns missing = ap (option_map (λ (d : Contents). d.kind)) missing ∙ sym (kind_lent name names columns)

-- ---- rows at some indices

pub length_rows_at : (names : List (List ℕ)) (columns : List Contents) (places : List ℕ) → AreColumns names columns → All (λ (p : ℕ). p < rows_of columns) places → length (gathered (rows_beside (rows_of columns) columns) places) ≡ length places
length_rows_at names columns places are within =
    let rows = rows_beside (rows_of columns) columns in
    length-gathered rows places (subst (λ (n : ℕ). All (λ (p : ℕ). p < n) places) (sym (length_frame names columns are)) within)

-- a column of the rows at some indices is the column at these indices
pub column_rows_at : (names : List (List ℕ)) (name : List ℕ) (rows : List (List Atom)) (places : List ℕ) → map (field_in names name) (gathered rows places) ≡ gathered (map (field_in names name) rows) places
column_rows_at names name rows places = map-gathered (field_in names name) rows places

-- ---- columns of one length, as a test

both : (a b : Bool) → (a && b) ≡ true → (a ≡ true) × (b ≡ true)
both true b h = (refl, h)
both false b h = absurd cc

pub even_columns : (n : ℕ) (columns : List Contents) → are_of_size n columns ≡ true → AreOfSize n columns
even_columns n [] h = All-nil (λ (d : Contents). length d.atoms ≡ n)
even_columns n (c ∷ columns) h =
    let b = both (length c.atoms == n) (are_of_size n columns) h in
    let here : length c.atoms ≡ n = grind arith in
    All-cons (λ (d : Contents). length d.atoms ≡ n) c columns here (even_columns n columns b.1)

pub columns_even : (n : ℕ) (columns : List Contents) → AreOfSize n columns → are_of_size n columns ≡ true
columns_even n [] h = refl
columns_even n (c ∷ columns) h =
    let here : (length c.atoms == n) ≡ true = grind (arith, All-head (λ (d : Contents). length d.atoms ≡ n) c columns h) in
    ap (λ (b : Bool). b && are_of_size n columns) here ∙ columns_even n columns (All-tail (λ (d : Contents). length d.atoms ≡ n) c columns h)
