-- The tables of a join.
use Rattle.std.proofs.Common.{◌≡◌, ℕ, ℤ, ◌+◌, ◌-◌, ◌<◌, Bool, true, false, cond, ◌||◌, List, [], ◌∷◌, ◌++◌, length, get_or, map, refl, sym, ap, ◌∙◌, arith, subst, All, Option, Some, None, zero, suc, rules}
use Rattle.std.specs.Prelude.{is_some, IsSome}
use Rattle.std.specs.List.{filter, list_any}
use Rattle.std.specs.Simd.Lanes.{zip2}
use Rattle.std.specs.Str.{bytes_eq}
use Rattle.std.proofs.lemmas.List.{length-map, length-append, length-take, get_or-take, get_or_default}
use Rattle.std.proofs.lemmas.Simd.{length-zip2}
use Rattle.std.proofs.lemmas.List.Elements.{All-nil, All-cons, All-append, All-filter}
use Rattle.q_values.specs.Contents.{Contents}
use Rattle.q_values.specs.Table.{rows_of, IsTable}
use Rattle.q_values.specs.Tree.{Grid}
use Rattle.q_values.specs.declared.atom.Atom.{Atom}
use Rattle.qsql_values.specs.Beside.{beside}
use Rattle.asof_join.specs.Asof.{KeyedRows, row_as_of, rows_as_of, added_names, is_added, head_names, last_name, keyed_rows, added_columns, column_as_of, column_named}
use Rattle.asof_join.specs.Heads.{IsKey, AreHeads}
use Rattle.asof_join.specs.Lasts.{AreNumbers}
use Rattle.asof_join.proofs.KeyLemmas.{HasBothSizes, even_left, even_right}
use Rattle.asof_join.proofs.JudgeLemmas.{some_beside, has_some}

-- a name at an index is among the names
among_at : (names : List (List ℕ)) (i : ℕ) (name : List ℕ) → i < length names → name ≡ get_or names i name → list_any (bytes_eq name) names ≡ true
among_at [] i name low e = absurd (omega (arith, low))
among_at (other ∷ names) zero name low e = go (bytes_eq name other) (ap (bytes_eq name) (sym e) ∙ same name)
  where
    same : (bs : List ℕ) → bytes_eq bs bs ≡ true
    same bs = search rules

    go : (b : Bool) → b ≡ true → (b || list_any (bytes_eq name) names) ≡ true
    go true h = refl
    go false h = absurd cc
among_at (other ∷ names) (suc i) name low e = go (bytes_eq name other) (among_at names i name (omega (arith, low)) e)
  where
    go : (b : Bool) → list_any (bytes_eq name) names ≡ true → (b || list_any (bytes_eq name) names) ≡ true
    go true h = refl
    go false h = h

-- a table has a column of each of its names
pub column_there : (names : List (List ℕ)) (columns : List Contents) (i : ℕ) (name : List ℕ) → length names ≡ length columns → i < length names → name ≡ get_or names i name → IsSome (beside name names columns)
column_there names columns i name size low e = has_some (beside name names columns) (some_beside name names columns size (among_at names i name low e))

-- columns with one item for each row found
found_even : (found : List (Option ℕ)) (right : Grid) (names : List (List ℕ)) (n : ℕ) → length found ≡ n
    → All (λ (c : Contents). length c.atoms ≡ n) (map (λ (name : List ℕ). column_as_of found (column_named right name)) names)
found_even found right [] n e = All-nil (λ (c : Contents). length c.atoms ≡ n)
found_even found right (name ∷ names) n e =
    All-cons (λ (c : Contents). length c.atoms ≡ n) (column_as_of found (column_named right name)) (map (λ (name : List ℕ). column_as_of found (column_named right name)) names)
    (length-map found _ ∙ e) (found_even found right names n e)

rows_of_both : (xs ys : List Contents) → 0 < length xs → rows_of (xs ++ ys) ≡ rows_of xs
rows_of_both [] ys low = absurd (omega (arith, low))
rows_of_both (x ∷ xs) ys low = refl

-- the columns of a table, and columns of as many rows that have names, make a table
pub joined_table : (names shown keys : List (List ℕ)) (columns made : List Contents) (right : Grid) (found : List (Option ℕ)) → IsTable names columns → length found ≡ rows_of columns
    → shown ≡ names ++ added_names keys right.names → made ≡ columns ++ added_columns keys right found → IsTable shown made
joined_table names shown keys columns made right found is size shown_is made_is = subst (λ n. IsTable n made) (sym shown_is) (subst (IsTable (names ++ added_names keys right.names)) (sym made_is) table)
  where
    added : List Contents
    added = added_columns keys right found

    count : length added ≡ length (added_names keys right.names)
    count = length-map (added_names keys right.names) _

    even : All (λ (c : Contents). length c.atoms ≡ rows_of columns) (columns ++ added)
    even = All-append (λ (c : Contents). length c.atoms ≡ rows_of columns) columns added is.even (found_even found right (added_names keys right.names) (rows_of columns) size)

    table : IsTable (names ++ added_names keys right.names) (columns ++ added)
    table = record {
      some = let s = is.some in let long = length-append columns added in omega arith;
      named = length-append names (added_names keys right.names) ∙ (λ i. is.named i + sym count i) ∙ sym (length-append columns added);
      even = subst (λ n. All (λ (c : Contents). length c.atoms ≡ n) (columns ++ added)) (sym (rows_of_both columns added is.some)) even;
    }

-- each column that a join adds is there
pub all_there : (keys names : List (List ℕ)) (columns : List Contents) → length names ≡ length columns → All (λ (name : List ℕ). IsSome (beside name names columns)) (added_names keys names)
all_there keys names columns size =
    All-filter (is_added keys) (λ (name : List ℕ). IsSome (beside name names columns)) names
    (λ i d low. column_there names columns i (get_or names i d) size low (get_or_default names i d (get_or names i d) low))

module _ (keys : List (List ℕ)) (left right : Grid) (some : 0 < length keys) (are : All (IsKey left right) keys) where
  even_of : (name : List ℕ) → IsKey left right name → HasBothSizes left right (rows_of left.columns) (rows_of right.columns) name
  even_of name h = record { in_left = h.left_size; in_right = h.right_size }

  pub heads_even : All (HasBothSizes left right (rows_of left.columns) (rows_of right.columns)) (head_names keys)
  heads_even = λ i d low.
      let size = length-take (length keys - 1) keys in
      subst (HasBothSizes left right (rows_of left.columns) (rows_of right.columns)) (sym (get_or-take (length keys - 1) keys i d (omega arith)))
      (even_of (get_or keys i d) (are i d (omega arith)))

  last_key : IsKey left right (last_name keys)
  last_key = are (length keys - 1) [] (omega arith)

  pub left_count : length (keyed_rows keys left).heads ≡ rows_of left.columns
  left_count = even_left left right (rows_of left.columns) (rows_of right.columns) (head_names keys) heads_even

  pub right_count : length (keyed_rows keys right).heads ≡ rows_of right.columns
  right_count = even_right left right (rows_of left.columns) (rows_of right.columns) (head_names keys) heads_even

  pub left_lasts : length (keyed_rows keys left).lasts ≡ rows_of left.columns
  left_lasts = last_key.left_size

  pub right_lasts : length (keyed_rows keys right).lasts ≡ rows_of right.columns
  right_lasts = last_key.right_size

pub numbers_by : (a a' b b' : List Atom) (x x' y y' : List ℤ) → a ≡ a' → b ≡ b' → x ≡ x' → y ≡ y' → AreNumbers a b x y → AreNumbers a' b' x' y'
numbers_by a a' b b' x x' y y' p q r s h =
    subst (λ (v : List Atom). AreNumbers v b' x' y') p (subst (λ (v : List Atom). AreNumbers a v x' y') q (subst (λ (v : List ℤ). AreNumbers a b v y') r (subst (λ (v : List ℤ). AreNumbers a b x v) s h)))

pub heads_by : (left right : List (List Atom)) (codes codes' : List ℕ) (groups groups' : ℕ) → codes ≡ codes' → groups ≡ groups' → AreHeads left right codes groups → AreHeads left right codes' groups'
heads_by left right codes codes' groups groups' p q h =
    subst (λ (v : List ℕ). AreHeads left right v groups') p (subst (λ (v : ℕ). AreHeads left right codes v) q h)
