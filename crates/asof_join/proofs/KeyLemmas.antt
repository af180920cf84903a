-- The keys of both sides of a join as numbers.
use Rattle.std.proofs.Common.{◌≡◌, ◌≢◌, ℕ, ℤ, pos, zero, suc, ◌+◌, ◌<◌, Bool, true, List, [], ◌∷◌, ◌++◌, length, get_or, take, drop, map, replicate, refl, sym, ap, ◌∙◌, arith, subst, All, Ordering, Less, Equal, Greater, is_eq}
use Rattle.std.specs.Prelude.{nat_eq}
use Rattle.std.specs.Ordering.{nat_cmp, int_cmp, ordering_then}
use Rattle.std.specs.Simd.Lanes.{zip2}
use Rattle.std.proofs.lemmas.Bool.Decides.{nat_tests}
use Rattle.std.proofs.lemmas.List.Elements.{All-nil, All-cons}
use Rattle.std.proofs.lemmas.Int.{ints}
use Rattle.std.proofs.lemmas.List.{length-map, length-replicate, length-take, length-drop, length-append, get_or-map, get_or-take, get_or-drop, get_or-append-add}
use Rattle.std.proofs.Math.ListN.{get_or-append}
use Rattle.std.proofs.lemmas.Simd.{get_or-zip2, length-zip2}
use Rattle.q_values.specs.Atom.{kind_of}
use Rattle.q_values.specs.Column.{byte_atom, integer_atom, long_atom}
use Rattle.q_values.specs.declared.kind.ByteKind.{ByteKind}
use Rattle.q_values.specs.declared.kind.ByteKind.TheVariants as b
use Rattle.q_values.specs.declared.kind.IntegerKind.{IntegerKind}
use Rattle.q_values.specs.declared.kind.IntegerKind.TheVariants as i
use Rattle.q_values.specs.declared.kind.LongKind.{LongKind}
use Rattle.q_values.specs.declared.kind.LongKind.TheVariants as l
use Rattle.q_values.specs.Contents.{Contents}
use Rattle.q_values.specs.Order.{Key, Number, Text, key_cmp, atom_key, atom_cmp}
use Rattle.q_values.specs.Table.{rows_of}
use Rattle.q_values.specs.Tree.{Grid}
use Rattle.q_values.specs.declared.atom.Atom.{Atom}
use Rattle.q_values.specs.declared.atom.Atom.TheVariants as a
use Rattle.q_values.specs.declared.kind.Kind.{Kind}
use Rattle.q_values.specs.declared.kind.Kind.TheVariants as k
use Rattle.q_keys.specs.Keys as q
use Rattle.q_keys.specs.Keys.{key_rows, same_key, codes_in}
use Rattle.q_keys.specs.Laws.{CodesCompareAsKeys}
use Rattle.q_keys.proofs.KeyLemmas.{key_total}
use Rattle.q_keys.proofs.RankingLemmas.{ranks_compare}
use Rattle.day_rows.specs.Rows.{absent}
use Rattle.asof_join.specs.Asof.{column_named}
use Rattle.asof_join.specs.Heads.{IsKey, both_atoms, AreHeads}
use Rattle.asof_join.specs.Lasts.{number_of, AreNumbers}

joined : Atom → List Atom → List Atom
joined x key = x ∷ key

replicate_or : {X : Type 0} (n i : ℕ) (x : X) → get_or (replicate n x) i x ≡ x
replicate_or zero i x = refl
replicate_or (suc n) zero x = refl
replicate_or (suc n) (suc i) x = replicate_or n i x

replicate_both : {X : Type 0} (m n : ℕ) (x : X) → replicate (m + n) x ≡ replicate m x ++ replicate n x
replicate_both zero n x = let z : 0 + n ≡ n = omega arith in rw z refl
replicate_both (suc m) n x = let z : suc m + n ≡ suc (m + n) = omega arith in rw z (ap (λ l. x ∷ l) (replicate_both m n x))

-- ---- one group of all rows

alone_within : (n i d : ℕ) → i < length {A = ℕ} (replicate n 0) → get_or {A = ℕ} (replicate n 0) i d < 1
alone_within zero i d low = absurd (omega (arith, low))
alone_within (suc n) zero d low = omega arith
alone_within (suc n) (suc i) d low = alone_within n i d (omega (arith, low))

pub alone : (m n rows : ℕ) → rows ≡ m + n → AreHeads (key_rows m []) (key_rows n []) (replicate rows 0) 1
alone m n rows e = record {
  size = length-replicate rows 0 ∙ e ∙ (λ i. sym (length-replicate {A = List Atom} m []) i + sym (length-replicate {A = List Atom} n []) i);
  within = alone_within rows;
  same = λ i j _ _.
      (λ p. nat_eq (replicate_or rows (length (key_rows m []) + j) 0 p) (replicate_or rows i 0 p))
      ∙ sym (λ p. same_key (replicate_or {X = List Atom} n j [] p) (replicate_or {X = List Atom} m i [] p));
}

-- ---- rows of the columns of both sides

zip_both : {X Y Z : Type 0} (f : X → Y → Z) (xs xs' : List X) (ys ys' : List Y) → length xs ≡ length ys → zip2 f (xs ++ xs') (ys ++ ys') ≡ zip2 f xs ys ++ zip2 f xs' ys'
zip_both f [] xs' [] ys' e = refl
zip_both f [] xs' (y ∷ ys) ys' e = absurd (omega (arith, e))
zip_both f (x ∷ xs) xs' [] ys' e = absurd (omega (arith, e))
zip_both f (x ∷ xs) xs' (y ∷ ys) ys' e = ap (λ l. f x y ∷ l) (zip_both f xs xs' ys ys' (omega (arith, e)))

zip_with_atoms : (n : ℕ) (xs : List Atom) (rows : List (List Atom)) → length xs ≡ n → length rows ≡ n → length (zip2 (λ (x : Atom) (key : List Atom). x ∷ key) xs rows) ≡ n
zip_with_atoms n xs rows e f = length-zip2 (λ (x : Atom) (key : List Atom). x ∷ key) xs rows (omega (arith, e, f)) ∙ e

pub rows_length : (n : ℕ) (columns : List Contents) → All (λ (c : Contents). length c.atoms ≡ n) columns → length (key_rows n columns) ≡ n
rows_length n [] even = length-replicate n []
rows_length n (c ∷ columns) even =
    let first : length c.atoms ≡ n = even 0 c (omega arith) in
    zip_with_atoms n c.atoms (key_rows n columns) first (rows_length n columns (λ i d low. even (suc i) d (omega (arith, low))))

first_of : (x y : List Atom) (xs ys : List (List Atom)) → x ∷ xs ≡ y ∷ ys → x ≡ y
first_of x y xs ys e = ap (λ (l : List (List Atom)). get_or l 0 []) e

rest_of : (x y : List Atom) (xs ys : List (List Atom)) → x ∷ xs ≡ y ∷ ys → xs ≡ ys
rest_of x y xs ys e = ap (drop 1) e

module _ (left right : Grid) (m n : ℕ) where
  -- a column of both sides has an item for each row
  pub record HasBothSizes (name : List ℕ) : Type 0 where
    pub in_left : length (column_named left name).atoms ≡ m
    pub in_right : length (column_named right name).atoms ≡ n

  pub even_left : (names : List (List ℕ)) → All HasBothSizes names → length (key_rows m (map (column_named left) names)) ≡ m
  even_left [] even = length-replicate m []
  even_left (name ∷ names) even =
      let first = even 0 name (omega arith) in
      zip_with_atoms m (column_named left name).atoms (key_rows m (map (column_named left) names)) first.in_left (even_left names (λ i d low. even (suc i) d (omega (arith, low))))

  pub even_right : (names : List (List ℕ)) → All HasBothSizes names → length (key_rows n (map (column_named right) names)) ≡ n
  even_right [] even = length-replicate n []
  even_right (name ∷ names) even =
      let first = even 0 name (omega arith) in
      zip_with_atoms n (column_named right name).atoms (key_rows n (map (column_named right) names)) first.in_right (even_right names (λ i d low. even (suc i) d (omega (arith, low))))

  -- the rows of the columns of both sides are those of the left one, and then those of the right one
  rows_both : (names : List (List ℕ)) (columns : List Contents) → All HasBothSizes names → map (λ (c : Contents). c.atoms) columns ≡ map (both_atoms left right) names
      → key_rows (m + n) columns ≡ key_rows m (map (column_named left) names) ++ key_rows n (map (column_named right) names)
  rows_both [] [] even e = replicate_both m n []
  rows_both [] (c ∷ columns) even e = let bad : suc (length (map (λ (d : Contents). d.atoms) columns)) ≡ 0 = ap length e in absurd (omega (arith, bad))
  rows_both (name ∷ names) [] even e = let bad : 0 ≡ suc (length (map (both_atoms left right) names)) = ap length e in absurd (omega (arith, bad))
  rows_both (name ∷ names) (c ∷ columns) even e =
      let first = even 0 name (omega arith) in
      let later : All HasBothSizes names = λ i d low. even (suc i) d (omega (arith, low)) in
      let atoms = first_of c.atoms (both_atoms left right name) (map (λ (d : Contents). d.atoms) columns) (map (both_atoms left right) names) e in
      let rest = rows_both names columns later (rest_of c.atoms (both_atoms left right name) (map (λ (d : Contents). d.atoms) columns) (map (both_atoms left right) names) e) in
      (λ i. zip2 (λ (x : Atom) (key : List Atom). x ∷ key) (atoms i) (rest i))
      ∙ zip_both (λ (x : Atom) (key : List Atom). x ∷ key) (column_named left name).atoms (column_named right name).atoms (key_rows m (map (column_named left) names)) (key_rows n (map (column_named right) names))
      (first.in_left ∙ sym (even_left names later))

  -- columns of both sides have an item for each row of both
  both_even : (names : List (List ℕ)) (columns : List Contents) → All HasBothSizes names → map (λ (c : Contents). c.atoms) columns ≡ map (both_atoms left right) names
      → All (λ (c : Contents). length c.atoms ≡ m + n) columns
  both_even [] [] even e = All-nil (λ (c : Contents). length c.atoms ≡ m + n)
  both_even [] (c ∷ columns) even e = let bad : suc (length (map (λ (d : Contents). d.atoms) columns)) ≡ 0 = ap length e in absurd (omega (arith, bad))
  both_even (name ∷ names) [] even e = All-nil (λ (c : Contents). length c.atoms ≡ m + n)
  both_even (name ∷ names) (c ∷ columns) even e =
      let first = even 0 name (omega arith) in
      let atoms = first_of c.atoms (both_atoms left right name) (map (λ (d : Contents). d.atoms) columns) (map (both_atoms left right) names) e in
      let size : length c.atoms ≡ m + n = ap length atoms ∙ length-append (column_named left name).atoms (column_named right name).atoms ∙ (λ i. first.in_left i + first.in_right i) in
      All-cons (λ (d : Contents). length d.atoms ≡ m + n) c columns size
      (both_even names columns (λ i d low. even (suc i) d (omega (arith, low))) (rest_of c.atoms (both_atoms left right name) (map (λ (d : Contents). d.atoms) columns) (map (both_atoms left right) names) e))

  count_even : (columns : List Contents) → All (λ (c : Contents). length c.atoms ≡ m + n) columns → 0 < length columns → rows_of columns ≡ m + n
  count_even [] even low = absurd (omega (arith, low))
  count_even (c ∷ columns) even low = even 0 c (omega arith)

  module _ (names : List (List ℕ)) (columns : List Contents) (even : All HasBothSizes names) (atoms : map (λ (c : Contents). c.atoms) columns ≡ map (both_atoms left right) names) where
    -- these columns are of one length
    pub columns_even : All (λ (c : Contents). length c.atoms ≡ rows_of columns) columns
    columns_even = λ i d low. both_even names columns even atoms i d low ∙ sym (count_even columns (both_even names columns even atoms) (omega (arith, low)))

    pub columns_count : length columns ≡ length names
    columns_count = sym (length-map columns _) ∙ ap length atoms ∙ length-map names _

    pub columns_rows : 0 < length columns → key_rows (rows_of columns) columns ≡ key_rows m (map (column_named left) names) ++ key_rows n (map (column_named right) names)
    columns_rows some = ap (λ k. key_rows k columns) (count_even columns (both_even names columns even atoms) some) ∙ rows_both names columns even atoms

eq_by_cmp : (x y : ℕ) (o : Ordering) → nat_cmp x y ≡ o → nat_eq x y ≡ is_eq o
eq_by_cmp x y Less e = grind (arith, nat_tests)
eq_by_cmp x y Equal e = grind (arith, nat_tests)
eq_by_cmp x y Greater e = grind (arith, nat_tests)

laws : CodesCompareAsKeys
laws = λ rows i j d i_in j_in. ranks_compare q.key_cmp key_total rows i j d i_in j_in

-- codes of rows that stand one list after the other
pub heads_are : (left right rows : List (List Atom)) (codes : List ℕ) (groups : ℕ) → rows ≡ left ++ right → codes ≡ codes_in rows → All (λ (c : ℕ). c < groups) codes → AreHeads left right codes groups
heads_are left right rows codes groups e is within = record {
  size = size;
  within = within;
  same = λ i j i_low j_low.
      let long = length-append left right in
      eq_by_cmp (get_or codes (length left + j) 0) (get_or codes i 0) (nat_cmp (get_or codes (length left + j) 0) (get_or codes i 0)) refl
      ∙ ap is_eq ((λ p. nat_cmp (get_or (is p) (length left + j) 0) (get_or (is p) i 0))
      ∙ (λ p. nat_cmp (get_or (codes_in (e p)) (length left + j) 0) (get_or (codes_in (e p)) i 0))
      ∙ laws (left ++ right) (length left + j) i [] (omega arith) (omega arith)
      ∙ (λ p. q.key_cmp (get_or-append-add left right j [] p) (get_or-append left right [] i i_low p)));
}
  where
    size : length codes ≡ length left + length right
    size = ap length is ∙ length-map rows _ ∙ ap length e ∙ length-append left right

-- ---- last keys that are ranked

then_equal : (o : Ordering) → ordering_then o Equal ≡ o
then_equal Less = refl
then_equal Equal = refl
then_equal Greater = refl

positions : (x y : ℕ) → int_cmp (pos x) (pos y) ≡ nat_cmp x y
positions x y = grind (arith, nat_tests)

module _ (left right : List Atom) (column : Contents) (codes : List ℕ) (atoms_are : column.atoms ≡ left ++ right) (is : codes ≡ codes_in (key_rows (length column.atoms) (column ∷ []))) where
  abbrev keys : List (List Atom)
  keys = replicate (length column.atoms) []

  abbrev rows : List (List Atom)
  rows = key_rows (length column.atoms) (column ∷ [])

  row_count : length rows ≡ length column.atoms
  row_count = length-zip2 (λ (x : Atom) (key : List Atom). x ∷ key) column.atoms keys (sym (length-replicate (length column.atoms) []))

  pub code_count : length codes ≡ length left + length right
  code_count = ap length is ∙ length-map rows _ ∙ row_count ∙ ap length atoms_are ∙ length-append left right

  row_is : (i : ℕ) → i < length column.atoms → get_or rows i [] ≡ get_or column.atoms i absent ∷ []
  row_is i low =
      let size = length-replicate {A = List Atom} (length column.atoms) [] in
      get_or-zip2 (λ (x : Atom) (key : List Atom). x ∷ key) column.atoms keys i absent [] [] low (omega arith)
      ∙ ap (λ (key : List Atom). get_or column.atoms i absent ∷ key) (replicate_or {X = List Atom} (length column.atoms) i [])

  codes_compare : (i j : ℕ) → i < length left + length right → j < length left + length right → nat_cmp (get_or codes i 0) (get_or codes j 0) ≡ atom_cmp (get_or (left ++ right) i absent) (get_or (left ++ right) j absent)
  codes_compare i j i_low j_low =
      let long = length-append left right in
      let count = ap length atoms_are in
      let all = row_count in
      (λ p. nat_cmp (get_or (is p) i 0) (get_or (is p) j 0))
      ∙ laws rows i j [] (omega arith) (omega arith)
      ∙ (λ p. q.key_cmp (row_is i (omega arith) p) (row_is j (omega arith) p))
      ∙ then_equal (atom_cmp (get_or column.atoms i absent) (get_or column.atoms j absent))
      ∙ (λ p. atom_cmp (get_or (atoms_are p) i absent) (get_or (atoms_are p) j absent))

  left_number : (i : ℕ) → i < length left → get_or (map (λ x. pos x) (take (length left) codes)) i (pos 0) ≡ pos (get_or codes i 0)
  left_number i low =
      let count = code_count in
      let size = length-take (length left) codes in
      get_or-map (λ x. pos x) (take (length left) codes) i 0 (pos 0) (omega arith) ∙ ap (λ x. pos x) (get_or-take (length left) codes i 0 low)

  right_number : (j : ℕ) → j < length right → get_or (map (λ x. pos x) (drop (length left) codes)) j (pos 0) ≡ pos (get_or codes (length left + j) 0)
  right_number j low =
      let count = code_count in
      let size = length-drop (length left) codes in
      get_or-map (λ x. pos x) (drop (length left) codes) j 0 (pos 0) (omega arith) ∙ ap (λ x. pos x) (get_or-drop (length left) codes j 0)

  pub ranks_are : AreNumbers left right (map (λ x. pos x) (take (length left) codes)) (map (λ x. pos x) (drop (length left) codes))
  ranks_are = record {
    left_size = length-map (take (length left) codes) (λ x. pos x) ∙ length-take (length left) codes ∙ (let count = code_count in omega arith);
    right_size = length-map (drop (length left) codes) (λ x. pos x) ∙ length-drop (length left) codes ∙ (let count = code_count in omega arith);
    across = λ i j i_low j_low.
        (λ p. int_cmp (right_number j j_low p) (left_number i i_low p))
        ∙ positions (get_or codes (length left + j) 0) (get_or codes i 0)
        ∙ codes_compare (length left + j) i (omega arith) (omega arith)
        ∙ (λ p. atom_cmp (get_or-append-add left right j absent p) (get_or-append left right absent i i_low p));
    within = λ i j i_low j_low.
        (λ p. int_cmp (right_number i i_low p) (right_number j j_low p))
        ∙ positions (get_or codes (length left + i) 0) (get_or codes (length left + j) 0)
        ∙ codes_compare (length left + i) (length left + j) (omega arith) (omega arith)
        ∙ (λ p. atom_cmp (get_or-append-add left right i absent p) (get_or-append-add left right j absent p));
  }

-- ---- last keys that are numbers

number_key : (x : Atom) → kind_of x ≢ k.Symbol → atom_key x ≡ Number (number_of x)
number_key (a.Boolean x) h = refl
number_key (a.Byte x) h = refl
number_key (a.Short x) h = refl
number_key (a.Integer x) h = refl
number_key (a.Long x) h = refl
number_key (a.Character x) h = refl
number_key (a.Symbol x) h = absurd (h refl)
number_key (a.Timestamp x) h = refl
number_key (a.Month x) h = refl
number_key (a.Date x) h = refl
number_key (a.Timespan x) h = refl
number_key (a.Minute x) h = refl
number_key (a.Second x) h = refl
number_key (a.Time x) h = refl

numbers_compare : (x y : Atom) → kind_of x ≢ k.Symbol → kind_of y ≢ k.Symbol → int_cmp (number_of x) (number_of y) ≡ atom_cmp x y
numbers_compare x y h g = sym (λ p. key_cmp (number_key x h p) (number_key y g p))

pub numbers_are : (left right : List Atom) (kind : Kind) → kind ≢ k.Symbol → All (λ (x : Atom). kind_of x ≡ kind) left → All (λ (x : Atom). kind_of x ≡ kind) right → AreNumbers left right (map number_of left) (map number_of right)
numbers_are left right kind other of_left of_right = record {
  left_size = length-map left number_of;
  right_size = length-map right number_of;
  across = λ i j i_low j_low.
      (λ p. int_cmp (get_or-map number_of right j absent (pos 0) j_low p) (get_or-map number_of left i absent (pos 0) i_low p))
      ∙ numbers_compare (get_or right j absent) (get_or left i absent) (λ e. other (sym (of_right j absent j_low) ∙ e)) (λ e. other (sym (of_left i absent i_low) ∙ e));
  within = λ i j i_low j_low.
      (λ p. int_cmp (get_or-map number_of right i absent (pos 0) i_low p) (get_or-map number_of right j absent (pos 0) j_low p))
      ∙ numbers_compare (get_or right i absent) (get_or right j absent) (λ e. other (sym (of_right i absent i_low) ∙ e)) (λ e. other (sym (of_right j absent j_low) ∙ e));
}

-- ---- the numbers of a column

pub numbers-map : {X : Type 0} (f : X → Atom) (g : X → ℤ) → ((x : X) → g x ≡ number_of (f x)) → (xs : List X) → map g xs ≡ map number_of (map f xs)
numbers-map f g same [] = refl
numbers-map f g same (x ∷ xs) = λ i. same x i ∷ numbers-map f g same xs i

pub numbers-same : (f : ℤ → Atom) → ((x : ℤ) → x ≡ number_of (f x)) → (xs : List ℤ) → xs ≡ map number_of (map f xs)
numbers-same f same [] = refl
numbers-same f same (x ∷ xs) = λ i. same x i ∷ numbers-same f same xs i

pub byte_number : (kind : ByteKind) (x : ℕ) → pos x ≡ number_of (byte_atom kind x)
byte_number b.Byte x = refl
byte_number b.Character x = refl

pub integer_number : (kind : IntegerKind) (x : ℤ) → x ≡ number_of (integer_atom kind x)
integer_number i.Integer x = refl
integer_number i.Month x = refl
integer_number i.Date x = refl
integer_number i.Minute x = refl
integer_number i.Second x = refl
integer_number i.Time x = refl

pub long_number : (kind : LongKind) (x : ℤ) → x ≡ number_of (long_atom kind x)
long_number l.Long x = refl
long_number l.Timestamp x = refl
long_number l.Timespan x = refl
