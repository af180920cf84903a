-- Rows that are kept, as gathered places and as a list.
use Rattle.std.proofs.Common.{◌≡◌, ℕ, ◌+◌, ◌<◌, ◌≤◌, Bool, true, false, List, [], ◌∷◌, ◌++◌, length, get_or, take, drop, map, replicate, refl, sym, ap, ap₂, ◌∙◌, arith, zero, suc, All, subst}
use Rattle.std.specs.Simd.Lanes.{zip2}
use Rattle.std.proofs.lemmas.List.{drop_more, length-map, length-replicate, get_or-replicate}
use Rattle.std.proofs.lemmas.Simd.{length-zip2, get_or-zip2}
use Rattle.q_values.proofs.ListLemmas.{length-gathered}
use Rattle.std.proofs.lemmas.List.Elements.{All-nil, All-cons, All-head, All-tail}
use Rattle.q_values.specs.Contents.{Contents}
use Rattle.q_values.specs.Lists.{gathered}
use Rattle.q_values.specs.Table.{rows_of}
use Rattle.q_values.specs.declared.atom.Atom.{Atom}
use Rattle.q_values.specs.declared.kind.Kind.{Kind}
use Rattle.qsql_values.specs.Frames.{rows_beside, frame_of, rows_at, AreColumns}
use Rattle.q_filter.specs.Places.{places_from, places_of, is_true}
use Rattle.qsql_values.specs.Places.{column_at}
use Rattle.qsql_values.specs.Values.{selected}
use Rattle.qsql_values.proofs.FrameLemmas.{AreOfSize, length-rows}

-- ---- gathering the places that are true keeps the elements where it is true, and no others

pub gathered-places : {X : Type 0} (xs : List X) (d : X) (i : ℕ) (flags : List Bool) → length flags + i ≡ length xs → gathered xs (places_from i flags) ≡ selected flags (drop i xs)
gathered-places xs d i [] size = refl
gathered-places xs d i (true ∷ flags) size =
    let here : i < length xs = omega (arith, size) in
    let one : take 1 (drop i xs) ≡ get_or xs i d ∷ [] = rw (drop_more xs i d here) refl in
    let rest = gathered-places xs d (i + 1) flags (omega (arith, size)) in
    rw (one, rest, drop_more xs i d here) refl
gathered-places xs d i (false ∷ flags) size =
    let here : i < length xs = omega (arith, size) in
    let rest = gathered-places xs d (i + 1) flags (omega (arith, size)) in
    rw (rest, drop_more xs i d here) refl

-- no items, no places
none_true : (i : ℕ) (flags : List Bool) → length flags ≡ 0 → places_from i flags ≡ []
none_true i [] size = refl
none_true i (b ∷ flags) size = absurd (omega (arith, size))

pub none-selected : {X : Type 0} (flags : List Bool) → selected {X = X} flags [] ≡ []
none-selected [] = refl
none-selected (b ∷ flags) = refl

pub gathered-selected : {X : Type 0} (xs : List X) (flags : List Bool) → length flags ≡ length xs → gathered xs (places_from 0 flags) ≡ selected flags xs
gathered-selected [] flags size = ap (gathered []) (none_true 0 flags size) ∙ sym (none-selected flags)
gathered-selected (x ∷ xs) flags size = gathered-places (x ∷ xs) x 0 flags (omega (arith, size))

-- ---- rows are kept as the items of each column are

zip-none : {X Y Z : Type 0} (f : X → Y → Z) (xs : List X) → zip2 f xs [] ≡ []
zip-none f [] = refl
zip-none f (x ∷ xs) = refl

pub selected-zip : {X Y Z : Type 0} (f : X → Y → Z) (flags : List Bool) (xs : List X) (ys : List Y) → zip2 f (selected flags xs) (selected flags ys) ≡ selected flags (zip2 f xs ys)
selected-zip f [] xs ys = refl
selected-zip f (b ∷ flags) [] ys = refl
selected-zip f (true ∷ flags) (x ∷ xs) [] = refl
selected-zip {Y = Y} f (false ∷ flags) (x ∷ xs) [] = ap (zip2 f (selected flags xs)) (none-selected {X = Y} (false ∷ flags)) ∙ zip-none f (selected flags xs)
selected-zip f (true ∷ flags) (x ∷ xs) (y ∷ ys) = ap (λ l. f x y ∷ l) (selected-zip f flags xs ys)
selected-zip f (false ∷ flags) (x ∷ xs) (y ∷ ys) = selected-zip f flags xs ys

-- how many are true
abbrev pub count : List Bool → ℕ
count [] = 0
count (true ∷ flags) = suc (count flags)
count (false ∷ flags) = count flags

selected-replicate : {X : Type 0} (flags : List Bool) (n : ℕ) (x : X) → length flags ≡ n → selected flags (replicate n x) ≡ replicate (count flags) x
selected-replicate [] n x size = refl
selected-replicate (b ∷ flags) zero x size = absurd (omega (arith, size))
selected-replicate (true ∷ flags) (suc n) x size = ap (λ l. x ∷ l) (selected-replicate flags n x (omega (arith, size)))
selected-replicate (false ∷ flags) (suc n) x size = selected-replicate flags n x (omega (arith, size))

length-selected : {X : Type 0} (flags : List Bool) (xs : List X) → length flags ≡ length xs → length (selected flags xs) ≡ count flags
length-selected [] xs size = refl
length-selected (b ∷ flags) [] size = absurd (omega (arith, size))
length-selected (true ∷ flags) (x ∷ xs) size = ap suc (length-selected flags xs (omega (arith, size)))
length-selected (false ∷ flags) (x ∷ xs) size = length-selected flags xs (omega (arith, size))

pub rows-selected : (flags : List Bool) (n : ℕ) (columns : List Contents) → AreOfSize n columns → length flags ≡ n → rows_beside (count flags) (map (column_at (places_from 0 flags)) columns) ≡ selected flags (rows_beside n columns)
rows-selected flags n [] even size = sym (selected-replicate flags n [] size)
rows-selected flags n (c ∷ columns) even size =
    let first = gathered-selected c.atoms flags (size ∙ sym (All-head (λ (d : Contents). length d.atoms ≡ n) c columns even)) in
    let rest = rows-selected flags n columns (All-tail (λ (d : Contents). length d.atoms ≡ n) c columns even) size in
    ap₂ (zip2 (λ (x : Atom) (row : List Atom). x ∷ row)) first rest ∙ selected-zip (λ (x : Atom) (row : List Atom). x ∷ row) flags c.atoms (rows_beside n columns)

gathered_size : (flags : List Bool) (c : Contents) → length flags ≡ length c.atoms → length (column_at (places_from 0 flags) c).atoms ≡ count flags
gathered_size flags c size = ap length (gathered-selected c.atoms flags size) ∙ length-selected flags c.atoms size

pub even-selected : (flags : List Bool) (n : ℕ) (columns : List Contents) → AreOfSize n columns → length flags ≡ n → AreOfSize (count flags) (map (column_at (places_from 0 flags)) columns)
even-selected flags n [] even size = All-nil (λ (d : Contents). length d.atoms ≡ count flags)
even-selected flags n (c ∷ columns) even size =
    All-cons (λ (d : Contents). length d.atoms ≡ count flags) (column_at (places_from 0 flags) c) (map (column_at (places_from 0 flags)) columns) (gathered_size flags c (size ∙ sym (All-head (λ (d : Contents). length d.atoms ≡ n) c columns even)))
    (even-selected flags n columns (All-tail (λ (d : Contents). length d.atoms ≡ n) c columns even) size)

kinds-selected : (places : List ℕ) (columns : List Contents) → map (λ (c : Contents). c.kind) (map (column_at places) columns) ≡ map (λ (c : Contents). c.kind) columns
kinds-selected places [] = refl
kinds-selected places (c ∷ columns) = ap (λ (ks : List Kind). c.kind ∷ ks) (kinds-selected places columns)

-- the number of rows that are kept
count_rows : (flags : List Bool) (columns : List Contents) → length flags ≡ rows_of columns → rows_of (map (column_at (places_from 0 flags)) columns) ≡ count flags
count_rows [] [] size = refl
count_rows (b ∷ flags) [] size = absurd (omega (arith, size))
count_rows flags (c ∷ columns) size = gathered_size flags c size

pub frame-selected : (names : List (List ℕ)) (columns : List Contents) (flags : List Bool) → AreColumns names columns → length flags ≡ rows_of columns → frame_of names (map (column_at (places_from 0 flags)) columns) ≡ record (frame_of names columns) { rows = selected flags (rows_beside (rows_of columns) columns) }
frame-selected names columns flags are size =
    let kept = map (column_at (places_from 0 flags)) columns in
    let rows : rows_beside (rows_of kept) kept ≡ selected flags (rows_beside (rows_of columns) columns) =
    ap (λ (n : ℕ). rows_beside n kept) (count_rows flags columns size) ∙ rows-selected flags (rows_of columns) columns are.even size in
    ap₂ (λ (ks : List Kind) (rs : List (List Atom)). record { names = names; kinds = ks; rows = rs }) (kinds-selected (places_from 0 flags) columns) rows

pub columns-selected : (names : List (List ℕ)) (columns : List Contents) (flags : List Bool) → AreColumns names columns → length flags ≡ rows_of columns → AreColumns names (map (column_at (places_from 0 flags)) columns)
columns-selected names columns flags are size = record {
  named = are.named ∙ sym (length-map columns (column_at (places_from 0 flags)));
  even = even_again (count_rows flags columns size);
}
  where
    even_again : rows_of (map (column_at (places_from 0 flags)) columns) ≡ count flags → AreOfSize (rows_of (map (column_at (places_from 0 flags)) columns)) (map (column_at (places_from 0 flags)) columns)
    even_again e = subst (λ (n : ℕ). AreOfSize n (map (column_at (places_from 0 flags)) columns)) (sym e) (even-selected flags (rows_of columns) columns are.even size)

-- ---- the places lie within the columns

places_below : (n j : ℕ) (flags : List Bool) → length flags + j ≤ n → All (λ (p : ℕ). p < n) (places_from j flags)
places_below n j [] size = All-nil (λ (p : ℕ). p < n)
places_below n j (true ∷ flags) size = All-cons (λ (p : ℕ). p < n) j (places_from (j + 1) flags) (omega (arith, size)) (places_below n (j + 1) flags (omega (arith, size)))
places_below n j (false ∷ flags) size = places_below n (j + 1) flags (omega (arith, size))

abbrev pub Within : List ℕ → List Contents → Type 0
Within places columns = All (λ (c : Contents). All (λ (p : ℕ). p < length c.atoms) places) columns

all_fit : (flags : List Bool) (columns : List Contents) → AreOfSize (length flags) columns → Within (places_from 0 flags) columns
all_fit flags [] even = All-nil (λ (c : Contents). All (λ (p : ℕ). p < length c.atoms) (places_from 0 flags))
all_fit flags (c ∷ columns) even =
    let size = All-head (λ (d : Contents). length d.atoms ≡ length flags) c columns even in
    All-cons (λ (d : Contents). All (λ (p : ℕ). p < length d.atoms) (places_from 0 flags)) c columns (places_below (length c.atoms) 0 flags (omega (arith, size)))
    (all_fit flags columns (All-tail (λ (d : Contents). length d.atoms ≡ length flags) c columns even))

-- the places at which booleans hold lie within columns of their length
pub places_fit : (test : List Atom) (columns : List Contents) → AreOfSize (length test) columns → Within (places_of test) columns
places_fit test columns even = all_fit (map is_true test) columns (subst (λ (n : ℕ). AreOfSize n columns) (sym (length-map test is_true)) even)

-- ---- rows at indices are the rows of the columns at these indices

read : {X : Type 0} (xs : List X) (p : ℕ) (x : X) → p < length xs → take 1 (drop p xs) ≡ get_or xs p x ∷ []
read xs p x here = rw (drop_more xs p x here) refl

zip-gathered : {X Y Z : Type 0} (f : X → Y → Z) (xs : List X) (ys : List Y) (places : List ℕ) → length xs ≡ length ys → All (λ (p : ℕ). p < length xs) places → zip2 f (gathered xs places) (gathered ys places) ≡ gathered (zip2 f xs ys) places
zip-gathered f xs ys [] size within = refl
zip-gathered f [] ys (p ∷ places) size within = absurd (omega (arith, All-head (λ (q : ℕ). q < 0) p places within))
zip-gathered f (x ∷ xs) [] (p ∷ places) size within = absurd (omega (arith, size))
zip-gathered f (x ∷ xs) (y ∷ ys) (p ∷ places) size within =
    let first : p < length (x ∷ xs) = All-head (λ (q : ℕ). q < length (x ∷ xs)) p places within in
    let second : p < length (y ∷ ys) = omega (arith, first, size) in
    let both : p < length (zip2 f (x ∷ xs) (y ∷ ys)) = omega (arith, first, length-zip2 f (x ∷ xs) (y ∷ ys) size) in
    let rest = zip-gathered f (x ∷ xs) (y ∷ ys) places size (All-tail (λ (q : ℕ). q < length (x ∷ xs)) p places within) in
    ap₂ (zip2 f) (ap (λ l. l ++ gathered (x ∷ xs) places) (read (x ∷ xs) p x first)) (ap (λ l. l ++ gathered (y ∷ ys) places) (read (y ∷ ys) p y second))
    ∙ ap (λ l. f (get_or (x ∷ xs) p x) (get_or (y ∷ ys) p y) ∷ l) rest
    ∙ ap (λ z. z ∷ gathered (zip2 f (x ∷ xs) (y ∷ ys)) places) (sym (get_or-zip2 f (x ∷ xs) (y ∷ ys) p x y (f x y) first second))
    ∙ ap (λ l. l ++ gathered (zip2 f (x ∷ xs) (y ∷ ys)) places) (sym (read (zip2 f (x ∷ xs) (y ∷ ys)) p (f x y) both))

replicate-gathered : {X : Type 0} (n : ℕ) (x : X) (places : List ℕ) → All (λ (p : ℕ). p < n) places → replicate (length places) x ≡ gathered (replicate n x) places
replicate-gathered n x [] within = refl
replicate-gathered n x (p ∷ places) within =
    let first : p < n = All-head (λ (q : ℕ). q < n) p places within in
    let here : p < length (replicate n x) = omega (arith, first, length-replicate n x) in
    ap (λ l. x ∷ l) (replicate-gathered n x places (All-tail (λ (q : ℕ). q < n) p places within))
    ∙ ap (λ y. y ∷ gathered (replicate n x) places) (sym (get_or-replicate n p x x first))
    ∙ ap (λ l. l ++ gathered (replicate n x) places) (sym (read (replicate n x) p x here))

rows-gathered : (places : List ℕ) (n : ℕ) (columns : List Contents) → AreOfSize n columns → All (λ (p : ℕ). p < n) places → rows_beside (length places) (map (column_at places) columns) ≡ gathered (rows_beside n columns) places
rows-gathered places n [] even within = replicate-gathered n [] places within
rows-gathered places n (c ∷ columns) even within =
    let size : length c.atoms ≡ n = All-head (λ (d : Contents). length d.atoms ≡ n) c columns even in
    let others = All-tail (λ (d : Contents). length d.atoms ≡ n) c columns even in
    ap (zip2 (λ (x : Atom) (row : List Atom). x ∷ row) (gathered c.atoms places)) (rows-gathered places n columns others within)
    ∙ zip-gathered (λ (x : Atom) (row : List Atom). x ∷ row) c.atoms (rows_beside n columns) places (size ∙ sym (length-rows n columns others)) (subst (λ (m : ℕ). All (λ (p : ℕ). p < m) places) (sym size) within)

count-gathered : (places : List ℕ) (c : Contents) (n : ℕ) → length c.atoms ≡ n → All (λ (p : ℕ). p < n) places → length (gathered c.atoms places) ≡ length places
count-gathered places c n size within = length-gathered c.atoms places (subst (λ (m : ℕ). All (λ (p : ℕ). p < m) places) (sym size) within)

pub frame-gathered : (names : List (List ℕ)) (columns : List Contents) (places : List ℕ) → AreColumns names columns → All (λ (p : ℕ). p < rows_of columns) places → frame_of names (map (column_at places) columns) ≡ rows_at places (frame_of names columns)
frame-gathered names [] [] are within = refl
frame-gathered names [] (p ∷ places) are within = absurd (omega (arith, All-head (λ (q : ℕ). q < 0) p places within))
frame-gathered names (c ∷ columns) places are within =
    let all = c ∷ columns in
    let count = count-gathered places c (length c.atoms) refl within in
    ap₂ (λ (ks : List Kind) (rs : List (List Atom)). record { names = names; kinds = ks; rows = rs }) (kinds-selected places all) (ap (λ (n : ℕ). rows_beside n (map (column_at places) all)) count ∙ rows-gathered places (length c.atoms) all are.even within)

even-gathered : (places : List ℕ) (n : ℕ) (columns : List Contents) → AreOfSize n columns → All (λ (p : ℕ). p < n) places → AreOfSize (length places) (map (column_at places) columns)
even-gathered places n [] even within = All-nil (λ (d : Contents). length d.atoms ≡ length places)
even-gathered places n (c ∷ columns) even within =
    All-cons (λ (d : Contents). length d.atoms ≡ length places) (column_at places c) (map (column_at places) columns) (count-gathered places c n (All-head (λ (d : Contents). length d.atoms ≡ n) c columns even) within)
    (even-gathered places n columns (All-tail (λ (d : Contents). length d.atoms ≡ n) c columns even) within)

pub columns-gathered : (names : List (List ℕ)) (columns : List Contents) (places : List ℕ) → AreColumns names columns → All (λ (p : ℕ). p < rows_of columns) places → AreColumns names (map (column_at places) columns)
columns-gathered names [] places are within = record { named = are.named; even = All-nil (λ (d : Contents). length d.atoms ≡ 0) }
columns-gathered names (c ∷ columns) places are within =
    let count = count-gathered places c (length c.atoms) refl within in
    record {
      named = are.named ∙ sym (length-map (c ∷ columns) (column_at places));
      even = subst (λ (n : ℕ). AreOfSize n (map (column_at places) (c ∷ columns))) (sym count) (even-gathered places (length c.atoms) (c ∷ columns) are.even within);
    }

-- indices of rows are indices of each column
pub places_inside : (columns : List Contents) (places : List ℕ) → AreOfSize (rows_of columns) columns → All (λ (p : ℕ). p < rows_of columns) places → Within places columns
places_inside columns places even within = inside columns (rows_of columns) even within
  where
    inside : (cs : List Contents) (n : ℕ) → AreOfSize n cs → All (λ (p : ℕ). p < n) places → Within places cs
    inside [] n even within = All-nil (λ (c : Contents). All (λ (p : ℕ). p < length c.atoms) places)
    inside (c ∷ cs) n even within =
        All-cons (λ (d : Contents). All (λ (p : ℕ). p < length d.atoms) places) c cs (subst (λ (m : ℕ). All (λ (p : ℕ). p < m) places) (sym (All-head (λ (d : Contents). length d.atoms ≡ n) c cs even)) within)
        (inside cs n (All-tail (λ (d : Contents). length d.atoms ≡ n) c cs even) within)
