-- Phrases keep the same rows where those of the dates that they don't keep were left out before.
use Rattle.std.proofs.Common.{◌≡◌, ℕ, ℤ, Bool, true, false, ◌&&◌, ◌||◌, cond, List, [], ◌∷◌, length, map, refl, sym, ap, ap₂, ◌∙◌, arith}
use Rattle.std.specs.Prelude.{codes}
use Rattle.std.specs.List.{list_all}
use Rattle.std.specs.Str.{bytes_eq}
use Rattle.std.proofs.lemmas.List.{length-map}
use Rattle.std.proofs.lemmas.Slice.Eq.{bytes_eq-Decides}
use Rattle.q_values.specs.Contents.{Contents}
use Rattle.q_values.specs.Tree.{Tree, atom, vector}
use Rattle.q_values.specs.declared.atom.Atom.{Atom}
use Rattle.q_values.specs.declared.atom.Atom.TheVariants as a
use Rattle.q_values.specs.declared.kind.Kind.{Kind}
use Rattle.q_values.specs.declared.kind.Kind.TheVariants as k
use Rattle.q_verbs.specs.declared.verb.Verb.{Verb}
use Rattle.q_verbs.specs.declared.verb.Verb.TheVariants as v
use Rattle.q_filter.specs.Places.{is_true}
use Rattle.qsql_request.specs.Forms.{Form, constant, column, two}
use Rattle.qsql_request.specs.Shapes.{is_atom, is_test}
use Rattle.qsql_values.specs.ByRow.{frame_where}
use Rattle.qsql_values.specs.Frames.{Frame, column_in, field_in}
use Rattle.qsql_values.specs.Values.{val, value_of_two, truths, selected, rows_where, kept}
use Rattle.qsql_values.proofs.KeepingLemmas.{truths_of_booleans}
use Rattle.qsql_dates.specs.Dates.{names_date, fits_verb, is_date_phrase, date_column, holds_on, keeps}

no : {P : Type 0} → false ≡ true → P
no e = absurd cc

both : (x y : Bool) → (x && y) ≡ true → (x ≡ true) × (y ≡ true)
both true y e = (refl, e)
both false y e = no e

-- ---- a verb with a column at its left goes row by row

-- where it holds at one date
abbrev at_date : Verb → Tree → ℤ → Bool
at_date verb value date = list_all (λ (b : Bool). b) (truths (value_of_two verb (vector (date_column (date ∷ []))) value))

and_true : (x : Bool) → (x && true) ≡ x
and_true true = refl
and_true false = refl

tests-by-date : (test : Atom → Bool) (dates : List ℤ)
    → map is_true (map (λ (x : Atom). a.Boolean (test x)) (map (λ (d : ℤ). a.Date d) dates)) ≡ map (λ (d : ℤ). list_all (λ (b : Bool). b) (map is_true (map (λ (x : Atom). a.Boolean (test x)) (a.Date d ∷ [])))) dates
tests-by-date test [] = refl
tests-by-date test (d ∷ dates) = ap₂ (λ (b : Bool) (bs : List Bool). b ∷ bs) (sym (and_true (test (a.Date d)))) (tests-by-date test dates)

items-by-date : (f : Atom → Atom) (dates : List ℤ)
    → map is_true (map f (map (λ (d : ℤ). a.Date d) dates)) ≡ map (λ (d : ℤ). list_all (λ (b : Bool). b) (map is_true (map f (a.Date d ∷ [])))) dates
items-by-date f [] = refl
items-by-date f (d ∷ dates) = ap₂ (λ (b : Bool) (bs : List Bool). b ∷ bs) (sym (and_true (is_true (f (a.Date d))))) (items-by-date f dates)

two-by-date : (verb : Verb) (value : Tree) (dates : List ℤ) → (is_test verb || is_atom value) ≡ true → truths (value_of_two verb (vector (date_column dates)) value) ≡ map (at_date verb value) dates
two-by-date v.In value dates fits = tests-by-date _ dates
two-by-date v.Within value dates fits = tests-by-date _ dates
two-by-date v.Like value dates fits = tests-by-date _ dates
two-by-date verb (atom y) dates fits = items-by-date _ dates
two-by-date verb value dates fits = no fits

-- ---- where a date phrase holds, by the dates of rows

date-named : (name : List ℕ) → bytes_eq name (codes "date") ≡ true → name ≡ codes "date"
date-named name same = (bytes_eq-Decides name (codes "date")).0 same

over-dates : (phrase : Form) (frame : Frame) (dates : List ℤ) → is_date_phrase phrase ≡ true → column_in frame (codes "date") ≡ date_column dates → truths (val frame phrase) ≡ map (λ (d : ℤ). holds_on d phrase) dates
over-dates (two verb (column name) (constant value)) frame dates is columns =
    let parts = both (bytes_eq name (codes "date")) (is_test verb || is_atom value) is in
    rw (date-named name parts.0) (ap (λ (c : Contents). truths (value_of_two verb (vector c) value)) columns ∙ two-by-date verb value dates parts.1)
over-dates (two verb (column name) right) frame dates is columns = let parts = both (names_date (column name)) (fits_verb verb right) is in no parts.1
over-dates (two verb left right) frame dates is columns = let parts = both (names_date left) (fits_verb verb right) is in no parts.0
over-dates phrase frame dates is columns = no is

-- ---- rows that flags keep

selected-map : {X Y : Type 0} (f : X → Y) (flags : List Bool) (xs : List X) → map f (selected flags xs) ≡ selected flags (map f xs)
selected-map f [] xs = refl
selected-map f (b ∷ flags) [] = refl
selected-map f (true ∷ flags) (x ∷ xs) = ap (λ l. f x ∷ l) (selected-map f flags xs)
selected-map f (false ∷ flags) (x ∷ xs) = selected-map f flags xs

-- where each is true, all are kept
selected-all : {D X : Type 0} (test : D → Bool) (ds : List D) (xs : List X) → length ds ≡ length xs → list_all test ds ≡ true → selected (map test ds) xs ≡ xs
selected-all test [] [] size all = refl
selected-all test [] (x ∷ xs) size all = absurd (omega (arith, size))
selected-all test (d ∷ ds) [] size all = absurd (omega (arith, size))
selected-all test (d ∷ ds) (x ∷ xs) size all =
    let parts = both (test d) (list_all test ds) all in
    ap (λ (b : Bool). selected (b ∷ map test ds) (x ∷ xs)) parts.0 ∙ ap (λ l. x ∷ l) (selected-all test ds xs (omega (arith, size)) parts.1)

-- those that are kept pass the test
kept-pass : {D : Type 0} (test weaker : D → Bool) → ((d : D) → test d ≡ true → weaker d ≡ true) → (ds : List D) → list_all weaker (selected (map test ds) ds) ≡ true
kept-pass test weaker implies [] = refl
kept-pass test weaker implies (d ∷ ds) = by_test (kept-pass test weaker implies ds) (test d) refl
  where
    by_test : list_all weaker (selected (map test ds) ds) ≡ true → (b : Bool) → test d ≡ b → list_all weaker (selected (b ∷ map test ds) (d ∷ ds)) ≡ true
    by_test rest true e = ap (λ (b : Bool). b && list_all weaker (selected (map test ds) ds)) (implies d e) ∙ rest
    by_test rest false e = rest

-- of what passes a test, what passes another one passes both
abbrev Twice : {D X : Type 0} (first second : D → Bool) (ds : List D) (xs : List X) → Type 0
Twice {D = D} first second ds xs = selected (map second (selected (map first ds) ds)) (selected (map first ds) xs) ≡ selected (map (λ (d : D). first d && second d) ds) xs

selected-twice : {D X : Type 0} (first second : D → Bool) (ds : List D) (xs : List X) → length ds ≡ length xs
    → selected (map second (selected (map first ds) ds)) (selected (map first ds) xs) ≡ selected (map (λ (d : D). first d && second d) ds) xs
selected-twice first second [] [] size = refl
selected-twice first second [] (x ∷ xs) size = absurd (omega (arith, size))
selected-twice first second (d ∷ ds) [] size = absurd (omega (arith, size))
selected-twice {D = D} first second (d ∷ ds) (x ∷ xs) size = by_first (selected-twice first second ds xs (omega (arith, size))) (first d)
  where
    by_second : Twice first second ds xs → (b : Bool) → selected (b ∷ map second (selected (map first ds) ds)) (x ∷ selected (map first ds) xs) ≡ selected (b ∷ map (λ (e : D). first e && second e) ds) (x ∷ xs)
    by_second rest true = ap (λ l. x ∷ l) rest
    by_second rest false = rest

    by_first : Twice first second ds xs → (b : Bool) → selected (map second (selected (b ∷ map first ds) (d ∷ ds))) (selected (b ∷ map first ds) (x ∷ xs)) ≡ selected ((b && second d) ∷ map (λ (e : D). first e && second e) ds) (x ∷ xs)
    by_first rest true = by_second rest (second d)
    by_first rest false = rest

length-selected : {X Y : Type 0} (flags : List Bool) (xs : List X) (ys : List Y) → length xs ≡ length ys → length (selected flags xs) ≡ length (selected flags ys)
length-selected [] xs ys e = refl
length-selected (b ∷ flags) [] [] e = refl
length-selected (b ∷ flags) [] (y ∷ ys) e = absurd (omega (arith, e))
length-selected (b ∷ flags) (x ∷ xs) [] e = absurd (omega (arith, e))
length-selected (true ∷ flags) (x ∷ xs) (y ∷ ys) e = let rest = length-selected flags xs ys (omega (arith, e)) in omega (arith, rest)
length-selected (false ∷ flags) (x ∷ xs) (y ∷ ys) e = length-selected flags xs ys (omega (arith, e))

-- the dates of rows that are kept
dates-where : (frame : Frame) (flags : List Bool) (dates : List ℤ) → column_in frame (codes "date") ≡ date_column dates → column_in (frame_where flags frame) (codes "date") ≡ date_column (selected flags dates)
dates-where frame flags dates is =
    let kinds : (column_in frame (codes "date")).kind ≡ k.Date = ap (λ (c : Contents). c.kind) is in
    let atoms : map (field_in frame.names (codes "date")) (selected flags frame.rows) ≡ map (λ (d : ℤ). a.Date d) (selected flags dates) =
    selected-map (field_in frame.names (codes "date")) flags frame.rows ∙ ap (λ (c : Contents). selected flags c.atoms) is ∙ sym (selected-map (λ (d : ℤ). a.Date d) flags dates) in
    ap₂ (λ (kind : Kind) (xs : List Atom). record { kind = kind; atoms = xs }) kinds atoms

-- there is a date for each row
dates-size : (frame : Frame) (dates : List ℤ) → column_in frame (codes "date") ≡ date_column dates → length dates ≡ length frame.rows
dates-size frame dates is =
    sym (length-map dates (λ (d : ℤ). a.Date d)) ∙ sym (ap (λ (c : Contents). length c.atoms) is) ∙ length-map frame.rows (field_in frame.names (codes "date"))

all-true : {D : Type 0} (ds : List D) → list_all (λ (d : D). true) ds ≡ true
all-true [] = refl
all-true (d ∷ ds) = all-true ds

-- ---- the rows that phrases keep

same-rows : (frame : Frame) (rows : List (List Atom)) → rows ≡ frame.rows → record frame { rows = rows } ≡ frame
same-rows frame rows e = ap (λ (rs : List (List Atom)). record frame { rows = rs }) e

-- what is to be shown of phrases, over all rows
abbrev Again : List Form → Type 0
Again phrases = (frame : Frame) (dates : List ℤ) → column_in frame (codes "date") ≡ date_column dates → kept phrases (frame_where (map (keeps phrases) dates) frame) ≡ kept phrases frame

first-holds : (phrase : Form) (phrases : List Form) (d : ℤ) → (holds_on d phrase && keeps phrases d) ≡ true → holds_on d phrase ≡ true
first-holds phrase phrases d e = (both (holds_on d phrase) (keeps phrases d) e).0

pub kept-dates : (phrases : List Form) (frame : Frame) (dates : List ℤ) → column_in frame (codes "date") ≡ date_column dates → kept phrases (frame_where (map (keeps phrases) dates) frame) ≡ kept phrases frame
kept-dates [] frame dates is = same-rows frame (selected (map (keeps []) dates) frame.rows) (selected-all (keeps []) dates frame.rows (dates-size frame dates is) (all-true dates))
kept-dates (p ∷ phrases) frame dates is = by_phrase (kept-dates phrases) (is_date_phrase p) refl
  where
    size : length dates ≡ length frame.rows
    size = dates-size frame dates is

    -- a date phrase: the rows that it keeps are those of the dates at which it holds
    dated : Again phrases → is_date_phrase p ≡ true → kept phrases (rows_where p (frame_where (map (λ (d : ℤ). holds_on d p && keeps phrases d) dates) frame)) ≡ kept phrases (rows_where p frame)
    dated again_for test =
        let flags : List Bool = map (λ (d : ℤ). holds_on d p && keeps phrases d) dates in
        let left = frame_where flags frame in
        let left_dates = selected flags dates in
        let again : truths (val left p) ≡ map (λ (d : ℤ). holds_on d p) left_dates = over-dates p left left_dates test (dates-where frame flags dates is) in
        let all : list_all (λ (d : ℤ). holds_on d p) left_dates ≡ true = kept-pass (λ (d : ℤ). holds_on d p && keeps phrases d) (λ (d : ℤ). holds_on d p) (first-holds p phrases) dates in
        let left_size : length left_dates ≡ length left.rows = dates-size left left_dates (dates-where frame flags dates is) in
        let stays : rows_where p left ≡ left =
        same-rows left (selected (truths (val left p)) left.rows)
        (ap (λ (fs : List Bool). selected fs left.rows) again ∙ selected-all (λ (d : ℤ). holds_on d p) left_dates left.rows left_size all) in
        let ones : List Bool = map (λ (d : ℤ). holds_on d p) dates in
        let next = frame_where ones frame in
        let first : rows_where p frame ≡ next = ap (λ (fs : List Bool). frame_where fs frame) (over-dates p frame dates test is) in
        let twice : frame_where (map (keeps phrases) (selected ones dates)) next ≡ left =
        ap (λ (rows : List (List Atom)). record frame { rows = rows }) (selected-twice (λ (d : ℤ). holds_on d p) (keeps phrases) dates frame.rows size) in
        ap (kept phrases) stays ∙ sym (ap (kept phrases) twice) ∙ again_for next (selected ones dates) (dates-where frame ones dates is) ∙ sym (ap (kept phrases) first)

    by_phrase : Again phrases → (b : Bool) → is_date_phrase p ≡ b
        → kept phrases (rows_where p (frame_where (map (λ (d : ℤ). cond b (holds_on d p && keeps phrases d) true) dates) frame)) ≡ kept phrases (rows_where p frame)
    by_phrase again_for true test = dated again_for test
    by_phrase again_for false test = ap (λ (f : Frame). kept phrases (rows_where p f)) (same-rows frame (selected (map (λ (d : ℤ). true) dates) frame.rows) (selected-all (λ (d : ℤ). true) dates frame.rows size (all-true dates)))

-- the flags of a column of booleans
pub flags_kept : (flags : List Bool) → truths (vector (record { kind = k.Boolean; atoms = map (λ (b : Bool). a.Boolean b) flags })) ≡ flags
flags_kept flags = truths_of_booleans flags
