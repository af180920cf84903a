-- Columns that grow: what an update adds to each of them.
use Rattle.std.proofs.Common.{◌≡◌, ℕ, zero, suc, ◌+◌, ◌-◌, ◌^◌, min, ◌<◌, ◌==◌, ◌++◌, Bool, true, false, cond, List, [], ◌∷◌, length, take, drop, map, refl, sym, ap, ap₂, ◌∙◌, subst, arith, Some, None, slice_get, set, inl, inr, append-nil}
use Rattle.std.specs.Prelude.{Result, Ok, Err}
use Rattle.std.specs.Result.{is_err, OnOk, OnErr}
use Rattle.std.specs.List.{AllByRecursion, sum_by}
use Rattle.std.proofs.lemmas.Bool.{eqb-true, eq-eqb, cases_eq}
use Rattle.std.proofs.lemmas.Grind.{flat_map-append}
use Rattle.std.proofs.lemmas.List.Sums.{sum_by-append}
use Rattle.q_values.specs.Contents.{Contents}
use Rattle.q_values.specs.declared.atom.Atom.{Atom}
use Rattle.std.proofs.Math.Seq.{take-append_seam}
use Rattle.std.proofs.lemmas.List.{take-append-drop}
use Rattle.q_values.specs.declared.kind.Kind.{Kind}
use Rattle.day_rows.specs.Blocks.{mark_of, rows_marked, columns_or_none, columns_with, atoms_at, IsBlock}
use Rattle.day_rows.specs.Day.{IsUpdate, entry_rows, total_rows}
use Rattle.day_rows.proofs.FilledLemmas.{total-cons, total-push}
use Rattle.day_rows.proofs.BlockLemmas.{length-column}
use Rattle.day_rows.specs.Joined.{atoms_of, atoms_in, rows_in, joined}
use Rattle.day_rows.specs.declared.block.Mark.{Mark}
use Rattle.day_rows.specs.declared.entry.Entry.{Entry}
use Rattle.day_rows.specs.declared.entry.Entry.TheVariants as e

-- what holds where the call has not failed
pub on_ok-went : {T E P : Type 0} (r : Result T E) → is_err r ≡ false → OnOk r P → P
on_ok-went (Ok x) h holds = holds
on_ok-went (Err y) h holds = cc

pub on_ok-more : {T E P Q : Type 0} (r : Result T E) → (P → Q) → OnOk r P → OnOk r Q
on_ok-more (Ok x) f holds = f holds
on_ok-more (Err y) f holds = holds

pub on_err-more : {T E P Q : Type 0} (r : Result T E) → (P → Q) → OnErr r P → OnErr r Q
on_err-more (Ok x) f holds = holds
on_err-more (Err y) f holds = f holds

-- a column without atoms at the end
pub atoms-push_empty : (xs : List Contents) (x : Contents) (c : ℕ) → x.atoms ≡ [] → atoms_of (slice_get (xs ++ x ∷ []) c) ≡ atoms_of (slice_get xs c)
atoms-push_empty [] x zero is = is
atoms-push_empty [] x (suc c) is = refl
atoms-push_empty (y ∷ xs) x zero is = refl
atoms-push_empty (y ∷ xs) x (suc c) is = atoms-push_empty xs x c is

-- a table without columns at the end
pub tables-push_empty : (xs : List (List Contents)) (t c : ℕ) → atoms_at (xs ++ [] ∷ []) t c ≡ atoms_at xs t c
tables-push_empty [] zero c = refl
tables-push_empty [] (suc t) c = refl
tables-push_empty (y ∷ xs) zero c = refl
tables-push_empty (y ∷ xs) (suc t) c = tables-push_empty xs t c

get-set_same : {X : Type 0} (xs : List X) (i : ℕ) (x : X) → i < length xs → slice_get (set xs i x) i ≡ Some x
get-set_same [] i x i_in = absurd (omega (arith, i_in))
get-set_same (y ∷ xs) zero x i_in = refl
get-set_same (y ∷ xs) (suc i) x i_in = get-set_same xs i x (omega (arith, i_in))

get-set_other : {X : Type 0} (xs : List X) (i c : ℕ) (x : X) → (i ≡ c → ⊥) → slice_get (set xs i x) c ≡ slice_get xs c
get-set_other [] i c x other = refl
get-set_other (y ∷ xs) zero zero x other = absurd (other refl)
get-set_other (y ∷ xs) zero (suc c) x other = refl
get-set_other (y ∷ xs) (suc i) zero x other = refl
get-set_other (y ∷ xs) (suc i) (suc c) x other = get-set_other xs i c x (λ same. other (ap suc same))

get-take_past : {X : Type 0} (xs : List X) (i : ℕ) → slice_get (take i xs) i ≡ None
get-take_past [] zero = refl
get-take_past [] (suc i) = refl
get-take_past (x ∷ xs) zero = refl
get-take_past (x ∷ xs) (suc i) = get-take_past xs i

get-take_last : {X : Type 0} (xs : List X) (i : ℕ) → slice_get (take (i + 1) xs) i ≡ slice_get xs i
get-take_last [] zero = refl
get-take_last [] (suc i) = let same : suc i + 1 ≡ suc (i + 1) = omega arith in rw same refl
get-take_last (x ∷ xs) zero = refl
get-take_last (x ∷ xs) (suc i) = let same : suc i + 1 ≡ suc (i + 1) = omega arith in rw same (get-take_last xs i)

get-take_other : {X : Type 0} (xs : List X) (i c : ℕ) → (i ≡ c → ⊥) → slice_get (take (i + 1) xs) c ≡ slice_get (take i xs) c
get-take_other [] zero c other = refl
get-take_other [] (suc i) c other = let same : suc i + 1 ≡ suc (i + 1) = omega arith in rw same refl
get-take_other (x ∷ xs) zero zero other = absurd (other refl)
get-take_other (x ∷ xs) zero (suc c) other = refl
get-take_other (x ∷ xs) (suc i) zero other = let same : suc i + 1 ≡ suc (i + 1) = omega arith in rw same refl
get-take_other (x ∷ xs) (suc i) (suc c) other = let same : suc i + 1 ≡ suc (i + 1) = omega arith in rw same (get-take_other xs i c (λ is. other (ap suc is)))

-- what a loop over columns has made of each of them, after one more: F of its atoms and those of the column beside it
pub column-step : (F : List Atom → List Atom → List Atom) → ((a : List Atom) → F a [] ≡ a) → (columns old more : List Contents) (i : ℕ) (x own y : Contents) → i < length columns → slice_get columns i ≡ Some own → slice_get more i ≡ Some y → x.atoms ≡ F own.atoms y.atoms
    → ((c : ℕ) → atoms_of (slice_get columns c) ≡ F (atoms_of (slice_get old c)) (atoms_of (slice_get (take i more) c)))
    → (c : ℕ) → atoms_of (slice_get (set columns i x) c) ≡ F (atoms_of (slice_get old c)) (atoms_of (slice_get (take (i + 1) more) c))
column-step F none columns old more i x own y i_in own_is y_is x_is before c =
    elim (cases_eq i c) [
      | inl same ↦
          let was : own.atoms ≡ atoms_of (slice_get old i) =
          sym (ap atoms_of own_is) ∙ before i ∙ ap (λ o. F (atoms_of (slice_get old i)) (atoms_of o)) (get-take_past more i) ∙ none (atoms_of (slice_get old i)) in
          let here : atoms_of (slice_get (set columns i x) i) ≡ F (atoms_of (slice_get old i)) (atoms_of (slice_get (take (i + 1) more) i)) =
          ap atoms_of (get-set_same columns i x i_in) ∙ x_is ∙ ap₂ F was (sym (ap atoms_of (get-take_last more i ∙ y_is))) in
          subst (λ n. atoms_of (slice_get (set columns i x) n) ≡ F (atoms_of (slice_get old n)) (atoms_of (slice_get (take (i + 1) more) n))) same here
      | inr other ↦
          ap atoms_of (get-set_other columns i c x other) ∙ before c ∙ ap (λ o. F (atoms_of (slice_get old c)) (atoms_of o)) (sym (get-take_other more i c other))
    ]

-- the atoms of each table, after an update of one of them
pub tables-step : (tables : List (List Contents)) (i : ℕ) (own grown columns : List Contents) → i < length tables → slice_get tables i ≡ Some own
    → ((c : ℕ) → atoms_of (slice_get grown c) ≡ atoms_of (slice_get own c) ++ atoms_of (slice_get columns c))
    → (t c : ℕ) → atoms_at (set tables i grown) t c ≡ atoms_at tables t c ++ cond (i == t) (atoms_of (slice_get columns c)) []
tables-step tables i own grown columns i_in own_is more t c =
    elim (cases_eq i t) [
      | inl same ↦
          let here : atoms_at (set tables i grown) i c ≡ atoms_at tables i c ++ atoms_of (slice_get columns c) =
          ap (λ o. atoms_of (slice_get (columns_or_none o) c)) (get-set_same tables i grown i_in) ∙ more c ∙ ap (λ o. atoms_of (slice_get (columns_or_none o) c) ++ atoms_of (slice_get columns c)) (sym own_is) in
          rw (eq-eqb i t same) (subst (λ n. atoms_at (set tables i grown) n c ≡ atoms_at tables n c ++ atoms_of (slice_get columns c)) same here)
      | inr other ↦ rest (i == t) refl other
    ]
  where
    rest : (b : Bool) → (i == t) ≡ b → (i ≡ t → ⊥) → atoms_at (set tables i grown) t c ≡ atoms_at tables t c ++ cond b (atoms_of (slice_get columns c)) []
    rest true h other = absurd (other (eqb-true i t h))
    rest false h other = ap (λ o. atoms_of (slice_get (columns_or_none o) c)) (get-set_other tables i t grown other) ∙ sym (append-nil (atoms_at tables t c))

-- the same, where the update changed none
pub tables-kept : (tables : List (List Contents)) (i : ℕ) (own kept : List Contents) → i < length tables → slice_get tables i ≡ Some own
    → ((c : ℕ) → atoms_of (slice_get kept c) ≡ atoms_of (slice_get own c)) → (t c : ℕ) → atoms_at (set tables i kept) t c ≡ atoms_at tables t c
tables-kept tables i own kept i_in own_is same t c =
    elim (cases_eq i t) [
      | inl is ↦
          subst (λ n. atoms_at (set tables i kept) n c ≡ atoms_at tables n c) is
          (ap (λ o. atoms_of (slice_get (columns_or_none o) c)) (get-set_same tables i kept i_in) ∙ same c ∙ ap (λ o. atoms_of (slice_get (columns_or_none o) c)) (sym own_is))
      | inr other ↦ ap (λ o. atoms_of (slice_get (columns_or_none o) c)) (get-set_other tables i t kept other)
    ]

-- a block with one more update
pub block-pushed : (updates : List Entry) (entry : Entry) (tables grown : List (List Contents)) (marks : List Mark) (rows more_rows : ℕ) → IsBlock updates tables marks rows → more_rows ≡ min (rows + entry_rows entry) (2 ^ 64 - 1) → ((t c : ℕ) → atoms_at grown t c ≡ atoms_at tables t c ++ atoms_in t c entry)
    → IsBlock (updates ++ entry ∷ []) grown (marks ++ mark_of entry ∷ []) more_rows
block-pushed updates entry tables grown marks rows more_rows is counted more = record {
  columns_are = λ t c. more t c ∙ ap (λ a. a ++ atoms_in t c entry) (is.columns_are t c) ∙ sym (flat_map-append (atoms_in t c) updates (entry ∷ []) ∙ ap (λ a. joined t c updates ++ a) (append-nil (atoms_in t c entry)));
  marks_are = ap (λ m. m ++ mark_of entry ∷ []) is.marks_are ∙ sym (map-push mark_of updates entry);
  rows_are = omega (arith, counted, is.rows_are, total-push updates entry);
}
  where
    map-push : {A B : Type 0} (f : A → B) (xs : List A) (x : A) → map f (xs ++ x ∷ []) ≡ map f xs ++ f x ∷ []
    map-push f [] x = refl
    map-push f (y ∷ xs) x = ap (λ l. f y ∷ l) (map-push f xs x)

pub block-kept : (updates : List Entry) (tables same : List (List Contents)) (marks : List Mark) (rows : ℕ) → IsBlock updates tables marks rows → ((t c : ℕ) → atoms_at same t c ≡ atoms_at tables t c) → IsBlock updates same marks rows
block-kept updates tables same marks rows is kept = record { columns_are = λ t c. kept t c ∙ is.columns_are t c; marks_are = is.marks_are; rows_are = is.rows_are }

pub mark-rows : (entry : Entry) → (mark_of entry).rows ≡ entry_rows entry
mark-rows (e.Upd by to columns) = refl
mark-rows (e.Roll by date) = refl
mark-rows (e.Fault by) = refl

none-marked : (t : ℕ) (mark : Mark) → mark.rows ≡ 0 → rows_marked t mark ≡ 0
none-marked t mark none = elim (mark.table == t) as (λ b. cond b mark.rows 0 ≡ 0) [ true ↦ none | false ↦ refl ]

rows-mark : (t : ℕ) (entry : Entry) → rows_marked t (mark_of entry) ≡ rows_in t entry
rows-mark t (e.Upd by to columns) = refl
rows-mark t (e.Roll by date) = none-marked t (mark_of (e.Roll by date)) refl
rows-mark t (e.Fault by) = none-marked t (mark_of (e.Fault by)) refl

sum-cons : {X : Type 0} (f : X → ℕ) (x : X) (xs : List X) → sum_by f (x ∷ xs) ≡ f x + sum_by f xs
sum-cons f x xs = let one : sum_by f (x ∷ []) ≡ 0 + f x = refl in omega (arith, sum_by-append f (x ∷ []) xs, one)

-- the rows of a table, counted by the marks
pub sum-marks : (t : ℕ) (updates : List Entry) → sum_by (rows_marked t) (map mark_of updates) ≡ sum_by (rows_in t) updates
sum-marks t [] = refl
sum-marks t (entry ∷ updates) =
    sum-cons (rows_marked t) (mark_of entry) (map mark_of updates) ∙ ap₂ (λ a b. a + b) (rows-mark t entry) (sum-marks t updates) ∙ sym (sum-cons (rows_in t) entry updates)

-- the rows of all tables, counted by the marks
pub total-marks : (updates : List Entry) → sum_by (λ (mark : Mark). mark.rows) (map mark_of updates) ≡ total_rows updates
total-marks [] = refl
total-marks (entry ∷ updates) =
    sum-cons (λ (mark : Mark). mark.rows) (mark_of entry) (map mark_of updates) ∙ ap₂ (λ a b. a + b) (mark-rows entry) (total-marks updates) ∙ sym (total-cons entry updates)

columns_with-same_atoms : (i : ℕ) (kinds : List Kind) (f g : ℕ → List Atom) → ((c : ℕ) → c < length kinds → f (i + c) ≡ g (i + c)) → columns_with i kinds f ≡ columns_with i kinds g
columns_with-same_atoms i [] f g same = refl
columns_with-same_atoms i (kind ∷ kinds) f g same =
    let here : i + 0 ≡ i = omega arith in
    let first : f i ≡ g i = rw here at (same 0 (omega arith)) in
    ap₂ (λ a l. record { kind = kind; atoms = a } ∷ l) first
    (columns_with-same_atoms (i + 1) kinds f g (λ c c_in. let next : (i + 1) + c ≡ i + suc c = omega arith in rw next (same (suc c) (omega (arith, c_in)))))

-- the columns of a table in the first n updates
pub first-columns : (tables : List (List Kind)) (t : ℕ) (kinds : List Kind) (updates : List Entry) (n rows : ℕ) → AllByRecursion (IsUpdate tables) (take n updates) → slice_get tables t ≡ Some kinds → rows ≡ sum_by (rows_in t) (take n updates)
    → columns_with 0 kinds (λ c. take rows (drop 0 (joined t c updates))) ≡ columns_with 0 kinds (λ c. joined t c (take n updates))
first-columns tables t kinds updates n rows all known rows_are =
    columns_with-same_atoms 0 kinds (λ c. take rows (drop 0 (joined t c updates))) (λ c. joined t c (take n updates)) (λ c c_in.
    let here : 0 + c ≡ c = omega arith in
    let J = joined t c (take n updates) in
    let K = joined t c (drop n updates) in
    let split : joined t c updates ≡ J ++ K = ap (joined t c) (sym (take-append-drop n updates)) ∙ flat_map-append (atoms_in t c) (take n updates) (drop n updates) in
    let size : rows ≡ length J = rows_are ∙ sym (length-column tables t c kinds (take n updates) all known c_in) in
    rw here (ap₂ take size split ∙ take-append_seam J K))
