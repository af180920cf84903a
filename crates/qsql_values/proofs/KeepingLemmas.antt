-- Rows that phrases keep, as indices.
use Rattle.std.proofs.Common.{◌≡◌, ℕ, ◌+◌, ◌-◌, ◌<◌, Bool, true, false, List, [], ◌∷◌, ◌++◌, length, map, take, drop, get_or, refl, sym, ap, ap₂, ◌∙◌, arith, All, subst, zero, suc, add-one}
use Rattle.std.specs.Simd.Lanes.{zip2}
use Rattle.std.proofs.Math.Seq.{take-add, take-length}
use Rattle.std.proofs.lemmas.List.{drop_more, length-drop, drop-map, take-append-drop}
use Rattle.std.proofs.lemmas.List.Elements.{All-nil, All-cons, All-head, All-tail}
use Rattle.q_values.specs.Contents.{Contents}
use Rattle.q_values.specs.Lists.{gathered}
use Rattle.q_values.specs.Table.{rows_of}
use Rattle.q_values.specs.Tree.{vector}
use Rattle.q_values.specs.declared.atom.Atom.{Atom}
use Rattle.q_values.specs.declared.atom.Atom.TheVariants as a
use Rattle.q_values.specs.declared.kind.Kind.TheVariants as k
use Rattle.q_filter.specs.Places.{places_from, places_of}
use Rattle.qsql_request.specs.Forms.{Form}
use Rattle.qsql_request.specs.Views.{form}
use Rattle.qsql_request.specs.declared.request.Expr.{Expr}
use Rattle.qsql_values.specs.ByRow.{frame_where}
use Rattle.qsql_values.specs.Frames.{Frame, AreColumns, frame_of, rows_at}
use Rattle.qsql_values.specs.Values.{truths, selected, rows_where, kept}
use Rattle.qsql_values.proofs.ByRowLemmas.{kept-append}
use Rattle.qsql_values.proofs.FrameLemmas.{length_frame, length_rows_at}
use Rattle.qsql_values.proofs.PlacesLemmas.{gathered-selected}

-- gathering and then selecting is gathering at the selected indices
selected-gathered : {X : Type 0} (xs : List X) (flags : List Bool) (places : List ℕ) → All (λ (p : ℕ). p < length xs) places → length flags ≡ length places → gathered xs (selected flags places) ≡ selected flags (gathered xs places)
selected-gathered xs [] places within size = refl
selected-gathered xs (b ∷ flags) [] within size = absurd (omega (arith, size))
selected-gathered [] (b ∷ flags) (p ∷ places) within size = absurd (omega (arith, All-head (λ (q : ℕ). q < 0) p places within))
selected-gathered (x ∷ xs) (true ∷ flags) (p ∷ places) within size =
    let one = drop_more (x ∷ xs) p x (All-head (λ (q : ℕ). q < length (x ∷ xs)) p places within) in
    let rest = selected-gathered (x ∷ xs) flags places (All-tail (λ (q : ℕ). q < length (x ∷ xs)) p places within) (omega (arith, size)) in
    rw (one, rest) refl
selected-gathered (x ∷ xs) (false ∷ flags) (p ∷ places) within size =
    let one = drop_more (x ∷ xs) p x (All-head (λ (q : ℕ). q < length (x ∷ xs)) p places within) in
    let rest = selected-gathered (x ∷ xs) flags places (All-tail (λ (q : ℕ). q < length (x ∷ xs)) p places within) (omega (arith, size)) in
    rw (one, rest) refl

pub All-selected : {X : Type 0} (P : X → Type 0) (flags : List Bool) (xs : List X) → All P xs → All P (selected flags xs)
All-selected P [] xs h = All-nil P
All-selected P (b ∷ flags) [] h = All-nil P
All-selected P (true ∷ flags) (x ∷ xs) h = All-cons P x (selected flags xs) (All-head P x xs h) (All-selected P flags xs (All-tail P x xs h))
All-selected P (false ∷ flags) (x ∷ xs) h = All-selected P flags xs (All-tail P x xs h)

-- the rows at which flags of all rows are true
pub first_rows : (frame : Frame) (flags : List Bool) → length flags ≡ length frame.rows → rows_at (places_from 0 flags) frame ≡ frame_where flags frame
first_rows frame flags size = ap (λ (rows : List (List Atom)). record frame { rows = rows }) (gathered-selected frame.rows flags size)

-- the rows at which flags of the rows at some indices are true
pub next_rows : (names : List (List ℕ)) (columns : List Contents) (places : List ℕ) (flags : List Bool) → AreColumns names columns → All (λ (p : ℕ). p < rows_of columns) places → length flags ≡ length (rows_at places (frame_of names columns)).rows
    → rows_at (gathered places (places_from 0 flags)) (frame_of names columns) ≡ frame_where flags (rows_at places (frame_of names columns))
next_rows names columns places flags are within size =
    let frame = frame_of names columns in
    let many : length flags ≡ length places = size ∙ length_rows_at names columns places are within in
    let inside = subst (λ (n : ℕ). All (λ (p : ℕ). p < n) places) (sym (length_frame names columns are)) within in
    ap (λ (ps : List ℕ). record frame { rows = gathered frame.rows ps }) (gathered-selected places flags many)
    ∙ ap (λ (rows : List (List Atom)). record frame { rows = rows }) (selected-gathered frame.rows flags places inside many)

-- they are among the rows of the columns
pub next_within : (n : ℕ) (places : List ℕ) (flags : List Bool) → All (λ (p : ℕ). p < n) places → length flags ≡ length places → All (λ (p : ℕ). p < n) (gathered places (places_from 0 flags))
next_within n places flags within size = subst (All (λ (p : ℕ). p < n)) (sym (gathered-selected places flags size)) (All-selected (λ (p : ℕ). p < n) flags places within)

-- phrases that are applied in two steps
pub kept-steps : (phrases : List Form) (done count : ℕ) (frame : Frame) → kept (take (done + count) phrases) frame ≡ kept (take count (drop done phrases)) (kept (take done phrases) frame)
kept-steps phrases done count frame = ap (λ (ps : List Form). kept ps frame) (take-add done count phrases) ∙ kept-append (take done phrases) (take count (drop done phrases)) frame

-- the first phrases and the phrases after them are all phrases
pub kept-rest : (phrases : List Expr) (count : ℕ) (frame : Frame) → kept (map form (drop count phrases)) (kept (take count (map form phrases)) frame) ≡ kept (map form phrases) frame
kept-rest phrases count frame =
    ap (λ (fs : List Form). kept fs (kept (take count (map form phrases)) frame)) (sym (drop-map form count phrases))
    ∙ sym (kept-append (take count (map form phrases)) (drop count (map form phrases)) frame)
    ∙ ap (λ (fs : List Form). kept fs frame) (take-append-drop count (map form phrases))

pub rest_of : {X : Type 0} (xs : List X) (n : ℕ) → take (length xs - n) (drop n xs) ≡ drop n xs
rest_of xs n = ap (λ (m : ℕ). take m (drop n xs)) (sym (length-drop n xs)) ∙ take-length (drop n xs)

-- the phrases after the first ones are applied to the rows that those keep
pub kept_after : (phrases : List Expr) (count : ℕ) (frame : Frame) (places found : List ℕ) → rows_at places frame ≡ kept (take count (map form phrases)) frame
    → rows_at found frame ≡ kept (map form (take (length phrases - count) (drop count phrases))) (rows_at places frame) → rows_at found frame ≡ kept (map form phrases) frame
kept_after phrases count frame places found first rows =
    rows
    ∙ ap (λ (ps : List Expr). kept (map form ps) (rows_at places frame)) (rest_of phrases count)
    ∙ ap (kept (map form (drop count phrases))) first
    ∙ kept-rest phrases count frame

-- the rows where flags are true are those that the first phrase keeps
pub one_kept : (phrases : List Expr) (phrase : Expr) (flags : List Bool) (frame : Frame) → 0 < length phrases → phrase ≡ get_or phrases 0 phrase → frame_where flags frame ≡ rows_where (form phrase) frame → frame_where flags frame ≡ kept (take 1 (map form phrases)) frame
one_kept [] phrase flags frame some is rows = absurd (omega (arith, some))
one_kept (p ∷ phrases) phrase flags frame some is rows = rows ∙ ap (λ (e : Expr). rows_where (form e) frame) is

-- ---- flags of booleans

pub truths_of_booleans : (flags : List Bool) → truths (vector (record { kind = k.Boolean; atoms = map (λ (b : Bool). a.Boolean b) flags })) ≡ flags
truths_of_booleans [] = refl
truths_of_booleans (b ∷ flags) = ap (λ (fs : List Bool). b ∷ fs) (truths_of_booleans flags)

pub places_of_flags : (flags : List Bool) → places_of (map (λ (b : Bool). a.Boolean b) flags) ≡ places_from 0 flags
places_of_flags flags = ap (places_from 0) (truths_of_booleans flags)

-- one more index of two lists together
pub zip-more : {X Y Z : Type 0} (f : X → Y → Z) (xs : List X) (ys : List Y) (i : ℕ) (x : X) (y : Y) → i < length xs → i < length ys → zip2 f (take (i + 1) xs) (take (i + 1) ys) ≡ zip2 f (take i xs) (take i ys) ++ f (get_or xs i x) (get_or ys i y) ∷ []
zip-more f [] ys i x y p q = absurd (omega (arith, p))
zip-more f (u ∷ us) [] i x y p q = absurd (omega (arith, q))
zip-more f (u ∷ us) (w ∷ ws) zero x y p q = refl
zip-more f (u ∷ us) (w ∷ ws) (suc i) x y p q =
    ap₂ (λ (n m : ℕ). zip2 f (take n (u ∷ us)) (take m (w ∷ ws))) (add-one (suc i)) (add-one (suc i))
    ∙ ap (λ (n : ℕ). f u w ∷ zip2 f (take n us) (take n ws)) (sym (add-one i))
    ∙ ap (λ l. f u w ∷ l) (zip-more f us ws i x y (omega (arith, p)) (omega (arith, q)))
