-- An expression by row has, over the rows that flags keep, the items that they keep.
use Rattle.std.proofs.Common.{◌≡◌, Bool, true, false, ◌&&◌, cond, List, [], ◌∷◌, ◌++◌, length, map, refl, sym, ap, ap₂, ◌∙◌, arith}
use Rattle.std.specs.Prelude.{unwrap_or, option_map, neg_ℤ}
use Rattle.std.proofs.lemmas.List.{length-map}
use Rattle.q_values.specs.Contents.{Contents}
use Rattle.q_values.specs.Tree.{Tree, atom, vector}
use Rattle.q_values.specs.declared.atom.Atom.{Atom}
use Rattle.q_values.specs.declared.atom.Atom.TheVariants as a
use Rattle.q_values.specs.declared.kind.Kind.{Kind}
use Rattle.q_values.specs.declared.kind.Kind.TheVariants as k
use Rattle.q_verbs.specs.Kinds.{result_kind1_of}
use Rattle.q_verbs.specs.Like.{matches}
use Rattle.q_verbs.specs.Lists.{is_zero}
use Rattle.q_verbs.specs.Numbers.{worth, written}
use Rattle.q_verbs.specs.Places.{value_of}
use Rattle.q_verbs.specs.Tests.{is_among}
use Rattle.q_verbs.specs.declared.verb.Verb.{Verb}
use Rattle.q_verbs.specs.declared.verb.Verb.TheVariants as v
use Rattle.q_verbs.specs.declared.verb.Verb1.{Verb1}
use Rattle.q_verbs.specs.declared.verb.Verb1.TheVariants as u
use Rattle.qsql_request.specs.Forms.{Form, constant, column, one, two}
use Rattle.qsql_request.specs.Shapes.{is_test}
use Rattle.q_filter.specs.Places.{is_true}
use Rattle.qsql_values.specs.Frames.{Frame, field_in, column_in}
use Rattle.qsql_values.specs.ByRow.{is_fixed, is_by_item, is_by_row, picked, both, frame_where}
use Rattle.qsql_values.specs.Values.{val, value_of_one, value_of_two, formed_as, listed, by_item, by_item_of, kind_with, items_in, tested, lies_between, text_in, truths, selected, rows_where, kept}
use Rattle.qsql_values.proofs.PlacesLemmas.{none-selected, selected-zip}

both_true : (a b : Bool) → (a && b) ≡ true → (a ≡ true) × (b ≡ true)
both_true true true e = (refl, refl)
both_true true false e = absurd cc
both_true false b e = absurd cc

no : {P : Type 0} → false ≡ true → P
no e = absurd cc

selected-map : {X Y : Type 0} (f : X → Y) (flags : List Bool) (xs : List X) → map f (selected flags xs) ≡ selected flags (map f xs)
selected-map f [] xs = refl
selected-map f (b ∷ flags) [] = refl
selected-map f (true ∷ flags) (x ∷ xs) = ap (λ l. f x ∷ l) (selected-map f flags xs)
selected-map f (false ∷ flags) (x ∷ xs) = selected-map f flags xs

-- what names no column has one value over all rows
pub fixed-val : (frame other : Frame) (e : Form) → is_fixed e ≡ true → val frame e ≡ val other e
fixed-val frame other (constant value) h = refl
fixed-val frame other (column name) h = no h
fixed-val frame other (one verb side) h = ap (value_of_one verb) (fixed-val frame other side h)
fixed-val frame other (two verb left right) h =
    let parts = both_true (is_fixed left) (is_fixed right) h in
    ap₂ (value_of_two verb) (fixed-val frame other left parts.0) (fixed-val frame other right parts.1)

-- a verb by item over the items that are picked
picked-formed : (flags : List Bool) (kind : Kind) (f : Atom → Atom) (side : Tree) → formed_as (picked flags side) (record { kind = kind; atoms = map f (items_in (picked flags side)).atoms }) ≡ picked flags (formed_as side (record { kind = kind; atoms = map f (items_in side).atoms }))
picked-formed flags kind f (atom x) = refl
picked-formed flags kind f (vector c) = ap (λ (xs : List Atom). vector (record { kind = kind; atoms = xs })) (selected-map f flags c.atoms)
picked-formed flags kind f side = ap (λ (xs : List Atom). vector (record { kind = kind; atoms = xs })) (sym (none-selected flags))

picked-kind : (flags : List Bool) (side : Tree) → (items_in (picked flags side)).kind ≡ (items_in side).kind
picked-kind flags (vector c) = refl
picked-kind flags side = refl

picked-by-item : (flags : List Bool) (f : Atom → Atom → Atom) (kind : Kind) (left right : Tree) → by_item f kind (picked flags left) (picked flags right) ≡ picked flags (by_item f kind left right)
picked-by-item flags f kind (atom x) (atom y) = refl
picked-by-item flags f kind (atom x) (vector ys) = ap (λ (xs : List Atom). vector (record { kind = kind; atoms = xs })) (selected-map (f x) flags ys.atoms)
picked-by-item flags f kind (vector xs) (atom y) = ap (λ (zs : List Atom). vector (record { kind = kind; atoms = zs })) (selected-map (λ (x : Atom). f x y) flags xs.atoms)
picked-by-item flags f kind (vector xs) (vector ys) = ap (λ (zs : List Atom). vector (record { kind = kind; atoms = zs })) (selected-zip f flags xs.atoms ys.atoms)
picked-by-item flags f kind left right = refl

picked-one : (flags : List Bool) (verb : Verb1) (side : Tree) → is_by_item verb ≡ true → value_of_one verb (picked flags side) ≡ picked flags (value_of_one verb side)
picked-one flags u.Not side h =
    ap (λ (kind : Kind). formed_as (picked flags side) (listed u.Not (unwrap_or (result_kind1_of u.Not kind) kind) (items_in (picked flags side)).atoms)) (picked-kind flags side)
    ∙ picked-formed flags (unwrap_or (result_kind1_of u.Not (items_in side).kind) (items_in side).kind) (λ (x : Atom). a.Boolean (is_zero (worth x).number)) side
picked-one flags u.Neg side h =
    let kind = unwrap_or (result_kind1_of u.Neg (items_in side).kind) (items_in side).kind in
    ap (λ (kind : Kind). formed_as (picked flags side) (listed u.Neg (unwrap_or (result_kind1_of u.Neg kind) kind) (items_in (picked flags side)).atoms)) (picked-kind flags side)
    ∙ picked-formed flags kind (λ (x : Atom). written kind (option_map neg_ℤ (worth x).number)) side
picked-one flags verb side h = no h

picked-test : (flags : List Bool) (test : Atom → Bool) (side : Tree) → tested test (picked flags side) ≡ picked flags (tested test side)
picked-test flags test side = picked-formed flags k.Boolean (λ (x : Atom). a.Boolean (test x)) side

-- a verb with two sides: a test's right side is that over all rows, another verb's is picked too
picked-two : (flags : List Bool) (verb : Verb) (left right other : Tree) → (is_test verb ≡ true → other ≡ right) → (is_test verb ≡ false → other ≡ picked flags right) → value_of_two verb (picked flags left) other ≡ picked flags (value_of_two verb left right)
picked-two flags v.In left right other same picks = ap (λ (r : Tree). tested (is_among (items_in r).atoms) (picked flags left)) (same refl) ∙ picked-test flags (is_among (items_in right).atoms) left
picked-two flags v.Within left right other same picks = ap (λ (r : Tree). tested (lies_between r) (picked flags left)) (same refl) ∙ picked-test flags (lies_between right) left
picked-two flags v.Like left right other same picks =
    ap (λ (r : Tree). tested (λ (x : Atom). matches (text_in r) (worth x).text) (picked flags left)) (same refl) ∙ picked-test flags (λ (x : Atom). matches (text_in right) (worth x).text) left
picked-two flags verb left right other same picks =
    ap (value_of_two verb (picked flags left)) (picks refl)
    ∙ ap₂ (λ (first second : Kind). by_item_of verb first second (picked flags left) (picked flags right)) (picked-kind flags left) (picked-kind flags right)
    ∙ picked-by-item flags (value_of verb (items_in left).kind (items_in right).kind (kind_with verb (items_in left).kind (items_in right).kind)) (kind_with verb (items_in left).kind (items_in right).kind) left right

pub picked-val : (flags : List Bool) (frame : Frame) (e : Form) → is_by_row e ≡ true → val (frame_where flags frame) e ≡ picked flags (val frame e)
picked-val flags frame (constant (atom x)) h = refl
picked-val flags frame (constant value) h = no h
picked-val flags frame (column name) h = ap (λ (xs : List Atom). vector (record (column_in frame name) { atoms = xs })) (selected-map (field_in frame.names name) flags frame.rows)
picked-val flags frame (one verb side) h =
    let parts = both_true (is_by_item verb) (is_by_row side) h in
    ap (value_of_one verb) (picked-val flags frame side parts.1) ∙ picked-one flags verb (val frame side) parts.0
picked-val flags frame (two verb left right) h =
    let parts = both_true (is_by_row left) (cond (is_test verb) (is_fixed right) (is_by_row right)) h in
    ap (λ (l : Tree). value_of_two verb l (val (frame_where flags frame) right)) (picked-val flags frame left parts.0)
    ∙ picked-two flags verb (val frame left) (val frame right) (val (frame_where flags frame) right)
    (λ t. fixed-val (frame_where flags frame) frame right (ap (λ (b : Bool). cond b (is_fixed right) (is_by_row right)) (sym t) ∙ parts.1))
    (λ t. picked-val flags frame right (ap (λ (b : Bool). cond b (is_fixed right) (is_by_row right)) (sym t) ∙ parts.1))

-- ---- flags that are kept one after the other are kept together

selected-selected : {X : Type 0} (flags more : List Bool) (xs : List X) → length more ≡ length flags → selected (selected flags more) (selected flags xs) ≡ selected (both flags more) xs
selected-selected [] more xs size = refl
selected-selected (b ∷ flags) [] xs size = absurd (omega (arith, size))
selected-selected (true ∷ flags) (m ∷ more) [] size = none-selected (selected (true ∷ flags) (m ∷ more))
selected-selected {X = X} (false ∷ flags) (m ∷ more) [] size = none-selected (selected (false ∷ flags) (m ∷ more))
selected-selected (true ∷ flags) (true ∷ more) (x ∷ xs) size = ap (λ l. x ∷ l) (selected-selected flags more xs (omega (arith, size)))
selected-selected (true ∷ flags) (false ∷ more) (x ∷ xs) size = selected-selected flags more xs (omega (arith, size))
selected-selected (false ∷ flags) (m ∷ more) (x ∷ xs) size = selected-selected flags more xs (omega (arith, size))

-- a phrase by row after others holds, of the rows that they keep, where it does of all rows
pub joined : (flags : List Bool) (frame : Frame) (phrase : Form) (test : Contents) → is_by_row phrase ≡ true → val frame phrase ≡ vector test → length test.atoms ≡ length flags
    → rows_where phrase (frame_where flags frame) ≡ frame_where (both flags (truths (vector test))) frame
joined flags frame phrase test h is size =
    let value : val (frame_where flags frame) phrase ≡ vector (record test { atoms = selected flags test.atoms }) = picked-val flags frame phrase h ∙ ap (picked flags) is in
    let flagged : truths (val (frame_where flags frame) phrase) ≡ selected flags (truths (vector test)) = ap truths value ∙ selected-map is_true flags test.atoms in
    ap (λ (fs : List Bool). record frame { rows = selected fs (selected flags frame.rows) }) flagged
    ∙ ap (λ (rows : List (List Atom)). record frame { rows = rows }) (selected-selected flags (truths (vector test)) frame.rows (length-map test.atoms is_true ∙ size))

-- phrases and one more
pub kept-more : (phrases : List Form) (phrase : Form) (frame : Frame) → kept (phrases ++ phrase ∷ []) frame ≡ rows_where phrase (kept phrases frame)
kept-more [] phrase frame = refl
kept-more (first ∷ phrases) phrase frame = kept-more phrases phrase (rows_where first frame)

pub kept-append : (phrases more : List Form) (frame : Frame) → kept (phrases ++ more) frame ≡ kept more (kept phrases frame)
kept-append [] more frame = refl
kept-append (first ∷ phrases) more frame = kept-append phrases more (rows_where first frame)
