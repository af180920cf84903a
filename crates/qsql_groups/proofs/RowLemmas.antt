-- An expression by row has, over the rows of a group, the items of its value over all rows.
use Rattle.std.proofs.Common.{◌≡◌, ℕ, ◌<◌, Bool, true, false, not, ◌&&◌, cond, List, length, map, refl, sym, ap, ap₂, ◌∙◌, All, Option, Some, subst}
use Rattle.std.specs.Prelude.{unwrap_or, option_map, neg_ℤ, is_some}
use Rattle.q_values.specs.Tree.{Tree, atom, vector}
use Rattle.q_values.specs.declared.atom.Atom.{Atom}
use Rattle.q_values.specs.declared.atom.Atom.TheVariants as a
use Rattle.q_values.specs.declared.kind.Kind.{Kind}
use Rattle.q_values.specs.declared.kind.Kind.TheVariants as k
use Rattle.q_values.proofs.ListLemmas.{map-gathered}
use Rattle.q_verbs.specs.Kinds.{result_kind1_of}
use Rattle.q_verbs.specs.Like.{matches}
use Rattle.q_verbs.specs.Lists.{is_zero}
use Rattle.q_verbs.specs.Numbers.{worth, written}
use Rattle.q_verbs.specs.Places.{value_of}
use Rattle.q_verbs.specs.Tests.{is_among}
use Rattle.q_verbs.specs.declared.verb.Verb.{Verb}
use Rattle.q_verbs.specs.declared.verb.Verb.TheVariants as v
use Rattle.q_verbs.specs.declared.verb.Verb1.{Verb1}
use Rattle.q_verbs.specs.declared.verb.Verb1.TheVariants as u
use Rattle.q_keys.specs.Keys.{KeyGrouping, rows_of_group}
use Rattle.qsql_request.specs.Forms.{Form, constant, column, one, two}
use Rattle.qsql_request.specs.Shapes.{shape, shape_of_two, joined, is_atom, is_test, is_list, is_scalar}
use Rattle.qsql_request.specs.Unbuilt.{has_unbuilt}
use Rattle.qsql_request.specs.declared.shapes.Shape.{Shape}
use Rattle.qsql_request.specs.declared.shapes.Shape.TheVariants as s
use Rattle.qsql_values.specs.ByRow.{is_fixed, is_by_item, is_by_row}
use Rattle.qsql_values.specs.Frames.{Frame, field_in, column_in, kind_beside, rows_at}
use Rattle.qsql_values.specs.Kinds.{kind_in}
use Rattle.qsql_values.specs.Operands.{HasShape, kind_of_tree}
use Rattle.qsql_values.specs.Ready.{IsReady}
use Rattle.qsql_values.specs.Values.{val, value_of_one, value_of_two, formed_as, listed, by_item, by_item_of, kind_with, items_in, tested, lies_between, text_in}
use Rattle.qsql_values.proofs.ByRowLemmas.{fixed-val}
use Rattle.qsql_values.proofs.ShapeLemmas.{val_shape, parts, side_of}
use Rattle.qsql_groups.specs.OnePass.{of_group, IsByGroup, val_of}
use Rattle.qsql_groups.proofs.PartLemmas.{zip-gathered, gathered_none, part_within}

no : {P : Type 0} → false ≡ true → P
no e = absurd cc

no_again : {P : Type 0} → true ≡ false → P
no_again e = absurd cc

both_true : (x y : Bool) → (x && y) ≡ true → (x ≡ true) × (y ≡ true)
both_true true true e = (refl, refl)
both_true true false e = no e
both_true false y e = no e

-- ---- it is no list

joined_list : (x y : Bool) → is_list (joined x y) ≡ false
joined_list true true = refl
joined_list true false = refl
joined_list false true = refl
joined_list false false = refl

two_list : (test : Bool) (ls rs : Shape) → is_list ls ≡ false → is_list (shape_of_two test ls rs) ≡ false
two_list true ls rs h = h
two_list false ls rs h = joined_list (is_scalar ls) (is_scalar rs)

one_list : (verb : Verb1) (side : Form) → is_by_item verb ≡ true → is_list (shape side) ≡ false → is_list (shape (one verb side)) ≡ false
one_list u.Not side is h = h
one_list u.Neg side is h = h
one_list verb side is h = no is

pub row_list : (e : Form) → is_by_row e ≡ true → is_list (shape e) ≡ false
row_list (constant (atom x)) h = refl
row_list (constant value) h = no h
row_list (column name) h = refl
row_list (one verb side) h =
    let both = both_true (is_by_item verb) (is_by_row side) h in
    one_list verb side both.0 (row_list side both.1)
row_list (two verb left right) h =
    let both = both_true (is_by_row left) (cond (is_test verb) (is_fixed right) (is_by_row right)) h in
    two_list (is_test verb) (shape left) (shape right) (row_list left both.0)

-- ---- its value has an item for each row, or is an atom

abbrev HasRows : ℕ → Tree → Type 0
HasRows n (vector c) = length c.atoms ≡ n
HasRows n t = Unit {0}

shaped : (n : ℕ) (of : Shape) (t : Tree) → is_list of ≡ false → HasShape n of t → HasRows n t
shaped n s.List t l h = no_again l
shaped n s.Rows (vector c) l h = h
shaped n s.Scalar (atom x) l h = tt
shaped n of t l h = absurd h

val_rows : (frame : Frame) (columns : List ℕ → Option Kind) (e : Form) → is_by_row e ≡ true → is_some (kind_in columns e) ≡ true → has_unbuilt e ≡ false → HasRows (length frame.rows) (val frame e)
val_rows frame columns e by_row kind built = shaped (length frame.rows) (shape e) (val frame e) (row_list e by_row) (val_shape frame columns e kind built)

-- ---- verbs over the items at the rows of a group

module _ (g n : ℕ) (codes : List ℕ) (size : length codes ≡ n) where
  abbrev at : Tree → Tree
  at = of_group true g codes

  row_kind : (t : Tree) → (items_in (at t)).kind ≡ (items_in t).kind
  row_kind (vector c) = refl
  row_kind t = refl

  row_formed : (kind : Kind) (f : Atom → Atom) (t : Tree) → formed_as (at t) (record { kind = kind; atoms = map f (items_in (at t)).atoms }) ≡ at (formed_as t (record { kind = kind; atoms = map f (items_in t).atoms }))
  row_formed kind f (atom x) = refl
  row_formed kind f (vector c) = ap (λ (xs : List Atom). vector (record { kind = kind; atoms = xs })) (map-gathered f c.atoms (rows_of_group g codes))
  row_formed kind f t = ap (λ (xs : List Atom). vector (record { kind = kind; atoms = xs })) (sym (gathered_none (rows_of_group g codes)))

  row_one : (verb : Verb1) (t : Tree) → is_by_item verb ≡ true → value_of_one verb (at t) ≡ at (value_of_one verb t)
  row_one u.Not t h =
      ap (λ (kind : Kind). formed_as (at t) (listed u.Not (unwrap_or (result_kind1_of u.Not kind) kind) (items_in (at t)).atoms)) (row_kind t)
      ∙ row_formed (unwrap_or (result_kind1_of u.Not (items_in t).kind) (items_in t).kind) (λ (x : Atom). a.Boolean (is_zero (worth x).number)) t
  row_one u.Neg t h =
      let kind = unwrap_or (result_kind1_of u.Neg (items_in t).kind) (items_in t).kind in
      ap (λ (kind : Kind). formed_as (at t) (listed u.Neg (unwrap_or (result_kind1_of u.Neg kind) kind) (items_in (at t)).atoms)) (row_kind t)
      ∙ row_formed kind (λ (x : Atom). written kind (option_map neg_ℤ (worth x).number)) t
  row_one verb t h = no h

  row_test : (test : Atom → Bool) (t : Tree) → tested test (at t) ≡ at (tested test t)
  row_test test t = row_formed k.Boolean (λ (x : Atom). a.Boolean (test x)) t

  row_by_item : (f : Atom → Atom → Atom) (kind : Kind) (l r : Tree) → HasRows n l → HasRows n r → by_item f kind (at l) (at r) ≡ at (by_item f kind l r)
  row_by_item f kind (atom x) (atom y) p q = refl
  row_by_item f kind (atom x) (vector ys) p q = ap (λ (zs : List Atom). vector (record { kind = kind; atoms = zs })) (map-gathered (f x) ys.atoms (rows_of_group g codes))
  row_by_item f kind (vector xs) (atom y) p q = ap (λ (zs : List Atom). vector (record { kind = kind; atoms = zs })) (map-gathered (λ (x : Atom). f x y) xs.atoms (rows_of_group g codes))
  row_by_item f kind (vector xs) (vector ys) p q =
      ap (λ (zs : List Atom). vector (record { kind = kind; atoms = zs }))
      (zip-gathered f xs.atoms ys.atoms (rows_of_group g codes) (p ∙ sym q) (subst (λ (m : ℕ). All (λ (i : ℕ). i < m) (rows_of_group g codes)) (size ∙ sym p) (part_within g codes)))
  row_by_item f kind l r p q = refl

  row_two : (verb : Verb) (l r other : Tree) → (is_test verb ≡ true → other ≡ r) → (is_test verb ≡ false → other ≡ at r) → HasRows n l → (is_test verb ≡ false → HasRows n r) → value_of_two verb (at l) other ≡ at (value_of_two verb l r)
  row_two v.In l r other same picks p q = ap (λ (t : Tree). tested (is_among (items_in t).atoms) (at l)) (same refl) ∙ row_test (is_among (items_in r).atoms) l
  row_two v.Within l r other same picks p q = ap (λ (t : Tree). tested (lies_between t) (at l)) (same refl) ∙ row_test (lies_between r) l
  row_two v.Like l r other same picks p q = ap (λ (t : Tree). tested (λ (x : Atom). matches (text_in t) (worth x).text) (at l)) (same refl) ∙ row_test (λ (x : Atom). matches (text_in r) (worth x).text) l
  row_two verb l r other same picks p q =
      ap (value_of_two verb (at l)) (picks refl)
      ∙ ap₂ (λ (first second : Kind). by_item_of verb first second (at l) (at r)) (row_kind l) (row_kind r)
      ∙ row_by_item (value_of verb (items_in l).kind (items_in r).kind (kind_with verb (items_in l).kind (items_in r).kind)) (kind_with verb (items_in l).kind (items_in r).kind) l r p (q refl)

row_val : (frame : Frame) (columns : List ℕ → Option Kind) (g : ℕ) (codes : List ℕ) (e : Form) → is_by_row e ≡ true → is_some (kind_in columns e) ≡ true → has_unbuilt e ≡ false → length codes ≡ length frame.rows → val_of frame codes e g ≡ of_group true g codes (val frame e)
row_val frame columns g codes (constant (atom x)) h kind built size = refl
row_val frame columns g codes (constant value) h kind built size = no h
row_val frame columns g codes (column name) h kind built size = ap (λ (xs : List Atom). vector (record (column_in frame name) { atoms = xs })) (map-gathered (field_in frame.names name) frame.rows (rows_of_group g codes))
row_val frame columns g codes (one verb side) h kind built size =
    let both = both_true (is_by_item verb) (is_by_row side) h in
    ap (value_of_one verb) (row_val frame columns g codes side both.1 (side_of columns (one verb side) verb side refl kind) built size)
    ∙ row_one g (length frame.rows) codes size verb (val frame side) both.0
row_val frame columns g codes (two verb left right) h kind built size =
    let both = both_true (is_by_row left) (cond (is_test verb) (is_fixed right) (is_by_row right)) h in
    let ps = parts columns verb left right kind built in
    let part = rows_at (rows_of_group g codes) frame in
    let fixed : is_test verb ≡ true → is_fixed right ≡ true = λ t. ap (λ (b : Bool). cond b (is_fixed right) (is_by_row right)) (sym t) ∙ both.1 in
    let by_row : is_test verb ≡ false → is_by_row right ≡ true = λ t. ap (λ (b : Bool). cond b (is_fixed right) (is_by_row right)) (sym t) ∙ both.1 in
    ap (λ (l : Tree). value_of_two verb l (val part right)) (row_val frame columns g codes left both.0 ps.left_kind ps.left_built size)
    ∙ row_two g (length frame.rows) codes size verb (val frame left) (val frame right) (val part right)
    (λ t. fixed-val part frame right (fixed t))
    (λ t. row_val frame columns g codes right (by_row t) ps.right_kind ps.right_built size)
    (val_rows frame columns left both.0 ps.left_kind ps.left_built)
    (λ t. val_rows frame columns right (by_row t) ps.right_kind ps.right_built)

-- ---- the value for all groups

by_row_of : (frame : Frame) (groups : KeyGrouping) (e : Form) (of : Shape) (t : Tree) → shape e ≡ of → is_list of ≡ false → HasShape (length frame.rows) of t → length groups.codes ≡ length frame.rows
    → ((g : ℕ) → val_of frame groups.codes e g ≡ of_group true g groups.codes t) → kind_in (kind_beside frame) e ≡ Some (kind_of_tree t) → IsByGroup frame groups e (not (is_atom t)) t
by_row_of frame groups e s.List t is l h size each kind = no_again l
by_row_of frame groups e s.Scalar (atom x) is l h size each kind = record { values = record { items = tt; each = λ g low. each g }; kind = kind; shape = is }
by_row_of frame groups e s.Rows (vector c) is l h size each kind = record { values = record { items = h ∙ sym size; each = λ g low. each g }; kind = kind; shape = is }
by_row_of frame groups e of t is l h size each kind = absurd h

pub row_by_group : (frame : Frame) (groups : KeyGrouping) (e : Form) (t : Tree) (b : Bool) → is_by_row e ≡ true → IsReady frame e → length groups.codes ≡ length frame.rows → t ≡ val frame e → b ≡ not (is_atom t)
    → kind_in (kind_beside frame) e ≡ Some (kind_of_tree t) → IsByGroup frame groups e b t
row_by_group frame groups e t b by_row ready size is flag kind =
    let shaped_as : HasShape (length frame.rows) (shape e) t = subst (HasShape (length frame.rows) (shape e)) (sym is) (val_shape frame (kind_beside frame) e ready.kind ready.built) in
    let each : (g : ℕ) → val_of frame groups.codes e g ≡ of_group true g groups.codes t =
    λ g. row_val frame (kind_beside frame) g groups.codes e by_row ready.kind ready.built size ∙ ap (of_group true g groups.codes) (sym is) in
    subst (λ (c : Bool). IsByGroup frame groups e c t) (sym flag) (by_row_of frame groups e (shape e) t refl (row_list e by_row) shaped_as size each kind)
