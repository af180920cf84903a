-- The value of an expression has its shape.
use Rattle.std.proofs.Common.{◌≡◌, ℕ, ◌+◌, ◌<◌, Bool, true, false, not, ◌&&◌, ◌||◌, cond, List, length, refl, sym, ap, ◌∙◌, arith, Some, None, Option, subst}
use Rattle.std.specs.Prelude.{is_some, option_and_then}
use Rattle.std.proofs.lemmas.List.{length-map}
use Rattle.std.proofs.lemmas.Simd.{length-zip2}
use Rattle.q_values.specs.Contents.{Contents}
use Rattle.q_values.specs.Tree.{Tree, atom, vector}
use Rattle.q_values.specs.declared.atom.Atom.{Atom}
use Rattle.q_values.specs.declared.kind.Kind.{Kind}
use Rattle.q_verbs.specs.Kinds.{result_kind_of, result_kind1_of}
use Rattle.q_verbs.specs.declared.verb.Verb.{Verb}
use Rattle.q_verbs.specs.declared.verb.Verb.TheVariants as v
use Rattle.q_verbs.specs.declared.verb.Verb1.{Verb1}
use Rattle.q_verbs.specs.declared.verb.Verb1.TheVariants as u
use Rattle.qsql_request.specs.Forms.{Form, constant, column, one, two}
use Rattle.qsql_request.specs.Shapes.{shape, shape_of_one, shape_of_two, is_test, is_list, is_rows}
use Rattle.qsql_request.specs.Unbuilt.{has_unbuilt, is_wrong_right, is_unbuilt_phrase}
use Rattle.qsql_request.specs.declared.shapes.Shape.{Shape}
use Rattle.qsql_request.specs.declared.shapes.Shape.TheVariants as s
use Rattle.qsql_values.specs.Frames.{Frame, field_in}
use Rattle.qsql_values.specs.Kinds.{kind_in, literal_kind, kind_of_both, is_within, are_ends}
use Rattle.qsql_values.specs.Operands.{HasShape, HaveEqualLengths, AreSides, has_ends}
use Rattle.qsql_values.specs.Values.{val, value_of_one, value_of_two, formed_as, by_item, items_in, tested}

no : {P : Type 0} → false ≡ true → P
no e = absurd cc

no_again : {P : Type 0} → true ≡ false → P
no_again e = absurd cc

-- a result with an item for each of its side has the side's shape
formed : (n : ℕ) (shape : Shape) (side : Tree) (c : Contents) → ((xs : Contents) → side ≡ vector xs → length c.atoms ≡ length xs.atoms) → HasShape n shape side → HasShape n shape (formed_as side c)
formed n s.Scalar (atom x) c size h = tt
formed n s.Rows (vector xs) c size h = size xs refl ∙ h
formed n s.List (vector xs) c size h = tt
formed n shape side c size h = absurd h

one_shape : (n : ℕ) (verb : Verb1) (shape : Shape) (side : Tree) → HasShape n shape side → HasShape n (shape_of_one verb shape) (value_of_one verb side)
one_shape n u.Not shape side h = formed n shape side _ (λ xs e. length-map _ _ ∙ ap (λ (t : Tree). length (items_in t).atoms) e) h
one_shape n u.Neg shape side h = formed n shape side _ (λ xs e. length-map _ _ ∙ ap (λ (t : Tree). length (items_in t).atoms) e) h
one_shape n u.Distinct shape side h = tt
one_shape n u.Count shape side h = tt
one_shape n u.Sum shape side h = tt
one_shape n u.Min shape side h = tt
one_shape n u.Max shape side h = tt
one_shape n u.First shape side h = tt
one_shape n u.Last shape side h = tt

atom_and_items : (n : ℕ) (f : Atom → Atom → Atom) (kind : Kind) (x : Atom) (rs : Shape) (r : Tree) → is_list rs ≡ false → HasShape n rs r → HasShape n (shape_of_two false s.Scalar rs) (by_item f kind (atom x) r)
atom_and_items n f kind x s.List r q j = no_again q
atom_and_items n f kind x s.Scalar (atom y) q j = tt
atom_and_items n f kind x s.Rows (vector ys) q j = length-map ys.atoms (λ (y : Atom). f x y) ∙ j
atom_and_items n f kind x rs r q j = absurd j

rows_and_items : (n : ℕ) (f : Atom → Atom → Atom) (kind : Kind) (xs : Contents) (rs : Shape) (r : Tree) → length xs.atoms ≡ n → is_list rs ≡ false → HasShape n rs r → HasShape n (shape_of_two false s.Rows rs) (by_item f kind (vector xs) r)
rows_and_items n f kind xs s.List r h q j = no_again q
rows_and_items n f kind xs s.Scalar (atom y) h q j = length-map xs.atoms (λ (x : Atom). f x y) ∙ h
rows_and_items n f kind xs s.Rows (vector ys) h q j = length-zip2 f xs.atoms ys.atoms (h ∙ sym j) ∙ h
rows_and_items n f kind xs rs r h q j = absurd j

item_shape : (n : ℕ) (f : Atom → Atom → Atom) (kind : Kind) (ls rs : Shape) (l r : Tree) → is_list ls ≡ false → is_list rs ≡ false → HasShape n ls l → HasShape n rs r → HasShape n (shape_of_two false ls rs) (by_item f kind l r)
item_shape n f kind s.List rs l r p q h j = no_again p
item_shape n f kind s.Scalar rs (atom x) r p q h j = atom_and_items n f kind x rs r q j
item_shape n f kind s.Rows rs (vector xs) r p q h j = rows_and_items n f kind xs rs r h q j
item_shape n f kind ls rs l r p q h j = absurd h

-- sides that aren't lists have one length
even_rows : (n : ℕ) (xs : Contents) (rs : Shape) (r : Tree) → length xs.atoms ≡ n → is_list rs ≡ false → HasShape n rs r → HaveEqualLengths (vector xs) r
even_rows n xs s.List r h q j = no_again q
even_rows n xs s.Scalar (atom y) h q j = tt
even_rows n xs s.Rows (vector ys) h q j = h ∙ sym j
even_rows n xs rs r h q j = absurd j

even_shapes : (n : ℕ) (ls rs : Shape) (l r : Tree) → is_list ls ≡ false → is_list rs ≡ false → HasShape n ls l → HasShape n rs r → HaveEqualLengths l r
even_shapes n s.List rs l r p q h j = no_again p
even_shapes n s.Scalar rs (atom x) r p q h j = tt
even_shapes n s.Rows rs (vector xs) r p q h j = even_rows n xs rs r h q j
even_shapes n ls rs l r p q h j = absurd h

test_shape : (n : ℕ) (test : Atom → Bool) (shape : Shape) (side : Tree) → HasShape n shape side → HasShape n shape (tested test side)
test_shape n test shape side h = formed n shape side _ (λ xs e. length-map _ _ ∙ ap (λ (t : Tree). length (items_in t).atoms) e) h

-- ---- what a kind says of the parts of an expression

some_side : (verb : Verb1) (o : Option Kind) → is_some (option_and_then (result_kind1_of verb) o) ≡ true → is_some o ≡ true
some_side verb None h = h
some_side verb (Some kind) h = refl

some_left : (verb : Verb) (l r : Option Kind) → is_some (kind_of_both verb l r) ≡ true → is_some l ≡ true
some_left verb None r h = h
some_left verb (Some kind) r h = refl

some_right : (verb : Verb) (l r : Option Kind) → is_some (kind_of_both verb l r) ≡ true → is_some r ≡ true
some_right verb None r h = no h
some_right verb (Some kind) None h = h
some_right verb (Some kind) (Some other) h = refl

pub some_else : (b : Bool) (o : Option Kind) → is_some (cond b None o) ≡ true → (b ≡ false) × (is_some o ≡ true)
some_else true o h = no h
some_else false o h = (refl, h)

pub neither : (a b : Bool) → (a || b) ≡ false → (a ≡ false) × (b ≡ false)
neither true b h = no_again h
neither false b h = (refl, h)

pub record HasParts (columns : List ℕ → Option Kind) (verb : Verb) (left right : Form) : Type 0 where
  pub ends : (is_within verb && not (are_ends right)) ≡ false
  pub left_kind : is_some (kind_in columns left) ≡ true
  pub right_kind : is_some (kind_in columns right) ≡ true
  pub left_list : is_list (shape left) ≡ false
  pub right_fits : is_wrong_right verb right ≡ false
  pub left_built : has_unbuilt left ≡ false
  pub right_built : has_unbuilt right ≡ false

pub parts : (columns : List ℕ → Option Kind) (verb : Verb) (left right : Form) → is_some (kind_in columns (two verb left right)) ≡ true → has_unbuilt (two verb left right) ≡ false → HasParts columns verb left right
parts columns verb left right kind built =
    let k = some_else (is_within verb && not (are_ends right)) (kind_of_both verb (kind_in columns left) (kind_in columns right)) kind in
    let b = neither (is_list (shape left)) (is_wrong_right verb right || (has_unbuilt left || has_unbuilt right)) built in
    let c = neither (is_wrong_right verb right) (has_unbuilt left || has_unbuilt right) b.1 in
    let d = neither (has_unbuilt left) (has_unbuilt right) c.1 in
    record {
      ends = k.0;
      left_kind = some_left verb (kind_in columns left) (kind_in columns right) k.1;
      right_kind = some_right verb (kind_in columns left) (kind_in columns right) k.1;
      left_list = b.0;
      right_fits = c.0;
      left_built = d.0;
      right_built = d.1;
    }

literal_shape_is : (n : ℕ) (value : Tree) → is_some (literal_kind value) ≡ true → HasShape n (shape (constant value)) value
literal_shape_is n (atom x) h = tt
literal_shape_is n (vector c) h = tt
literal_shape_is n value h = no h

two_shape : (n : ℕ) (verb : Verb) (ls rs : Shape) (l r : Tree) → is_list ls ≡ false → (is_test verb ≡ false → is_list rs ≡ false) → HasShape n ls l → HasShape n rs r → HasShape n (shape_of_two (is_test verb) ls rs) (value_of_two verb l r)
two_shape n v.In ls rs l r p q h j = test_shape n _ ls l h
two_shape n v.Within ls rs l r p q h j = test_shape n _ ls l h
two_shape n v.Like ls rs l r p q h j = test_shape n _ ls l h
two_shape n verb ls rs l r p q h j = item_shape n _ _ ls rs l r p (q refl) h j

right_is : (verb : Verb) (right : Form) → is_wrong_right verb right ≡ false → is_test verb ≡ false → is_list (shape right) ≡ false
right_is v.In right h t = no_again t
right_is v.Within right h t = no_again t
right_is v.Like right h t = no_again t
right_is verb right h t = and_true (is_list (shape right)) h
  where
    and_true : (b : Bool) → (b && true) ≡ false → b ≡ false
    and_true true e = e
    and_true false e = refl

pub val_shape : (frame : Frame) (columns : List ℕ → Option Kind) (e : Form) → is_some (kind_in columns e) ≡ true → has_unbuilt e ≡ false → HasShape (length frame.rows) (shape e) (val frame e)
val_shape frame columns (constant value) kind built = literal_shape_is (length frame.rows) value kind
val_shape frame columns (column name) kind built = length-map frame.rows (field_in frame.names name)
val_shape frame columns (one verb side) kind built = one_shape (length frame.rows) verb (shape side) (val frame side) (val_shape frame columns side (some_side verb (kind_in columns side) kind) built)
val_shape frame columns (two verb left right) kind built =
    let p = parts columns verb left right kind built in
    two_shape (length frame.rows) verb (shape left) (shape right) (val frame left) (val frame right) p.left_list (right_is verb right p.right_fits) (val_shape frame columns left p.left_kind p.left_built)
    (val_shape frame columns right p.right_kind p.right_built)

ends_value : (frame : Frame) (right : Form) → are_ends right ≡ true → has_ends (val frame right) ≡ true
ends_value frame (constant (vector c)) h = h
ends_value frame (constant value) h = no h
ends_value frame (column name) h = no h
ends_value frame (one verb side) h = no h
ends_value frame (two verb left right) h = no h

is_true_of : (b : Bool) → not b ≡ false → b ≡ true
is_true_of true e = refl
is_true_of false e = no_again e

-- the sides that a verb has in an expression are sides that it goes over
pub val_sides : (frame : Frame) (columns : List ℕ → Option Kind) (verb : Verb) (left right : Form) → is_some (kind_in columns (two verb left right)) ≡ true → has_unbuilt (two verb left right) ≡ false → AreSides verb (val frame left) (val frame right)
val_sides frame columns verb left right kind built = by_verb verb (parts columns verb left right kind built)
  where
    by_verb : (verb : Verb) → HasParts columns verb left right → AreSides verb (val frame left) (val frame right)
    by_verb v.In p = tt
    by_verb v.Within p = ends_value frame right (is_true_of (are_ends right) p.ends)
    by_verb v.Like p = tt
    by_verb verb p =
        even_shapes (length frame.rows) (shape left) (shape right) (val frame left) (val frame right) p.left_list (right_is verb right p.right_fits refl) (val_shape frame columns left p.left_kind p.left_built)
        (val_shape frame columns right p.right_kind p.right_built)

-- ---- an expression that is a verb with two sides

pub parts_of : (columns : List ℕ → Option Kind) (e : Form) (verb : Verb) (left right : Form) → e ≡ two verb left right → is_some (kind_in columns e) ≡ true → has_unbuilt e ≡ false → HasParts columns verb left right
parts_of columns e verb left right is kind built = parts columns verb left right (ap (λ (f : Form). is_some (kind_in columns f)) (sym is) ∙ kind) (ap has_unbuilt (sym is) ∙ built)

pub kind_of_two : (columns : List ℕ → Option Kind) (e : Form) (verb : Verb) (left right : Form) (kl kr : Kind) → e ≡ two verb left right → is_some (kind_in columns e) ≡ true → kind_in columns left ≡ Some kl → kind_in columns right ≡ Some kr → kind_in columns e ≡ result_kind_of verb kl kr
kind_of_two columns e verb left right kl kr is kind p q =
    let some : is_some (kind_in columns (two verb left right)) ≡ true = ap (λ (f : Form). is_some (kind_in columns f)) (sym is) ∙ kind in
    let ends = (some_else (is_within verb && not (are_ends right)) (kind_of_both verb (kind_in columns left) (kind_in columns right)) some).0 in
    ap (kind_in columns) is
    ∙ ap (λ (b : Bool). cond b None (kind_of_both verb (kind_in columns left) (kind_in columns right))) ends
    ∙ ap (λ (o : Option Kind). kind_of_both verb o (kind_in columns right)) p
    ∙ ap (kind_of_both verb (Some kl)) q

pub sides_of : (frame : Frame) (columns : List ℕ → Option Kind) (e : Form) (verb : Verb) (left right : Form) (l r : Tree) → e ≡ two verb left right → is_some (kind_in columns e) ≡ true → has_unbuilt e ≡ false → l ≡ val frame left → r ≡ val frame right → AreSides verb l r
sides_of frame columns e verb left right l r is kind built p q =
    let sides = val_sides frame columns verb left right (ap (λ (f : Form). is_some (kind_in columns f)) (sym is) ∙ kind) (ap has_unbuilt (sym is) ∙ built) in
    subst (λ (t : Tree). AreSides verb t r) (sym p) (subst (λ (t : Tree). AreSides verb (val frame left) t) (sym q) sides)

-- the number of verbs in an expression
abbrev pub form_size : Form → ℕ
form_size (constant value) = 0
form_size (column name) = 0
form_size (one verb side) = form_size side + 1
form_size (two verb left right) = (form_size left + form_size right) + 1

pub side_size : (e : Form) (verb : Verb1) (side other : Form) → e ≡ one verb side → other ≡ side → form_size other < form_size e
side_size e verb side other is same = rw (is, same) (omega arith)

pub left_size : (e : Form) (verb : Verb) (left right other : Form) → e ≡ two verb left right → other ≡ left → form_size other < form_size e
left_size e verb left right other is same = rw (is, same) (omega arith)

pub right_size : (e : Form) (verb : Verb) (left right other : Form) → e ≡ two verb left right → other ≡ right → form_size other < form_size e
right_size e verb left right other is same = rw (is, same) (omega arith)

pub sides_size : (e : Form) (verb : Verb) (left right : Form) → e ≡ two verb left right → form_size e ≡ (form_size left + form_size right) + 1
sides_size e verb left right is = ap form_size is

pub both_size : (e : Form) (outer : Verb1) (inner : Verb) (left right : Form) → e ≡ one outer (two inner left right) → form_size e ≡ ((form_size left + form_size right) + 1) + 1
both_size e outer inner left right is = ap form_size is

pub side_of : (columns : List ℕ → Option Kind) (e : Form) (verb : Verb1) (side : Form) → e ≡ one verb side → is_some (kind_in columns e) ≡ true → is_some (kind_in columns side) ≡ true
side_of columns e verb side is kind = some_side verb (kind_in columns side) (ap (λ (f : Form). is_some (kind_in columns f)) (sym is) ∙ kind)

is_rows_of : (shape : Shape) → not (is_rows shape) ≡ false → shape ≡ s.Rows
is_rows_of s.Rows h = refl
is_rows_of s.Scalar h = no_again h
is_rows_of s.List h = no_again h

-- the value of a phrase has an item for each row
pub phrase_shape : (frame : Frame) (columns : List ℕ → Option Kind) (e : Form) (t : Tree) → is_some (kind_in columns e) ≡ true → is_unbuilt_phrase e ≡ false → t ≡ val frame e → HasShape (length frame.rows) s.Rows t
phrase_shape frame columns e t kind built is =
    let both = neither (has_unbuilt e) (not (is_rows (shape e))) built in
    subst (HasShape (length frame.rows) s.Rows) (sym is) (subst (λ (of : Shape). HasShape (length frame.rows) of (val frame e)) (is_rows_of (shape e) both.1) (val_shape frame columns e kind both.0))
