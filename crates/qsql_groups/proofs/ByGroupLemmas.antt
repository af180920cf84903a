-- Values for all groups, of verbs and of their sides.
use Rattle.std.proofs.Common.{◌≡◌, ℕ, ◌+◌, ◌<◌, Bool, true, false, ◌&&◌, ◌||◌, cond, List, [], ◌∷◌, ◌++◌, length, get_or, map, replicate, refl, sym, ap, ap₂, ◌∙◌, arith, zero, suc, Option, Some, subst, Result, Ok, Err}
use Rattle.std.specs.Prelude.{unwrap_or, option_and_then, is_some, IfOk}
use Rattle.std.specs.List.{flat_map, range_with_len}
use Rattle.std.proofs.lemmas.List.{ext_get_or, length-replicate, get_or-replicate}
use Rattle.std.proofs.lemmas.List.FromFn.{length-map-range_with_len, get_or-map-range_with_len}
use Rattle.q_values.specs.Contents.{Contents}
use Rattle.q_values.specs.Tree.{Tree, atom, vector}
use Rattle.q_values.specs.declared.atom.Atom.{Atom}
use Rattle.q_values.specs.declared.kind.Kind.{Kind}
use Rattle.q_values.specs.declared.kind.Kind.TheVariants as k
use Rattle.q_verbs.specs.Aggregates.{aggregate_of, is_aggregate}
use Rattle.q_verbs.specs.Kinds.{result_kind1_of, result_kind_of}
use Rattle.q_verbs.specs.declared.verb.Verb.{Verb}
use Rattle.q_verbs.specs.declared.verb.Verb1.{Verb1}
use Rattle.q_verbs.specs.declared.verb.Verb1.TheVariants as u
use Rattle.day_rows.specs.Rows.{absent}
use Rattle.q_grouped.specs.Grouped.{group_of, aggregates}
use Rattle.q_keys.specs.Keys.{KeyGrouping, rows_of_group}
use Rattle.qsql_request.specs.Forms.{Form, one, two}
use Rattle.qsql_request.specs.Shapes.{shape, shape_of_one, shape_of_two, is_rows, is_scalar, is_test}
use Rattle.qsql_values.specs.ByRow.{is_by_row, is_fixed}
use Rattle.qsql_values.specs.Frames.{Frame, kind_beside}
use Rattle.qsql_values.specs.Kinds.{kind_in}
use Rattle.qsql_values.specs.Operands.{kind_of_tree}
use Rattle.qsql_values.specs.Values.{items_in, value_of_one, value_of_two}
use Rattle.qsql_values.proofs.ShapeLemmas.{kind_of_two}
use Rattle.qsql_groups.specs.Groups.{items_over, parts}
use Rattle.qsql_groups.specs.OnePass.{is_one_pass, is_one_pass_verb, of_group, IsForGroups, IsByGroup, val_of, shape_by, per_group}
use Rattle.qsql_groups.proofs.PartLemmas.{group-gathered}

no : {P : Type 0} → false ≡ true → P
no e = absurd cc

pub both_true : (x y : Bool) → (x && y) ≡ true → (x ≡ true) × (y ≡ true)
both_true true true e = (refl, refl)
both_true true false e = no e
both_true false y e = no e

-- what holds of a result, from three clauses of it
pub by_three : {A E : Type 0} (r : Result A E) (P Q R S : A → Type 0) → ((v : A) → P v → Q v → R v → S v) → IfOk r P → IfOk r Q → IfOk r R → IfOk r (λ v. S v)
by_three (Ok v) P Q R S f p q r = f v p q r
by_three (Err e) P Q R S f p q r = tt

-- ---- an aggregate of the items of each group

aggregate_value : (verb : Verb1) (t : Tree) → is_aggregate verb ≡ true → value_of_one verb t ≡ atom (aggregate_of verb (items_in t).kind (items_in t).atoms)
aggregate_value u.Not t is = no is
aggregate_value u.Neg t is = no is
aggregate_value u.Distinct t is = no is
aggregate_value verb t is = refl

plain : (k : ℕ) → 0 + k ≡ k
plain k = omega arith

pub aggregates_by : (groups : KeyGrouping) (verb : Verb1) (side found : Contents) → is_aggregate verb ≡ true → length side.atoms ≡ length groups.codes → found.atoms ≡ aggregates verb side.kind (length groups.firsts) groups.codes side.atoms
    → IsForGroups groups (λ (g : ℕ). value_of_one verb (of_group true g groups.codes (vector side))) false (vector found)
aggregates_by groups verb side found is size made =
    let n = length groups.firsts in
    let f : ℕ → Atom = λ (g : ℕ). aggregate_of verb side.kind (group_of g groups.codes side.atoms) in
    record {
      items = ap length made ∙ length-map-range_with_len f 0 n;
      each = λ g low.
          aggregate_value verb (of_group true g groups.codes (vector side)) is
          ∙ ap (λ (xs : List Atom). atom (aggregate_of verb side.kind xs)) (sym (group-gathered groups.codes side.atoms g (sym size)))
          ∙ ap atom (sym (get_or-map-range_with_len f 0 n g g absent low (plain g)))
          ∙ ap (λ (xs : List Atom). atom (get_or xs g absent)) (sym made);
    }

-- ---- of the sides of an expression

rows_of_shape : (b : Bool) → is_rows (shape_by b) ≡ b
rows_of_shape true = refl
rows_of_shape false = refl

pub verb_fits : (frame : Frame) (groups : KeyGrouping) (verb : Verb1) (side : Form) (b : Bool) (t : Tree) → is_one_pass (one verb side) ≡ true → IsByGroup frame groups side b t → is_one_pass_verb verb b ≡ true
verb_fits frame groups verb side b t h is =
    ap (is_one_pass_verb verb) (sym (rows_of_shape b) ∙ ap is_rows (sym is.shape)) ∙ (both_true (is_one_pass_verb verb (is_rows (shape side))) (is_one_pass side) h).0

pub one_by_group : (frame : Frame) (groups : KeyGrouping) (e : Form) (verb : Verb1) (side : Form) (b : Bool) (t : Tree) (c : Bool) (u : Tree) → e ≡ one verb side → IsByGroup frame groups side b t
    → IsForGroups groups (λ (g : ℕ). value_of_one verb (of_group b g groups.codes t)) c u → result_kind1_of verb (kind_of_tree t) ≡ Some (kind_of_tree u) → shape_of_one verb (shape_by b) ≡ shape_by c → IsByGroup frame groups e c u
one_by_group frame groups e verb side b t c u form is made kind shaped = subst (λ (f : Form). IsByGroup frame groups f c u) (sym form) (record {
  values = record { items = made.items; each = λ g low. ap (value_of_one verb) (is.values.each g low) ∙ made.each g low };
  kind = ap (option_and_then (result_kind1_of verb)) is.kind ∙ kind;
  shape = ap (shape_of_one verb) is.shape ∙ shaped;
})

pub two_by_group : (frame : Frame) (groups : KeyGrouping) (e : Form) (verb : Verb) (left right : Form) (bl : Bool) (l : Tree) (br : Bool) (r : Tree) (c : Bool) (u : Tree) → e ≡ two verb left right → is_test verb ≡ false → is_some (kind_in (kind_beside frame) e) ≡ true
    → IsByGroup frame groups left bl l → IsByGroup frame groups right br r
    → IsForGroups groups (λ (g : ℕ). value_of_two verb (of_group bl g groups.codes l) (of_group br g groups.codes r)) c u → result_kind_of verb (kind_of_tree l) (kind_of_tree r) ≡ Some (kind_of_tree u) → shape_of_two false (shape_by bl) (shape_by br) ≡ shape_by c
    → IsByGroup frame groups e c u
two_by_group frame groups e verb left right bl l br r c u form test some first second made kind shaped =
    let kind_is = kind_of_two (kind_beside frame) e verb left right (kind_of_tree l) (kind_of_tree r) form some first.kind second.kind ∙ kind in
    record {
      values = record {
        items = made.items;
        each = λ g low.
            ap (λ (f : Form). val_of frame groups.codes f g) form
            ∙ ap₂ (value_of_two verb) (first.values.each g low) (second.values.each g low)
            ∙ made.each g low;
      };
      kind = kind_is;
      shape =
          ap shape form
          ∙ ap (λ (b : Bool). shape_of_two b (shape left) (shape right)) test
          ∙ ap₂ (shape_of_two false) first.shape second.shape
          ∙ shaped;
    }

-- what is evaluated at once has sides that are
pub side_passes : (e : Form) (verb : Verb1) (side : Form) → e ≡ one verb side → is_one_pass e ≡ true → is_one_pass side ≡ true
side_passes e verb side is h = (both_true (is_one_pass_verb verb (is_rows (shape side))) (is_one_pass side) (ap is_one_pass (sym is) ∙ h)).1

pub sides_pass : (e : Form) (verb : Verb) (left right : Form) → e ≡ two verb left right → is_test verb ≡ false → is_one_pass e ≡ true → (is_one_pass left ≡ true) × (is_one_pass right ≡ true)
sides_pass e verb left right is test h =
    both_true (is_one_pass left) (is_one_pass right)
    (sym (ap is_one_pass is ∙ ap (λ (b : Bool). cond b (is_by_row left && is_fixed right) (is_one_pass left && is_one_pass right)) test) ∙ h)

pub test_by_row : (e : Form) (verb : Verb) (left right : Form) → e ≡ two verb left right → is_test verb ≡ true → is_one_pass e ≡ true → is_by_row e ≡ true
test_by_row e verb left right is test h =
    ap is_by_row is
    ∙ ap (λ (b : Bool). is_by_row left && cond b (is_fixed right) (is_by_row right)) test
    ∙ sym (ap is_one_pass is ∙ ap (λ (b : Bool). cond b (is_by_row left && is_fixed right) (is_one_pass left && is_one_pass right)) test)
    ∙ h

pub joined_by : (bl br : Bool) → shape_of_two false (shape_by bl) (shape_by br) ≡ shape_by (bl || br)
joined_by true true = refl
joined_by true false = refl
joined_by false true = refl
joined_by false false = refl

-- ---- an item for each group

flat_single : (f : List ℕ → List Atom) (part : ℕ → List ℕ) (x : ℕ → Atom) (k n : ℕ) → ((g : ℕ) → g < k + n → f (part g) ≡ x g ∷ []) → flat_map f (map part (range_with_len k n)) ≡ map x (range_with_len k n)
flat_single f part x k zero each = refl
flat_single f part x k (suc n) each = ap₂ (λ (l m : List Atom). l ++ m) (each k (omega arith)) (flat_single f part x (k + 1) n (λ g low. each g (omega (arith, low))))

single : (frame : Frame) (codes : List ℕ) (e : Form) (n : ℕ) (x : ℕ → Atom) (xs : List Atom) → length xs ≡ n → ((g : ℕ) → g < n → val_of frame codes e g ≡ atom (x g)) → ((g : ℕ) → g < n → x g ≡ get_or xs g absent) → flat_map (items_over frame e) (parts codes n) ≡ xs
single frame codes e n x xs size each at =
    flat_single (items_over frame e) (λ (g : ℕ). rows_of_group g codes) x 0 n (λ g low. ap (λ (t : Tree). (items_in t).atoms) (each g (omega (arith, low))))
    ∙ ext_get_or absent (map x (range_with_len 0 n)) xs (length-map-range_with_len x 0 n ∙ sym size)
    (λ g low. let g_in : g < n = omega (arith, low, length-map-range_with_len x 0 n) in get_or-map-range_with_len x 0 n g g absent g_in (plain g) ∙ at g g_in)

no_rows : (b : Bool) → is_scalar (shape_by b) ≡ true → b ≡ false
no_rows true h = no h
no_rows false h = refl

abbrev pub value_at : Frame → List ℕ → Form → ℕ → Contents
value_at frame codes e n = record { kind = unwrap_or (kind_in (kind_beside frame) e) k.Boolean; atoms = flat_map (items_over frame e) (parts codes n) }

items_for : (frame : Frame) (groups : KeyGrouping) (e : Form) (t : Tree) → IsForGroups groups (val_of frame groups.codes e) false t → kind_in (kind_beside frame) e ≡ Some (kind_of_tree t) → per_group (length groups.firsts) t ≡ value_at frame groups.codes e (length groups.firsts)
items_for frame groups e (atom x) is kind =
    let n = length groups.firsts in
    ap₂ (λ (o : Option Kind) (xs : List Atom). record { kind = unwrap_or o k.Boolean; atoms = xs }) (sym kind)
    (sym (single frame groups.codes e n (λ (g : ℕ). x) (replicate n x) (length-replicate n x) (λ g low. is.each g low) (λ g low. sym (get_or-replicate n g x absent low))))
items_for frame groups e (vector c) is kind =
    let n = length groups.firsts in
    ap₂ (λ (o : Option Kind) (xs : List Atom). record { kind = unwrap_or o k.Boolean; atoms = xs }) (sym kind)
    (sym (single frame groups.codes e n (λ (g : ℕ). get_or c.atoms g absent) c.atoms is.items (λ g low. is.each g low) (λ g low. refl)))
items_for frame groups e t is kind = absurd is.items

pub value_for : (frame : Frame) (groups : KeyGrouping) (e : Form) (b : Bool) (t : Tree) → IsByGroup frame groups e b t → is_scalar (shape e) ≡ true → per_group (length groups.firsts) t ≡ value_at frame groups.codes e (length groups.firsts)
value_for frame groups e b t is scalar =
    let flag : b ≡ false = no_rows b (ap is_scalar (sym is.shape) ∙ scalar) in
    items_for frame groups e t (subst (λ (c : Bool). IsForGroups groups (val_of frame groups.codes e) c t) flag is.values) is.kind
