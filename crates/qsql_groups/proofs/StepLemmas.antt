-- What verbs make of values for all groups.
use Rattle.std.proofs.Common.{◌≡◌, ℕ, ◌<◌, Bool, true, false, ◌||◌, List, length, get_or, map, replicate, refl, sym, ap, ap₂, ◌∙◌, arith, All, subst}
use Rattle.std.specs.Prelude.{unwrap_or, option_map, neg_ℤ}
use Rattle.std.specs.Simd.Lanes.{zip2}
use Rattle.std.proofs.lemmas.List.{get_or-map, length-map}
use Rattle.std.proofs.lemmas.List.Elements.{All-get_or}
use Rattle.std.proofs.lemmas.Simd.{get_or-zip2, length-zip2}
use Rattle.q_values.specs.Atom.{kind_of}
use Rattle.q_values.specs.Contents.{Contents}
use Rattle.q_values.specs.Lists.{gathered}
use Rattle.q_values.specs.Tree.{Tree, atom, vector}
use Rattle.q_values.specs.declared.atom.Atom.{Atom}
use Rattle.q_values.specs.declared.atom.Atom.TheVariants as a
use Rattle.q_values.specs.declared.kind.Kind.{Kind}
use Rattle.q_values.proofs.ListLemmas.{map-gathered, length-gathered}
use Rattle.q_verbs.specs.Kinds.{result_kind1_of}
use Rattle.q_verbs.specs.Lists.{is_zero}
use Rattle.q_verbs.specs.Numbers.{worth, written}
use Rattle.q_verbs.specs.Places.{value_of, is_by_place}
use Rattle.q_verbs.specs.declared.verb.Verb.{Verb}
use Rattle.q_verbs.specs.declared.verb.Verb.TheVariants as v
use Rattle.q_verbs.specs.declared.verb.Verb1.{Verb1}
use Rattle.q_verbs.specs.declared.verb.Verb1.TheVariants as u
use Rattle.day_rows.specs.Rows.{absent}
use Rattle.q_keys.specs.Keys.{KeyGrouping, rows_of_group}
use Rattle.qsql_values.specs.Operands.{is_by_item, HaveEqualLengths}
use Rattle.qsql_values.specs.Values.{items_in, formed_as, listed, by_item, by_item_of, kind_with, value_of_one, value_of_two}
use Rattle.qsql_values.proofs.OperandLemmas.{beside_left, beside_right}
use Rattle.qsql_groups.specs.OnePass.{of_group, HasItems, IsOfOneKind, IsForGroups, lent_to}
use Rattle.qsql_groups.proofs.PartLemmas.{zip-gathered, part_within, part_lent}

no : {P : Type 0} → false ≡ true → P
no e = absurd cc

-- the kind of a group's value is that of the value for all groups
pub part_kind : (rows groups : ℕ) (b : Bool) (g : ℕ) (codes : List ℕ) (t : Tree) → HasItems rows groups b t → IsOfOneKind t → g < groups → (items_in (of_group b g codes t)).kind ≡ (items_in t).kind
part_kind rows groups true g codes (vector c) items kinds low = refl
part_kind rows groups false g codes (vector c) items kinds low = All-get_or (λ (x : Atom). kind_of x ≡ c.kind) c.atoms g absent (omega (arith, items, low)) kinds
part_kind rows groups false g codes (atom x) items kinds low = refl
part_kind rows groups b g codes t items kinds low = absurd items

-- ---- verbs with one side

formed : (rows groups : ℕ) (b : Bool) (g : ℕ) (codes : List ℕ) (kind : Kind) (f : Atom → Atom) (t : Tree) → HasItems rows groups b t → g < groups
    → formed_as (of_group b g codes t) (record { kind = kind; atoms = map f (items_in (of_group b g codes t)).atoms }) ≡ of_group b g codes (formed_as t (record { kind = kind; atoms = map f (items_in t).atoms }))
formed rows groups true g codes kind f (vector c) items low = ap (λ (xs : List Atom). vector (record { kind = kind; atoms = xs })) (map-gathered f c.atoms (rows_of_group g codes))
formed rows groups false g codes kind f (vector c) items low = ap atom (sym (get_or-map f c.atoms g absent absent (omega (arith, items, low))))
formed rows groups false g codes kind f (atom x) items low = refl
formed rows groups b g codes kind f t items low = absurd items

-- `not` and `neg` of a group's value
pub one_part : (rows groups : ℕ) (verb : Verb1) (b : Bool) (g : ℕ) (codes : List ℕ) (t : Tree) → is_by_item verb ≡ true → HasItems rows groups b t → IsOfOneKind t → g < groups → value_of_one verb (of_group b g codes t) ≡ of_group b g codes (value_of_one verb t)
one_part rows groups u.Not b g codes t is items kinds low =
    ap (λ (kind : Kind). formed_as (of_group b g codes t) (listed u.Not (unwrap_or (result_kind1_of u.Not kind) kind) (items_in (of_group b g codes t)).atoms)) (part_kind rows groups b g codes t items kinds low)
    ∙ formed rows groups b g codes (unwrap_or (result_kind1_of u.Not (items_in t).kind) (items_in t).kind) (λ (x : Atom). a.Boolean (is_zero (worth x).number)) t items low
one_part rows groups u.Neg b g codes t is items kinds low =
    let kind = unwrap_or (result_kind1_of u.Neg (items_in t).kind) (items_in t).kind in
    ap (λ (kind : Kind). formed_as (of_group b g codes t) (listed u.Neg (unwrap_or (result_kind1_of u.Neg kind) kind) (items_in (of_group b g codes t)).atoms)) (part_kind rows groups b g codes t items kinds low)
    ∙ formed rows groups b g codes kind (λ (x : Atom). written kind (option_map neg_ℤ (worth x).number)) t items low
one_part rows groups verb b g codes t is items kinds low = no is

formed_items : (rows groups : ℕ) (b : Bool) (kind : Kind) (f : Atom → Atom) (t : Tree) → HasItems rows groups b t → HasItems rows groups b (formed_as t (record { kind = kind; atoms = map f (items_in t).atoms }))
formed_items rows groups true kind f (vector c) items = length-map c.atoms f ∙ items
formed_items rows groups false kind f (vector c) items = length-map c.atoms f ∙ items
formed_items rows groups false kind f (atom x) items = tt
formed_items rows groups b kind f t items = absurd items

pub one_items : (rows groups : ℕ) (verb : Verb1) (b : Bool) (t : Tree) → is_by_item verb ≡ true → HasItems rows groups b t → HasItems rows groups b (value_of_one verb t)
one_items rows groups u.Not b t is items = formed_items rows groups b (unwrap_or (result_kind1_of u.Not (items_in t).kind) (items_in t).kind) (λ (x : Atom). a.Boolean (is_zero (worth x).number)) t items
one_items rows groups u.Neg b t is items =
    let kind = unwrap_or (result_kind1_of u.Neg (items_in t).kind) (items_in t).kind in
    formed_items rows groups b kind (λ (x : Atom). written kind (option_map neg_ℤ (worth x).number)) t items
one_items rows groups verb b t is items = no is

-- ---- verbs with two sides

-- a side of a verb by item: an atom, or a column with an item for each row, where that is wanted, or for each group
abbrev pub HasLent : ℕ → ℕ → Bool → Tree → Type 0
HasLent rows groups wanted (atom x) = Unit {0}
HasLent rows groups true (vector c) = length c.atoms ≡ rows
HasLent rows groups false (vector c) = length c.atoms ≡ groups
HasLent rows groups wanted t = ⊥

-- what is lent keeps its kind
pub lent_kind : (wanted b : Bool) (codes : List ℕ) (t : Tree) → (items_in (lent_to wanted b codes t)).kind ≡ (items_in t).kind
lent_kind true false codes (vector c) = refl
lent_kind true false codes t = refl
lent_kind true true codes t = refl
lent_kind false b codes t = refl

columns_part : (rows g : ℕ) (codes : List ℕ) (f : Atom → Atom → Atom) (xs ys : List Atom) → length codes ≡ rows → length xs ≡ rows → length ys ≡ rows
    → zip2 f (gathered xs (rows_of_group g codes)) (gathered ys (rows_of_group g codes)) ≡ gathered (zip2 f xs ys) (rows_of_group g codes)
columns_part rows g codes f xs ys size p q =
    zip-gathered f xs ys (rows_of_group g codes) (p ∙ sym q) (subst (λ (n : ℕ). All (λ (i : ℕ). i < n) (rows_of_group g codes)) (size ∙ sym p) (part_within g codes))

-- an item of each group beside rows
lent_right : (rows groups g : ℕ) (codes : List ℕ) (f : Atom → Atom → Atom) (xs ys : List Atom) → length codes ≡ rows → All (λ (c : ℕ). c < groups) codes → length xs ≡ rows → length ys ≡ groups
    → map (λ (x : Atom). f x (get_or ys g absent)) (gathered xs (rows_of_group g codes)) ≡ gathered (zip2 f xs (gathered ys codes)) (rows_of_group g codes)
lent_right rows groups g codes f xs ys size within p q =
    let part = rows_of_group g codes in
    let in_ys : All (λ (c : ℕ). c < length ys) codes = subst (λ (n : ℕ). All (λ (c : ℕ). c < n) codes) (sym q) within in
    let in_xs : All (λ (i : ℕ). i < length xs) part = subst (λ (n : ℕ). All (λ (i : ℕ). i < n) part) (size ∙ sym p) (part_within g codes) in
    let long : length (gathered ys codes) ≡ rows = length-gathered ys codes in_ys ∙ size in
    sym (beside_right f (gathered xs part) (get_or ys g absent))
    ∙ ap (λ (n : ℕ). zip2 f (gathered xs part) (replicate n (get_or ys g absent))) (length-gathered xs part in_xs)
    ∙ ap (zip2 f (gathered xs part)) (sym (part_lent ys codes g in_ys))
    ∙ columns_part rows g codes f xs (gathered ys codes) size p long

lent_left : (rows groups g : ℕ) (codes : List ℕ) (f : Atom → Atom → Atom) (xs ys : List Atom) → length codes ≡ rows → All (λ (c : ℕ). c < groups) codes → length xs ≡ groups → length ys ≡ rows
    → map (λ (y : Atom). f (get_or xs g absent) y) (gathered ys (rows_of_group g codes)) ≡ gathered (zip2 f (gathered xs codes) ys) (rows_of_group g codes)
lent_left rows groups g codes f xs ys size within p q =
    let part = rows_of_group g codes in
    let in_xs : All (λ (c : ℕ). c < length xs) codes = subst (λ (n : ℕ). All (λ (c : ℕ). c < n) codes) (sym p) within in
    let in_ys : All (λ (i : ℕ). i < length ys) part = subst (λ (n : ℕ). All (λ (i : ℕ). i < n) part) (size ∙ sym q) (part_within g codes) in
    let long : length (gathered xs codes) ≡ rows = length-gathered xs codes in_xs ∙ size in
    sym (beside_left f (get_or xs g absent) (gathered ys part))
    ∙ ap (λ (n : ℕ). zip2 f (replicate n (get_or xs g absent)) (gathered ys part)) (length-gathered ys part in_ys)
    ∙ ap (λ (l : List Atom). zip2 f l (gathered ys part)) (sym (part_lent xs codes g in_xs))
    ∙ columns_part rows g codes f (gathered xs codes) ys size long q

abbrev made : Kind → List Atom → Tree
made kind xs = vector (record { kind = kind; atoms = xs })

module _ (rows groups g : ℕ) (codes : List ℕ) (f : Atom → Atom → Atom) (kind : Kind) (size : length codes ≡ rows) (within : All (λ (c : ℕ). c < groups) codes) where
  abbrev Fits : Bool → Bool → Tree → Tree → Type 0
  Fits bl br l r = by_item f kind (of_group bl g codes l) (of_group br g codes r) ≡ of_group (bl || br) g codes (by_item f kind (lent_to (bl || br) bl codes l) (lent_to (bl || br) br codes r))

  of_atom : (br : Bool) (x : Atom) (r : Tree) → HasItems rows groups br r → g < groups → Fits false br (atom x) r
  of_atom false x (atom y) q low = refl
  of_atom false x (vector ys) q low = ap atom (sym (get_or-map (λ (y : Atom). f x y) ys.atoms g absent absent (omega (arith, q, low))))
  of_atom true x (vector ys) q low = ap (made kind) (map-gathered (λ (y : Atom). f x y) ys.atoms (rows_of_group g codes))
  of_atom br x r q low = absurd q

  of_groups : (br : Bool) (xs : Contents) (r : Tree) → length xs.atoms ≡ groups → HasItems rows groups br r → g < groups → Fits false br (vector xs) r
  of_groups false xs (atom y) p q low = ap atom (sym (get_or-map (λ (x : Atom). f x y) xs.atoms g absent absent (omega (arith, p, low))))
  of_groups false xs (vector ys) p q low = ap atom (sym (get_or-zip2 f xs.atoms ys.atoms g absent absent absent (omega (arith, p, low)) (omega (arith, q, low))))
  of_groups true xs (vector ys) p q low = ap (made kind) (lent_left rows groups g codes f xs.atoms ys.atoms size within p q)
  of_groups br xs r p q low = absurd q

  of_rows : (br : Bool) (xs : Contents) (r : Tree) → length xs.atoms ≡ rows → HasItems rows groups br r → g < groups → Fits true br (vector xs) r
  of_rows false xs (atom y) p q low = ap (made kind) (map-gathered (λ (x : Atom). f x y) xs.atoms (rows_of_group g codes))
  of_rows false xs (vector ys) p q low = ap (made kind) (lent_right rows groups g codes f xs.atoms ys.atoms size within p q)
  of_rows true xs (vector ys) p q low = ap (made kind) (columns_part rows g codes f xs.atoms ys.atoms size p q)
  of_rows br xs r p q low = absurd q

  pub items_part : (bl br : Bool) (l r : Tree) → HasItems rows groups bl l → HasItems rows groups br r → g < groups → Fits bl br l r
  items_part false br (atom x) r p q low = of_atom br x r q low
  items_part false br (vector xs) r p q low = of_groups br xs r p q low
  items_part true br (vector xs) r p q low = of_rows br xs r p q low
  items_part bl br l r p q low = absurd p

  abbrev Made : Bool → Bool → Tree → Tree → Type 0
  Made bl br l r = HasItems rows groups (bl || br) (by_item f kind (lent_to (bl || br) bl codes l) (lent_to (bl || br) br codes r))

  long : (ys : List Atom) → length ys ≡ groups → length (gathered ys codes) ≡ rows
  long ys q = length-gathered ys codes (subst (λ (n : ℕ). All (λ (c : ℕ). c < n) codes) (sym q) within) ∙ size

  made_atom : (br : Bool) (x : Atom) (r : Tree) → HasItems rows groups br r → Made false br (atom x) r
  made_atom false x (atom y) q = tt
  made_atom false x (vector ys) q = length-map ys.atoms (λ (y : Atom). f x y) ∙ q
  made_atom true x (vector ys) q = length-map ys.atoms (λ (y : Atom). f x y) ∙ q
  made_atom br x r q = absurd q

  made_groups : (br : Bool) (xs : Contents) (r : Tree) → length xs.atoms ≡ groups → HasItems rows groups br r → Made false br (vector xs) r
  made_groups false xs (atom y) p q = length-map xs.atoms (λ (x : Atom). f x y) ∙ p
  made_groups false xs (vector ys) p q = length-zip2 f xs.atoms ys.atoms (p ∙ sym q) ∙ p
  made_groups true xs (vector ys) p q = length-zip2 f (gathered xs.atoms codes) ys.atoms (long xs.atoms p ∙ sym q) ∙ long xs.atoms p
  made_groups br xs r p q = absurd q

  made_rows : (br : Bool) (xs : Contents) (r : Tree) → length xs.atoms ≡ rows → HasItems rows groups br r → Made true br (vector xs) r
  made_rows false xs (atom y) p q = length-map xs.atoms (λ (x : Atom). f x y) ∙ p
  made_rows false xs (vector ys) p q = length-zip2 f xs.atoms (gathered ys.atoms codes) (p ∙ sym (long ys.atoms q)) ∙ p
  made_rows true xs (vector ys) p q = length-zip2 f xs.atoms ys.atoms (p ∙ sym q) ∙ p
  made_rows br xs r p q = absurd q

  pub items_made : (bl br : Bool) (l r : Tree) → HasItems rows groups bl l → HasItems rows groups br r → Made bl br l r
  items_made false br (atom x) r p q = made_atom br x r q
  items_made false br (vector xs) r p q = made_groups br xs r p q
  items_made true br (vector xs) r p q = made_rows br xs r p q
  items_made bl br l r p q = absurd p

pub by_place : (verb : Verb) (l r : Tree) → is_by_place verb ≡ true → value_of_two verb l r ≡ by_item_of verb (items_in l).kind (items_in r).kind l r
by_place v.In l r is = no is
by_place v.Within l r is = no is
by_place v.Like l r is = no is
by_place verb l r is = refl

-- a verb with two sides, of a group's values
pub two_part : (rows groups g : ℕ) (codes : List ℕ) (verb : Verb) (bl br : Bool) (l r : Tree) → is_by_place verb ≡ true → length codes ≡ rows → All (λ (c : ℕ). c < groups) codes → g < groups
    → HasItems rows groups bl l → HasItems rows groups br r → IsOfOneKind l → IsOfOneKind r
    → value_of_two verb (of_group bl g codes l) (of_group br g codes r) ≡ of_group (bl || br) g codes (value_of_two verb (lent_to (bl || br) bl codes l) (lent_to (bl || br) br codes r))
two_part rows groups g codes verb bl br l r is size within low p q left right =
    let first = lent_to (bl || br) bl codes l in
    let second = lent_to (bl || br) br codes r in
    by_place verb (of_group bl g codes l) (of_group br g codes r) is
    ∙ ap₂ (λ (kl kr : Kind). by_item_of verb kl kr (of_group bl g codes l) (of_group br g codes r)) (part_kind rows groups bl g codes l p left low) (part_kind rows groups br g codes r q right low)
    ∙ items_part rows groups g codes (value_of verb (items_in l).kind (items_in r).kind (kind_with verb (items_in l).kind (items_in r).kind)) (kind_with verb (items_in l).kind (items_in r).kind) size within bl br l r p q low
    ∙ ap₂ (λ (kl kr : Kind). of_group (bl || br) g codes (by_item_of verb kl kr first second)) (sym (lent_kind (bl || br) bl codes l)) (sym (lent_kind (bl || br) br codes r))
    ∙ ap (of_group (bl || br) g codes) (sym (by_place verb first second is))

pub two_items : (rows groups : ℕ) (codes : List ℕ) (verb : Verb) (bl br : Bool) (l r : Tree) → is_by_place verb ≡ true → length codes ≡ rows → All (λ (c : ℕ). c < groups) codes → HasItems rows groups bl l → HasItems rows groups br r
    → HasItems rows groups (bl || br) (value_of_two verb (lent_to (bl || br) bl codes l) (lent_to (bl || br) br codes r))
two_items rows groups codes verb bl br l r is size within p q =
    let first = lent_to (bl || br) bl codes l in
    let second = lent_to (bl || br) br codes r in
    let kl = (items_in first).kind in
    let kr = (items_in second).kind in
    subst (HasItems rows groups (bl || br)) (sym (by_place verb first second is)) (items_made rows groups 0 codes (value_of verb kl kr (kind_with verb kl kr)) (kind_with verb kl kr) size within bl br l r p q)

-- what is lent has an item for each row where it is wanted
pub lent_items : (rows groups : ℕ) (wanted b : Bool) (codes : List ℕ) (t : Tree) → length codes ≡ rows → All (λ (c : ℕ). c < groups) codes → (b ≡ true → wanted ≡ true) → HasItems rows groups b t → HasLent rows groups wanted (lent_to wanted b codes t)
lent_items rows groups true false codes (atom x) size within h p = tt
lent_items rows groups true false codes (vector c) size within h p = length-gathered c.atoms codes (subst (λ (n : ℕ). All (λ (i : ℕ). i < n) codes) (sym p) within) ∙ size
lent_items rows groups true true codes (vector c) size within h p = p
lent_items rows groups false false codes (atom x) size within h p = tt
lent_items rows groups false false codes (vector c) size within h p = p
lent_items rows groups false true codes (vector c) size within h p = no (h refl)
lent_items rows groups wanted b codes t size within h p = absurd p

pub lent_even : (rows groups : ℕ) (wanted : Bool) (l r : Tree) → HasLent rows groups wanted l → HasLent rows groups wanted r → HaveEqualLengths l r
lent_even rows groups true (vector xs) (vector ys) p q = p ∙ sym q
lent_even rows groups false (vector xs) (vector ys) p q = p ∙ sym q
lent_even rows groups wanted l r p q = tt

-- ---- values for all groups

pub one_values : (groups : KeyGrouping) (verb : Verb1) (b : Bool) (t made : Tree) → is_by_item verb ≡ true → HasItems (length groups.codes) (length groups.firsts) b t → IsOfOneKind t → made ≡ value_of_one verb t
    → IsForGroups groups (λ (g : ℕ). value_of_one verb (of_group b g groups.codes t)) b made
one_values groups verb b t made is items kinds value = record {
  items = subst (HasItems (length groups.codes) (length groups.firsts) b) (sym value) (one_items (length groups.codes) (length groups.firsts) verb b t is items);
  each = λ g low. one_part (length groups.codes) (length groups.firsts) verb b g groups.codes t is items kinds low ∙ ap (of_group b g groups.codes) (sym value);
}

wanted_left : (bl br : Bool) → bl ≡ true → (bl || br) ≡ true
wanted_left true br h = refl
wanted_left false br h = no h

wanted_right : (bl br : Bool) → br ≡ true → (bl || br) ≡ true
wanted_right true br h = refl
wanted_right false br h = h

abbrev Within : KeyGrouping → Type 0
Within groups = All (λ (c : ℕ). c < length groups.firsts) groups.codes

pub lent_sides : (groups : KeyGrouping) (bl br w : Bool) (l r first second : Tree) → w ≡ (bl || br) → Within groups → HasItems (length groups.codes) (length groups.firsts) bl l → HasItems (length groups.codes) (length groups.firsts) br r
    → first ≡ lent_to w bl groups.codes l → second ≡ lent_to w br groups.codes r → HaveEqualLengths first second
lent_sides groups bl br w l r first second is within p q left right =
    let rows = length groups.codes in
    let n = length groups.firsts in
    let fits_left : HasLent rows n w (lent_to w bl groups.codes l) = lent_items rows n w bl groups.codes l refl within (λ h. is ∙ wanted_left bl br h) p in
    let fits_right : HasLent rows n w (lent_to w br groups.codes r) = lent_items rows n w br groups.codes r refl within (λ h. is ∙ wanted_right bl br h) q in
    lent_even rows n w first second (subst (HasLent rows n w) (sym left) fits_left) (subst (HasLent rows n w) (sym right) fits_right)

pub two_values : (groups : KeyGrouping) (verb : Verb) (bl br w : Bool) (l r first second made : Tree) → is_by_place verb ≡ true → w ≡ (bl || br) → Within groups → HasItems (length groups.codes) (length groups.firsts) bl l → HasItems (length groups.codes) (length groups.firsts) br r
    → IsOfOneKind l → IsOfOneKind r → first ≡ lent_to w bl groups.codes l → second ≡ lent_to w br groups.codes r → made ≡ by_item_of verb (items_in first).kind (items_in second).kind first second
    → IsForGroups groups (λ (g : ℕ). value_of_two verb (of_group bl g groups.codes l) (of_group br g groups.codes r)) w made
two_values groups verb bl br w l r first second made place is within p q kl kr left right value =
    let rows = length groups.codes in
    let n = length groups.firsts in
    let b = bl || br in
    let result = value_of_two verb (lent_to b bl groups.codes l) (lent_to b br groups.codes r) in
    let made_is : made ≡ result =
    value
    ∙ sym (by_place verb first second place)
    ∙ ap₂ (value_of_two verb) (left ∙ ap (λ (c : Bool). lent_to c bl groups.codes l) is) (right ∙ ap (λ (c : Bool). lent_to c br groups.codes r) is) in
    let whole : IsForGroups groups (λ (g : ℕ). value_of_two verb (of_group bl g groups.codes l) (of_group br g groups.codes r)) b result =
    record {
      items = two_items rows n groups.codes verb bl br l r place refl within p q;
      each = λ g low. two_part rows n g groups.codes verb bl br l r place refl within low p q kl kr;
    } in
    subst (λ (c : Bool). IsForGroups groups (λ (g : ℕ). value_of_two verb (of_group bl g groups.codes l) (of_group br g groups.codes r)) c made) (sym is)
    (subst (λ (t : Tree). IsForGroups groups (λ (g : ℕ). value_of_two verb (of_group bl g groups.codes l) (of_group br g groups.codes r)) b t) (sym made_is) whole)
