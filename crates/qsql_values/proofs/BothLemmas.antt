-- The least and the greatest of sums and differences.
use Rattle.std.proofs.Common.{◌≡◌, Bor, ℤ, Bool, true, false, ◌&&◌, List, [], ◌∷◌, refl, sym, ap, ◌∙◌, Some, None, Option, All}
use Rattle.std.specs.Prelude.{is_some, option_and_then, unwrap_or}
use Rattle.std.specs.Simd.Lanes.{zip2}
use Rattle.std.proofs.lemmas.List.Elements.{All-nil, All-cons}
use Rattle.q_fused.specs.Results.{results}
use Rattle.q_values.specs.Atom.{kind_of}
use Rattle.q_values.specs.Contents.{Contents}
use Rattle.q_values.specs.Tree.{Tree, atom, vector}
use Rattle.q_values.specs.declared.atom.Atom.{Atom}
use Rattle.q_values.specs.declared.kind.Kind.{Kind}
use Rattle.q_values.specs.declared.kind.Kind.TheVariants as k
use Rattle.q_binary.specs.Computed.{given}
use Rattle.q_verbs.specs.Aggregates.{aggregate_of, is_aggregate}
use Rattle.q_values.specs.Kind.{is}
use Rattle.q_binary.proofs.RowLemmas.{computed_row}
use Rattle.q_verbs.specs.Kinds.{is_computed, result_kind_of, result_kind1_of}
use Rattle.q_verbs.specs.Numbers.{worth, written}
use Rattle.q_verbs.specs.Places.{is_by_place, is_choice, is_comparison, of_both, operation, value_of}
use Rattle.q_verbs.specs.Sides.{side_kind, rows, spread}
use Rattle.q_verbs.specs.declared.side.Side.{Side}
use Rattle.q_verbs.specs.declared.side.Side.TheVariants as s
use Rattle.q_verbs.specs.declared.verb.Verb.{Verb}
use Rattle.q_verbs.specs.declared.verb.Verb.TheVariants as v
use Rattle.q_verbs.specs.declared.verb.Verb1.{Verb1}
use Rattle.q_verbs.specs.declared.verb.Verb1.TheVariants as u
use Rattle.qsql_values.specs.Both.{is_extreme, adds, is_in_one_loop, aggregate_of_sides}
use Rattle.qsql_values.specs.Operands.{HaveEqualLengths, AreSides}
use Rattle.qsql_values.specs.Values.{items_in, kind_with, by_item_of, value_of_one, value_of_two}
use Rattle.qsql_values.proofs.OperandLemmas.{aggregate_kind, beside_left, beside_right}

nothing : {P : Type 0} → false ≡ true → P
nothing e = absurd (cc)

both_true : (a b : Bool) → (a && b) ≡ true → (a ≡ true) × (b ≡ true)
both_true true b e = (refl, e)
both_true false b e = nothing e

pub is_aggregate_of : (outer : Verb1) → is_extreme outer ≡ true → is_aggregate outer ≡ true
is_aggregate_of u.Not e = nothing e
is_aggregate_of u.Neg e = nothing e
is_aggregate_of u.Count e = nothing e
is_aggregate_of u.Sum e = nothing e
is_aggregate_of u.First e = nothing e
is_aggregate_of u.Last e = nothing e
is_aggregate_of u.Distinct e = nothing e
is_aggregate_of u.Min e = refl
is_aggregate_of u.Max e = refl

pub is_by_place_of : (inner : Verb) → adds inner ≡ true → is_by_place inner ≡ true
is_by_place_of v.Add e = refl
is_by_place_of v.Sub e = refl
is_by_place_of v.Mul e = nothing e
is_by_place_of v.Div e = nothing e
is_by_place_of v.Mod e = nothing e
is_by_place_of v.Xbar e = nothing e
is_by_place_of v.Eq e = nothing e
is_by_place_of v.Ne e = nothing e
is_by_place_of v.Lt e = nothing e
is_by_place_of v.Gt e = nothing e
is_by_place_of v.Le e = nothing e
is_by_place_of v.Ge e = nothing e
is_by_place_of v.Lesser e = nothing e
is_by_place_of v.Greater e = nothing e
is_by_place_of v.In e = nothing e
is_by_place_of v.Within e = nothing e
is_by_place_of v.Like e = nothing e

extreme_value : (outer : Verb1) (side : Tree) → is_extreme outer ≡ true → value_of_one outer side ≡ atom (aggregate_of outer (items_in side).kind (items_in side).atoms)
extreme_value u.Not side e = nothing e
extreme_value u.Neg side e = nothing e
extreme_value u.Count side e = nothing e
extreme_value u.Sum side e = nothing e
extreme_value u.First side e = nothing e
extreme_value u.Last side e = nothing e
extreme_value u.Distinct side e = nothing e
extreme_value u.Min side e = refl
extreme_value u.Max side e = refl

added_value : (inner : Verb) (left right : Tree) → adds inner ≡ true → value_of_two inner left right ≡ by_item_of inner (items_in left).kind (items_in right).kind left right
added_value v.Add left right e = refl
added_value v.Sub left right e = refl
added_value v.Mul left right e = nothing e
added_value v.Div left right e = nothing e
added_value v.Mod left right e = nothing e
added_value v.Xbar left right e = nothing e
added_value v.Eq left right e = nothing e
added_value v.Ne left right e = nothing e
added_value v.Lt left right e = nothing e
added_value v.Gt left right e = nothing e
added_value v.Le left right e = nothing e
added_value v.Ge left right e = nothing e
added_value v.Lesser left right e = nothing e
added_value v.Greater left right e = nothing e
added_value v.In left right e = nothing e
added_value v.Within left right e = nothing e
added_value v.Like left right e = nothing e

added_given : (inner : Verb) (left right kind : Kind) (x y : Atom) → adds inner ≡ true → value_of inner left right kind x y ≡ given kind (operation inner left right) (worth x) (worth y)
added_given v.Add left right kind x y e = refl
added_given v.Sub left right kind x y e = refl
added_given v.Mul left right kind x y e = nothing e
added_given v.Div left right kind x y e = nothing e
added_given v.Mod left right kind x y e = nothing e
added_given v.Xbar left right kind x y e = nothing e
added_given v.Eq left right kind x y e = nothing e
added_given v.Ne left right kind x y e = nothing e
added_given v.Lt left right kind x y e = nothing e
added_given v.Gt left right kind x y e = nothing e
added_given v.Le left right kind x y e = nothing e
added_given v.Ge left right kind x y e = nothing e
added_given v.Lesser left right kind x y e = nothing e
added_given v.Greater left right kind x y e = nothing e
added_given v.In left right kind x y e = nothing e
added_given v.Within left right kind x y e = nothing e
added_given v.Like left right kind x y e = nothing e

-- ---- the kind of the aggregate

pub kind_is : (o : Option Kind) (d : Kind) → is_some o ≡ true → o ≡ Some (unwrap_or o d)
kind_is None d h = nothing h
kind_is (Some kind) d h = refl

pub some_inner : (outer : Verb1) (o : Option Kind) → is_some (option_and_then (result_kind1_of outer) o) ≡ true → is_some o ≡ true
some_inner outer None h = h
some_inner outer (Some kind) h = refl

written_kind : (kind : Kind) (n : Option ℤ) → is_computed kind ≡ true → kind_of (written kind n) ≡ kind
written_kind k.Boolean n e = nothing e
written_kind k.Byte n e = nothing e
written_kind k.Short n e = refl
written_kind k.Integer n e = refl
written_kind k.Long n e = refl
written_kind k.Character n e = nothing e
written_kind k.Symbol n e = nothing e
written_kind k.Timestamp n e = refl
written_kind k.Month n e = refl
written_kind k.Date n e = refl
written_kind k.Timespan n e = refl
written_kind k.Minute n e = refl
written_kind k.Second n e = refl
written_kind k.Time n e = refl

results_kind : (inner : Verb) (left right kind : Kind) → adds inner ≡ true → is_computed kind ≡ true → (xs ys : List Atom) → All (λ (x : Atom). kind_of x ≡ kind) (zip2 (value_of inner left right kind) xs ys)
results_kind inner left right kind e h [] ys = All-nil (λ (x : Atom). kind_of x ≡ kind)
results_kind inner left right kind e h (x ∷ xs) [] = All-nil (λ (x : Atom). kind_of x ≡ kind)
results_kind inner left right kind e h (x ∷ xs) (y ∷ ys) =
    All-cons (λ (x : Atom). kind_of x ≡ kind) (value_of inner left right kind x y) (zip2 (value_of inner left right kind) xs ys)
    (ap kind_of (added_given inner left right kind x y e) ∙ written_kind kind (of_both (operation inner left right) (worth x).number (worth y).number) h)
    (results_kind inner left right kind e h xs ys)

no_comparison : (inner : Verb) → adds inner ≡ true → is_comparison inner ≡ false
no_comparison v.Add e = refl
no_comparison v.Sub e = refl
no_comparison v.Mul e = nothing e
no_comparison v.Div e = nothing e
no_comparison v.Mod e = nothing e
no_comparison v.Xbar e = nothing e
no_comparison v.Eq e = nothing e
no_comparison v.Ne e = nothing e
no_comparison v.Lt e = nothing e
no_comparison v.Gt e = nothing e
no_comparison v.Le e = nothing e
no_comparison v.Ge e = nothing e
no_comparison v.Lesser e = nothing e
no_comparison v.Greater e = nothing e
no_comparison v.In e = nothing e
no_comparison v.Within e = nothing e
no_comparison v.Like e = nothing e

no_choice : (inner : Verb) (same : Bool) → adds inner ≡ true → (is_choice inner && same) ≡ false
no_choice v.Add same e = refl
no_choice v.Sub same e = refl
no_choice v.Mul same e = nothing e
no_choice v.Div same e = nothing e
no_choice v.Mod same e = nothing e
no_choice v.Xbar same e = nothing e
no_choice v.Eq same e = nothing e
no_choice v.Ne same e = nothing e
no_choice v.Lt same e = nothing e
no_choice v.Gt same e = nothing e
no_choice v.Le same e = nothing e
no_choice v.Ge same e = nothing e
no_choice v.Lesser same e = nothing e
no_choice v.Greater same e = nothing e
no_choice v.In same e = nothing e
no_choice v.Within same e = nothing e
no_choice v.Like same e = nothing e

pub kind_of_sides : (outer : Verb1) (inner : Verb) (left right : Side) (made : Atom) → is_in_one_loop outer inner ≡ true → is_some (option_and_then (result_kind1_of outer) (result_kind_of inner (side_kind left) (side_kind right))) ≡ true
    → made ≡ aggregate_of_sides outer inner left right
    → option_and_then (result_kind1_of outer) (result_kind_of inner (side_kind left) (side_kind right)) ≡ Some (kind_of made)
kind_of_sides outer inner left right made one some same = by_kind (result_kind_of inner (side_kind left) (side_kind right)) refl some ∙ ap (λ (x : Atom). Some (kind_of x)) (sym same)
  where
    both : (is_extreme outer ≡ true) × (adds inner ≡ true)
    both = both_true (is_extreme outer) (adds inner) one

    by_kind : (o : Option Kind) → result_kind_of inner (side_kind left) (side_kind right) ≡ o → is_some (option_and_then (result_kind1_of outer) o) ≡ true
        → option_and_then (result_kind1_of outer) o ≡ Some (kind_of (aggregate_of outer (unwrap_or (result_kind_of inner (side_kind left) (side_kind right)) (side_kind left)) (results inner (unwrap_or (result_kind_of inner (side_kind left) (side_kind right)) (side_kind left)) left right)))
    by_kind None e h = nothing h
    by_kind (Some kind) e h =
        let computed = (computed_row inner (side_kind left) (side_kind right) kind e (is_by_place_of inner both.1) (no_comparison inner both.1) (no_choice inner (is (side_kind left) (side_kind right)) both.1)).1 in
        aggregate_kind outer kind (results inner kind left right)
        (results_kind inner (side_kind left) (side_kind right) kind both.1 computed (spread (rows left right) left) (spread (rows left right) right))
        h (is_aggregate_of outer both.0)
        ∙ ap (λ (o : Option Kind). Some (kind_of (aggregate_of outer (unwrap_or o (side_kind left)) (results inner (unwrap_or o (side_kind left)) left right)))) (sym e)

-- ---- the aggregate of sides, as the verb with one side of what the verb with two makes

module _ (outer : Verb1) (inner : Verb) (one : is_in_one_loop outer inner ≡ true) where
  value_by_item : (left right : Tree) → value_of_one outer (value_of_two inner left right) ≡ atom (aggregate_of outer (items_in (by_item_of inner (items_in left).kind (items_in right).kind left right)).kind (items_in (by_item_of inner (items_in left).kind (items_in right).kind left right)).atoms)
  value_by_item left right =
      let both = both_true (is_extreme outer) (adds inner) one in
      ap (value_of_one outer) (added_value inner left right both.1)
      ∙ extreme_value outer (by_item_of inner (items_in left).kind (items_in right).kind left right) both.0

  pub atom_beside : (x : Bor Atom) (ys : Bor Contents) → atom (aggregate_of_sides outer inner (s.Atom x) (s.Column ys)) ≡ value_of_one outer (value_of_two inner (atom x.now) (vector ys.now))
  atom_beside x ys =
      let kind = kind_with inner (kind_of x.now) ys.now.kind in
      ap (λ (l : List Atom). atom (aggregate_of outer kind l)) (beside_left (value_of inner (kind_of x.now) ys.now.kind kind) x.now ys.now.atoms)
      ∙ sym (value_by_item (atom x.now) (vector ys.now))

  pub beside_atom : (xs : Bor Contents) (y : Bor Atom) → atom (aggregate_of_sides outer inner (s.Column xs) (s.Atom y)) ≡ value_of_one outer (value_of_two inner (vector xs.now) (atom y.now))
  beside_atom xs y =
      let kind = kind_with inner xs.now.kind (kind_of y.now) in
      ap (λ (l : List Atom). atom (aggregate_of outer kind l)) (beside_right (value_of inner xs.now.kind (kind_of y.now) kind) xs.now.atoms y.now)
      ∙ sym (value_by_item (vector xs.now) (atom y.now))

  pub both_columns : (xs ys : Bor Contents) → atom (aggregate_of_sides outer inner (s.Column xs) (s.Column ys)) ≡ value_of_one outer (value_of_two inner (vector xs.now) (vector ys.now))
  both_columns xs ys = sym (value_by_item (vector xs.now) (vector ys.now))

  -- columns beside one another have one length
  pub lengths_are_equal : (left right : Tree) → AreSides inner left right → HaveEqualLengths left right
  lengths_are_equal left right h = by_verb inner (both_true (is_extreme outer) (adds inner) one).1 h
    where
      by_verb : (verb : Verb) → adds verb ≡ true → AreSides verb left right → HaveEqualLengths left right
      by_verb v.Add e h = h
      by_verb v.Sub e h = h
      by_verb v.Mul e h = nothing e
      by_verb v.Div e h = nothing e
      by_verb v.Mod e h = nothing e
      by_verb v.Xbar e h = nothing e
      by_verb v.Eq e h = nothing e
      by_verb v.Ne e h = nothing e
      by_verb v.Lt e h = nothing e
      by_verb v.Gt e h = nothing e
      by_verb v.Le e h = nothing e
      by_verb v.Ge e h = nothing e
      by_verb v.Lesser e h = nothing e
      by_verb v.Greater e h = nothing e
      by_verb v.In e h = nothing e
      by_verb v.Within e h = nothing e
      by_verb v.Like e h = nothing e
