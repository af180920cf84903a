-- What is found of a join and of its sides.
use Rattle.std.proofs.Common.{◌≡◌, ℕ, ◌==◌, ◌<◌, Bool, true, false, cond, not, ◌&&◌, ◌||◌, List, [], ◌∷◌, length, map, refl, sym, ap, ◌∙◌, arith, subst, Option, Some, None, unwrap_or, All, rules}
use Rattle.std.specs.Prelude.{is_some, option_map, IsSome}
use Rattle.std.specs.List.{list_any, list_all}
use Rattle.std.specs.Option.{option_or}
use Rattle.std.specs.Str.{bytes_eq}
use Rattle.std.proofs.lemmas.List.Elements.{All-nil, All-cons, All-head, All-tail}
use Rattle.q_values.specs.Contents.{Contents}
use Rattle.q_values.specs.Kind.{is, type_number, kind_at}
use Rattle.q_values.specs.Table as t
use Rattle.q_values.specs.Tree.{Grid}
use Rattle.q_values.specs.declared.kind.Kind.{Kind}
use Rattle.q_values.specs.declared.kind.Kind.TheVariants as k
use Rattle.day_rows.specs.declared.schema.Shape.{Shape}
use Rattle.qsql_request.specs.Forms.{ColumnForm, Form, QueryForm, AjForm, all_of}
use Rattle.qsql_request.specs.Names.{names_of}
use Rattle.qsql_request.specs.Unbuilt.{is_empty}
use Rattle.qsql_request.specs.Views.{form, column_form, query_of}
use Rattle.qsql_request.specs.declared.request.Query.{Query}
use Rattle.qsql_values.specs.Beside.{beside}
use Rattle.qsql_values.specs.Kinds.{column_kind}
use Rattle.qsql_eval.specs.Judgement.{Judgement, unknown, mistyped, fits, judged_by_names, first_unknown, is_typed, IsFit}
use Rattle.qsql_eval.specs.Views.{is_kind}
use Rattle.qsql_values.proofs.FrameLemmas.{beside-map}
use Rattle.qsql_eval.proofs.GroupLemmas.{empty_of}
use Rattle.asof_join.specs.Asof.{column_named}
use Rattle.asof_join.specs.Heads.{IsKey}
use Rattle.asof_join.specs.Judged as j
use Rattle.asof_join.specs.Judged.{Found, lacks, has, found_among, found_in, AjJudgement, first_absent, absent_key, has_clash, has_one_kind, is_typed_join, judged_by_keys, judged_over}
use Rattle.asof_join.specs.Sides.{IsSelectOf, IsJudged}
use Rattle.asof_join.specs.Sources.{query_of_source, shown_names, shown_kinds, shown_kind, is_typed_source, IsSource}
use Rattle.asof_join.specs.Views.{IsAjFit}

no : {P : Type 0} → false ≡ true → P
no e = absurd cc

both : (a b : Bool) → (a && b) ≡ true → (a ≡ true) × (b ≡ true)
both true b h = (refl, h)
both false b h = no h

-- ---- `select` of all of a table

map_nothing : {X Y : Type 0} (f : X → Y) (xs : List X) → length xs ≡ 0 → map f xs ≡ []
map_nothing f [] h = refl
map_nothing f (x ∷ xs) h = absurd (omega (arith, h))

pub select_is : (name : List ℕ) (q : Query) → IsSelectOf name q → query_of q ≡ query_of_source (all_of name)
select_is name q h = λ i. record {
  exec = h.exec i;
  first = h.first i;
  columns = map_nothing column_form q.columns h.columns i;
  by = map_nothing column_form q.by h.by i;
  table = h.table i;
  phrases = map_nothing form q.phrases h.phrases i;
}

-- ---- a side

abbrev is_fit : Judgement → Bool
is_fit (unknown name) = false
is_fit mistyped = false
is_fit (fits table) = true

abbrev is_mistyped : Judgement → Bool
is_mistyped (unknown name) = false
is_mistyped mistyped = true
is_mistyped (fits table) = false

abbrev name_in : List ℕ → Judgement → List ℕ
name_in other (unknown name) = name
name_in other mistyped = other
name_in other (fits table) = other

abbrev is_unknown : Judgement → Bool
is_unknown (unknown name) = true
is_unknown mistyped = false
is_unknown (fits table) = false

cond_fit : (b : Bool) (table : Shape) → is_fit (cond b (fits table) mistyped) ≡ true → b ≡ true
cond_fit true table h = refl
cond_fit false table h = no h

cond_mistyped : (b : Bool) (table : Shape) → is_mistyped (cond b (fits table) mistyped) ≡ true → b ≡ false
cond_mistyped true table h = no h
cond_mistyped false table h = refl

cond_known : (b : Bool) (table : Shape) → is_unknown (cond b (fits table) mistyped) ≡ false
cond_known true table = refl
cond_known false table = refl

module _ (table : Shape) (q : QueryForm) where
  fit_parts : (o : Option (List ℕ)) → is_fit (judged_by_names table q o) ≡ true → (found_among table o ≡ has table) × (is_typed table q ≡ true)
  fit_parts (Some name) h = no h
  fit_parts None h = (refl, cond_fit (is_typed table q) table h)

  mistyped_parts : (o : Option (List ℕ)) → is_mistyped (judged_by_names table q o) ≡ true → (found_among table o ≡ has table) × (is_typed table q ≡ false)
  mistyped_parts (Some name) h = no h
  mistyped_parts None h = (refl, cond_mistyped (is_typed table q) table h)

  unknown_parts : (o : Option (List ℕ)) (name : List ℕ) → judged_by_names table q o ≡ unknown name → found_among table o ≡ lacks name
  unknown_parts (Some other) name h = ap (λ n. lacks n) (ap (name_in name) h)
  unknown_parts None name h = no (sym (cond_known (is_typed table q) table) ∙ ap is_unknown h)

  abbrev unknown_name : Option (List ℕ)
  unknown_name = first_unknown (column_kind table) (names_of q)

  pub judged_fit : (plain : Bool) (found : Shape) → judged_by_names table q unknown_name ≡ fits found → plain ≡ (not q.exec && is_empty q.by) → IsJudged table q plain
  judged_fit plain found h is_plain =
      let parts = fit_parts unknown_name (ap is_fit h) in
      record {
        names = parts.0;
        typed_is = is_plain ∙ sym (ap (λ (b : Bool). not q.exec && (is_empty q.by && b)) parts.1 ∙ tail_true (not q.exec) (is_empty q.by));
      }
    where
      tail_true : (a b : Bool) → (a && (b && true)) ≡ (a && b)
      tail_true true true = refl
      tail_true true false = refl
      tail_true false b = refl

  pub judged_mistyped : judged_by_names table q unknown_name ≡ mistyped → IsJudged table q false
  judged_mistyped h =
      let parts = mistyped_parts unknown_name (ap is_mistyped h) in
      record {
        names = parts.0;
        typed_is = sym (ap (λ (b : Bool). not q.exec && (is_empty q.by && b)) parts.1 ∙ tail_false (not q.exec) (is_empty q.by));
      }
    where
      tail_false : (a b : Bool) → (a && (b && false)) ≡ false
      tail_false true true = refl
      tail_false true false = refl
      tail_false false b = refl

  pub found_unknown : (name : List ℕ) → judged_by_names table q unknown_name ≡ unknown name → found_in q (Some table) ≡ lacks name
  found_unknown name h = unknown_parts unknown_name name h

  abbrev is_lacking : Found → Bool
  is_lacking (lacks name) = true
  is_lacking (has found) = false

  none_of : (o : Option (List ℕ)) → found_among table o ≡ has table → o ≡ None
  none_of (Some name) h = no (sym (ap is_lacking h))
  none_of None h = refl

  -- a side that is typed, and of which no name is unknown, fits its table
  pub fit_of : found_in q (Some table) ≡ has table → is_typed_source table q ≡ true → IsFit table q
  fit_of known typed =
      let none = none_of unknown_name known in
      let rest = both (not q.exec) (is_empty q.by && is_typed table q) typed in
      let last = both (is_empty q.by) (is_typed table q) rest.1 in
      ap (judged_by_names table q) none ∙ ap (λ (b : Bool). cond b (fits table) mistyped) last.1

-- ---- a join

abbrev is_joined : AjJudgement → Bool
is_joined (j.unknown name) = false
is_joined j.clash = false
is_joined j.mistyped = false
is_joined (j.joins left right) = true

typed_so : (c b : Bool) (left right : Shape) → is_joined (cond c j.clash (cond b (j.joins left right) j.mistyped)) ≡ true → b ≡ true
typed_so true b left right h = no h
typed_so false true left right h = refl
typed_so false false left right h = no h

no_name : {X : Type 0} (a b : Option X) → option_or a b ≡ None → (a ≡ None) × (b ≡ None)
no_name None b h = (refl, h)
no_name (Some x) b h = absurd cc

-- nothing is wrong with a join
pub record JoinParts (q : AjForm) (left right : Shape) : Type 0 where
  pub in_left : first_absent (shown_names (query_of_source q.left) left) q.keys ≡ None
  pub in_right : first_absent (shown_names (query_of_source q.right) right) q.keys ≡ None
  pub some : is_empty q.keys ≡ false
  pub left_typed : is_typed_source left (query_of_source q.left) ≡ true
  pub right_typed : is_typed_source right (query_of_source q.right) ≡ true
  pub kinds : list_all (has_one_kind q left right) q.keys ≡ true

negated : (b : Bool) → not b ≡ true → b ≡ false
negated true h = no h
negated false h = refl

pub join_parts : (q : AjForm) (left right : Shape) → IsAjFit q left right → JoinParts q left right
join_parts q left right fit = go (absent_key q left right) refl (ap is_joined fit)
  where
    go : (o : Option (List ℕ)) → absent_key q left right ≡ o → is_joined (judged_by_keys q left right o) ≡ true → JoinParts q left right
    go (Some name) e h = no h
    go None e h =
        let names = no_name (first_absent (shown_names (query_of_source q.left) left) q.keys) (first_absent (shown_names (query_of_source q.right) right) q.keys) e in
        let typed = typed_so (has_clash q left right) (is_typed_join q left right) left right h in
        let one = both (not (is_empty q.keys)) (is_typed_source left (query_of_source q.left) && (is_typed_source right (query_of_source q.right) && list_all (has_one_kind q left right) q.keys)) typed in
        let two = both (is_typed_source left (query_of_source q.left)) (is_typed_source right (query_of_source q.right) && list_all (has_one_kind q left right) q.keys) one.1 in
        let three = both (is_typed_source right (query_of_source q.right)) (list_all (has_one_kind q left right) q.keys) two.1 in
        record {
          in_left = names.0;
          in_right = names.1;
          some = negated (is_empty q.keys) one.0;
          left_typed = two.0;
          right_typed = three.0;
          kinds = three.1;
        }

pub judged_unknown : (q : AjForm) (left right : Shape) (name : List ℕ) → absent_key q left right ≡ Some name → judged_over q left right ≡ j.unknown name
judged_unknown q left right name e = ap (judged_by_keys q left right) e

pub judged_clash : (q : AjForm) (left right : Shape) → absent_key q left right ≡ None → has_clash q left right ≡ true → judged_over q left right ≡ j.clash
judged_clash q left right e clash = ap (judged_by_keys q left right) e ∙ ap (λ (b : Bool). cond b j.clash (cond (is_typed_join q left right) (j.joins left right) j.mistyped)) clash

pub judged_type : (q : AjForm) (left right : Shape) (b : Bool) → absent_key q left right ≡ None → has_clash q left right ≡ false → is_typed_join q left right ≡ b → judged_over q left right ≡ cond b (j.joins left right) j.mistyped
judged_type q left right b e clash typed =
    ap (judged_by_keys q left right) e
    ∙ ap (λ (c : Bool). cond c j.clash (cond (is_typed_join q left right) (j.joins left right) j.mistyped)) clash
    ∙ ap (λ (c : Bool). cond c (j.joins left right) j.mistyped) typed

empty_by : {X : Type 0} (xs : List X) (b : Bool) → (length xs == 0) ≡ b → is_empty xs ≡ b
empty_by [] b h = h
empty_by (x ∷ xs) true h = let zero_long : length (x ∷ xs) ≡ 0 = grind arith in absurd (omega (arith, zero_long))
empty_by (x ∷ xs) false h = refl

pub empty_is : {X : Type 0} (xs : List X) → is_empty xs ≡ (length xs == 0)
empty_is xs = empty_by xs (length xs == 0) refl

-- ---- the keys of a join are columns of both tables

kind_at-type_number : (x : Kind) → kind_at (type_number x) ≡ Some x
kind_at-type_number k.Boolean = refl
kind_at-type_number k.Byte = refl
kind_at-type_number k.Short = refl
kind_at-type_number k.Integer = refl
kind_at-type_number k.Long = refl
kind_at-type_number k.Character = refl
kind_at-type_number k.Symbol = refl
kind_at-type_number k.Timestamp = refl
kind_at-type_number k.Month = refl
kind_at-type_number k.Date = refl
kind_at-type_number k.Timespan = refl
kind_at-type_number k.Minute = refl
kind_at-type_number k.Second = refl
kind_at-type_number k.Time = refl

some_is : (x y : Kind) → Some x ≡ Some y → x ≡ y
some_is x y e = cc

pub is-same : (x y : Kind) → is x y ≡ true → x ≡ y
is-same x y e = let n : type_number x ≡ type_number y = grind arith in some_is x y (sym (kind_at-type_number x) ∙ ap kind_at n ∙ kind_at-type_number y)

absent_none : (names keys : List (List ℕ)) → first_absent names keys ≡ None → All (λ (key : List ℕ). list_any (bytes_eq key) names ≡ true) keys
absent_none names [] h = All-nil (λ (key : List ℕ). list_any (bytes_eq key) names ≡ true)
absent_none names (key ∷ keys) h = go (absent_none names keys) (list_any (bytes_eq key) names) refl h
  where
    go : (first_absent names keys ≡ None → All (λ (k : List ℕ). list_any (bytes_eq k) names ≡ true) keys) → (b : Bool) → list_any (bytes_eq key) names ≡ b → cond b (first_absent names keys) (Some key) ≡ None → All (λ (k : List ℕ). list_any (bytes_eq k) names ≡ true) (key ∷ keys)
    go rest true e h = All-cons (λ (k : List ℕ). list_any (bytes_eq k) names ≡ true) key keys e (rest h)
    go rest false e h = absurd cc

every_of : {X : Type 0} (test : X → Bool) (xs : List X) → list_all test xs ≡ true → All (λ (x : X). test x ≡ true) xs
every_of {X = X} test [] h = All-nil (λ (x : X). test x ≡ true)
every_of {X = X} test (x ∷ xs) h = let b = both (test x) (list_all test xs) h in All-cons (λ (y : X). test y ≡ true) x xs b.0 (every_of test xs b.1)

-- a name that is among the names has an item beside it
pub some_beside : {X : Type 0} (name : List ℕ) (names : List (List ℕ)) (xs : List X) → length names ≡ length xs → list_any (bytes_eq name) names ≡ true → is_some (beside name names xs) ≡ true
some_beside name [] xs size h = no h
some_beside name (other ∷ names) [] size h = absurd (omega (arith, size))
some_beside name (other ∷ names) (x ∷ xs) size h = go (some_beside name names xs (omega (arith, size))) (bytes_eq name other) h
  where
    go : (list_any (bytes_eq name) names ≡ true → is_some (beside name names xs) ≡ true) → (b : Bool) → (b || list_any (bytes_eq name) names) ≡ true → is_some (cond b (Some x) (beside name names xs)) ≡ true
    go rest true h = refl
    go rest false h = rest h

-- what holds of all columns holds of the one beside a name
all_beside : (P : Contents → Type 0) (name : List ℕ) (names : List (List ℕ)) (columns : List Contents) (d : Contents) → All P columns → is_some (beside name names columns) ≡ true → P (unwrap_or (beside name names columns) d)
all_beside P name [] columns d all h = no h
all_beside P name (other ∷ names) [] d all h = no h
all_beside P name (other ∷ names) (c ∷ columns) d all h = go (all_beside P name names columns d (All-tail P c columns all)) (bytes_eq name other) h
  where
    go : (is_some (beside name names columns) ≡ true → P (unwrap_or (beside name names columns) d)) → (b : Bool) → is_some (cond b (Some c) (beside name names columns)) ≡ true → P (unwrap_or (cond b (Some c) (beside name names columns)) d)
    go rest true h = All-head P c columns all
    go rest false h = rest h

abbrev some_kind : Contents → Option Kind
some_kind c = Some c.kind

kind_read : (o : Option Contents) (d : Contents) → is_some o ≡ true → unwrap_or (option_map some_kind o) None ≡ Some (unwrap_or o d).kind
kind_read None d h = no h
kind_read (Some c) d h = refl

pub has_some : {X : Type 0} (o : Option X) → is_some o ≡ true → IsSome o
has_some None h = no h
has_some (Some x) h = search rules

module _ (q : AjForm) (left_table right_table : Shape) (left right : Grid)
    (of_left : IsSource left_table (query_of_source q.left) left) (of_right : IsSource right_table (query_of_source q.right) right)
    (left_named : length left.names ≡ length left.columns) (right_named : length right.names ≡ length right.columns) where
  abbrev none : Contents
  none = record { kind = k.Boolean; atoms = [] }

  key_kind : (table : Shape) (q : QueryForm) (grid : Grid) → IsSource table q grid → (key : List ℕ) → is_some (beside key grid.names grid.columns) ≡ true → shown_kind q table key ≡ Some (column_named grid key).kind
  key_kind table q grid source key there =
      (λ i. unwrap_or (beside key (sym source.names i) (sym source.kinds i)) None)
      ∙ ap (λ o. unwrap_or o None) (beside-map some_kind key grid.names grid.columns)
      ∙ kind_read (beside key grid.names grid.columns) none there

  same_kinds : (a b : Kind) → is_kind (Some a) (Some b) ≡ true → b ≡ a
  same_kinds a b h = sym (is-same a b h)

  key_of : (key : List ℕ) → list_any (bytes_eq key) (shown_names (query_of_source q.left) left_table) ≡ true → list_any (bytes_eq key) (shown_names (query_of_source q.right) right_table) ≡ true
      → has_one_kind q left_table right_table key ≡ true → IsKey left right key
  key_of key in_left in_right kind =
      let left_there = some_beside key left.names left.columns left_named (ap (list_any (bytes_eq key)) of_left.names ∙ in_left) in
      let right_there = some_beside key right.names right.columns right_named (ap (list_any (bytes_eq key)) of_right.names ∙ in_right) in
      let left_kind = key_kind left_table (query_of_source q.left) left of_left key left_there in
      let right_kind = key_kind right_table (query_of_source q.right) right of_right key right_there in
      record {
        in_left = has_some (beside key left.names left.columns) left_there;
        in_right = has_some (beside key right.names right.columns) right_there;
        kind = same_kinds (column_named left key).kind (column_named right key).kind ((λ i. is_kind (sym left_kind i) (sym right_kind i)) ∙ kind);
        left_size = all_beside (λ (c : Contents). length c.atoms ≡ t.rows_of left.columns) key left.names left.columns none of_left.even left_there;
        right_size = all_beside (λ (c : Contents). length c.atoms ≡ t.rows_of right.columns) key right.names right.columns none of_right.even right_there;
      }

  keys_of : (keys : List (List ℕ)) → All (λ (key : List ℕ). list_any (bytes_eq key) (shown_names (query_of_source q.left) left_table) ≡ true) keys
      → All (λ (key : List ℕ). list_any (bytes_eq key) (shown_names (query_of_source q.right) right_table) ≡ true) keys
      → All (λ (key : List ℕ). has_one_kind q left_table right_table key ≡ true) keys → All (IsKey left right) keys
  keys_of keys in_left in_right kinds = λ i d low. key_of _ (in_left i d low) (in_right i d low) (kinds i d low)

  pub keys_are : IsAjFit q left_table right_table → All (IsKey left right) q.keys
  keys_are fit =
      let parts = join_parts q left_table right_table fit in
      keys_of q.keys (absent_none (shown_names (query_of_source q.left) left_table) q.keys parts.in_left)
      (absent_none (shown_names (query_of_source q.right) right_table) q.keys parts.in_right)
      (every_of (has_one_kind q left_table right_table) q.keys parts.kinds)

pub some_keys : (q : AjForm) (left right : Shape) → IsAjFit q left right → 0 < length q.keys
some_keys q left right fit = go q.keys (join_parts q left right fit).some
  where
    go : (keys : List (List ℕ)) → is_empty keys ≡ false → 0 < length keys
    go [] h = no (sym h)
    go (key ∷ keys) h = omega arith
