-- The columns and dates that a query needs.
use Rattle.std.proofs.Common.{◌≡◌, ◌==◌, ℕ, ℤ, Bool, true, false, cond, ◌||◌, List, [], ◌∷◌, ◌++◌, length, map, refl, sym, ap, ◌∙◌, append-nil, All, Option, Some, None, arith}
use Rattle.std.specs.Prelude.{codes}
use Rattle.std.specs.List.{list_all, list_any}
use Rattle.std.specs.Str.{bytes_eq}
use Rattle.std.proofs.lemmas.List.Elements.{All-nil, All-cons}
use Rattle.std.proofs.lemmas.List.Folds.{list_any-append}
use Rattle.q_values.specs.Kind.{is}
use Rattle.q_values.specs.declared.kind.Kind.{Kind}
use Rattle.q_values.specs.declared.kind.Kind.TheVariants as k
use Rattle.day_rows.specs.declared.schema.Shape.{Shape}
use Rattle.qsql_request.specs.Forms.{Form, constant, column, two}
use Rattle.qsql_request.specs.Unbuilt.{has_unbuilt, is_unbuilt_phrase}
use Rattle.qsql_request.specs.Views.{form, query_of}
use Rattle.qsql_request.specs.declared.request.Expr.{Expr}
use Rattle.qsql_request.specs.declared.request.Query.{Query}
use Rattle.qsql_values.specs.Beside.{beside}
use Rattle.qsql_values.specs.Frames.{kind_beside}
use Rattle.qsql_values.specs.Kinds.{column_kind, kind_in}
use Rattle.qsql_values.proofs.ShapeLemmas.{neither}
use Rattle.qsql_dates.specs.Dates.{names_date, fits_verb, is_date_phrase, date_frame, IsDateTest}
use Rattle.qsql_eval.specs.Judgement.{all_columns, is_boolean, IsFit}
use Rattle.qsql_needs.specs.Named.{names_or_all}
use Rattle.qsql_eval.proofs.FitLemmas.{both, kinds_agree, parts_of}

no : {P : Type 0} → false ≡ true → P
no e = absurd cc

-- ---- columns

or_comm : (a b : Bool) → (a || b) ≡ (b || a)
or_comm true true = refl
or_comm true false = refl
or_comm false true = refl
or_comm false false = refl

-- a query that shows all columns
pub has_every : (name : List ℕ) (xs : List (List ℕ)) (table : Shape) → list_any (bytes_eq name) (names_or_all xs true table) ≡ (list_any (bytes_eq name) (all_columns table) || list_any (bytes_eq name) xs)
has_every name xs table = list_any-append (bytes_eq name) xs (all_columns table) ∙ or_comm (list_any (bytes_eq name) xs) (list_any (bytes_eq name) (all_columns table))

-- a query that names the columns that it shows
pub has_named : (name : List ℕ) (xs : List (List ℕ)) (table : Shape) → list_any (bytes_eq name) (names_or_all xs false table) ≡ list_any (bytes_eq name) xs
has_named name xs table = ap (list_any (bytes_eq name)) (append-nil xs)

-- the columns that an expression names
pub named_only : (xs : List (List ℕ)) (table : Shape) → names_or_all xs false table ≡ xs
named_only xs table = append-nil xs

not_none : {X : Type 0} (x : X) (xs : List X) → (length (x ∷ xs) == 0) ≡ false
not_none x xs = grind arith

pub some_needed : (xs : List (List ℕ)) (table : Shape) → (length (names_or_all xs true table) == 0) ≡ false
some_needed [] table = not_none (codes "date") table.names
some_needed (x ∷ xs) table = not_none x (xs ++ all_columns table)

pub as_many : {X : Type 0} (xs : List X) (f : X → List ℕ) (table : Shape) → (length (names_or_all (map f xs) false table) == 0) ≡ (length xs == 0)
as_many [] f table = refl
as_many (x ∷ xs) f table = not_none (f x) (map f xs ++ []) ∙ sym (not_none x xs)

-- ---- dates

boolean_kind : (kind : Kind) → is kind k.Boolean ≡ true → kind ≡ k.Boolean
boolean_kind k.Boolean h = refl
boolean_kind k.Byte h = no h
boolean_kind k.Short h = no h
boolean_kind k.Integer h = no h
boolean_kind k.Long h = no h
boolean_kind k.Character h = no h
boolean_kind k.Symbol h = no h
boolean_kind k.Timestamp h = no h
boolean_kind k.Month h = no h
boolean_kind k.Date h = no h
boolean_kind k.Timespan h = no h
boolean_kind k.Minute h = no h
boolean_kind k.Second h = no h
boolean_kind k.Time h = no h

boolean_some : (o : Option Kind) → is_boolean o ≡ true → o ≡ Some k.Boolean
boolean_some None h = no h
boolean_some (Some kind) h = ap (λ (x : Kind). Some x) (boolean_kind kind h)

-- a date phrase that has a kind over the table is a test of a date
dated : (table : Shape) (date : ℤ) (p : Form) → is_date_phrase p ≡ true → kind_in (kind_beside (date_frame date)) p ≡ kind_in (column_kind table) p
dated table date (two verb (column name) (constant value)) is =
    let same : bytes_eq name (codes "date") ≡ true = (both (bytes_eq name (codes "date")) (fits_verb verb (constant value)) is).0 in
    let here : kind_beside (date_frame date) name ≡ Some k.Date = ap (λ (b : Bool). cond b (Some k.Date) (beside {X = Kind} name [] [])) same in
    let there : column_kind table name ≡ Some k.Date = ap (λ (b : Bool). cond b (Some k.Date) (cond (bytes_eq name (codes "i")) (Some k.Long) (beside name table.names table.kinds))) same in
    kinds_agree (kind_beside (date_frame date)) (column_kind table) (two verb (column name) (constant value))
    (All-cons (λ (n : List ℕ). kind_beside (date_frame date) n ≡ column_kind table n) name [] (here ∙ sym there) (All-nil (λ (n : List ℕ). kind_beside (date_frame date) n ≡ column_kind table n)))
dated table date (two verb (column name) right) is = let parts = both (names_date (column name)) (fits_verb verb right) is in no parts.1
dated table date (two verb left right) is = let parts = both (names_date left) (fits_verb verb right) is in no parts.0
dated table date p is = no is

date_test : (table : Shape) (date : ℤ) (p : Form) → is_boolean (kind_in (column_kind table) p) ≡ true → is_unbuilt_phrase p ≡ false → is_date_phrase p ≡ true → IsDateTest date p
date_test table date p kind built is = record {
  kind = dated table date p is ∙ boolean_some (kind_in (column_kind table) p) kind;
  built = (neither (has_unbuilt p) _ built).0;
}

date_tests : (table : Shape) (date : ℤ) (phrases : List Expr) → list_all (λ (p : Form). is_boolean (kind_in (column_kind table) p)) (map form phrases) ≡ true → list_any is_unbuilt_phrase (map form phrases) ≡ false
    → All (λ (p : Expr). is_date_phrase (form p) ≡ true → IsDateTest date (form p)) phrases
date_tests table date [] kinds built = All-nil (λ (p : Expr). is_date_phrase (form p) ≡ true → IsDateTest date (form p))
date_tests table date (p ∷ phrases) kinds built =
    let k = both (is_boolean (kind_in (column_kind table) (form p))) (list_all (λ (e : Form). is_boolean (kind_in (column_kind table) e)) (map form phrases)) kinds in
    let b = neither (is_unbuilt_phrase (form p)) (list_any is_unbuilt_phrase (map form phrases)) built in
    All-cons (λ (e : Expr). is_date_phrase (form e) ≡ true → IsDateTest date (form e)) p phrases (date_test table date (form p) k.0 b.0) (date_tests table date phrases k.1 b.1)

-- the date phrases of a query that fits are tests of a date
pub fit_dates : (table : Shape) (date : ℤ) (q : Query) → IsFit table (query_of q) → All (λ (p : Expr). is_date_phrase (form p) ≡ true → IsDateTest date (form p)) q.phrases
fit_dates table date q fit = let parts = parts_of table (query_of q) fit in date_tests table date q.phrases parts.phrases parts.built_phrases
