-- The productions of the grammar, each with the function that reads it.
use Rattle.std.specs.Prelude.{◌||◌, ◌&&◌, nat_le, nat_lt, Result, Ok, Err, slice_get, codes}
use Rattle.std.proofs.Common.{◌≡◌, ℕ, zero, suc, ◌+◌, ◌<◌, Bool, true, false, cond, List, [], ◌∷◌, length, refl, ap, subst, ◌∙◌, arith}
use Rattle.std.proofs.lemmas.Bool.{leb-false}
use Rattle.std.proofs.lemmas.List.{length-append}
use Rattle.q_values.specs.declared.kind.Kind.{Kind}
use Rattle.day_rows.specs.declared.schema.Shape.{Shape}
use Rattle.schema_text.specs.Grammar.{both, signed, left_out, present, means, IsNewName, new_name, IsList, IsColumn, with_column, IsColumns, no_column, last_column, more_columns}
use Rattle.schema_text.specs.Grammar.{Signs, Means, IsEnd, no_time_sym, time_sym, Optionally, names_of, IsHead, IsTable}
use Rattle.schema_text.specs.Kinds.{is_first_names, is_first_kinds}
use Rattle.schema_text.specs.Reading.{◌>>=◌, typed_at, past_attribute, column_at, columns_at, closed_at, past_semicolon, head_at, table_at}
use Rattle.schema_text.specs.Tokens.{part, is_sign}
use Rattle.schema_text.specs.declared.refusal.SchemaRefusal.{SchemaRefusal}
use Rattle.schema_text.specs.declared.refusal.SchemaRefusal.TheVariants as r
use Rattle.schema_text.proofs.Decides.{Decides, Reader, decides-as, means-decides, then-decides, sign-decides, optionally-decides, past}
use Rattle.schema_text.proofs.Gaps.{next-reads, next-only}
use Rattle.schema_text.proofs.WordParts.{name-decides, kind-decides}

list-decides : Decides IsList typed_at
unfolding typed_at
list-decides = sign-decides 96 (then-decides kind-decides (λ kind. sign-decides 36 (sign-decides 40 (sign-decides 41 (means-decides kind)))))

and_true : (a b : Bool) → (a && (b && true)) ≡ (a && b)
and_true true true = refl
and_true true false = refl
and_true false b = refl

attribute-past : (text : List ℕ) (at : ℕ) → past (codes "`g#") text at ≡ past_attribute text at
attribute-past text at =
    let two : part text at + 1 + 1 ≡ part text at + 2 = omega arith in
    ap (λ t. cond (is_sign 96 (slice_get text (part text at)) && t) (part text at + 3) at)
    (and_true (is_sign 103 (slice_get text (part text at + 1))) (is_sign 35 (slice_get text (part text at + 1 + 1)))
    ∙ ap (λ n. is_sign 103 (slice_get text (part text at + 1)) && is_sign 35 (slice_get text n)) two)

added : Shape → List ℕ → Result (Kind × ℕ) SchemaRefusal → Result (Shape × ℕ) SchemaRefusal
added shape name found = found >>= (λ kind. Ok (with_column shape name kind.0, kind.1))

column-decides : (shape : Shape) → Decides (IsColumn shape) (column_at shape)
unfolding column_at added
column-decides shape =
    then-decides (name-decides shape.names 48)
    (λ name. sign-decides 58 (decides-as (λ text at. ap (λ n. added shape name (typed_at text n)) (attribute-past text at)) (optionally-decides (codes "`g#") (then-decides list-decides (λ kind. means-decides (with_column shape name kind))))))

few : (earlier : List (List ℕ)) (most : ℕ) {at end : ℕ} {text word : List ℕ} → IsNewName earlier most text at (Ok (word, end)) → length earlier < most
few earlier most (new_name {word = word} w h i j) = leb-false most (length earlier) (left (nat_le most (length earlier)) (nat_lt 64 (length word)) j)
  where
    left : (a b : Bool) → (a || b) ≡ false → a ≡ false
    left false b h = refl
    left true b h = cc

grows : (shape : Shape) {grown : Shape} {text : List ℕ} {at end : ℕ} → IsColumn shape text at (Ok (grown, end))
    → (length shape.names < 48) × (length grown.names ≡ suc (length shape.names))
grows shape (both {x = name} n (signed next h (left_out other i (both kind means)))) = (few shape.names 48 n, omega (arith, length-append shape.names (name ∷ [])))
grows shape (both {x = name} n (signed next h (present other i (both kind means)))) = (few shape.names 48 n, omega (arith, length-append shape.names (name ∷ [])))

closed-decides : (shape : Shape) → Decides (Signs (codes ")") (Means shape)) (closed_at shape)
unfolding closed_at
closed-decides shape = sign-decides 41 (means-decides shape)

after-column : ℕ → List ℕ → Shape × ℕ → Result (Shape × ℕ) SchemaRefusal
after-column left text column = cond (is_sign 59 (slice_get text (part text column.1))) (columns_at left column.0 text (part text column.1 + 1)) (closed_at column.0 text column.1)

columns-step : (left : ℕ) (shape : Shape) → ((grown : Shape) → length shape.names < 48 → length grown.names ≡ suc (length shape.names) → Decides (IsColumns grown) (columns_at left grown))
    → Decides (IsColumns shape) (λ text at. column_at shape text at >>= after-column left text)
unfolding after-column
columns-step left shape more = record { reads = λ text at. go text at (column_at shape text at) ((column-decides shape).reads text at); only = only }
  where
    after : (text : List ℕ) (at end : ℕ) (grown : Shape) (t : Bool) → IsColumn shape text at (Ok (grown, end)) → is_sign 59 (slice_get text (part text end)) ≡ t
        → IsColumns shape text at (cond t (columns_at left grown text (part text end + 1)) (closed_at grown text end))
    after text at end grown true p h =
        let known = grows shape p in more_columns p (next-reads text end) h ((more grown known.0 known.1).reads text (part text end + 1))
    after text at end grown false p h = last_column p (next-reads text end) h ((closed-decides grown).reads text end)

    go : (text : List ℕ) (at : ℕ) (found : Result (Shape × ℕ) SchemaRefusal) → IsColumn shape text at found → IsColumns shape text at (found >>= after-column left text)
    go text at (Ok column) p = after text at column.1 column.0 (is_sign 59 (slice_get text (part text column.1))) p refl
    go text at (Err why) p = no_column p

    only : (text : List ℕ) (at : ℕ) (outcome : Result (Shape × ℕ) SchemaRefusal) → IsColumns shape text at outcome → outcome ≡ (column_at shape text at >>= after-column left text)
    only text at outcome (no_column {why = why} p) = subst (λ found. Err why ≡ (found >>= after-column left text)) ((column-decides shape).only text at (Err why) p) refl
    only text at outcome (last_column {grown = grown} {end = end} p n h q) =
        let here : is_sign 59 (slice_get text (part text end)) ≡ false = subst (λ m. is_sign 59 (slice_get text m) ≡ false) (next-only n) h in
        let read : outcome ≡ after-column left text (grown, end) = rw here ((closed-decides grown).only text end outcome q) in
        subst (λ found. outcome ≡ (found >>= after-column left text)) ((column-decides shape).only text at (Ok (grown, end)) p) read
    only text at outcome (more_columns {grown = grown} {end = end} {next = next} p n h q) =
        let here : is_sign 59 (slice_get text (part text end)) ≡ true = subst (λ m. is_sign 59 (slice_get text m) ≡ true) (next-only n) h in
        let known = grows shape p in
        let read : outcome ≡ after-column left text (grown, end) =
        rw here ((more grown known.0 known.1).only text (next + 1) outcome q ∙ ap (λ m. columns_at left grown text (m + 1)) (next-only n)) in
        subst (λ found. outcome ≡ (found >>= after-column left text)) ((column-decides shape).only text at (Ok (grown, end)) p) read

columns-decides : (l : ℕ) (shape : Shape) → length shape.names + l ≡ 48 → Decides (IsColumns shape) (columns_at (suc l) shape)
unfolding columns_at after-column
columns-decides zero shape count = columns-step 0 shape (λ grown less more. absurd (omega (arith, count, less)))
columns-decides (suc l) shape count = columns-step (suc l) shape (λ grown less more. columns-decides l grown (omega (arith, count, more)))

semicolon-past : (text : List ℕ) (at : ℕ) → past (codes ";") text at ≡ past_semicolon text at
semicolon-past text at = go (is_sign 59 (slice_get text (part text at)))
  where
    go : (t : Bool) → cond (t && true) (part text at + 1) at ≡ cond t (part text at + 1) at
    go true = refl
    go false = refl

ended : Shape → Reader Shape
ended shape text at = cond (is_first_names shape.names && is_first_kinds shape.kinds) (Ok (shape, past_semicolon text at)) (Err (r.TimeSym shape.table))

end-decides : (shape : Shape) → Decides (IsEnd shape) (ended shape)
unfolding ended
end-decides shape = record { reads = λ text at. go text at (is_first_names shape.names && is_first_kinds shape.kinds) refl; only = only }
  where
    closing : Decides (Optionally (codes ";") (Means shape)) (λ text at. Ok (shape, past_semicolon text at))
    closing = decides-as (λ text at. ap (λ n. Ok (shape, n)) (semicolon-past text at)) (optionally-decides (codes ";") (means-decides shape))

    go : (text : List ℕ) (at : ℕ) (t : Bool) → (is_first_names shape.names && is_first_kinds shape.kinds) ≡ t → IsEnd shape text at (cond t (Ok (shape, past_semicolon text at)) (Err (r.TimeSym shape.table)))
    go text at true h = time_sym h (closing.reads text at)
    go text at false h = no_time_sym h

    only : (text : List ℕ) (at : ℕ) (outcome : Result (Shape × ℕ) SchemaRefusal) → IsEnd shape text at outcome → outcome ≡ ended shape text at
    only text at outcome (time_sym h q) = rw h (closing.only text at outcome q)
    only text at outcome (no_time_sym h) = rw h refl

head-decides : (tables : List Shape) → Decides (IsHead tables) (head_at (names_of tables))
unfolding head_at
head-decides tables = then-decides (name-decides (names_of tables) 64) (λ name. sign-decides 58 (sign-decides 40 (sign-decides 91 (sign-decides 93 (means-decides name)))))

pub table-decides : (tables : List Shape) → Decides (IsTable tables) (table_at tables)
unfolding table_at ended
table-decides tables =
    then-decides (head-decides tables)
    (λ name. then-decides (columns-decides 48 (record { table = name; names = []; kinds = [] }) refl) (λ shape. end-decides shape))

length-names : (tables : List Shape) → length (names_of tables) ≡ length tables
length-names [] = refl
length-names (table ∷ tables) = ap suc (length-names tables)

pub few_tables : (tables : List Shape) {table : Shape} {text : List ℕ} {at end : ℕ} → IsTable tables text at (Ok (table, end)) → length tables < 64
few_tables tables (both (both n signs) q) = let less = few (names_of tables) 64 n in omega (arith, length-names tables, less)
