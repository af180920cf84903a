-- A schema that is written reads as that schema.
use Rattle.std.specs.Prelude.{◌&&◌, Ok, slice_get, codes}
use Rattle.std.proofs.Common.{◌≡◌, ◌≢◌, ℕ, suc, ◌+◌, ◌<◌, Bool, true, false, List, [], ◌∷◌, ◌++◌, length, take, drop, refl, sym, ap, subst, ◌∙◌, arith, append_assoc, Less, is_eq, is_gt}
use Rattle.std.specs.List.{AllByRecursion, list_any}
use Rattle.std.specs.Ordering.{ordering_reverse}
use Rattle.std.specs.Str.{bytes_eq}
use Rattle.std.proofs.lemmas.List.{length-append}
use Rattle.std.proofs.lemmas.Map.Text.{is_eq-slice_cmp}
use Rattle.q_values.specs.declared.kind.Kind.{Kind}
use Rattle.q_values.specs.declared.kind.Kind.TheVariants as k
use Rattle.day_rows.specs.Schema.{is_letter, IsWord, IsName, IsShape, IsSchema, by_name}
use Rattle.day_rows.specs.Sorted.{inserted, IsAscending}
use Rattle.day_rows.specs.declared.schema.Shape.{Shape}
use Rattle.schema_text.specs.Grammar.{IsGap, at_end, at_token, blank, IsNext, means, both, stand_at, left_out, IsColumns, time_sym, names_of, IsTable, IsTables, no_more, one_more}
use Rattle.schema_text.specs.Kinds.{is_first_names, is_first_kinds}
use Rattle.schema_text.specs.Laws.{WrittenIsRead}
use Rattle.schema_text.specs.Tokens.{is_sign, is_end}
use Rattle.schema_text.specs.Written.{columns_then, written}
use Rattle.schema_text.proofs.Shapes.{by_name_total}
use Rattle.schema_text.proofs.Words.{slice_get-drop_first}
use Rattle.schema_text.proofs.WrittenColumns.{columns-here, append-nothing}
use Rattle.schema_text.proofs.WrittenParts.{after-front, after-one, letter-plain, letter-no_sign, sign-here, name-here}

-- a text that is empty or begins with a letter
is_lead : List ℕ → Bool
is_lead [] = true
is_lead (b ∷ bs) = is_letter b

lead-gap : (start : Bool) (ts : List ℕ) → is_lead ts ≡ true → IsGap start ts 0
unfolding is_lead
lead-gap start [] h = at_end
lead-gap true (b ∷ bs) h = at_token (letter-plain b h) (letter-no_sign b 47 refl h)
lead-gap false (b ∷ bs) h = at_token (letter-plain b h) refl

lead-next : (text ts : List ℕ) (at : ℕ) → drop at text ≡ ts → is_lead ts ≡ true → IsNext text at at
lead-next text ts at h lead = record { gap = 0; is_gap = subst (λ us. IsGap false us 0) (sym h) (lead-gap false ts lead); offset = omega arith }

line-next : (text ts : List ℕ) (at : ℕ) → drop at text ≡ 10 ∷ ts → is_lead ts ≡ true → IsNext text at (at + 1)
line-next text ts at h lead = record { gap = 1; is_gap = subst (λ us. IsGap false us 1) (sym h) (blank refl (lead-gap true ts lead)); offset = refl }

get-first : (text ts : List ℕ) (at : ℕ) → drop at text ≡ ts → slice_get text at ≡ slice_get ts 0
get-first text ts at h = sym (slice_get-drop_first text at) ∙ ap (λ us. slice_get us 0) h

lead-no_semicolon : (ts : List ℕ) → is_lead ts ≡ true → is_sign 59 (slice_get ts 0) ≡ false
unfolding is_lead
lead-no_semicolon [] h = refl
lead-no_semicolon (b ∷ bs) h = letter-no_sign b 59 refl h

word-lead : (word rest : List ℕ) → IsWord word → is_lead (word ++ rest) ≡ true
unfolding is_lead
word-lead [] rest h = absurd h
word-lead (b ∷ bs) rest h = h.0

word-no_end : (word rest : List ℕ) → IsWord word → is_end (slice_get (word ++ rest) 0) ≡ false
word-no_end [] rest h = absurd h
word-no_end (b ∷ bs) rest h = refl

written-lead : (tables : List Shape) → AllByRecursion IsShape tables → is_lead (written tables) ≡ true
unfolding is_lead
written-lead [] h = refl
written-lead (table ∷ tables) h = word-lead table.table (codes ":([]" ++ columns_then table.names table.kinds (written tables)) h.0.table.word

some-names : (names : List (List ℕ)) → take 2 names ≡ codes "time" ∷ codes "sym" ∷ [] → 0 < length names
some-names [] h = cc
some-names (name ∷ names) h = omega arith

first-names : (names : List (List ℕ)) → take 2 names ≡ codes "time" ∷ codes "sym" ∷ [] → is_first_names names ≡ true
first-names [] h = cc
first-names (name ∷ []) h = cc
first-names (name ∷ other ∷ names) h =
    let first : name ≡ codes "time" = cc in
    let second : other ≡ codes "sym" = cc in
    rw (first, second) refl

first-kinds : (kinds : List Kind) → take 2 kinds ≡ k.Timespan ∷ k.Symbol ∷ [] → is_first_kinds kinds ≡ true
first-kinds [] h = cc
first-kinds (kind ∷ []) h = cc
first-kinds (kind ∷ other ∷ kinds) h =
    let first : kind ≡ k.Timespan = cc in
    let second : other ≡ k.Symbol = cc in
    rw (first, second) refl

columns-of : (table : Shape) (names : List (List ℕ)) (kinds : List Kind) (text rest : List ℕ) (at : ℕ) → names ≡ table.names → kinds ≡ table.kinds → 0 < length names
    → drop at text ≡ columns_then names kinds rest → IsShape table
    → (end : ℕ) × IsColumns (record { table = table.table; names = []; kinds = [] }) text at (Ok (table, end)) × (drop end text ≡ 10 ∷ rest)
columns-of table [] kinds text rest at n s some h is = absurd (omega (arith, some))
columns-of table (name ∷ names) [] text rest at n s some h is =
    let more : suc (length names) ≡ length table.names = ap length n in
    let none : 0 ≡ length table.kinds = ap length s in
    absurd (omega (arith, more, none, is.named))
columns-of table (name ∷ names) (kind ∷ kinds) text rest at n s some h is =
    let more : suc (length names) ≡ length table.names = ap length n in
    let paired : suc (length kinds) ≡ length table.kinds = ap length s in
    columns-here table (record { table = table.table; names = []; kinds = [] }) name names kind kinds text rest at h
    (record {
      table = refl;
      names_are = n;
      kinds_are = s;
      paired = omega (arith, more, paired, is.named);
      lawful = subst (AllByRecursion IsName) (sym n) is.names;
      plain = subst (AllByRecursion (λ other. other ≢ k.Character)) (sym s) is.kinds;
    })
    is.distinct is.few

length-names : (tables : List Shape) → length (names_of tables) ≡ length tables
length-names [] = refl
length-names (table ∷ tables) = ap suc (length-names tables)

table-here : (known : List Shape) (table : Shape) (text rest : List ℕ) (at start : ℕ) → IsNext text at start
    → drop start text ≡ table.table ++ (codes ":([]" ++ columns_then table.names table.kinds rest) → IsShape table → is_lead rest ≡ true
    → list_any (bytes_eq table.table) (names_of known) ≡ false → length known < 64
    → (end : ℕ) × IsTable known text at (Ok (table, end)) × (drop end text ≡ 10 ∷ rest)
table-here known table text rest at start next h is lead fresh few =
    let columns_text = columns_then table.names table.kinds rest in
    let p = start + length table.table in
    let h1 : drop p text ≡ codes ":([]" ++ columns_text = after-front text table.table (codes ":([]" ++ columns_text) start h in
    let h2 : drop (p + 1) text ≡ 40 ∷ 91 ∷ 93 ∷ columns_text = after-one text _ 58 p h1 in
    let h3 : drop (p + 1 + 1) text ≡ 91 ∷ 93 ∷ columns_text = after-one text _ 40 (p + 1) h2 in
    let h4 : drop (p + 1 + 1 + 1) text ≡ 93 ∷ columns_text = after-one text _ 91 (p + 1 + 1) h3 in
    let h5 : drop (p + 1 + 1 + 1 + 1) text ≡ columns_text = after-one text _ 93 (p + 1 + 1 + 1) h4 in
    let few_names : length (names_of known) < 64 = omega (arith, length-names known, few) in
    let columns = columns-of table table.names table.kinds text rest (p + 1 + 1 + 1 + 1) refl refl (some-names table.names is.first_names) h5 is in
    let begins : (is_first_names table.names && is_first_kinds table.kinds) ≡ true = rw (first-names table.names is.first_names, first-kinds table.kinds is.first_kinds) refl in
    let none : is_sign 59 (slice_get text (columns.0 + 1)) ≡ false =
    ap (λ b. is_sign 59 b) (get-first text rest (columns.0 + 1) (after-one text rest 10 columns.0 columns.2)) ∙ lead-no_semicolon rest lead in
    let no_semicolon : stand_at (codes ";") text (columns.0 + 1) ≡ false = rw none refl in (
      columns.0,
      both
          (both (name-here (names_of known) 64 text table.table (codes ":([]" ++ columns_text) at start next h is.table refl fresh few_names)
          (sign-here text _ 58 p h1 refl (sign-here text _ 40 (p + 1) h2 refl (sign-here text _ 91 (p + 1 + 1) h3 refl (sign-here text _ 93 (p + 1 + 1 + 1) h4 refl means)))))
          (both columns.1 (time_sym begins (left_out (line-next text rest columns.0 columns.2 lead) no_semicolon means))),
      columns.2,
    )

below-seam : (known : List Shape) (table : Shape) (tables : List Shape) → IsAscending (λ a b. by_name a b ≡ Less) (known ++ table ∷ tables)
    → AllByRecursion (λ other. by_name other table ≡ Less) known
below-seam [] table tables h = tt
below-seam (first ∷ known) table tables h = (at_seam known h.0, below-seam known table tables h.1)
  where
    at_seam : (others : List Shape) → AllByRecursion (λ b. by_name first b ≡ Less) (others ++ table ∷ tables) → by_name first table ≡ Less
    at_seam [] all = all.0
    at_seam (other ∷ others) all = at_seam others all.1

all-seam : (known : List Shape) (tables : List Shape) → AllByRecursion IsShape (known ++ tables) → AllByRecursion IsShape tables
all-seam [] tables h = h
all-seam (first ∷ known) tables h = all-seam known tables h.1

fresh-below : (table : Shape) (known : List Shape) → AllByRecursion (λ other. by_name other table ≡ Less) known → list_any (bytes_eq table.table) (names_of known) ≡ false
fresh-below table [] h = refl
fresh-below table (first ∷ known) h =
    let differs : bytes_eq table.table first.table ≡ false =
    sym (is_eq-slice_cmp table.table first.table) ∙ ap is_eq (by_name_total.antisymm table first ∙ ap ordering_reverse h.0) in
    rw (differs, fresh-below table known h.1) refl

inserted-last : (table : Shape) (known : List Shape) → AllByRecursion (λ other. by_name other table ≡ Less) known → inserted by_name table known ≡ known ++ table ∷ []
inserted-last table [] h = refl
inserted-last table (first ∷ known) h =
    let above : is_gt (by_name table first) ≡ true = ap is_gt (by_name_total.antisymm table first ∙ ap ordering_reverse h.0) in
    rw above (ap (λ ts. first ∷ ts) (inserted-last table known h.1))

ends-here : (known : List Shape) (text : List ℕ) (at start : ℕ) → IsNext text at start → drop start text ≡ [] → known ≢ [] → IsTables known text at (Ok known)
ends-here [] text at start next h some = absurd (some refl)
ends-here (table ∷ known) text at start next h some = no_more next (ap is_end (get-first text [] start h))

tables-here : (known tables : List Shape) (text : List ℕ) (at start : ℕ) → IsNext text at start → drop start text ≡ written tables → IsSchema (known ++ tables) → known ++ tables ≢ []
    → IsTables known text at (Ok (known ++ tables))
tables-here known [] text at start next h is some =
    let same : known ++ [] ≡ known = append-nothing known in
    subst (λ ts. IsTables known text at (Ok ts)) (sym same) (ends-here known text at start next h (λ none. some (same ∙ none)))
tables-here known (table ∷ tables) text at start next h is some =
    let shapes = all-seam known (table ∷ tables) is.each in
    let below = below-seam known table tables is.ascends in
    let lead = written-lead tables shapes.1 in
    let few : length known < 64 = omega (arith, length-append known (table ∷ tables), is.few) in
    let read = table-here known table text (written tables) at start next h shapes.0 lead (fresh-below table known below) few in
    let not_end : is_end (slice_get text start) ≡ false =
    ap is_end (get-first text _ start h) ∙ word-no_end table.table (codes ":([]" ++ columns_then table.names table.kinds (written tables)) shapes.0.table.word in
    let seam : (known ++ table ∷ []) ++ tables ≡ known ++ table ∷ tables = append_assoc known (table ∷ []) tables in
    let more = tables-here (known ++ table ∷ []) tables text read.0 (read.0 + 1) (line-next text (written tables) read.0 read.2 lead) (after-one text (written tables) 10 read.0 read.2)
    (subst IsSchema (sym seam) is) (λ none. some (sym seam ∙ none)) in
    one_more next not_end read.1
    (subst (λ ts. IsTables ts text read.0 (Ok (known ++ table ∷ tables))) (sym (inserted-last table known below))
    (subst (λ ts. IsTables (known ++ table ∷ []) text read.0 (Ok ts)) seam more))

-- a schema that is written is read back
pub written-read : WrittenIsRead
written-read schema is some =
    let lead = written-lead schema is.each in
    record { start = 0; gap = lead-gap true (written schema) lead; tables = tables-here [] schema (written schema) 0 0 (lead-next (written schema) (written schema) 0 refl lead) refl is some }
