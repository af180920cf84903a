-- Judging an update.
use Rattle.std.proofs.Common.{◌≡◌, ℕ, ℤ, zero, suc, ◌+◌, ◌<◌, ◌≤◌, ◌∷◌, ◌++◌, [], List, length, drop, map, refl, sym, ap, ap₂, ◌∙◌, subst, arith, true, false, Bool, cond, Some, None, Option, slice_get, replicate, All, eqb, Result, Ok, Err, ◌&&◌, ◌||◌}
use Rattle.std.specs.Prelude.{nat_lt}
use Rattle.std.specs.List.{list_all}
use Rattle.std.specs.Str.{bytes_eq}
use Rattle.std.proofs.lemmas.List.{drop_more}
use Rattle.std.proofs.lemmas.List.Elements.{All-nil, All-cons}
use Rattle.std.proofs.lemmas.Option.{get_or_from_slice_get, slice_get-map}
use Rattle.std.proofs.lemmas.Bool.{eqb-true}
use Rattle.std.proofs.lemmas.Bool.Decides.{nat_tests}
use Rattle.q_values.specs.Contents.{Contents}
use Rattle.q_values.specs.Kind.{type_number, kind_at, is}
use Rattle.q_values.specs.Table.{rows_of}
use Rattle.q_values.specs.Tree.{Tree, atom, vector, list, dict, table, keyed, identity, wrong}
use Rattle.q_values.specs.declared.limits.Limits.{Limits}
use Rattle.day_rows.specs.Day.{AreColumns}
use Rattle.day_rows.specs.declared.entry.Entry.TheVariants as e
use Rattle.q_values.specs.Atom.{kind_of}
use Rattle.q_values.specs.declared.kind.Kind.{Kind}
use Rattle.q_values.specs.declared.kind.Kind.TheVariants as k
use Rattle.day_rows.specs.declared.schema.Shape.{Shape}
use Rattle.plant_memory.specs.Items.{timed, is_of_kind, is_long_symbol, vector_length, fits_beside, wrong_from, have_matching_lengths, row_count, spread, columns_of, atoms_of}
use Rattle.plant_memory.specs.Items.{has_long_symbol}
use Rattle.plant_memory.specs.Limit.{HasLogRecord, holds_too_much, is_beyond, is_long_record}
use Rattle.std.specs.List.{AllByRecursion, list_any}
use Rattle.std.proofs.lemmas.Slice.Eq.{bytes_eq-Decides}
use Rattle.q_values.specs.Limits.{AreLimits}
use Rattle.q_values.specs.declared.atom.Atom.{Atom}
use Rattle.q_values.specs.declared.atom.Atom.TheVariants as a
use Rattle.std.specs.Prelude.{IfOk}
use Rattle.ipc_codec.specs.Lengths.{saturated}
use Rattle.tick_log.specs.Chunk.{HasShortSymbols, IsLoggable, chunk_bytes, is_long, no_pass}
use Rattle.tick_log.proofs.Made.{length-chunk}
use Rattle.plant_memory.specs.Chronicle.{time_of_day}
use Rattle.plant_memory.specs.Turns.{Passes, Rules, RulesItems, IsRefusal, FitsLimits, FindsTable}
use Rattle.plant_memory.specs.declared.judge.Judged.{Judged}
use Rattle.plant_memory.specs.declared.refusal.UpdRefusal.{UpdRefusal}
use Rattle.plant_memory.specs.declared.refusal.UpdRefusal.TheVariants as r
use Rattle.plant_memory.specs.Verdict.{table_from, is_past_next_day, is_next_day, items_judged, ruling, Verdict, accepts, refuses, kinds_judged, table_judged, roll_due}

-- the table with an index has the name, or the search goes on after it
table_step : (schema : List Shape) (i : ℕ) (shape : Shape) (name : List ℕ) → i < length schema → slice_get schema i ≡ Some shape
    → table_from i name (drop i schema) ≡ cond (bytes_eq shape.table name) (Some (i, shape.kinds)) (table_from (i + 1) name (drop (suc i) schema))
table_step schema i shape name i_in is = let one : i + 1 ≡ suc i = omega arith in rw (drop_more schema i shape i_in, get_or_from_slice_get schema i shape shape is, ← one) refl

pub table_found : (schema : List Shape) (i : ℕ) (shape : Shape) (name : List ℕ) → i < length schema → slice_get schema i ≡ Some shape → bytes_eq shape.table name ≡ true → table_from 0 name schema ≡ table_from i name (drop i schema)
    → (x : Shape) × (slice_get schema i ≡ Some x) × (x.table ≡ name) × (table_from 0 name schema ≡ Some (i, x.kinds))
table_found schema i shape name i_in is same before = (shape, is, (bytes_eq-Decides shape.table name).0 same, before ∙ table_step schema i shape name i_in is ∙ rw same refl)

pub table_more : (schema : List Shape) (i : ℕ) (shape : Shape) (name : List ℕ) → i < length schema → slice_get schema i ≡ Some shape → bytes_eq shape.table name ≡ false → table_from 0 name schema ≡ table_from i name (drop i schema)
    → table_from 0 name schema ≡ table_from (i + 1) name (drop (i + 1) schema)
table_more schema i shape name i_in is other before = let one : i + 1 ≡ suc i = omega arith in before ∙ table_step schema i shape name i_in is ∙ rw (other, one) refl

kind_at-type_number : (kind : Kind) → kind_at (type_number kind) ≡ Some kind
kind_at-type_number k.Boolean = refl
kind_at-type_number kind = refl

-- kinds of one type number are one kind
same_kind : (some other : Kind) → is some other ≡ true → some ≡ other
same_kind some other h =
    let same : Some some ≡ Some other = sym (kind_at-type_number some) ∙ ap kind_at (eqb-true (type_number some) (type_number other) h) ∙ kind_at-type_number other in
    cc

right_kind : (n : ℕ) (kind : Kind) (item : Tree) → is_of_kind kind item ≡ true → (spread n item).kind ≡ kind
right_kind n kind (atom x) h = same_kind (kind_of x) kind h
right_kind n kind (vector v) h = same_kind v.kind kind h
right_kind n kind (list x) h = absurd cc
right_kind n kind (dict x y) h = absurd cc
right_kind n kind (table x) h = absurd cc
right_kind n kind (keyed x y) h = absurd cc
right_kind n kind identity h = absurd cc
right_kind n kind (wrong x) h = absurd cc

abbrev rows_for : Option ℕ → ℕ
rows_for None = 1
rows_for (Some n) = n

length-replicate : {X : Type 0} (n : ℕ) (x : X) → length (replicate n x) ≡ n
length-replicate zero x = refl
length-replicate (suc n) x = ap suc (length-replicate n x)

right_length : (n : ℕ) (kind : Kind) (item : Tree) (first : Option ℕ) → is_of_kind kind item ≡ true → fits_beside first (vector_length item) ≡ true → n ≡ rows_for first → length (spread n item).atoms ≡ n
right_length n kind (atom x) first h fits rows = length-replicate n x
right_length n kind (vector v) None h fits rows = absurd cc
right_length n kind (vector v) (Some m) h fits rows = eqb-true (length v.atoms) m fits ∙ sym rows
right_length n kind (list x) first h fits rows = absurd cc
right_length n kind (dict x y) first h fits rows = absurd cc
right_length n kind (table x) first h fits rows = absurd cc
right_length n kind (keyed x y) first h fits rows = absurd cc
right_length n kind identity first h fits rows = absurd cc
right_length n kind (wrong x) first h fits rows = absurd cc

rows-first : (kind : Kind) (item : Tree) → is_of_kind kind item ≡ true → length (atoms_of item) ≡ rows_for (vector_length item)
rows-first kind (atom x) h = refl
rows-first kind (vector v) h = refl
rows-first kind (list x) h = absurd cc
rows-first kind (dict x y) h = absurd cc
rows-first kind (table x) h = absurd cc
rows-first kind (keyed x y) h = absurd cc
rows-first kind identity h = absurd cc
rows-first kind (wrong x) h = absurd cc

-- the first item is of its column's kind, and the others are
pub right_first : (p : ℕ) (kind : Kind) (kinds : List Kind) (item : Tree) (items : List Tree) → wrong_from p (kind ∷ kinds) (item ∷ items) ≡ None → (is_of_kind kind item ≡ true) × (wrong_from (p + 1) kinds items ≡ None)
right_first p kind kinds item items = go (is_of_kind kind item)
  where
    go : (b : Bool) → cond b (wrong_from (p + 1) kinds items) (Some p) ≡ None → (b ≡ true) × (wrong_from (p + 1) kinds items ≡ None)
    go true h = (refl, h)
    go false h = absurd cc

and_both : (a b : Bool) → (a && b) ≡ true → (a ≡ true) × (b ≡ true)
and_both true b h = (refl, h)
and_both false b h = absurd cc

kinds-spread : (n p : ℕ) (kinds : List Kind) (items : List Tree) → wrong_from p kinds items ≡ None → length kinds ≡ length items → map (λ c. c.kind) (map (spread n) items) ≡ kinds
kinds-spread n p [] [] right size = refl
kinds-spread n p [] (item ∷ items) right size = absurd (omega arith)
kinds-spread n p (kind ∷ kinds) [] right size = absurd (omega arith)
kinds-spread n p (kind ∷ kinds) (item ∷ items) right size =
    let both = right_first p kind kinds item items right in
    rw (right_kind n kind item both.0, kinds-spread n (p + 1) kinds items both.1 (omega arith)) refl

even-spread : (n p : ℕ) (first : Option ℕ) (kinds : List Kind) (items : List Tree) → wrong_from p kinds items ≡ None → length kinds ≡ length items → list_all (λ item. fits_beside first (vector_length item)) items ≡ true → n ≡ rows_for first
    → All (λ (c : Contents). length c.atoms ≡ n) (map (spread n) items)
even-spread n p first [] [] right size fits rows = All-nil (λ (c : Contents). length c.atoms ≡ n)
even-spread n p first [] (item ∷ items) right size fits rows = absurd (omega arith)
even-spread n p first (kind ∷ kinds) [] right size fits rows = absurd (omega arith)
even-spread n p first (kind ∷ kinds) (item ∷ items) right size fits rows =
    let both = right_first p kind kinds item items right in
    let fit = and_both (fits_beside first (vector_length item)) (list_all (λ item. fits_beside first (vector_length item)) items) fits in
    All-cons (λ (c : Contents). length c.atoms ≡ n) (spread n item) (map (spread n) items) (right_length n kind item first both.0 fit.0 rows) (even-spread n (p + 1) first kinds items both.1 (omega arith) fit.1 rows)

fits-itself : (first : Option ℕ) → fits_beside first first ≡ true
fits-itself None = refl
fits-itself (Some n) = let same : eqb n n ≡ true = grind (arith, nat_tests) in same

-- the columns of items that have matching lengths and are of their columns' kinds
record AreSpread (kinds : List Kind) (items : List Tree) : Type 0 where
  columns : AreColumns kinds (columns_of items)
  rows : rows_of (columns_of items) ≡ row_count items

spread_items : (kinds : List Kind) (first : Tree) (others : List Tree) → have_matching_lengths (length kinds) (first ∷ others) ≡ true → wrong_from 0 kinds (first ∷ others) ≡ None → AreSpread kinds (first ∷ others)
spread_items [] first others even right = let h : eqb (length others + 1) 0 ≡ true = (and_both _ _ even).0 in absurd (omega (arith, eqb-true (length others + 1) 0 h))
spread_items (kind ∷ kinds) first others even right =
    let n = length (atoms_of first) in
    let parts = and_both (eqb (length others + 1) (length (kind ∷ kinds))) (list_all (λ item. fits_beside (vector_length first) (vector_length item)) others) even in
    let size : length kinds ≡ length others = omega (arith, eqb-true (length others + 1) (length (kind ∷ kinds)) parts.0) in
    let both = right_first 0 kind kinds first others right in
    let rows : n ≡ rows_for (vector_length first) = rows-first kind first both.0 in
    let own : length (spread n first).atoms ≡ n = right_length n kind first (vector_length first) both.0 (fits-itself (vector_length first)) rows in
    let rest = even-spread n 1 (vector_length first) kinds others both.1 size parts.1 rows in
    let whole = All-cons (λ (c : Contents). length c.atoms ≡ n) (spread n first) (map (spread n) others) own rest in
    record {
      columns = record {
        of_kinds = kinds-spread n 0 (kind ∷ kinds) (first ∷ others) right (omega arith);
        equal_lengths = subst (λ m. All (λ (c : Contents). length c.atoms ≡ m) (map (spread n) (first ∷ others))) (sym own) whole;
      };
      rows = own;
    }

under : (limits : Limits) (rows : ℕ) (items : List Tree) → holds_too_much limits rows items ≡ false → rows + row_count items ≤ limits.day_rows
under limits rows items h = go (has_long_symbol limits.symbol items) h
  where
    go : (b : Bool) → (b || nat_lt limits.day_rows (rows + row_count items)) ≡ false → rows + row_count items ≤ limits.day_rows
    go true none = absurd cc
    go false none = grind (arith, nat_tests)

-- where no test refuses
all_well : (a b c : Bool) (w : Option ℕ) (x y z v : Verdict) → a ≡ true → b ≡ false → c ≡ false → w ≡ None → cond a (kinds_judged w (cond b y (cond c z v))) x ≡ v
all_well a b c w x y z v ea eb ec ew = rw (ea, ew, eb, ec) refl

or_both : (x y : Bool) → (x || y) ≡ false → (x ≡ false) × (y ≡ false)
or_both true y h = absurd cc
or_both false y h = (refl, h)

-- what is within the limit of symbols is within that of the log
short_symbol : (limit : ℕ) (x : Atom) → limit ≤ 256 → is_long_symbol limit x ≡ false → is_long x ≡ false
short_symbol limit (a.Symbol text) le h = grind (arith, nat_tests)
short_symbol limit x le h = refl

any_short : (limit : ℕ) (xs : List Atom) → limit ≤ 256 → list_any (is_long_symbol limit) xs ≡ false → list_any is_long xs ≡ false
any_short limit [] le h = refl
any_short limit (x ∷ xs) le h =
    let both = or_both (is_long_symbol limit x) (list_any (is_long_symbol limit) xs) h in
    rw (short_symbol limit x le both.0, any_short limit xs le both.1) refl

replicate_short : (n : ℕ) (x : Atom) → is_long x ≡ false → list_any is_long (replicate n x) ≡ false
replicate_short zero x h = refl
replicate_short (suc n) x h = rw (h, replicate_short n x h) refl

spread_short : (limit n : ℕ) (item : Tree) → limit ≤ 256 → list_any (is_long_symbol limit) (atoms_of item) ≡ false → list_any is_long (spread n item).atoms ≡ false
spread_short limit n (atom x) le h = replicate_short n x (short_symbol limit x le (or_both (is_long_symbol limit x) false h).0)
spread_short limit n (vector v) le h = any_short limit v.atoms le h
spread_short limit n (list x) le h = refl
spread_short limit n (dict x y) le h = refl
spread_short limit n (table x) le h = refl
spread_short limit n (keyed x y) le h = refl
spread_short limit n identity le h = refl
spread_short limit n (wrong x) le h = refl

items_short : (limit n : ℕ) (items : List Tree) → limit ≤ 256 → has_long_symbol limit items ≡ false → AllByRecursion HasShortSymbols (map (spread n) items)
items_short limit n [] le h = tt
items_short limit n (item ∷ items) le h =
    let both = or_both (list_any (is_long_symbol limit) (atoms_of item)) (has_long_symbol limit items) h in
    (spread_short limit n item le both.0, items_short limit n items le both.1)

-- an update within the limits has a log record
pub fits_items : (limits : Limits) (by : ℕ) (name : List ℕ) (at : ℕ) (kinds : List Kind) (first : Tree) (others : List Tree) (rolls : Bool) (left : ℕ) (columns : List Contents)
    → AreLimits limits → have_matching_lengths (length kinds) (first ∷ others) ≡ true → wrong_from 0 kinds (first ∷ others) ≡ None → FitsLimits limits left name (first ∷ others) (Ok columns)
    → HasLogRecord by name at kinds (record { rolls = rolls; update = e.Upd by at columns })
fits_items limits by name at kinds first others rolls left columns are even right fit = λ schema shape known named own pass.
    let made = fit.0 in
    let parts = or_both (holds_too_much limits left (first ∷ others)) (is_long_record limits name (first ∷ others)) fit.1 in
    let short : nat_lt limits.chunk (length (chunk_bytes 0 name columns)) ≡ false = rw made parts.1 in
    let fitting : AreColumns shape.kinds columns = rw (own, made) (spread_items kinds first others even right).columns in
    let few = or_both (has_long_symbol limits.symbol (first ∷ others)) (nat_lt limits.day_rows (left + row_count (first ∷ others))) parts.0 in
    let symbols : AllByRecursion HasShortSymbols columns = rw made (items_short limits.symbol (row_count (first ∷ others)) (first ∷ others) are.symbol few.0) in
    let within : length (chunk_bytes 0 name columns) ≤ limits.chunk = grind (arith, nat_tests) in
    let same : length shape.table ≡ length name = ap length named in (
      shape,
      known,
      record {
        pass = pass;
        loggable = record { fitting = fitting; symbols = symbols };
        short = omega (arith, within, are.chunk, same, length-chunk 0 name columns, length-chunk by shape.table columns);
      },
    )

-- the columns of an update that isn't beyond a limit
pub columns_fit : (limits : Limits) (rows : ℕ) (name : List ℕ) (items : List Tree) (columns : List Contents)
    → holds_too_much limits rows items ≡ false → nat_lt limits.chunk (length (chunk_bytes 0 name columns)) ≡ false → columns ≡ columns_of items → FitsLimits limits rows name items (Ok columns)
columns_fit limits rows name items columns free short made = let brief : is_long_record limits name items ≡ false = rw made at short in (made, ap₂ ◌||◌ free brief)

pub record_long : (limits : Limits) (rows : ℕ) (name : List ℕ) (items : List Tree) (columns : List Contents)
    → holds_too_much limits rows items ≡ false → nat_lt limits.chunk (length (chunk_bytes 0 name columns)) ≡ true → columns ≡ columns_of items → is_beyond limits rows name items ≡ true
record_long limits rows name items columns free long made = let brief : is_long_record limits name items ≡ true = rw made at long in ap₂ ◌||◌ free brief

-- a length that saturates is longer than the limit where the length itself is
pub over_limit : (limit n size : ℕ) → limit ≤ 67108864 → n ≡ saturated size → nat_lt limit n ≡ nat_lt limit size
over_limit limit n size le is = elim (nat_lt limit size) as (λ b. nat_lt limit size ≡ b → nat_lt limit n ≡ b) [ true ↦ λ h. grind (arith, nat_tests) | false ↦ λ h. grind (arith, nat_tests) ] refl

-- where only the last test refuses
last_refuses : (a b c : Bool) (w : Option ℕ) (x y z v : Verdict) → a ≡ true → b ≡ false → c ≡ true → w ≡ None → cond a (kinds_judged w (cond b y (cond c z v))) x ≡ z
last_refuses a b c w x y z v ea eb ec ew = rw (ea, ew, eb, ec) refl

-- an update that is beyond a limit
pub beyond_items : (limits : Limits) (by : ℕ) (date : ℤ) (rows : ℕ) (now : ℤ) (name : List ℕ) (at : ℕ) (kinds : List Kind) (first : Tree) (others : List Tree) (rolls : Bool) (left : ℕ) (why : UpdRefusal)
    → have_matching_lengths (length kinds) (first ∷ others) ≡ true → wrong_from 0 kinds (first ∷ others) ≡ None → is_past_next_day date now ≡ false → rolls ≡ is_next_day date now → left ≡ cond rolls 0 rows → FitsLimits limits left name (first ∷ others) (Err why)
    → IsRefusal (items_judged limits by date rows now name (at, kinds) (first ∷ others)) why
beyond_items limits by date rows now name at kinds first others rolls left r.Limit even right near is left_is fit =
    let beyond : is_beyond limits (cond (is_next_day date now) 0 rows) name (first ∷ others) ≡ true = rw (left_is, is) at fit in
    last_refuses (have_matching_lengths (length kinds) (first ∷ others)) (is_past_next_day date now) (is_beyond limits (cond (is_next_day date now) 0 rows) name (first ∷ others)) (wrong_from 0 kinds (first ∷ others)) (refuses r.Length) (refuses r.MoreThanOneDay) (refuses r.Limit)
    (accepts (roll_due (is_next_day date now) by date ++ e.Upd by at (columns_of (first ∷ others)) ∷ [])) even near beyond right
beyond_items limits by date rows now name at kinds first others rolls left r.NoMemory even right near is left_is fit = tt
beyond_items limits by date rows now name at kinds first others rolls left (r.NoTable x) even right near is left_is fit = absurd fit
beyond_items limits by date rows now name at kinds first others rolls left r.Length even right near is left_is fit = absurd fit
beyond_items limits by date rows now name at kinds first others rolls left (r.WrongType x) even right near is left_is fit = absurd fit
beyond_items limits by date rows now name at kinds first others rolls left r.MoreThanOneDay even right near is left_is fit = absurd fit

pub passes_items : (limits : Limits) (by : ℕ) (date : ℤ) (rows : ℕ) (now : ℤ) (name : List ℕ) (at : ℕ) (kinds : List Kind) (first : Tree) (others : List Tree) (rolls : Bool) (left : ℕ) (columns : List Contents)
    → have_matching_lengths (length kinds) (first ∷ others) ≡ true → wrong_from 0 kinds (first ∷ others) ≡ None → is_past_next_day date now ≡ false → rolls ≡ is_next_day date now → left ≡ cond rolls 0 rows → FitsLimits limits left name (first ∷ others) (Ok columns)
    → (tables : List (List Kind)) → slice_get tables at ≡ Some kinds
    → Passes limits by date rows now tables (items_judged limits by date rows now name (at, kinds) (first ∷ others)) (record { rolls = rolls; update = e.Upd by at columns })
passes_items limits by date rows now name at kinds first others rolls left columns even right near is left_is fit tables known =
    let made = fit.0 in
    let are = spread_items kinds first others even right in
    let free : is_beyond limits (cond (is_next_day date now) 0 rows) name (first ∷ others) ≡ false = rw (left_is, is) at fit.1 in
    let few = under limits left (first ∷ others) (or_both (holds_too_much limits left (first ∷ others)) (is_long_record limits name (first ∷ others)) fit.1).0 in
    record {
      accepted =
          all_well (have_matching_lengths (length kinds) (first ∷ others)) (is_past_next_day date now) (is_beyond limits (cond (is_next_day date now) 0 rows) name (first ∷ others)) (wrong_from 0 kinds (first ∷ others)) (refuses r.Length) (refuses r.MoreThanOneDay) (refuses r.Limit)
          (accepts (roll_due (is_next_day date now) by date ++ e.Upd by at (columns_of (first ∷ others)) ∷ [])) even near free right
          ∙ ap₂ (λ b cs. accepts (roll_due b by date ++ e.Upd by at cs ∷ [])) (sym is) (sym made);
      rolls_then = is;
      own = refl;
      update = (kinds, known, rw made are.columns);
      bounded = rw (← left_is, made, are.rows) few;
    }

-- what becomes of the items of a table that is found
pub rules_found : (schema : List Shape) (limits : Limits) (by : ℕ) (date : ℤ) (rows : ℕ) (name : List ℕ) (items given : List Tree) (now : ℤ) (at : ℕ) (kinds : List Kind) (shape : Shape) (result : Result Judged UpdRefusal)
    → slice_get schema at ≡ Some shape → FindsTable schema name (Some at) → kinds ≡ shape.kinds → given ≡ items → RulesItems limits by date rows now name at kinds (timed (time_of_day now) given) result → Rules schema limits by date rows name items now result
rules_found schema limits by date rows name items given now at kinds shape result known found own same_items = go result
  where
    one : found.0 ≡ shape
    one = cc (found.1, known)

    same : ruling schema limits by date rows name items now ≡ items_judged limits by date rows now name (at, kinds) (timed (time_of_day now) given)
    same = ap (λ o. table_judged name o (λ t. items_judged limits by date rows now name t (timed (time_of_day now) items))) (found.3 ∙ ap (λ (x : Shape). Some (at, x.kinds)) one ∙ ap (λ ks. Some (at, ks)) (sym own)) ∙ ap (λ ts. items_judged limits by date rows now name (at, kinds) (timed (time_of_day now) ts)) (sym same_items)

    go : (x : Result Judged UpdRefusal) → RulesItems limits by date rows now name at kinds (timed (time_of_day now) given) x → Rules schema limits by date rows name items now x
    go (Ok judged) h =
        let there : slice_get (map (λ (s : Shape). s.kinds) schema) at ≡ Some kinds = slice_get-map (λ (s : Shape). s.kinds) schema at ∙ rw (known, own) refl in
        subst (λ v. Passes limits by date rows now (map (λ (s : Shape). s.kinds) schema) v judged) (sym same) (h (map (λ (s : Shape). s.kinds) schema) there)
    go (Err why) h = subst (λ v. IsRefusal v why) (sym same) h

-- the update that may be logged has a log record, where the items of a table that is found have one
pub loggable_found : (schema : List Shape) (name : List ℕ) (at by : ℕ) (kinds : List Kind) (shape : Shape) (result : Result Judged UpdRefusal)
    → slice_get schema at ≡ Some shape → FindsTable schema name (Some at) → kinds ≡ shape.kinds → by < no_pass → IfOk result (HasLogRecord by name at kinds) → IfOk result (λ (judged : Judged). IsLoggable schema judged.update)
loggable_found schema name at by kinds shape (Ok judged) known found own pass h =
    let one : found.0 ≡ shape = cc (found.1, known) in
    h schema shape known (ap (λ (x : Shape). x.table) (sym one) ∙ found.2) (sym own) pass
loggable_found schema name at by kinds shape (Err why) known found own pass h = h
