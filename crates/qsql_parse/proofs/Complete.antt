-- What the grammar has is read.
use Rattle.std.proofs.Common.{◌≡◌, ℕ, ℤ, Bool, true, false, List, [], ◌∷◌, Option, Some, None, refl, sym, ap, ◌∙◌}
use Rattle.q_verbs.specs.declared.verb.Verb.{Verb}
use Rattle.q_verbs.specs.declared.verb.Verb1.{Verb1}
use Rattle.qsql_tokens.specs.declared.token.Word.TheVariants as w
use Rattle.qsql_tokens.specs.declared.token.Mark.TheVariants as m
use Rattle.qsql_request.specs.Forms.{Form, one, two, ColumnForm, QueryForm, SourceForm, rows_of, RequestForm, sub_form}
use Rattle.qsql_tokens.specs.Tokens.{Token, number, literal, name, monad, sign, dyad, word, mark}
use Rattle.qsql_parse.specs.Grammar.{IsDyad, by_sign, by_word, IsExpr, of_term, dyadic, monadic, IsTerm, of_number, of_literal, of_name, in_parentheses, one_in_brackets, two_in_brackets, IsColumn, with_name, without_name, IsColumns, last_column, more_columns, IsPhrases, last_phrase, more_phrases, IsVerb, of_select, of_exec, IsFirst, no_first, some_first, IsSelected, no_selected, some_selected, IsBy, no_by, some_by, IsWhere, no_where, some_where, IsQuery, of_parts, IsSymbols, of_symbol, of_vector, IsSource, of_table, of_query, query_in_parentheses, IsRequest, query, asof, count, day, subscription, is_null_symbol}
use Rattle.qsql_tokens.specs.Parts.{verb_of, word_of, is_mark}
use Rattle.qsql_parse.specs.Machine.{DraftForm, SideForm, to_left, to_right, OuterForm, alone, bare, bracketed, of_column, of_phrase, StackForm, base, right_of, under, in_brackets, applied, first_of_two, second_of_two, StateForm, start, verb_read, columns_wanted, column_wanted, wanted, monad_read, got, table_wanted, table_read, keys_wanted, source_wanted, query_wanted, source_read, tables_wanted, is_where, symbols_of, grown, with_table, with_phrase, fresh, step, step_columns, step_end, whole_query, then_read, run}
use Rattle.qsql_parse.proofs.Columns.{grown_all, all_phrases, whole-query}

-- an expression does not go on with these tokens
abbrev pub Ends : List Token → Type 0
Ends [] = Unit {0}
Ends (t ∷ ts) = verb_of t ≡ None

abbrev pub NotColon : List Token → Type 0
NotColon [] = Unit {0}
NotColon (t ∷ ts) = is_mark m.Colon t ≡ false

-- the tokens do not begin with a name and a colon
abbrev pub NoColon : List Token → Type 0
NoColon [] = Unit {0}
NoColon (name n ∷ ts) = NotColon ts
NoColon (_ ∷ ts) = Unit {0}

-- an expression may begin with these tokens
abbrev pub Starts : List Token → Type 0
Starts [] = ⊥
Starts (t ∷ ts) = (is_mark m.Open t ≡ false) × (word_of t ≡ None)

pub close-right : (v : Verb) (l : Form) (k : StackForm) (e : Form) (rest : List Token) → Ends rest → run (got e (right_of v l k)) rest ≡ run (got (two v l e) k) rest
close-right v l k e [] ends = refl
close-right v l k e (t ∷ rest) ends = rw ends refl

pub close-under : (u : Verb1) (k : StackForm) (e : Form) (rest : List Token) → Ends rest → run (got e (under u k)) rest ≡ run (got (one u e) k) rest
close-under u k e [] ends = refl
close-under u k e (t ∷ rest) ends = rw ends refl

term-starts : {ts rest : List Token} {e : Form} → IsTerm ts rest e → Starts ts
term-starts of_number = (refl, refl)
term-starts of_literal = (refl, refl)
term-starts of_name = (refl, refl)
term-starts (in_parentheses h) = (refl, refl)
term-starts (one_in_brackets h) = (refl, refl)
term-starts (two_in_brackets h more) = (refl, refl)

expr-starts : {ts rest : List Token} {e : Form} → IsExpr ts rest e → Starts ts
expr-starts (of_term h) = term-starts h
expr-starts (dyadic h d more) = term-starts h
expr-starts (monadic h) = (refl, refl)

term-no_colon : {ts rest : List Token} {e : Form} → IsTerm ts rest e → NotColon rest → NoColon ts
term-no_colon of_number free = tt
term-no_colon of_literal free = tt
term-no_colon of_name free = free
term-no_colon (in_parentheses h) free = tt
term-no_colon (one_in_brackets h) free = tt
term-no_colon (two_in_brackets h more) free = tt

dyad-no_colon : {t : Token} {v : Verb} (ts : List Token) → IsDyad t v → NotColon (t ∷ ts)
dyad-no_colon ts by_sign = refl
dyad-no_colon ts by_word = refl

expr-no_colon : {ts rest : List Token} {e : Form} → IsExpr ts rest e → NotColon rest → NoColon ts
expr-no_colon (of_term h) free = term-no_colon h free
expr-no_colon (dyadic {mid = mid} h d more) free = term-no_colon h (dyad-no_colon mid d)
expr-no_colon (monadic h) free = tt

dyad-read : {t : Token} {v : Verb} → IsDyad t v → (l : Form) (k : StackForm) (ts : List Token) → run (got l k) (t ∷ ts) ≡ run (wanted (right_of v l k)) ts
dyad-read by_sign l k ts = refl
dyad-read by_word l k ts = refl

monad-read : (u : Verb1) (k : StackForm) (ts : List Token) → Starts ts → run (monad_read u k) ts ≡ run (wanted (under u k)) ts
monad-read u k [] starts = absurd starts
monad-read u k (t ∷ ts) starts = rw starts.0 refl

mutual
  pub expr-read : {ts rest : List Token} {e : Form} → IsExpr ts rest e → (k : StackForm) → Ends rest → run (wanted k) ts ≡ run (got e k) rest
  expr-read (of_term h) k ends = term-read h k
  expr-read (dyadic {mid = mid} {rest = rest} {v = v} {l = l} {r = r} h d more) k ends = term-read h k ∙ (dyad-read d l k mid ∙ (expr-read more (right_of v l k) ends ∙ close-right v l k r rest ends))
  expr-read (monadic {ts = ts} {rest = rest} {u = u} {e = e} h) k ends = monad-read u k ts (expr-starts h) ∙ (expr-read h (under u k) ends ∙ close-under u k e rest ends)

  pub term-read : {ts rest : List Token} {e : Form} → IsTerm ts rest e → (k : StackForm) → run (wanted k) ts ≡ run (got e k) rest
  term-read of_number k = refl
  term-read of_literal k = refl
  term-read of_name k = refl
  term-read (in_parentheses h) k = expr-read h (in_brackets k) refl
  term-read (one_in_brackets {u = u} h) k = expr-read h (applied u k) refl
  term-read (two_in_brackets {v = v} {l = l} h more) k = expr-read h (first_of_two v k) refl ∙ expr-read more (second_of_two v l k) refl

unnamed-read : (o : OuterForm) (d : DraftForm) (g : Bool) (ts : List Token) → NoColon ts → run (column_wanted o d g) ts ≡ run (wanted (base (of_column o d g None))) ts
unnamed-read o d g [] free = refl
unnamed-read o d g (name n ∷ []) free = refl
unnamed-read o d g (name n ∷ t ∷ ts) free = rw free refl
unnamed-read o d g (number n ∷ ts) free = refl
unnamed-read o d g (literal v ∷ ts) free = refl
unnamed-read o d g (monad u ∷ ts) free = refl
unnamed-read o d g (sign v ∷ ts) free = refl
unnamed-read o d g (dyad v ∷ ts) free = refl
unnamed-read o d g (word x ∷ ts) free = refl
unnamed-read o d g (mark x ∷ ts) free = refl

column-read : {ts rest : List Token} {c : ColumnForm} → IsColumn ts rest c → (o : OuterForm) (d : DraftForm) (g : Bool) → Ends rest → NotColon rest
    → run (column_wanted o d g) ts ≡ run (got c.expr (base (of_column o d g c.name))) rest
column-read (with_name {n = n} h) o d g ends free = expr-read h (base (of_column o d g (Some n))) ends
column-read (without_name {ts = ts} h) o d g ends free = unnamed-read o d g ts (expr-no_colon h free) ∙ expr-read h (base (of_column o d g None)) ends

abbrev pub Stops : List Token → Type 0
Stops [] = ⊥
Stops (t ∷ ts) = (verb_of t ≡ None) × (is_mark m.Colon t ≡ false) × (is_mark m.Comma t ≡ false)

abbrev pub run_columns : OuterForm → DraftForm → Bool → List Token → Option RequestForm
run_columns o d g [] = None
run_columns o d g (t ∷ ts) = then_read (step_columns o d g t) (λ next. run next ts)

ends-stops : (ts : List Token) → Stops ts → Ends ts
ends-stops [] h = tt
ends-stops (t ∷ ts) h = h.0

not_colon-stops : (ts : List Token) → Stops ts → NotColon ts
not_colon-stops [] h = tt
not_colon-stops (t ∷ ts) h = h.1

column-ended : (o : OuterForm) (d : DraftForm) (g : Bool) (n : Option (List ℕ)) (e : Form) (rest : List Token) → Stops rest → run (got e (base (of_column o d g n))) rest ≡ run_columns o (grown d g n e) g rest
column-ended o d g n e [] h = absurd h
column-ended o d g n e (t ∷ rest) h = rw (h.0, h.2) refl

columns-read : {ts rest : List Token} {cs : List ColumnForm} → IsColumns ts rest cs → (o : OuterForm) (d : DraftForm) (g : Bool) → Stops rest
    → run (column_wanted o d g) ts ≡ run_columns o (grown_all d g cs) g rest
columns-read (last_column {rest = rest} {c = c} h) o d g stops = column-read h o d g (ends-stops rest stops) (not_colon-stops rest stops) ∙ column-ended o d g c.name c.expr rest stops
columns-read (more_columns {c = c} h more) o d g stops = column-read h o d g refl refl ∙ columns-read more o (grown d g c.name c.expr) g stops

column-starts : {ts rest : List Token} {c : ColumnForm} → IsColumn ts rest c → Starts ts
column-starts (with_name h) = (refl, refl)
column-starts (without_name h) = expr-starts h

columns-starts : {ts rest : List Token} {cs : List ColumnForm} → IsColumns ts rest cs → Starts ts
columns-starts (last_column h) = column-starts h
columns-starts (more_columns h more) = column-starts h

-- what may follow a query
abbrev pub QueryEnds : List Token → Type 0
QueryEnds [] = Unit {0}
QueryEnds (t ∷ ts) = (verb_of t ≡ None) × (is_mark m.Comma t ≡ false) × (is_where (word_of t) ≡ false)

abbrev pub run_end : OuterForm → QueryForm → List Token → Option RequestForm
run_end o q [] = whole_query o q
run_end o q (t ∷ ts) = then_read (step_end o q t) (λ next. run next ts)

ends-query_ends : (ts : List Token) → QueryEnds ts → Ends ts
ends-query_ends [] h = tt
ends-query_ends (t ∷ ts) h = h.0

phrase-ended : (o : OuterForm) (q : QueryForm) (e : Form) (rest : List Token) → QueryEnds rest → run (got e (base (of_phrase o q))) rest ≡ run_end o (with_phrase q e) rest
phrase-ended o q e [] h = refl
phrase-ended o q e (t ∷ rest) h = rw (h.0, h.1) refl

phrases-read : {ts rest : List Token} {es : List Form} → IsPhrases ts rest es → (o : OuterForm) (q : QueryForm) → QueryEnds rest
    → run (wanted (base (of_phrase o q))) ts ≡ run_end o (all_phrases q es) rest
phrases-read (last_phrase {rest = rest} {e = e} h) o q ends = expr-read h (base (of_phrase o q)) (ends-query_ends rest ends) ∙ phrase-ended o q e rest ends
phrases-read (more_phrases {e = e} h more) o q ends = expr-read h (base (of_phrase o q)) refl ∙ phrases-read more o (with_phrase q e) ends

table-ended : (o : OuterForm) (q : QueryForm) (rest : List Token) → QueryEnds rest → run (table_read o q) rest ≡ run_end o q rest
table-ended o q [] h = refl
table-ended o q (t ∷ rest) h = rw h.2 refl

where-read : {ts rest : List Token} {es : List Form} → IsWhere ts rest es → (o : OuterForm) (q : QueryForm) → QueryEnds rest → run (table_read o q) ts ≡ run_end o (all_phrases q es) rest
where-read (no_where {ts = ts}) o q ends = table-ended o q ts ends
where-read (some_where h) o q ends = phrases-read h o q ends

abbrev IsFromAnd : List Token → List Token → Type 0
IsFromAnd rest tail = rest ≡ word w.From ∷ tail

by-stops : {ts rest : List Token} {cs : List ColumnForm} → IsBy ts rest cs → (tail : List Token) → IsFromAnd rest tail → Stops ts
by-stops no_by tail from = rw from (refl, refl, refl)
by-stops (some_by h) tail from = (refl, refl, refl)

by-wanted : {ts rest : List Token} {cs : List ColumnForm} → IsBy ts rest cs → (tail : List Token) → IsFromAnd rest tail → (o : OuterForm) (d : DraftForm)
    → run (columns_wanted o d) ts ≡ run_columns o d false ts
by-wanted no_by tail from o d = rw from refl
by-wanted (some_by h) tail from o d = refl

by-read : {ts rest : List Token} {cs : List ColumnForm} → IsBy ts rest cs → (tail : List Token) → IsFromAnd rest tail → (o : OuterForm) (d : DraftForm)
    → run_columns o d false ts ≡ run (table_wanted o (grown_all d true cs)) tail
by-read no_by tail from o d = rw from refl
by-read (some_by {cs = cs} h) tail from o d =
    columns-read h o d true (rw from (refl, refl, refl)) ∙ rw from refl

selected-starts : (o : OuterForm) (d : DraftForm) (ts : List Token) → Starts ts → run (columns_wanted o d) ts ≡ run (column_wanted o d false) ts
selected-starts o d [] h = absurd h
selected-starts o d (t ∷ ts) h = rw h.1 refl

selected-read : {ts grouped : List Token} {cs : List ColumnForm} → IsSelected ts grouped cs → {rest : List Token} {by : List ColumnForm} → IsBy grouped rest by → (tail : List Token) → IsFromAnd rest tail
    → (o : OuterForm) (d : DraftForm) → run (columns_wanted o d) ts ≡ run (table_wanted o (grown_all (grown_all d false cs) true by)) tail
selected-read no_selected h tail from o d = by-wanted h tail from o d ∙ by-read h tail from o d
selected-read (some_selected {ts = ts} {cs = cs} columns) h tail from o d =
    selected-starts o d ts (columns-starts columns) ∙ (columns-read columns o d false (by-stops h tail from) ∙ by-read h tail from o (grown_all d false cs))

abbrev NotOpen : List Token → Type 0
NotOpen [] = Unit {0}
NotOpen (t ∷ ts) = is_mark m.Open t ≡ false

by-not_open : {ts rest : List Token} {cs : List ColumnForm} → IsBy ts rest cs → (tail : List Token) → IsFromAnd rest tail → NotOpen ts
by-not_open no_by tail from = rw from refl
by-not_open (some_by h) tail from = refl

starts-not_open : (ts : List Token) → Starts ts → NotOpen ts
starts-not_open [] h = tt
starts-not_open (t ∷ ts) h = h.0

selected-not_open : {ts grouped : List Token} {cs : List ColumnForm} → IsSelected ts grouped cs → {rest : List Token} {by : List ColumnForm} → IsBy grouped rest by → (tail : List Token) → IsFromAnd rest tail → NotOpen ts
selected-not_open no_selected h tail from = by-not_open h tail from
selected-not_open (some_selected {ts = ts} columns) h tail from = starts-not_open ts (columns-starts columns)

unlimited-read : (o : OuterForm) (x : Bool) (ts : List Token) → NotOpen ts → run (verb_read o x) ts ≡ run (columns_wanted o (fresh x None)) ts
unlimited-read o x [] h = refl
unlimited-read o x (t ∷ ts) h = rw h refl

first-read : {ts selected : List Token} {first : Option ℤ} → IsFirst ts selected first → NotOpen selected → (o : OuterForm) (x : Bool) → run (verb_read o x) ts ≡ run (columns_wanted o (fresh x first)) selected
first-read (no_first {ts = ts}) h o x = unlimited-read o x ts h
first-read some_first h o x = refl

verb-read : {t : Token} {x : Bool} → IsVerb t x → (s : StateForm) (o : OuterForm) → step s (word w.Select) ≡ Some (verb_read o false) → step s (word w.Exec) ≡ Some (verb_read o true) → (ts : List Token)
    → run s (t ∷ ts) ≡ run (verb_read o x) ts
verb-read of_select s o select exec ts = rw select refl
verb-read of_exec s o select exec ts = rw exec refl

query-read : {ts rest : List Token} {q : QueryForm} → IsQuery ts rest q → (s : StateForm) (o : OuterForm) → step s (word w.Select) ≡ Some (verb_read o false) → step s (word w.Exec) ≡ Some (verb_read o true) → QueryEnds rest
    → run s ts ≡ run_end o q rest
query-read (of_parts {exec = x} {ts = ts} {wheres = wheres} {rest = rest} {first = f} {columns = cs} {by = by} {table = t} {phrases = es} verb first selected grouped wheres_read) s o select exec ends =
    verb-read verb s o select exec ts
    ∙ (first-read first (selected-not_open selected grouped (name t ∷ wheres) refl) o x
    ∙ (selected-read selected grouped (name t ∷ wheres) refl o (fresh x f)
    ∙ (where-read wheres_read o (with_table (grown_all (grown_all (fresh x f) false cs) true by) t) ends
    ∙ ap (λ q. run_end o q rest) (whole-query x f cs by t es))))

bare-ended : (side : SideForm) (q : QueryForm) (rest : List Token) → run_end (bare side) q rest ≡ run (source_read side (rows_of q)) rest
bare-ended side q [] = refl
bare-ended side q (t ∷ rest) = refl

source-read : {ts rest : List Token} {s : SourceForm} → IsSource ts rest s → (side : SideForm) → QueryEnds rest → run (source_wanted side) ts ≡ run (source_read side s) rest
source-read of_table side ends = refl
source-read (of_query {rest = rest} {q = q} h) side ends = query-read h (source_wanted side) (bare side) refl refl ends ∙ bare-ended side q rest
source-read (query_in_parentheses h) side ends = query-read h (query_wanted side) (bracketed side) refl refl (refl, refl, refl)

symbols-of : {t : Token} {names : List (List ℕ)} → IsSymbols t names → symbols_of t ≡ Some names
symbols-of of_symbol = refl
symbols-of of_vector = refl

keys-read : (t : Token) (keys : List (List ℕ)) (ts : List Token) → symbols_of t ≡ Some keys → run keys_wanted (t ∷ mark m.Semicolon ∷ ts) ≡ run (source_wanted (to_left keys)) ts
keys-read t keys ts h = rw h refl

sub-read : (t u : Token) (tables names : List (List ℕ)) → symbols_of t ≡ Some tables → symbols_of u ≡ Some names
    → run tables_wanted (t ∷ mark m.Semicolon ∷ u ∷ mark m.Close ∷ []) ≡ Some (sub_form (record { tables = tables; all = is_null_symbol u; names = names }))
sub-read t u tables names h other = rw (h, other) refl

-- what the grammar has is read as it has it
pub request-read : {ts : List Token} {r : RequestForm} → IsRequest ts r → run start ts ≡ Some r
request-read (query h) = query-read h start alone refl refl tt
request-read (asof {t = t} {ts = ts} {keys = keys} {left = left} symbols left_read right_read) =
    keys-read t keys ts (symbols-of symbols)
    ∙ (source-read left_read (to_left keys) (refl, refl, refl)
    ∙ source-read right_read (to_right keys left) (refl, refl, refl))
request-read count = refl
request-read day = refl
request-read (subscription {t = t} {u = u} {tables = tables} {names = names} symbols others) = sub-read t u tables names (symbols-of symbols) (symbols-of others)

some-same : {X : Type 0} {x y : X} → Some x ≡ Some y → x ≡ y
some-same h = cc

-- tokens are one request at most
pub one-request : (tokens : List Token) (some other : RequestForm) → IsRequest tokens some → IsRequest tokens other → some ≡ other
one-request tokens some other h more = some-same (sym (request-read h) ∙ request-read more)
