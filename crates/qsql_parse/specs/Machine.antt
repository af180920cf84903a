-- The reader of requests, one token at a time: what has been read, and what is expected next.
use Rattle.std.specs.Prelude.{ℕ, ℤ, ◌&&◌, not, if◌then◌else◌, Bool, true, false, List, [], ◌∷◌, ◌++◌, map, Option, Some, None}
use Rattle.q_values.specs.Tree.{Tree, atom, vector}
use Rattle.q_values.specs.Atom.{kind_of}
use Rattle.q_values.specs.declared.atom.Atom.TheVariants as a
use Rattle.q_values.specs.declared.kind.Kind.{Kind}
use Rattle.q_values.specs.declared.kind.Kind.TheVariants as k
use Rattle.q_verbs.specs.declared.verb.Verb.{Verb}
use Rattle.q_verbs.specs.declared.verb.Verb1.{Verb1}
use Rattle.qsql_tokens.specs.declared.token.Word.{Word}
use Rattle.qsql_tokens.specs.declared.token.Word.TheVariants as w
use Rattle.qsql_tokens.specs.declared.token.Mark.TheVariants as m
use Rattle.qsql_request.specs.Forms.{Form, constant, column, one, two, ColumnForm, QueryForm, SourceForm, all_of, rows_of, SubForm, RequestForm}
use Rattle.qsql_request.specs.Forms.{query_form, aj_form, count_form, day_form, sub_form}
use Rattle.qsql_tokens.specs.Tokens.{Token, number, literal, name, monad, sign, dyad, word, mark}
use Rattle.qsql_tokens.specs.Parts.{name_of, number_of, verb_of, word_of, is_mark}
use Rattle.qsql_parse.specs.Grammar.{symbol_of, is_null_symbol}

-- a query before its `from`
pub record DraftForm : Type 0 where
  pub exec : Bool
  pub first : Option ℤ
  pub columns : List ColumnForm
  pub by : List ColumnForm

-- the side of an as-of join, with what precedes it
pub data SideForm : Type 0 where
  to_left : List (List ℕ) → SideForm
  to_right : List (List ℕ) → SourceForm → SideForm

-- what a query is part of
pub data OuterForm : Type 0 where
  alone : OuterForm
  bare : SideForm → OuterForm
  bracketed : SideForm → OuterForm

-- what a whole expression is part of: a column or a phrase
pub data BaseForm : Type 0 where
  of_column : OuterForm → DraftForm → Bool → Option (List ℕ) → BaseForm
  of_phrase : OuterForm → QueryForm → BaseForm

-- what an expression is part of, innermost first
pub data StackForm : Type 0 where
  base : BaseForm → StackForm
  right_of : Verb → Form → StackForm → StackForm
  under : Verb1 → StackForm → StackForm
  in_brackets : StackForm → StackForm
  applied : Verb1 → StackForm → StackForm
  first_of_two : Verb → StackForm → StackForm
  second_of_two : Verb → Form → StackForm → StackForm

pub data StateForm : Type 0 where
  start : StateForm
  verb_read : OuterForm → Bool → StateForm
  number_wanted : OuterForm → Bool → StateForm
  number_read : OuterForm → Bool → ℤ → StateForm
  columns_wanted : OuterForm → DraftForm → StateForm
  column_wanted : OuterForm → DraftForm → Bool → StateForm
  name_read : OuterForm → DraftForm → Bool → List ℕ → StateForm
  wanted : StackForm → StateForm
  monad_read : Verb1 → StackForm → StateForm
  dyad_read : Verb → StackForm → StateForm
  got : Form → StackForm → StateForm
  table_wanted : OuterForm → DraftForm → StateForm
  table_read : OuterForm → QueryForm → StateForm
  aj_read : StateForm
  keys_wanted : StateForm
  keys_read : List (List ℕ) → StateForm
  source_wanted : SideForm → StateForm
  query_wanted : SideForm → StateForm
  source_read : SideForm → SourceForm → StateForm
  sub_read : StateForm
  tables_wanted : StateForm
  tables_read : List (List ℕ) → StateForm
  names_wanted : List (List ℕ) → StateForm
  names_read : SubForm → StateForm
  done : RequestForm → StateForm

abbrev pub when : {X : Type 0} → Bool → X → Option X
when true x = Some x
when false x = None

abbrev pub is_symbols : Kind → Bool
is_symbols k.Symbol = true
is_symbols _ = false

abbrev pub names_of : Tree → Option (List (List ℕ))
names_of (atom x) = when (is_symbols (kind_of x)) (symbol_of x ∷ [])
names_of (vector c) = when (is_symbols c.kind) (map symbol_of c.atoms)
names_of _ = None

-- the names of a token that is a symbol literal
abbrev pub symbols_of : Token → Option (List (List ℕ))
symbols_of (literal v) = names_of v
symbols_of _ = None

abbrev pub is_from : Option Word → Bool
is_from (Some w.From) = true
is_from _ = false

abbrev pub is_by : Option Word → Bool
is_by (Some w.By) = true
is_by _ = false

abbrev pub is_where : Option Word → Bool
is_where (Some w.Where) = true
is_where _ = false

-- whether a word is `exec`, where it begins a query
abbrev pub query_verb : Option Word → Option Bool
query_verb (Some w.Select) = Some false
query_verb (Some w.Exec) = Some true
query_verb _ = None

abbrev pub found_or : {X Y : Type 0} → Option X → (X → Option Y) → Option Y → Option Y
found_or (Some x) f other = f x
found_or None f other = other

-- a draft with one more column, after `by` or before it
abbrev pub grown : DraftForm → Bool → Option (List ℕ) → Form → DraftForm
grown d true n e = record { exec = d.exec; first = d.first; columns = d.columns; by = d.by ++ record { name = n; expr = e } ∷ [] }
grown d false n e = record { exec = d.exec; first = d.first; columns = d.columns ++ record { name = n; expr = e } ∷ []; by = d.by }

abbrev pub with_table : DraftForm → List ℕ → QueryForm
with_table d t = record { exec = d.exec; first = d.first; columns = d.columns; by = d.by; table = t; phrases = [] }

abbrev pub with_phrase : QueryForm → Form → QueryForm
with_phrase q e = record { exec = q.exec; first = q.first; columns = q.columns; by = q.by; table = q.table; phrases = q.phrases ++ e ∷ [] }

abbrev pub fresh : Bool → Option ℤ → DraftForm
fresh exec first = record { exec = exec; first = first; columns = []; by = [] }

-- after a source
abbrev pub step_source : SideForm → SourceForm → Token → Option StateForm
step_source (to_left keys) s t = when (is_mark m.Semicolon t) (source_wanted (to_right keys s))
step_source (to_right keys l) s t = when (is_mark m.Close t) (done (aj_form (record { keys = keys; left = l; right = s })))

-- after a query that may end here
abbrev pub step_end : OuterForm → QueryForm → Token → Option StateForm
step_end alone q t = None
step_end (bare side) q t = step_source side (rows_of q) t
step_end (bracketed side) q t = when (is_mark m.Right t) (source_read side (rows_of q))

-- after columns
abbrev pub step_columns : OuterForm → DraftForm → Bool → Token → Option StateForm
step_columns o d g t = if is_from (word_of t) then Some (table_wanted o d) else when (is_by (word_of t) && not g) (column_wanted o d true)

abbrev pub step_base : BaseForm → Form → Token → Option StateForm
step_base (of_column o d g n) e t = if is_mark m.Comma t then Some (column_wanted o (grown d g n e) g) else step_columns o (grown d g n e) g t
step_base (of_phrase o q) e t = if is_mark m.Comma t then Some (wanted (base (of_phrase o (with_phrase q e)))) else step_end o (with_phrase q e) t

-- after an expression that ends here
abbrev pub step_close : StackForm → Form → Token → Option StateForm
step_close (base b) e t = step_base b e t
step_close (right_of v l k) e t = step_close k (two v l e) t
step_close (under u k) e t = step_close k (one u e) t
step_close (in_brackets k) e t = when (is_mark m.Right t) (got e k)
step_close (applied u k) e t = when (is_mark m.Close t) (got (one u e) k)
step_close (first_of_two v k) e t = when (is_mark m.Semicolon t) (wanted (second_of_two v e k))
step_close (second_of_two v l k) e t = when (is_mark m.Close t) (got (two v l e) k)

-- after a term
abbrev pub step_got : Form → StackForm → Token → Option StateForm
step_got e k t = found_or (verb_of t) (λ v. Some (wanted (right_of v e k))) (step_close k e t)

-- before an expression
abbrev pub step_wanted : StackForm → Token → Option StateForm
step_wanted k (number n) = Some (got (constant (atom (a.Long n))) k)
step_wanted k (literal v) = Some (got (constant v) k)
step_wanted k (name n) = Some (got (column n) k)
step_wanted k (monad u) = Some (monad_read u k)
step_wanted k (sign v) = None
step_wanted k (dyad v) = Some (dyad_read v k)
step_wanted k (word w) = None
step_wanted k (mark which) = when (is_mark m.Left (mark which)) (wanted (in_brackets k))

abbrev pub step_monad : Verb1 → StackForm → Token → Option StateForm
step_monad u k t = if is_mark m.Open t then Some (wanted (applied u k)) else step_wanted (under u k) t

-- before a column
abbrev pub step_column : OuterForm → DraftForm → Bool → Token → Option StateForm
step_column o d g t = found_or (name_of t) (λ n. Some (name_read o d g n)) (step_wanted (base (of_column o d g None)) t)

abbrev pub step_name : OuterForm → DraftForm → Bool → List ℕ → Token → Option StateForm
step_name o d g n t = if is_mark m.Colon t then Some (wanted (base (of_column o d g (Some n)))) else step_got (column n) (base (of_column o d g None)) t

-- before the columns, `by` or `from`
abbrev pub step_selected : OuterForm → DraftForm → Token → Option StateForm
step_selected o d t = found_or (step_columns o d false t) (λ s. Some s) (step_column o d false t)

abbrev pub step_verb : OuterForm → Bool → Token → Option StateForm
step_verb o x t = if is_mark m.Open t then Some (number_wanted o x) else step_selected o (fresh x None) t

abbrev pub step_table : OuterForm → QueryForm → Token → Option StateForm
step_table o q t = if is_where (word_of t) then Some (wanted (base (of_phrase o q))) else step_end o q t

abbrev pub start_with : Word → Option StateForm
start_with w.Select = Some (verb_read alone false)
start_with w.Exec = Some (verb_read alone true)
start_with w.By = None
start_with w.From = None
start_with w.Where = None
start_with w.Aj = Some aj_read
start_with w.Count = Some (done count_form)
start_with w.Day = Some (done day_form)
start_with w.Sub = Some sub_read

abbrev pub step_query : SideForm → Token → Option StateForm
step_query side t = found_or (query_verb (word_of t)) (λ x. Some (verb_read (bracketed side) x)) None

abbrev pub query_source : SideForm → Token → Option StateForm
query_source side t = found_or (query_verb (word_of t)) (λ x. Some (verb_read (bare side) x)) (when (is_mark m.Left t) (query_wanted side))

abbrev pub step_side : SideForm → Token → Option StateForm
step_side side t = found_or (name_of t) (λ n. Some (source_read side (all_of n))) (query_source side t)

abbrev pub sub_with : List (List ℕ) → Bool → List (List ℕ) → StateForm
sub_with tables all names = names_read (record { tables = tables; all = all; names = names })

-- the state after one more token, or None where no request continues with it
abbrev pub step : StateForm → Token → Option StateForm
step start t = found_or (word_of t) start_with None
step (verb_read o x) t = step_verb o x t
step (number_wanted o x) t = found_or (number_of t) (λ n. Some (number_read o x n)) None
step (number_read o x n) t = when (is_mark m.Close t) (columns_wanted o (fresh x (Some n)))
step (columns_wanted o d) t = step_selected o d t
step (column_wanted o d g) t = step_column o d g t
step (name_read o d g n) t = step_name o d g n t
step (wanted k) t = step_wanted k t
step (monad_read u k) t = step_monad u k t
step (dyad_read v k) t = when (is_mark m.Open t) (wanted (first_of_two v k))
step (got e k) t = step_got e k t
step (table_wanted o d) t = found_or (name_of t) (λ n. Some (table_read o (with_table d n))) None
step (table_read o q) t = step_table o q t
step aj_read t = when (is_mark m.Open t) keys_wanted
step keys_wanted t = found_or (symbols_of t) (λ names. Some (keys_read names)) None
step (keys_read keys) t = when (is_mark m.Semicolon t) (source_wanted (to_left keys))
step (source_wanted side) t = step_side side t
step (query_wanted side) t = step_query side t
step (source_read side s) t = step_source side s t
step sub_read t = when (is_mark m.Open t) tables_wanted
step tables_wanted t = found_or (symbols_of t) (λ names. Some (tables_read names)) None
step (tables_read tables) t = when (is_mark m.Semicolon t) (names_wanted tables)
step (names_wanted tables) t = found_or (symbols_of t) (λ names. Some (sub_with tables (is_null_symbol t) names)) None
step (names_read s) t = when (is_mark m.Close t) (done (sub_form s))
step (done r) t = None

-- the request that has been read, where it may end here
abbrev pub whole_query : OuterForm → QueryForm → Option RequestForm
whole_query alone q = Some (query_form q)
whole_query _ q = None

abbrev pub whole_base : BaseForm → Form → Option RequestForm
whole_base (of_phrase o q) e = whole_query o (with_phrase q e)
whole_base _ e = None

abbrev pub whole_expr : StackForm → Form → Option RequestForm
whole_expr (base b) e = whole_base b e
whole_expr (right_of v l k) e = whole_expr k (two v l e)
whole_expr (under u k) e = whole_expr k (one u e)
whole_expr _ e = None

abbrev pub whole : StateForm → Option RequestForm
whole (done r) = Some r
whole (table_read o q) = whole_query o q
whole (got e k) = whole_expr k e
whole _ = None

abbrev pub then_read : {X : Type 0} → Option StateForm → (StateForm → Option X) → Option X
then_read None more = None
then_read (Some next) more = more next

-- the state after more tokens
abbrev pub after : StateForm → List Token → Option StateForm
after s [] = Some s
after s (t ∷ ts) = then_read (step s t) (λ next. after next ts)

-- the request that the tokens lead to
abbrev pub run : StateForm → List Token → Option RequestForm
run s [] = whole s
run s (t ∷ ts) = then_read (step s t) (λ next. run next ts)
