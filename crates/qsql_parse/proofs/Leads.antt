-- The tokens that lead from a state of the reader to a request, by the grammar.
use Rattle.std.proofs.Common.{◌≡◌, ℕ, ℤ, Bool, true, false, List, [], ◌∷◌, Option, Some, None, subst}
use Rattle.q_verbs.specs.declared.verb.Verb.{Verb}
use Rattle.qsql_tokens.specs.declared.token.Word.TheVariants as w
use Rattle.qsql_tokens.specs.declared.token.Mark.TheVariants as m
use Rattle.qsql_request.specs.Forms.{Form, one, two, ColumnForm, QueryForm, SourceForm, rows_of, RequestForm, query_form, aj_form, sub_form}
use Rattle.qsql_tokens.specs.Tokens.{Token, number, name, monad, dyad, word, mark}
use Rattle.qsql_parse.specs.Grammar.{IsDyad, IsExpr, of_term, dyadic, IsTerm, IsColumn, IsColumns, last_column, more_columns, IsPhrases, last_phrase, more_phrases, IsFirst, IsSelected, IsBy, IsWhere, IsSymbols, IsSource, IsRequest, is_null_symbol}
use Rattle.qsql_parse.specs.Machine.{DraftForm, SideForm, to_left, to_right, OuterForm, alone, bare, bracketed, BaseForm, of_column, of_phrase, StackForm, base, right_of, under, in_brackets, applied, first_of_two, second_of_two, StateForm, start, verb_read, number_wanted, number_read, columns_wanted, column_wanted, name_read, wanted, monad_read, dyad_read, got, table_wanted, table_read, aj_read, keys_wanted, keys_read, source_wanted, query_wanted, source_read, sub_read, tables_wanted, tables_read, names_wanted, names_read, done, grown, with_table, with_phrase, fresh}
use Rattle.qsql_parse.proofs.Columns.{grown_all, all_phrases}

-- how a term goes on to an expression
pub data Goes : Form → List Token → List Token → Form → Type 0 where
  stops : {l : Form} {ts : List Token} → Goes l ts ts l
  goes : {l e : Form} {t : Token} {v : Verb} {ts rest : List Token} → IsDyad t v → IsExpr ts rest e → Goes l (t ∷ ts) rest (two v l e)

pub data MoreColumns : List Token → List Token → List ColumnForm → Type 0 where
  no_more : {ts : List Token} → MoreColumns ts ts []
  comma_more : {ts rest : List Token} {cs : List ColumnForm} → IsColumns ts rest cs → MoreColumns (mark m.Comma ∷ ts) rest cs

pub data MorePhrases : List Token → List Token → List Form → Type 0 where
  no_phrases : {ts : List Token} → MorePhrases ts ts []
  comma_phrases : {ts rest : List Token} {es : List Form} → IsPhrases ts rest es → MorePhrases (mark m.Comma ∷ ts) rest es

pub term-goes : {ts mid rest : List Token} {l e : Form} → IsTerm ts mid l → Goes l mid rest e → IsExpr ts rest e
term-goes h stops = of_term h
term-goes h (goes d more) = dyadic h d more

pub columns-join : {ts mid rest : List Token} {c : ColumnForm} {cs : List ColumnForm} → IsColumn ts mid c → MoreColumns mid rest cs → IsColumns ts rest (c ∷ cs)
columns-join h no_more = last_column h
columns-join h (comma_more more) = more_columns h more

pub phrases-join : {ts mid rest : List Token} {e : Form} {es : List Form} → IsExpr ts mid e → MorePhrases mid rest es → IsPhrases ts rest (e ∷ es)
phrases-join h no_phrases = last_phrase h
phrases-join h (comma_phrases more) = more_phrases h more

abbrev ThenRight : List (List ℕ) → SourceForm → SourceForm → List Token → RequestForm → Type 0
ThenRight keys l s rest r = (rest ≡ mark m.Close ∷ []) × (r ≡ aj_form (record { keys = keys; left = l; right = s }))

abbrev pub ThenSource : SideForm → SourceForm → List Token → RequestForm → Type 0
ThenSource (to_left keys) s rest r = (mid : List Token) × (rest ≡ mark m.Semicolon ∷ mid) × ((other : SourceForm) × (last : List Token) × IsSource mid last other × ThenRight keys s other last r)
ThenSource (to_right keys l) s rest r = ThenRight keys l s rest r

abbrev pub ThenOuter : OuterForm → QueryForm → List Token → RequestForm → Type 0
ThenOuter alone q rest r = (rest ≡ []) × (r ≡ query_form q)
ThenOuter (bare side) q rest r = ThenSource side (rows_of q) rest r
ThenOuter (bracketed side) q rest r = (mid : List Token) × (rest ≡ mark m.Right ∷ mid) × ThenSource side (rows_of q) mid r

abbrev pub AfterTable : OuterForm → QueryForm → List Token → RequestForm → Type 0
AfterTable o q ts r = (es : List Form) × (rest : List Token) × IsWhere ts rest es × ThenOuter o (all_phrases q es) rest r

abbrev pub AtTable : OuterForm → DraftForm → List Token → RequestForm → Type 0
AtTable o d ts r = (table : List ℕ) × (wheres : List Token) × (ts ≡ name table ∷ wheres) × AfterTable o (with_table d table) wheres r

abbrev pub AfterColumns : OuterForm → DraftForm → Bool → List Token → RequestForm → Type 0
AfterColumns o d false mid r = (by : List ColumnForm) × (tail : List Token) × IsBy mid (word w.From ∷ tail) by × AtTable o (grown_all d true by) tail r
AfterColumns o d true mid r = (tail : List Token) × (mid ≡ word w.From ∷ tail) × AtTable o d tail r

abbrev pub AtColumn : OuterForm → DraftForm → Bool → List Token → RequestForm → Type 0
AtColumn o d g ts r = (cs : List ColumnForm) × (mid : List Token) × IsColumns ts mid cs × AfterColumns o (grown_all d g cs) g mid r

abbrev pub AfterFirst : OuterForm → DraftForm → List Token → RequestForm → Type 0
AfterFirst o d ts r = (cs : List ColumnForm) × (grouped : List Token) × IsSelected ts grouped cs × AfterColumns o (grown_all d false cs) false grouped r

abbrev pub ThenBase : BaseForm → Form → List Token → RequestForm → Type 0
ThenBase (of_column o d g n) e rest r = (cs : List ColumnForm) × (mid : List Token) × MoreColumns rest mid cs × AfterColumns o (grown_all (grown d g n e) g cs) g mid r
ThenBase (of_phrase o q) e rest r = (es : List Form) × (mid : List Token) × MorePhrases rest mid es × ThenOuter o (all_phrases (with_phrase q e) es) mid r

abbrev pub GoesThen : Form → List Token → (Form → List Token → Type 0) → Type 0
GoesThen l ts P = (e : Form) × (rest : List Token) × Goes l ts rest e × P e rest

-- what follows an expression, in what it stands
abbrev pub ThenStack : StackForm → Form → List Token → RequestForm → Type 0
ThenStack (base b) e rest r = ThenBase b e rest r
ThenStack (right_of v l k) e rest r = ThenStack k (two v l e) rest r
ThenStack (under u k) e rest r = ThenStack k (one u e) rest r
ThenStack (in_brackets k) e rest r = (mid : List Token) × (rest ≡ mark m.Right ∷ mid) × GoesThen e mid (λ x last. ThenStack k x last r)
ThenStack (applied u k) e rest r = (mid : List Token) × (rest ≡ mark m.Close ∷ mid) × GoesThen (one u e) mid (λ x last. ThenStack k x last r)
ThenStack (first_of_two v k) e rest r = (mid : List Token) × (rest ≡ mark m.Semicolon ∷ mid) × ((other : Form) × (last : List Token) × IsExpr mid last other × ((next : List Token) × (last ≡ mark m.Close ∷ next) × GoesThen (two v e other) next (λ x end. ThenStack k x end r)))
ThenStack (second_of_two v l k) e rest r = (mid : List Token) × (rest ≡ mark m.Close ∷ mid) × GoesThen (two v l e) mid (λ x last. ThenStack k x last r)

abbrev pub AtExpr : StackForm → List Token → RequestForm → Type 0
AtExpr k ts r = (e : Form) × (rest : List Token) × IsExpr ts rest e × ThenStack k e rest r

abbrev pub AtSource : SideForm → List Token → RequestForm → Type 0
AtSource side ts r = (s : SourceForm) × (rest : List Token) × IsSource ts rest s × ThenSource side s rest r

abbrev pub AtNames : List (List ℕ) → List Token → RequestForm → Type 0
AtNames tables ts r = (u : Token) × (names : List (List ℕ)) × (ts ≡ u ∷ mark m.Close ∷ []) × IsSymbols u names × (r ≡ sub_form (record { tables = tables; all = is_null_symbol u; names = names }))

-- the tokens that lead from a state to a request
abbrev pub Leads : StateForm → List Token → RequestForm → Type 0
Leads start ts r = IsRequest ts r
Leads (verb_read o x) ts r = (f : Option ℤ) × (selected : List Token) × IsFirst ts selected f × AfterFirst o (fresh x f) selected r
Leads (number_wanted o x) ts r = (n : ℤ) × (mid : List Token) × (ts ≡ number n ∷ mark m.Close ∷ mid) × AfterFirst o (fresh x (Some n)) mid r
Leads (number_read o x n) ts r = (mid : List Token) × (ts ≡ mark m.Close ∷ mid) × AfterFirst o (fresh x (Some n)) mid r
Leads (columns_wanted o d) ts r = AfterFirst o d ts r
Leads (column_wanted o d g) ts r = AtColumn o d g ts r
Leads (name_read o d g n) ts r = AtColumn o d g (name n ∷ ts) r
Leads (wanted k) ts r = AtExpr k ts r
Leads (monad_read u k) ts r = AtExpr k (monad u ∷ ts) r
Leads (dyad_read v k) ts r = AtExpr k (dyad v ∷ ts) r
Leads (got l k) ts r = GoesThen l ts (λ x last. ThenStack k x last r)
Leads (table_wanted o d) ts r = AtTable o d ts r
Leads (table_read o q) ts r = AfterTable o q ts r
Leads aj_read ts r = IsRequest (word w.Aj ∷ ts) r
Leads keys_wanted ts r = IsRequest (word w.Aj ∷ mark m.Open ∷ ts) r
Leads (keys_read keys) ts r = (mid : List Token) × (ts ≡ mark m.Semicolon ∷ mid) × AtSource (to_left keys) mid r
Leads (source_wanted side) ts r = AtSource side ts r
Leads (query_wanted side) ts r = AtSource side (mark m.Left ∷ ts) r
Leads (source_read side s) ts r = ThenSource side s ts r
Leads sub_read ts r = IsRequest (word w.Sub ∷ ts) r
Leads tables_wanted ts r = IsRequest (word w.Sub ∷ mark m.Open ∷ ts) r
Leads (tables_read tables) ts r = (mid : List Token) × (ts ≡ mark m.Semicolon ∷ mid) × AtNames tables mid r
Leads (names_wanted tables) ts r = AtNames tables ts r
Leads (names_read s) ts r = (ts ≡ mark m.Close ∷ []) × (r ≡ sub_form s)
Leads (done other) ts r = (ts ≡ []) × (r ≡ other)

abbrev pub LeadsOn : Option StateForm → List Token → RequestForm → Type 0
LeadsOn None ts r = ⊥
LeadsOn (Some s) ts r = Leads s ts r

pub moved-expr : {ts : List Token} {e : Form} (rest mid : List Token) → rest ≡ mid → IsExpr ts rest e → IsExpr ts mid e
moved-expr {ts = ts} {e = e} rest mid eq h = let P : List Token → Type 0 = λ x. IsExpr ts x e in subst P eq h
