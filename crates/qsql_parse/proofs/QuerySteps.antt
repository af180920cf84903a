-- Steps within queries and expressions keep what leads to a request.
use Rattle.std.proofs.Common.{◌≡◌, ℕ, ℤ, Bool, true, false, List, [], ◌∷◌, Option, Some, None, refl, sym, ap, subst}
use Rattle.q_verbs.specs.declared.verb.Verb.{Verb}
use Rattle.q_verbs.specs.declared.verb.Verb1.{Verb1}
use Rattle.qsql_tokens.specs.declared.token.Word.TheVariants as w
use Rattle.qsql_tokens.specs.declared.token.Mark.TheVariants as m
use Rattle.qsql_request.specs.Forms.{Form, column, one, two, QueryForm, SourceForm, rows_of, RequestForm}
use Rattle.qsql_tokens.specs.Tokens.{Token, number, literal, name, monad, sign, dyad, word, mark}
use Rattle.qsql_parse.specs.Grammar.{by_sign, by_word, monadic, of_number, of_literal, of_name, in_parentheses, one_in_brackets, two_in_brackets, IsColumn, with_name, without_name, IsColumns, IsFirst, no_first, some_first, no_selected, some_selected, no_by, some_by, no_where, some_where}
use Rattle.qsql_parse.specs.Machine.{DraftForm, SideForm, to_left, to_right, OuterForm, alone, bare, bracketed, BaseForm, of_column, of_phrase, StackForm, base, right_of, under, in_brackets, applied, first_of_two, second_of_two, verb_read, number_wanted, number_read, dyad_read, table_wanted, grown, with_phrase, fresh, step, step_source, step_end, step_columns, step_base, step_close, step_got, step_wanted, step_monad, step_column, step_name, step_selected, step_verb, step_table}
use Rattle.qsql_parse.proofs.Leads.{stops, goes, no_more, comma_more, no_phrases, comma_phrases, term-goes, columns-join, phrases-join, ThenSource, ThenOuter, AfterTable, AtTable, AfterColumns, AtColumn, AfterFirst, ThenBase, GoesThen, ThenStack, AtExpr, Leads, LeadsOn, moved-expr}

pub back-source : (side : SideForm) (s : SourceForm) (t : Token) (ts : List Token) (r : RequestForm) → LeadsOn (step_source side s t) ts r → ThenSource side s (t ∷ ts) r
back-source (to_left keys) s (mark m.Semicolon) ts r h = (ts, refl, h)
back-source (to_left keys) s _ ts r h = absurd h
back-source (to_right keys l) s (mark m.Close) ts r h = (ap (λ x. mark m.Close ∷ x) h.0, h.1)
back-source (to_right keys l) s _ ts r h = absurd h

back-end : (o : OuterForm) (q : QueryForm) (t : Token) (ts : List Token) (r : RequestForm) → LeadsOn (step_end o q t) ts r → ThenOuter o q (t ∷ ts) r
back-end alone q t ts r h = absurd h
back-end (bare side) q t ts r h = back-source side (rows_of q) t ts r h
back-end (bracketed side) q (mark m.Right) ts r h = (ts, refl, h)
back-end (bracketed side) q _ ts r h = absurd h

back-columns : (o : OuterForm) (d : DraftForm) (g : Bool) (t : Token) (ts : List Token) (r : RequestForm) → LeadsOn (step_columns o d g t) ts r → AfterColumns o d g (t ∷ ts) r
back-columns o d false (word w.From) ts r h = ([], ts, no_by, h)
back-columns o d true (word w.From) ts r h = (ts, refl, h)
back-columns o d false (word w.By) ts r (cs, mid, columns, (tail, eq, more)) = let P : List Token → Type 0 = λ x. IsColumns ts x cs in (cs, tail, some_by (subst P eq columns), more)
back-columns o d false _ ts r h = absurd h
back-columns o d true _ ts r h = absurd h

back-base : (b : BaseForm) (e : Form) (t : Token) (ts : List Token) (r : RequestForm) → LeadsOn (step_base b e t) ts r → ThenBase b e (t ∷ ts) r
back-base (of_column o d g n) e (mark m.Comma) ts r (cs, mid, columns, more) = (cs, mid, comma_more columns, more)
back-base (of_column o d g n) e t ts r h = ([], t ∷ ts, no_more, back-columns o (grown d g n e) g t ts r h)
back-base (of_phrase o q) e (mark m.Comma) ts r (x, rest, expr, (es, mid, phrases, more)) = (x ∷ es, mid, comma_phrases (phrases-join expr phrases), more)
back-base (of_phrase o q) e t ts r h = ([], t ∷ ts, no_phrases, back-end o (with_phrase q e) t ts r h)

back-close : (k : StackForm) (e : Form) (t : Token) (ts : List Token) (r : RequestForm) → LeadsOn (step_close k e t) ts r → ThenStack k e (t ∷ ts) r
back-close (base b) e t ts r h = back-base b e t ts r h
back-close (right_of v l k) e t ts r h = back-close k (two v l e) t ts r h
back-close (under u k) e t ts r h = back-close k (one u e) t ts r h
back-close (in_brackets k) e (mark m.Right) ts r h = (ts, refl, h)
back-close (in_brackets k) e _ ts r h = absurd h
back-close (applied u k) e (mark m.Close) ts r h = (ts, refl, h)
back-close (applied u k) e _ ts r h = absurd h
back-close (first_of_two v k) e (mark m.Semicolon) ts r h = (ts, refl, h)
back-close (first_of_two v k) e _ ts r h = absurd h
back-close (second_of_two v l k) e (mark m.Close) ts r h = (ts, refl, h)
back-close (second_of_two v l k) e _ ts r h = absurd h

pub back-got : (l : Form) (k : StackForm) (t : Token) (ts : List Token) (r : RequestForm) → LeadsOn (step_got l k t) ts r → GoesThen l (t ∷ ts) (λ x last. ThenStack k x last r)
back-got l k (sign v) ts r (e, rest, expr, more) = (two v l e, rest, goes by_sign expr, more)
back-got l k (dyad v) ts r (e, rest, expr, more) = (two v l e, rest, goes by_word expr, more)
back-got l k t ts r h = (l, t ∷ ts, stops, back-close k l t ts r h)

pub back-wanted : (k : StackForm) (t : Token) (ts : List Token) (r : RequestForm) → LeadsOn (step_wanted k t) ts r → AtExpr k (t ∷ ts) r
back-wanted k (number n) ts r (e, rest, on, more) = (e, rest, term-goes of_number on, more)
back-wanted k (literal v) ts r (e, rest, on, more) = (e, rest, term-goes of_literal on, more)
back-wanted k (name n) ts r (e, rest, on, more) = (e, rest, term-goes of_name on, more)
back-wanted k (monad u) ts r h = h
back-wanted k (dyad v) ts r h = h
back-wanted k (mark m.Left) ts r (e, rest, expr, (mid, eq, (x, last, on, more))) = (x, last, term-goes (in_parentheses (moved-expr rest (mark m.Right ∷ mid) eq expr)) on, more)
back-wanted k _ ts r h = absurd h

pub back-monad : (u : Verb1) (k : StackForm) (t : Token) (ts : List Token) (r : RequestForm) → LeadsOn (step_monad u k t) ts r → AtExpr k (monad u ∷ t ∷ ts) r
back-monad u k (mark m.Open) ts r (e, rest, expr, (mid, eq, (x, last, on, more))) = (x, last, term-goes (one_in_brackets (moved-expr rest (mark m.Close ∷ mid) eq expr)) on, more)
back-monad u k t ts r h = under-more (back-wanted (under u k) t ts r h)
  where
    under-more : AtExpr (under u k) (t ∷ ts) r → AtExpr k (monad u ∷ t ∷ ts) r
    under-more (e, rest, expr, more) = (one u e, rest, monadic expr, more)

back-dyad : (v : Verb) (k : StackForm) (ts : List Token) (r : RequestForm) → AtExpr (first_of_two v k) ts r → AtExpr k (dyad v ∷ mark m.Open ∷ ts) r
back-dyad v k ts r (e, rest, expr, (mid, eq, (other, last, expr2, (next, eq2, (x, end, on, more))))) =
    (x, end, term-goes (two_in_brackets (moved-expr rest (mark m.Semicolon ∷ mid) eq expr) (moved-expr last (mark m.Close ∷ next) eq2 expr2)) on, more)

column-joined : (o : OuterForm) (d : DraftForm) (g : Bool) (n : Option (List ℕ)) (e : Form) (ts rest : List Token) (r : RequestForm) → IsColumn ts rest (record { name = n; expr = e }) → ThenBase (of_column o d g n) e rest r → AtColumn o d g ts r
column-joined o d g n e ts rest r h (cs, mid, more, after) = (record { name = n; expr = e } ∷ cs, mid, columns-join h more, after)

pub back-name : (o : OuterForm) (d : DraftForm) (g : Bool) (n : List ℕ) (t : Token) (ts : List Token) (r : RequestForm) → LeadsOn (step_name o d g n t) ts r → AtColumn o d g (name n ∷ t ∷ ts) r
back-name o d g n (mark m.Colon) ts r (e, rest, expr, more) = column-joined o d g (Some n) e (name n ∷ mark m.Colon ∷ ts) rest r (with_name expr) more
back-name o d g n t ts r h = joined (back-got (column n) (base (of_column o d g None)) t ts r h)
  where
    joined : GoesThen (column n) (t ∷ ts) (λ x last. ThenStack (base (of_column o d g None)) x last r) → AtColumn o d g (name n ∷ t ∷ ts) r
    joined (e, rest, on, more) = column-joined o d g None e (name n ∷ t ∷ ts) rest r (without_name (term-goes of_name on)) more

pub back-column : (o : OuterForm) (d : DraftForm) (g : Bool) (t : Token) (ts : List Token) (r : RequestForm) → LeadsOn (step_column o d g t) ts r → AtColumn o d g (t ∷ ts) r
back-column o d g (name n) ts r h = h
back-column o d g t ts r h = joined (back-wanted (base (of_column o d g None)) t ts r h)
  where
    joined : AtExpr (base (of_column o d g None)) (t ∷ ts) r → AtColumn o d g (t ∷ ts) r
    joined (e, rest, expr, more) = column-joined o d g None e (t ∷ ts) rest r (without_name expr) more

pub back-selected : (o : OuterForm) (d : DraftForm) (t : Token) (ts : List Token) (r : RequestForm) → LeadsOn (step_selected o d t) ts r → AfterFirst o d (t ∷ ts) r
back-selected o d (word w.From) ts r h = ([], word w.From ∷ ts, no_selected, back-columns o d false (word w.From) ts r h)
back-selected o d (word w.By) ts r h = ([], word w.By ∷ ts, no_selected, back-columns o d false (word w.By) ts r h)
back-selected o d t ts r h = selected (back-column o d false t ts r h)
  where
    selected : AtColumn o d false (t ∷ ts) r → AfterFirst o d (t ∷ ts) r
    selected (cs, mid, columns, more) = (cs, mid, some_selected columns, more)

numbered : (n : ℤ) (mid ts : List Token) → ts ≡ number n ∷ mark m.Close ∷ mid → IsFirst (mark m.Open ∷ ts) mid (Some n)
numbered n mid ts eq = let P : List Token → Type 0 = λ x. IsFirst (mark m.Open ∷ x) mid (Some n) in subst P (sym eq) some_first

pub back-verb : (o : OuterForm) (x : Bool) (t : Token) (ts : List Token) (r : RequestForm) → LeadsOn (step_verb o x t) ts r → Leads (verb_read o x) (t ∷ ts) r
back-verb o x (mark m.Open) ts r (n, mid, eq, more) = (Some n, mid, numbered n mid ts eq, more)
back-verb o x t ts r h = (None, t ∷ ts, no_first, back-selected o (fresh x None) t ts r h)

pub back-table : (o : OuterForm) (q : QueryForm) (t : Token) (ts : List Token) (r : RequestForm) → LeadsOn (step_table o q t) ts r → AfterTable o q (t ∷ ts) r
back-table o q (word w.Where) ts r (e, rest, expr, (es, mid, phrases, more)) = (e ∷ es, mid, some_where (phrases-join expr phrases), more)
back-table o q t ts r h = ([], t ∷ ts, no_where, back-end o q t ts r h)

pub back-number : (o : OuterForm) (x : Bool) (t : Token) (ts : List Token) (r : RequestForm) → LeadsOn (step (number_wanted o x) t) ts r → Leads (number_wanted o x) (t ∷ ts) r
back-number o x (number n) ts r (mid, eq, more) = (n, mid, ap (λ y. number n ∷ y) eq, more)
back-number o x _ ts r h = absurd h

pub back-numbered : (o : OuterForm) (x : Bool) (n : ℤ) (t : Token) (ts : List Token) (r : RequestForm) → LeadsOn (step (number_read o x n) t) ts r → Leads (number_read o x n) (t ∷ ts) r
back-numbered o x n (mark m.Close) ts r h = (ts, refl, h)
back-numbered o x n _ ts r h = absurd h

pub back-dyad_read : (v : Verb) (k : StackForm) (t : Token) (ts : List Token) (r : RequestForm) → LeadsOn (step (dyad_read v k) t) ts r → AtExpr k (dyad v ∷ t ∷ ts) r
back-dyad_read v k (mark m.Open) ts r h = back-dyad v k ts r h
back-dyad_read v k _ ts r h = absurd h

pub back-to_table : (o : OuterForm) (d : DraftForm) (t : Token) (ts : List Token) (r : RequestForm) → LeadsOn (step (table_wanted o d) t) ts r → AtTable o d (t ∷ ts) r
back-to_table o d (name n) ts r h = (n, ts, refl, h)
back-to_table o d _ ts r h = absurd h
