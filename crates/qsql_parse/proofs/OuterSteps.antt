-- Steps at the start, and within as-of joins and subscriptions, keep what leads to a request.
use Rattle.std.proofs.Common.{◌≡◌, ℕ, Bool, true, false, List, [], ◌∷◌, Option, Some, None, refl, sym, ap, ◌∙◌, subst}
use Rattle.q_values.specs.Tree.{atom, vector}
use Rattle.q_values.specs.declared.atom.Atom.{Atom}
use Rattle.q_values.specs.declared.atom.Atom.TheVariants as a
use Rattle.qsql_tokens.specs.declared.token.Word.TheVariants as w
use Rattle.qsql_tokens.specs.declared.token.Mark.TheVariants as m
use Rattle.qsql_request.specs.Forms.{QueryForm, SourceForm, all_of, rows_of, SubForm, RequestForm, query_form, aj_form, count_form, day_form, sub_form}
use Rattle.qsql_tokens.specs.Tokens.{Token, literal, name, word, mark}
use Rattle.qsql_parse.specs.Grammar.{IsVerb, of_select, of_exec, IsBy, IsQuery, of_parts, IsSymbols, of_symbol, of_vector, IsSource, of_table, of_query, query_in_parentheses, IsRequest, query, asof, count, day, subscription, is_null_symbol}
use Rattle.q_values.specs.declared.kind.Kind.{Kind}
use Rattle.q_values.specs.declared.kind.Kind.TheVariants as k
use Rattle.qsql_parse.specs.Machine.{SideForm, OuterForm, alone, bare, bracketed, StateForm, start, verb_read, aj_read, keys_wanted, keys_read, sub_read, tables_wanted, tables_read, names_wanted, names_read, symbols_of, names_of, found_or, sub_with, step, step_side, step_query}
use Rattle.qsql_parse.proofs.Columns.{whole-query}
use Rattle.qsql_parse.proofs.Leads.{ThenOuter, AtSource, AtNames, Leads, LeadsOn}

-- a query, and what follows it
abbrev WholeQuery : OuterForm → List Token → RequestForm → Type 0
WholeQuery o ts r = (q : QueryForm) × (rest : List Token) × IsQuery ts rest q × ThenOuter o q rest r

query-of : (o : OuterForm) (x : Bool) (t : Token) (ts : List Token) (r : RequestForm) → IsVerb t x → Leads (verb_read o x) ts r → WholeQuery o (t ∷ ts) r
query-of o x t ts r verb (f, selected, first, (cs, grouped, columns, (by, tail, bys, (table, wheres, eq, (es, rest, phrases, more))))) =
    let P : List Token → Type 0 = λ y. IsBy grouped (word w.From ∷ y) by in
    let Q : QueryForm → Type 0 = λ q. ThenOuter o q rest r in
    (record { exec = x; first = f; columns = cs; by = by; table = table; phrases = es }, rest, of_parts verb first columns (subst P eq bys) phrases, subst Q (whole-query x f cs by table es) more)

moved-query : {ts : List Token} {q : QueryForm} (rest mid : List Token) → rest ≡ mid → IsQuery ts rest q → IsQuery ts mid q
moved-query {ts = ts} {q = q} rest mid eq h = let P : List Token → Type 0 = λ x. IsQuery ts x q in subst P eq h

moved-request : {ts : List Token} (r other : RequestForm) → r ≡ other → IsRequest ts other → IsRequest ts r
moved-request {ts = ts} r other eq h = let P : RequestForm → Type 0 = λ x. IsRequest ts x in subst P (sym eq) h

moved-tokens : {r : RequestForm} (ts other : List Token) → ts ≡ other → IsRequest other r → IsRequest ts r
moved-tokens {r = r} ts other eq h = let P : List Token → Type 0 = λ x. IsRequest x r in subst P (sym eq) h

query-alone : (ts : List Token) (r : RequestForm) → WholeQuery alone ts r → IsRequest ts r
query-alone ts r (q, rest, h, (end, eq)) = moved-request r (query_form q) eq (query (moved-query rest [] end h))

query-bare : (side : SideForm) (ts : List Token) (r : RequestForm) → WholeQuery (bare side) ts r → AtSource side ts r
query-bare side ts r (q, rest, h, more) = (rows_of q, rest, of_query h, more)

query-bracketed : (side : SideForm) (ts : List Token) (r : RequestForm) → WholeQuery (bracketed side) ts r → AtSource side (mark m.Left ∷ ts) r
query-bracketed side ts r (q, rest, h, (mid, eq, more)) = (rows_of q, mid, query_in_parentheses (moved-query rest (mark m.Right ∷ mid) eq h), more)

pub back-start : (t : Token) (ts : List Token) (r : RequestForm) → LeadsOn (step start t) ts r → IsRequest (t ∷ ts) r
back-start (word w.Select) ts r h = query-alone (word w.Select ∷ ts) r (query-of alone false (word w.Select) ts r of_select h)
back-start (word w.Exec) ts r h = query-alone (word w.Exec ∷ ts) r (query-of alone true (word w.Exec) ts r of_exec h)
back-start (word w.Aj) ts r h = h
back-start (word w.Sub) ts r h = h
back-start (word w.Count) ts r h = moved-request r count_form h.1 (moved-tokens (word w.Count ∷ ts) (word w.Count ∷ []) (ap (λ x. word w.Count ∷ x) h.0) count)
back-start (word w.Day) ts r h = moved-request r day_form h.1 (moved-tokens (word w.Day ∷ ts) (word w.Day ∷ []) (ap (λ x. word w.Day ∷ x) h.0) day)
back-start _ ts r h = absurd h

pub back-side : (side : SideForm) (t : Token) (ts : List Token) (r : RequestForm) → LeadsOn (step_side side t) ts r → AtSource side (t ∷ ts) r
back-side side (name n) ts r h = (all_of n, ts, of_table, h)
back-side side (word w.Select) ts r h = query-bare side (word w.Select ∷ ts) r (query-of (bare side) false (word w.Select) ts r of_select h)
back-side side (word w.Exec) ts r h = query-bare side (word w.Exec ∷ ts) r (query-of (bare side) true (word w.Exec) ts r of_exec h)
back-side side (mark m.Left) ts r h = h
back-side side _ ts r h = absurd h

pub back-query : (side : SideForm) (t : Token) (ts : List Token) (r : RequestForm) → LeadsOn (step_query side t) ts r → AtSource side (mark m.Left ∷ t ∷ ts) r
back-query side (word w.Select) ts r h = query-bracketed side (word w.Select ∷ ts) r (query-of (bracketed side) false (word w.Select) ts r of_select h)
back-query side (word w.Exec) ts r h = query-bracketed side (word w.Exec ∷ ts) r (query-of (bracketed side) true (word w.Exec) ts r of_exec h)
back-query side _ ts r h = absurd h

some-names : {x y : List (List ℕ)} → Some x ≡ Some y → x ≡ y
some-names h = cc

-- a token with names is a symbol literal
vector-symbols : (kind : Kind) (atoms : List Atom) (names : List (List ℕ)) → names_of (vector (record { kind = kind; atoms = atoms })) ≡ Some names → IsSymbols (literal (vector (record { kind = kind; atoms = atoms }))) names
vector-symbols k.Symbol atoms names h = let P : List (List ℕ) → Type 0 = λ x. IsSymbols (literal (vector (record { kind = k.Symbol; atoms = atoms }))) x in subst P (some-names h) of_vector
vector-symbols _ atoms names h = cc

atom-symbols : (x : Atom) (names : List (List ℕ)) → names_of (atom x) ≡ Some names → IsSymbols (literal (atom x)) names
atom-symbols (a.Symbol s) names h = let P : List (List ℕ) → Type 0 = λ y. IsSymbols (literal (atom (a.Symbol s))) y in subst P (some-names h) of_symbol
atom-symbols _ names h = cc

symbols-are : (t : Token) (names : List (List ℕ)) → symbols_of t ≡ Some names → IsSymbols t names
symbols-are (literal (atom x)) names h = atom-symbols x names h
symbols-are (literal (vector c)) names h = vector-symbols c.kind c.atoms names h
symbols-are (literal _) names h = cc
symbols-are _ names h = cc

-- a state after names comes from a symbol literal
named : (found : Option (List (List ℕ))) (next : List (List ℕ) → StateForm) (ts : List Token) (r : RequestForm) → LeadsOn (found_or found (λ names. Some (next names)) None) ts r
    → (names : List (List ℕ)) × (found ≡ Some names) × Leads (next names) ts r
named None next ts r h = absurd h
named (Some names) next ts r h = (names, refl, h)

moved-source : {ts : List Token} {s : SourceForm} (rest mid : List Token) → rest ≡ mid → IsSource ts rest s → IsSource ts mid s
moved-source {ts = ts} {s = s} rest mid eq h = let P : List Token → Type 0 = λ x. IsSource ts x s in subst P eq h

asof-joined : (t : Token) (keys : List (List ℕ)) (ts : List Token) (r : RequestForm) → IsSymbols t keys → Leads (keys_read keys) ts r → IsRequest (word w.Aj ∷ mark m.Open ∷ t ∷ ts) r
asof-joined t keys ts r symbols (mid, eq, (s, rest, left, (next, eq2, (other, last, right, (eq3, eqr))))) =
    moved-request r (aj_form (record { keys = keys; left = s; right = other })) eqr
    (moved-tokens (word w.Aj ∷ mark m.Open ∷ t ∷ ts) (word w.Aj ∷ mark m.Open ∷ t ∷ mark m.Semicolon ∷ mid) (ap (λ x. word w.Aj ∷ mark m.Open ∷ t ∷ x) eq)
    (asof symbols (moved-source rest (mark m.Semicolon ∷ next) eq2 left) (moved-source last (mark m.Close ∷ []) eq3 right)))

pub back-keys : (t : Token) (ts : List Token) (r : RequestForm) → LeadsOn (step keys_wanted t) ts r → IsRequest (word w.Aj ∷ mark m.Open ∷ t ∷ ts) r
back-keys t ts r h = joined (named (symbols_of t) keys_read ts r h)
  where
    joined : (names : List (List ℕ)) × (symbols_of t ≡ Some names) × Leads (keys_read names) ts r → IsRequest (word w.Aj ∷ mark m.Open ∷ t ∷ ts) r
    joined (names, eq, more) = asof-joined t names ts r (symbols-are t names eq) more

sub-joined : (t : Token) (tables : List (List ℕ)) (ts : List Token) (r : RequestForm) → IsSymbols t tables → Leads (tables_read tables) ts r → IsRequest (word w.Sub ∷ mark m.Open ∷ t ∷ ts) r
sub-joined t tables ts r symbols (mid, eq, (u, names, eq2, others, eqr)) =
    moved-request r (sub_form (record { tables = tables; all = is_null_symbol u; names = names })) eqr
    (moved-tokens (word w.Sub ∷ mark m.Open ∷ t ∷ ts) (word w.Sub ∷ mark m.Open ∷ t ∷ mark m.Semicolon ∷ u ∷ mark m.Close ∷ []) (ap (λ x. word w.Sub ∷ mark m.Open ∷ t ∷ x) (eq ∙ ap (λ x. mark m.Semicolon ∷ x) eq2))
    (subscription symbols others))

pub back-tables : (t : Token) (ts : List Token) (r : RequestForm) → LeadsOn (step tables_wanted t) ts r → IsRequest (word w.Sub ∷ mark m.Open ∷ t ∷ ts) r
back-tables t ts r h = joined (named (symbols_of t) tables_read ts r h)
  where
    joined : (names : List (List ℕ)) × (symbols_of t ≡ Some names) × Leads (tables_read names) ts r → IsRequest (word w.Sub ∷ mark m.Open ∷ t ∷ ts) r
    joined (names, eq, more) = sub-joined t names ts r (symbols-are t names eq) more

pub back-names : (tables : List (List ℕ)) (t : Token) (ts : List Token) (r : RequestForm) → LeadsOn (step (names_wanted tables) t) ts r → AtNames tables (t ∷ ts) r
back-names tables t ts r h = joined (named (symbols_of t) (sub_with tables (is_null_symbol t)) ts r h)
  where
    joined : (names : List (List ℕ)) × (symbols_of t ≡ Some names) × Leads (sub_with tables (is_null_symbol t) names) ts r → AtNames tables (t ∷ ts) r
    joined (names, eq, (end, eqr)) = (t, names, ap (λ x. t ∷ x) end, symbols-are t names eq, eqr)

pub back-aj : (t : Token) (ts : List Token) (r : RequestForm) → LeadsOn (step aj_read t) ts r → IsRequest (word w.Aj ∷ t ∷ ts) r
back-aj (mark m.Open) ts r h = h
back-aj _ ts r h = absurd h

pub back-sub : (t : Token) (ts : List Token) (r : RequestForm) → LeadsOn (step sub_read t) ts r → IsRequest (word w.Sub ∷ t ∷ ts) r
back-sub (mark m.Open) ts r h = h
back-sub _ ts r h = absurd h

pub back-keys_read : (keys : List (List ℕ)) (t : Token) (ts : List Token) (r : RequestForm) → LeadsOn (step (keys_read keys) t) ts r → Leads (keys_read keys) (t ∷ ts) r
back-keys_read keys (mark m.Semicolon) ts r h = (ts, refl, h)
back-keys_read keys _ ts r h = absurd h

pub back-tables_read : (tables : List (List ℕ)) (t : Token) (ts : List Token) (r : RequestForm) → LeadsOn (step (tables_read tables) t) ts r → Leads (tables_read tables) (t ∷ ts) r
back-tables_read tables (mark m.Semicolon) ts r h = (ts, refl, h)
back-tables_read tables _ ts r h = absurd h

pub back-names_read : (s : SubForm) (t : Token) (ts : List Token) (r : RequestForm) → LeadsOn (step (names_read s) t) ts r → Leads (names_read s) (t ∷ ts) r
back-names_read s (mark m.Close) ts r h = (ap (λ x. mark m.Close ∷ x) h.0, h.1)
back-names_read s _ ts r h = absurd h
