-- What is read is a request of the grammar.
use Rattle.std.proofs.Common.{◌≡◌, List, [], ◌∷◌, Option, Some, None, refl}
use Rattle.qsql_request.specs.Forms.{Form, one, two, QueryForm, RequestForm, query_form}
use Rattle.qsql_tokens.specs.Tokens.{Token}
use Rattle.qsql_parse.specs.Grammar.{no_where, IsRequest}
use Rattle.qsql_parse.specs.Machine.{OuterForm, alone, bare, bracketed, of_column, of_phrase, StackForm, base, right_of, under, in_brackets, applied, first_of_two, second_of_two, StateForm, start, verb_read, number_wanted, number_read, columns_wanted, column_wanted, name_read, wanted, monad_read, dyad_read, got, table_wanted, table_read, aj_read, keys_wanted, keys_read, source_wanted, query_wanted, source_read, sub_read, tables_wanted, tables_read, names_wanted, names_read, done, with_phrase, step, whole, whole_query, whole_expr, then_read, run}
use Rattle.qsql_parse.proofs.Leads.{stops, no_phrases, ThenOuter, ThenStack, Leads, LeadsOn}
use Rattle.qsql_parse.proofs.QuerySteps.{back-source, back-got, back-wanted, back-monad, back-name, back-column, back-selected, back-verb, back-table, back-number, back-numbered, back-dyad_read, back-to_table}
use Rattle.qsql_parse.proofs.OuterSteps.{back-start, back-side, back-query, back-keys, back-tables, back-names, back-aj, back-sub, back-keys_read, back-tables_read, back-names_read}

-- a token before what leads on from the state after it
back : (s : StateForm) (t : Token) (ts : List Token) (r : RequestForm) → LeadsOn (step s t) ts r → Leads s (t ∷ ts) r
back start t ts r h = back-start t ts r h
back (verb_read o x) t ts r h = back-verb o x t ts r h
back (number_wanted o x) t ts r h = back-number o x t ts r h
back (number_read o x n) t ts r h = back-numbered o x n t ts r h
back (columns_wanted o d) t ts r h = back-selected o d t ts r h
back (column_wanted o d g) t ts r h = back-column o d g t ts r h
back (name_read o d g n) t ts r h = back-name o d g n t ts r h
back (wanted k) t ts r h = back-wanted k t ts r h
back (monad_read u k) t ts r h = back-monad u k t ts r h
back (dyad_read v k) t ts r h = back-dyad_read v k t ts r h
back (got e k) t ts r h = back-got e k t ts r h
back (table_wanted o d) t ts r h = back-to_table o d t ts r h
back (table_read o q) t ts r h = back-table o q t ts r h
back aj_read t ts r h = back-aj t ts r h
back keys_wanted t ts r h = back-keys t ts r h
back (keys_read keys) t ts r h = back-keys_read keys t ts r h
back (source_wanted side) t ts r h = back-side side t ts r h
back (query_wanted side) t ts r h = back-query side t ts r h
back (source_read side s) t ts r h = back-source side s t ts r h
back sub_read t ts r h = back-sub t ts r h
back tables_wanted t ts r h = back-tables t ts r h
back (tables_read tables) t ts r h = back-tables_read tables t ts r h
back (names_wanted tables) t ts r h = back-names tables t ts r h
back (names_read s) t ts r h = back-names_read s t ts r h
back (done other) t ts r h = absurd h

none-some : {X : Type 0} (r : RequestForm) → None ≡ Some r → X
none-some r h = absurd (apart h)
  where
    apart : None ≡ Some r → ⊥
    apart e = cc

some-is : (r other : RequestForm) → Some r ≡ Some other → other ≡ r
some-is r other h = cc

end-query : (o : OuterForm) (q : QueryForm) (r : RequestForm) → whole_query o q ≡ Some r → ThenOuter o q [] r
end-query alone q r h = (refl, some-is (query_form q) r h)
end-query (bare side) q r h = none-some r h
end-query (bracketed side) q r h = none-some r h

end-stack : (k : StackForm) (e : Form) (r : RequestForm) → whole_expr k e ≡ Some r → ThenStack k e [] r
end-stack (base (of_column o d g n)) e r h = none-some r h
end-stack (base (of_phrase o q)) e r h = ([], [], no_phrases, end-query o (with_phrase q e) r h)
end-stack (right_of v l k) e r h = end-stack k (two v l e) r h
end-stack (under u k) e r h = end-stack k (one u e) r h
end-stack (in_brackets k) e r h = none-some r h
end-stack (applied u k) e r h = none-some r h
end-stack (first_of_two v k) e r h = none-some r h
end-stack (second_of_two v l k) e r h = none-some r h

pub end : (s : StateForm) (r : RequestForm) → whole s ≡ Some r → Leads s [] r
end (done other) r h = (refl, some-is other r h)
end (table_read o q) r h = ([], [], no_where, end-query o q r h)
end (got e k) r h = (e, [], stops, end-stack k e r h)
end _ r h = none-some r h

-- what is read leads there
pub leads : (ts : List Token) (s : StateForm) (r : RequestForm) → run s ts ≡ Some r → Leads s ts r
leads [] s r h = end s r h
leads (t ∷ ts) s r h = back s t ts r (on (λ (next : StateForm) (e : run next ts ≡ Some r). leads ts next r e) (step s t) h)
  where
    on : ((next : StateForm) → run next ts ≡ Some r → Leads next ts r) → (found : Option StateForm) → then_read found (λ next. run next ts) ≡ Some r → LeadsOn found ts r
    on more None e = none-some r e
    on more (Some next) e = more next e

-- what is read is a request of the grammar
pub request-sound : (ts : List Token) (r : RequestForm) → run start ts ≡ Some r → IsRequest ts r
request-sound ts r h = leads ts start r h
