-- The answer to a text over a chronicle.
use Rattle.std.specs.Prelude.{◌≡◌, ℕ, ℤ, pos, Bool, true, false, List, codes}
use Rattle.std.specs.List.{position_or_len}
use Rattle.std.specs.Str.{bytes_eq}
use Rattle.q_values.specs.Tree.{Tree, atom, table, identity, wrong}
use Rattle.q_values.specs.declared.atom.Atom.TheVariants as a
use Rattle.day_rows.specs.Chronicle.{date_of}
use Rattle.day_rows.specs.declared.entry.Entry.{Entry}
use Rattle.day_rows.specs.declared.schema.Shape.{Shape}
use Rattle.plant_memory.specs.Chronicle.{today, update_count}
use Rattle.qsql_request.specs.Forms.{QueryForm, AjForm, RequestForm, query_form, aj_form, count_form, day_form, sub_form}
use Rattle.qsql_parse.specs.Verdicts.{Verdict, IsVerdict, asks, too_much, no_request, not_built}
use Rattle.qsql_eval.specs.Judgement.{Judgement, unknown, mistyped, fits, judgement, all_columns}
use Rattle.qsql_eval.specs.Meaning.{meaning}
use Rattle.asof_join.specs.Asof.{asof}
use Rattle.asof_join.specs.Judged as j
use Rattle.asof_join.specs.Judged.{AjJudgement, aj_judgement}
use Rattle.asof_join.specs.Sources.{query_of_source}
use Rattle.gateway.specs.TableRows.{table_rows, kept_rows}

-- the index in a schema of the table of this name
abbrev pub table_index : List ℕ → List Shape → ℕ
table_index name schema = position_or_len (λ (shape : Shape). bytes_eq name shape.table) schema

-- the value of a query over all rows of its table
abbrev pub query_value : ℤ → List Shape → List Entry → QueryForm → Shape → Tree
query_value first schema entries q shape = meaning (all_columns shape) q (table_rows first entries (table_index q.table schema) shape)

-- the value of a query over the rows of the dates that its first phrases keep
abbrev pub kept_value : ℤ → List Shape → List Entry → QueryForm → Shape → Tree
kept_value first schema entries q shape =
    meaning (all_columns shape) q (kept_rows q.phrases first entries (table_index q.table schema) shape)

-- the answer to a query, where one that fits its table has this value: the value, or the name that isn't there, or `type`
abbrev pub query_answer : (QueryForm → Shape → Tree) → QueryForm → Judgement → Tree
query_answer value q (unknown name) = wrong name
query_answer value q mistyped = wrong (codes "type")
query_answer value q (fits shape) = value q shape

-- the join of two tables
abbrev pub joined : List (List ℕ) → Tree → Tree → Tree
joined keys (table left) (table right) = table (asof keys left right)
joined keys left right = identity

-- the answer to an as-of join: the join of its sides' values, or what is wrong with it
abbrev pub join_answer : (QueryForm → Shape → Tree) → AjForm → AjJudgement → Tree
join_answer value q (j.unknown name) = wrong name
join_answer value q j.clash = wrong (codes "nyi")
join_answer value q j.mistyped = wrong (codes "type")
join_answer value q (j.joins left right) = joined q.keys (value (query_of_source q.left) left) (value (query_of_source q.right) right)

-- the answer to a request, where queries have these values; a subscription is for the session
abbrev pub request_answer : (QueryForm → Shape → Tree) → ℤ → List Shape → List Entry → RequestForm → Tree
request_answer value first schema entries (query_form q) = query_answer value q (judgement q schema)
request_answer value first schema entries (aj_form q) = join_answer value q (aj_judgement q schema)
request_answer value first schema entries count_form = atom (a.Long (pos (update_count (today entries))))
request_answer value first schema entries day_form = atom (a.Date (date_of first entries))
request_answer value first schema entries (sub_form s) = wrong (codes "nyi")

-- the answer to a text of which the language says this, where queries have these values
abbrev pub answer_by : (QueryForm → Shape → Tree) → ℤ → List Shape → List Entry → Verdict → Tree
answer_by value first schema entries (asks request) = request_answer value first schema entries request
answer_by value first schema entries too_much = wrong (codes "limit")
answer_by value first schema entries (no_request at) = wrong (codes "parse")
answer_by value first schema entries not_built = wrong (codes "nyi")

-- the answer to a text over a chronicle: each query has its value over all rows of its table
abbrev pub verdict_answer : ℤ → List Shape → List Entry → Verdict → Tree
verdict_answer first schema entries v = answer_by (query_value first schema entries) first schema entries v

-- the answer where the rows of each date that a query doesn't keep are left out
abbrev pub kept_answer : ℤ → List Shape → List Entry → Verdict → Tree
kept_answer first schema entries v = answer_by (kept_value first schema entries) first schema entries v

-- the answer to a text over a chronicle: the first of the errors that holds, or its value
abbrev pub IsAnswer : ℤ → List Shape → List Entry → List ℕ → Tree → Type 0
IsAnswer first schema entries text value = (v : Verdict) × IsVerdict text v × (value ≡ verdict_answer first schema entries v)

-- the same, of the rows of the dates that are kept alone
abbrev pub IsKeptAnswer : ℤ → List Shape → List Entry → List ℕ → Tree → Type 0
IsKeptAnswer first schema entries text value = (v : Verdict) × IsVerdict text v × (value ≡ kept_answer first schema entries v)

-- whether it is a subscription
abbrev pub is_subscription : Verdict → Bool
is_subscription (asks (sub_form s)) = true
is_subscription _ = false

-- a text that subscribes
abbrev pub Subscribes : List ℕ → Type 0
Subscribes text = (v : Verdict) × IsVerdict text v × (is_subscription v ≡ true)
