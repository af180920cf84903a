-- The request of tokens, or the offset of the first token with which none continues.
use Rattle.std.specs.Prelude.{◌≡◌, ℕ, List, [], ◌∷◌, Option, Some, None, Result, Ok, Err}
use Rattle.qsql_request.specs.Forms.{RequestForm}
use Rattle.qsql_request.specs.Views.{request_of}
use Rattle.qsql_tokens.specs.Tokens.{Placed}
use Rattle.qsql_parse.specs.Machine.{StateForm, step, whole}
use Rattle.qsql_request.specs.declared.request.Request.{Request}
use Rattle.qsql_parse.specs.declared.refusal.ParseRefusal.{ParseRefusal}
use Rattle.qsql_parse.specs.declared.refusal.ParseRefusal.TheVariants as r

abbrev pub ended_at : ℕ → Option RequestForm → Result RequestForm ℕ
ended_at end (Some request) = Ok request
ended_at end None = Err end

abbrev pub goes_from : ℕ → Option StateForm → (StateForm → Result RequestForm ℕ) → Result RequestForm ℕ
goes_from offset (Some next) more = more next
goes_from offset None more = Err offset

abbrev pub reading : StateForm → List Placed → ℕ → Result RequestForm ℕ
reading s [] end = ended_at end (whole s)
reading s (p ∷ placed) end = goes_from p.place (step s p.token) (λ next. reading next placed end)

-- a refusal is the fault that was found, unless memory ran out
abbrev pub IsFaultFound : {X : Type 0} → ParseRefusal → Result X ℕ → Type 0
IsFaultFound (r.Parse offset) found = found ≡ Err offset
IsFaultFound r.NoMemory found = Unit {0}
IsFaultFound r.Limit found = ⊥
IsFaultFound r.Nyi found = ⊥

abbrev pub Reads : Result Request ParseRefusal → Result RequestForm ℕ → Type 0
Reads (Ok request) found = found ≡ Ok (request_of request)
Reads (Err e) found = IsFaultFound e found
