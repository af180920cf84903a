-- A text's request or refusal, from its tokens.
use Rattle.std.proofs.Common.{◌≡◌, ℕ, true, false, List, length, Result, Ok, Err, IfOk, IfErr, inr}
use Rattle.qsql_request.specs.Views.{request_of}
use Rattle.qsql_tokens.specs.Tokens.{Placed, AreTokens, only_tokens}
use Rattle.qsql_parse.specs.Machine.{start}
use Rattle.qsql_parse.specs.Reading.{reading, Reads}
use Rattle.qsql_request.specs.Unbuilt.{is_unbuilt}
use Rattle.qsql_tokens.specs.Limits.{is_too_much}
use Rattle.qsql_parse.specs.Verdicts.{HasTokens, IsText, RefusesText, Verdict, asks, too_much, no_request, not_built, IsVerdict, Gives}
use Rattle.qsql_request.specs.declared.request.Request.{Request}
use Rattle.qsql_parse.specs.declared.refusal.ParseRefusal.{ParseRefusal}
use Rattle.qsql_parse.specs.declared.refusal.ParseRefusal.TheVariants as r
use Rattle.qsql_parse.proofs.Faults.{reading-request, reading-fault}
use Rattle.qsql_parse.proofs.Once.{one-verdict}

pub too-much : (text : List ℕ) (placed : List Placed) → AreTokens text 0 placed → is_too_much (only_tokens placed) ≡ true → RefusesText text r.Limit
too-much text placed tokens h = inr (placed, tokens, h)

pub request-read_ok : (text : List ℕ) (placed : List Placed) (result : Result Request ParseRefusal) → HasTokens text placed → Reads result (reading start placed (length text)) → IfOk result (λ request. IsText text (request_of request))
request-read_ok text placed (Ok request) tokens h = (placed, tokens, reading-request placed (length text) (request_of request) h)
request-read_ok text placed (Err e) tokens h = tt

pub request-read_err : (text : List ℕ) (placed : List Placed) (result : Result Request ParseRefusal) → HasTokens text placed → Reads result (reading start placed (length text)) → IfErr result (RefusesText text)
request-read_err text placed (Ok request) tokens h = tt
request-read_err text placed (Err r.Limit) tokens h = absurd h
request-read_err text placed (Err (r.Parse at)) tokens h = (tokens.0, inr (placed, tokens, reading-fault placed (length text) at h))
request-read_err text placed (Err r.Nyi) tokens h = absurd h
request-read_err text placed (Err r.NoMemory) tokens h = tt

-- a verdict that is given is the only one
pub gives-only : (text : List ℕ) (result : Result Request ParseRefusal)
    → IfOk result (λ request. IsText text (request_of request) × (is_unbuilt (request_of request) ≡ false)) → IfErr result (RefusesText text)
    → (verdict : Verdict) → IsVerdict text verdict → Gives result verdict
gives-only text (Ok request) ok refused verdict h = one-verdict text verdict (asks (request_of request)) h ok
gives-only text (Err r.Limit) ok refused verdict h = one-verdict text verdict too_much h refused
gives-only text (Err (r.Parse at)) ok refused verdict h = one-verdict text verdict (no_request at) h refused
gives-only text (Err r.Nyi) ok refused verdict h = one-verdict text verdict not_built h refused
gives-only text (Err r.NoMemory) ok refused verdict h = tt
