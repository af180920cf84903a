-- The verdict of the language on a text: its request, or the first refusal that holds.
use Rattle.std.specs.Prelude.{◌≡◌, ◌≤◌, ◌<◌, ℕ, true, false, List, length, Result, Ok, Err, ◌⊎◌}
use Rattle.qsql_request.specs.Forms.{RequestForm}
use Rattle.qsql_request.specs.Views.{request_of}
use Rattle.qsql_tokens.specs.Tokens.{Placed, AreTokens, IsTokenFault, only_tokens}
use Rattle.qsql_tokens.specs.Limits.{is_too_much}
use Rattle.qsql_parse.specs.Grammar.{IsRequest, IsFault}
use Rattle.qsql_request.specs.Unbuilt.{is_unbuilt}
use Rattle.qsql_request.specs.declared.request.Request.{Request}
use Rattle.qsql_tokens.specs.declared.refusal.TokenRefusal.{TokenRefusal}
use Rattle.qsql_tokens.specs.declared.refusal.TokenRefusal.TheVariants as t
use Rattle.qsql_parse.specs.declared.refusal.ParseRefusal.{ParseRefusal}
use Rattle.qsql_parse.specs.declared.refusal.ParseRefusal.TheVariants as r

-- the text has these tokens, within the limits
abbrev pub HasTokens : List ℕ → List Placed → Type 0
HasTokens text placed = (length text ≤ 65536) × AreTokens text 0 placed × (is_too_much (only_tokens placed) ≡ false)

-- the text asks for this
abbrev pub IsText : List ℕ → RequestForm → Type 0
IsText text request = (placed : List Placed) × HasTokens text placed × IsRequest (only_tokens placed) request

-- the verdict of the language on a text
pub data Verdict : Type 0 where
  asks : RequestForm → Verdict
  too_much : Verdict
  -- at this offset
  no_request : ℕ → Verdict
  not_built : Verdict

abbrev pub IsVerdict : List ℕ → Verdict → Type 0
IsVerdict text (asks request) = IsText text request × (is_unbuilt request ≡ false)
IsVerdict text too_much = (65536 < length text) ⊎ ((placed : List Placed) × AreTokens text 0 placed × (is_too_much (only_tokens placed) ≡ true))
IsVerdict text (no_request at) = (length text ≤ 65536)
    × (IsTokenFault text 0 at ⊎ ((placed : List Placed) × HasTokens text placed × IsFault placed (length text) at))
IsVerdict text not_built = (request : RequestForm) × IsText text request × (is_unbuilt request ≡ true)

-- a text without tokens is no request, or one that is too long
abbrev pub refusal_of : TokenRefusal → ParseRefusal
refusal_of t.TooLong = r.Limit
refusal_of (t.NoToken offset) = r.Parse offset
refusal_of t.NoMemory = r.NoMemory

-- each refusal has its cause; running out of memory needs none
abbrev pub RefusesText : List ℕ → ParseRefusal → Type 0
RefusesText text r.Limit = IsVerdict text too_much
RefusesText text (r.Parse at) = IsVerdict text (no_request at)
RefusesText text r.Nyi = IsVerdict text not_built
RefusesText text r.NoMemory = Unit {0}

-- an answer gives this verdict; running out of memory gives none
abbrev pub Gives : Result Request ParseRefusal → Verdict → Type 0
Gives (Ok request) verdict = verdict ≡ asks (request_of request)
Gives (Err r.Limit) verdict = verdict ≡ too_much
Gives (Err (r.Parse at)) verdict = verdict ≡ no_request at
Gives (Err r.Nyi) verdict = verdict ≡ not_built
Gives (Err r.NoMemory) verdict = Unit {0}

-- where the language has a verdict on the text, the answer gives that one
abbrev pub GivesOnly : List ℕ → Result Request ParseRefusal → Type 0
GivesOnly text result = (verdict : Verdict) → IsVerdict text verdict → Gives result verdict
