-- Laws of the grammar.
use Rattle.std.specs.Prelude.{◌≡◌, ℕ, List}
use Rattle.qsql_request.specs.Forms.{RequestForm}
use Rattle.qsql_tokens.specs.Tokens.{Token}
use Rattle.qsql_parse.specs.Grammar.{IsRequest}
use Rattle.qsql_parse.specs.Verdicts.{Verdict, IsVerdict}

-- tokens are at most one request
abbrev pub OneRequest : Type 0
OneRequest = (tokens : List Token) (some other : RequestForm) → IsRequest tokens some → IsRequest tokens other → some ≡ other

-- a text has at most one verdict
abbrev pub OneVerdict : Type 0
OneVerdict = (text : List ℕ) (some other : Verdict) → IsVerdict text some → IsVerdict text other → some ≡ other
