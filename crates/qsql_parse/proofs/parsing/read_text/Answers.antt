use Rattle.std.proofs.Common.{◌≡◌, false, List, length, map, subst}
use Rattle.qsql_tokens.specs.Tokens.{only_tokens}
use Rattle.qsql_tokens.specs.Views.{placed_of}
use Rattle.qsql_parse.specs.Machine.{start}
use Rattle.qsql_parse.specs.Reading.{reading, Reads}
use Rattle.qsql_tokens.specs.Limits.{is_too_much}
use Rattle.qsql_tokens.specs.declared.token.Placed.{Placed as Lexed}
use Rattle.qsql_parse.proofs.Verdicts.{request-read_ok, request-read_err}
use Rattle.qsql_parse.proofs.parsing.read_text.Goals as goal

pub returns-clause-ok : goal.returns-clause-ok
returns-clause-ok c =
    let text = c.args.text.now in
    let placed = map placed_of c.in_ok-tokens.tokens.items in
    let few : is_too_much (only_tokens placed) ≡ false = cc (c.are_too_many.ensures, c.if-are_too_many.false, c.deref.ensures.value) in
    request-read_ok text placed c.read_request.result (c.in_ok-tokens.ensures.ok.0, c.in_ok-tokens.ensures.ok.1, few)
    (subst (λ (items : List Lexed). Reads c.read_request.result (reading start (map placed_of items) (length text))) c.from.ensures.0 c.read_request.ensures)

pub returns-clause-refused : goal.returns-clause-refused
returns-clause-refused c =
    let text = c.args.text.now in
    let placed = map placed_of c.in_ok-tokens.tokens.items in
    let few : is_too_much (only_tokens placed) ≡ false = cc (c.are_too_many.ensures, c.if-are_too_many.false, c.deref.ensures.value) in
    request-read_err text placed c.read_request.result (c.in_ok-tokens.ensures.ok.0, c.in_ok-tokens.ensures.ok.1, few)
    (subst (λ (items : List Lexed). Reads c.read_request.result (reading start (map placed_of items) (length text))) c.from.ensures.0 c.read_request.ensures)
