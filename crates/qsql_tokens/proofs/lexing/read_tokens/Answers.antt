use Rattle.std.proofs.Common.{◌≡◌, ℕ, List, [], ◌∷◌, ◌++◌, Option, Some, None, subst, sym, map}
use Rattle.qsql_tokens.specs.Tokens.{Placed, Read, placed_at, AreTokens, token_at}
use Rattle.qsql_tokens.specs.Views.{token_of, placed_of, TokenRead}
use Rattle.qsql_tokens.specs.declared.token.Token.{Token as Own}
use Rattle.qsql_tokens.proofs.Lexed.{one-token, after-token, no-token, all-tokens}
use Rattle.qsql_tokens.proofs.lexing.read_tokens.Goals as goal

some-read : (found : Option (Own × ℕ)) (token : Own) (end : ℕ) (read : Option Read) → found ≡ Some (token, end) → TokenRead found read → read ≡ Some (record { token = token_of token; end = end })
some-read found token end read is h = subst (λ (f : Option (Own × ℕ)). TokenRead f read) is h

none-read : (found : Option (Own × ℕ)) (read : Option Read) → found ≡ None → TokenRead found read → read ≡ None
none-read found read is h = subst (λ (f : Option (Own × ℕ)). TokenRead f read) is h

pub loop-offset-preserved : goal.loop-offset-preserved
loop-offset-preserved c =
    let text = c.args.text.now in
    let inv = c.loop-offset.invariant in
    let read = some-read c.in_ok-token.field-0 c.in-Some.token c.in-Some.end (token_at text c.loop-offset.offset) c.in-Some.is c.in_ok-token.ensures.value in
    let pushed : map placed_of c.push_token.new.tokens.items ≡ map placed_of c.loop-offset.tokens.items ++ placed_at (token_of c.in-Some.token) c.loop-offset.offset ∷ [] =
    c.in_ok-push_token-in-Some.ensures in (
      c.in-Some.end,
      record {
        here = c.skip_blanks-offset-in-Some.ensures.value;
        tokens = λ rest more.
            subst (λ (ps : List Placed). AreTokens text 0 (ps ++ rest)) (sym pushed)
            (one-token text inv.0 c.loop-offset.offset c.in-Some.end (token_of c.in-Some.token) (map placed_of c.loop-offset.tokens.items) inv.1.here c.loop-offset-test.true read inv.1.tokens rest more);
        fault = λ fault more. inv.1.fault fault (after-token text inv.0 c.loop-offset.offset c.in-Some.end (token_of c.in-Some.token) inv.1.here c.loop-offset-test.true read fault more);
      },
    )

pub returns-in-None-clause-refused : goal.returns-in-None-clause-refused
returns-in-None-clause-refused c =
    let inv = c.loop-offset.invariant in
    (c.if-text-gt-LONGEST_TEXT.false, inv.1.fault c.loop-offset.offset (no-token c.args.text.now inv.0 c.loop-offset.offset inv.1.here c.loop-offset-test.true (none-read c.in_ok-token.field-0 (token_at c.args.text.now c.loop-offset.offset) c.in-None.is c.in_ok-token.ensures.value)))

pub returns-clause-ok : goal.returns-clause-ok
returns-clause-ok c =
    let inv = c.loop-offset.invariant in
    (c.if-text-gt-LONGEST_TEXT.false, all-tokens c.args.text.now inv.0 c.loop-offset.offset (map placed_of c.loop-offset.tokens.items) inv.1.here c.loop-offset-test.false inv.1.tokens)
