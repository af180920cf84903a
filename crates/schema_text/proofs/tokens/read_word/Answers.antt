use Rattle.std.proofs.Common.{◌≡◌, ◌∙◌, sym, drop, true, slice_get}
use Rattle.schema_text.specs.Tokens.{begins_word}
use Rattle.schema_text.proofs.Words.{word-taken, slice_get-drop_first, rest-is}
use Rattle.schema_text.proofs.tokens.read_word.Goals as goal

pub returns-then-begins_word_at-clause-lawful : goal.returns-then-begins_word_at-clause-lawful
returns-then-begins_word_at-clause-lawful c =
    let text = c.args.text.now in
    let start = c.next_part-start.result in
    let begins : begins_word (slice_get (drop start text) 0) ≡ true = rw (slice_get-drop_first text start) (sym c.begins_word_at.ensures.value ∙ c.if-begins_word_at.true) in
    rw (c.word_len-len.ensures.value, rest-is text start) (word-taken (drop start text) begins)
