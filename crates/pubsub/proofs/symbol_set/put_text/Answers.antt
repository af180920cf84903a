use Rattle.std.proofs.Common.{◌||◌, ap, ◌∙◌}
use Rattle.std.specs.Str.{bytes_eq}
use Rattle.pubsub.specs.SymbolSet.{has_text}
use Rattle.pubsub.proofs.SetLemmas.{text_put}
use Rattle.pubsub.proofs.symbol_set.put_text.Goals as goal

pub returns : goal.returns
returns c bytes =
    text_put c.args.texts.now c.insert.new.self c.in_ok-text.text bytes c.in_ok-insert.field-0 c.in_ok-insert.ensures.added c.in_ok-insert.ensures.keys
    ∙ ap (λ t. has_text c.args.texts.now bytes || bytes_eq bytes t) c.in_ok-text.ensures.items
