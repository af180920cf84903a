use Rattle.gateway.proofs.PartLemmas.{fit_phrases, phrase_in}
use Rattle.gateway.proofs.keeping.phrase_at.Goals as goal

pub returns-clause-phrase : goal.returns-clause-phrase
returns-clause-phrase c =
    let typed = c.args.typed.now in
    phrase_in typed.table.now typed.query.now.phrases c.args.i c.at.result.now (fit_phrases typed.table.now typed.query.now typed.fit) c.at.ensures
