use Rattle.q_words.proofs.Names.{names_are_words}
use Rattle.q_words.proofs.laws.names_are_words.Goals as goal

pub returns : goal.returns
returns c = names_are_words c.args.name.now
