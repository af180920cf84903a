use Rattle.plant_words.proofs.CommandLemmas.{once-refused}
use Rattle.plant_words.specs.Reading.{given_of}
use Rattle.plant_words.proofs.once_of.Goals as goal

pub returns-in-Err-clause-asked : goal.returns-in-Err-clause-asked
returns-in-Err-clause-asked c asked = once-refused (given_of c.args.options) asked c.in-Err.why c.in-Err.ensures.asked
