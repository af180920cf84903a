use Rattle.pubsub.proofs.LineLemmas.{have_symbols}
use Rattle.pubsub.proofs.telling.tell_rows.Goals as goal

pub passed-requires : goal.passed-requires
passed-requires c = have_symbols c.args.shape.now c.args.columns.now c.requires.shape c.requires.columns
