use Rattle.schema_text.proofs.Texts.{one-reading}
use Rattle.schema_text.proofs.laws.texts_have_one_reading.Goals as goal

pub returns : goal.returns
returns c = one-reading
