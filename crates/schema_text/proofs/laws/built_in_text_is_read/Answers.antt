use Rattle.schema_text.proofs.BuiltIn.{built_in_read}
use Rattle.schema_text.proofs.laws.built_in_text_is_read.Goals as goal

pub returns : goal.returns
returns c = built_in_read
