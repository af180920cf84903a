use Rattle.q_text.proofs.Fronts.{timestamp-none}
use Rattle.q_text.proofs.forms.is_timestamp.Goals as goal

pub returns-else-is_front : goal.returns-else-is_front
returns-else-is_front c = timestamp-none c.args.word.now c.is_front.result c.is_front.ensures c.if-is_front.false
