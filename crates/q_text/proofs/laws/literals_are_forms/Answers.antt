use Rattle.q_text.proofs.LiteralForms.{literals-forms}
use Rattle.q_text.proofs.laws.literals_are_forms.Goals as goal

pub returns : goal.returns
returns c = literals-forms
