use Rattle.q_text.proofs.OneForm.{one-form}
use Rattle.q_text.proofs.laws.words_have_one_form.Goals as goal

pub returns : goal.returns
returns c = one-form
