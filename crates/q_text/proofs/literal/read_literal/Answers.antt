use Rattle.std.proofs.Common.{◌∙◌, sym}
use Rattle.q_text.proofs.LiteralForms.{reads-forms, none-there}
use Rattle.q_text.proofs.literal.read_literal.Goals as goal

pub returns-then-begins_literal-clause-forms : goal.returns-then-begins_literal-clause-forms
returns-then-begins_literal-clause-forms c = reads-forms c.args.text.now c.args.at c.literal_from.result c.literal_from.ensures.value

pub returns-else-begins_literal-clause-forms : goal.returns-else-begins_literal-clause-forms
returns-else-begins_literal-clause-forms c = none-there c.args.text.now c.args.at (sym c.begins_literal.ensures.value ∙ c.if-begins_literal.false)
