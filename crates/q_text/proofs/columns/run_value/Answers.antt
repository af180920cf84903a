use Rattle.std.proofs.Common.{◌∙◌, ap}
use Rattle.std.specs.Option.{option_map}
use Rattle.q_text.proofs.Storage.{stored}
use Rattle.q_text.proofs.columns.run_value.Goals as goal

pub vector_of-requires : goal.vector_of-requires
vector_of-requires c =
    stored c.args.run.now.count c.args.form c.args.run.now.kind c.args.text.now c.args.at c.in-Some.numbers.items (c.in_ok-numbers.ensures ∙ ap (λ o. option_map (λ numbers. numbers.items) o) c.in-Some.is)
