use Rattle.std.proofs.Common.{◌∙◌}
use Rattle.gateway.proofs.KeptLemmas.{kept_answered}
use Rattle.gateway.specs.Views.{verdict_of}
use Rattle.gateway.proofs.question.Question.answer.Goals as goal

pub returns-clause-dates : goal.returns-clause-dates
returns-clause-dates c =
    c.in_ok-value.ensures.value ∙ kept_answered c.args.snapshot.now.frame.first c.args.schema.now c.args.snapshot.now.entries (verdict_of c.args.self.now) c.dates-dates.ensures.ascend
