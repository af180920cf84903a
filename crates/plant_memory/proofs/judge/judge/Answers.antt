use Rattle.std.proofs.lemmas.Option.{slice_get_within}
use Rattle.plant_memory.proofs.JudgeLemmas.{loggable_found, rules_found}
use Rattle.plant_memory.proofs.judge.judge.Goals as goal

pub at-requires : goal.at-requires
at-requires c = slice_get_within c.args.schema.now _ c.in-Some.ensures.0 c.in-Some.ensures.1

pub returns-clause-rules : goal.returns-clause-rules
returns-clause-rules c = rules_found _ _ _ _ _ _ _ _ _ _ _ _ _ c.at.ensures.value c.in-Some.ensures c.as_slice-kinds.ensures c.as_slice-items.ensures c.judge_timed.ensures.rules

pub returns-clause-loggable : goal.returns-clause-loggable
returns-clause-loggable c = λ pass. loggable_found _ _ _ _ _ _ _ c.at.ensures.value c.in-Some.ensures c.as_slice-kinds.ensures pass c.judge_timed.ensures.fits
