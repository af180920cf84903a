use Rattle.std.proofs.Common.{refl, Ok, ◌∙◌, ap, arith}
use Rattle.ipc_frame.specs.Stream.{header_of}
use Rattle.ipc_frame.proofs.FrontLemmas.{message_stands, front_by}
use Rattle.ipc_frame.proofs.TakingLemmas.{reach_by}
use Rattle.ipc_frame.proofs.standing.message_in.Goals as goal

pub returns-else-held-head-clause-stands : goal.returns-else-held-head-clause-stands
returns-else-held-head-clause-stands c = message_stands c.args.limits.now c.args.held.now c.in-Some.body.now c.in-Ok.head c.args.place c.object_in.result (c.in-Some.ensures.variant.0 refl) (c.in-Ok.ensures.value ∙ ap (header_of c.args.limits.now) c.in-Some.ensures.cases.0) c.in-Some.ensures.cases.1 (omega (arith, c.requires.short, reach_by c.args.limits.now c.args.held.now (Ok c.in-Ok.head) (c.in-Some.ensures.variant.0 refl) (c.in-Ok.ensures.value ∙ ap (header_of c.args.limits.now) c.in-Some.ensures.cases.0))) c.object_in.ensures.stands

pub returns-in-Err-clause-stands : goal.returns-in-Err-clause-stands
returns-in-Err-clause-stands c = (c.in-Err.bad.at, front_by c.args.limits.now c.args.held.now _ (c.in-Some.ensures.variant.0 refl) (c.in-Err.ensures.value ∙ ap (header_of c.args.limits.now) c.in-Some.ensures.cases.0), c.saturating_add.ensures)
