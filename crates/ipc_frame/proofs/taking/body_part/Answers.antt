use Rattle.std.proofs.Common.{refl, ◌∙◌, ap, length, min}
use Rattle.ipc_frame.specs.Stream.{header_of}
use Rattle.ipc_frame.proofs.TakingLemmas.{body_takes, body_one, bad_takes}
use Rattle.ipc_frame.proofs.taking.body_part.Goals as goal

pub returns-in-Ok-clause-takes : goal.returns-in-Ok-clause-takes
returns-in-Ok-clause-takes c = body_takes c.args.limits.now c.args.held.now c.args.piece.now c.in-Ok.head c.min.result (c.in-Ok.ensures.value ∙ ap (header_of c.args.limits.now) c.in-Some.ensures.cases.0) (c.min.ensures ∙ ap (min (length c.args.piece.now)) c.saturating_sub.ensures)

pub returns-in-Ok-clause-one : goal.returns-in-Ok-clause-one
returns-in-Ok-clause-one c = body_one c.args.limits.now c.args.held.now c.args.piece.now c.in-Ok.head c.min.result (c.in-Ok.ensures.value ∙ ap (header_of c.args.limits.now) c.in-Some.ensures.cases.0) (c.min.ensures ∙ ap (min (length c.args.piece.now)) c.saturating_sub.ensures) (c.in-Some.ensures.variant.0 refl) c.requires

pub returns-in-Err-clause-takes : goal.returns-in-Err-clause-takes
returns-in-Err-clause-takes c = bad_takes c.args.limits.now c.args.held.now c.args.piece.now c.in-Err.field-0 (c.in-Err.ensures.value ∙ ap (header_of c.args.limits.now) c.in-Some.ensures.cases.0)
