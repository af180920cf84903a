use Rattle.std.proofs.Common.{◌∙◌, arith}
use Rattle.std.proofs.lemmas.List.{take_rest}
use Rattle.ipc_frame.proofs.TakingLemmas.{first_one, rest_fits, message_takes, held_all}
use Rattle.ipc_frame.proofs.taking.take_message.Goals as goal

pub body_part-second-requires : goal.body_part-second-requires
body_part-second-requires c = first_one c.args.limits.now c.args.held.now.items c.args.piece.now c.deref.result.now c.min-first.result (omega (arith, c.min-first.ensures, c.saturating_sub.ensures, c.len.ensures)) (c.deref.ensures.value ∙ c.append.ensures.items) c.requires.one

pub append-requires-2 : goal.append-requires-2
append-requires-2 c = rest_fits c.args.limits.now c.deref.result.now c.append.new.held.items _ c.body_part-second.result _ _ c.deref.ensures.value c.requires.room c.append.ensures.room c.body_part-second.ensures.one

pub returns-clause-takes : goal.returns-clause-takes
returns-clause-takes c = message_takes c.args.limits.now c.args.held.now.items c.args.piece.now c.deref.result.now _ c.min-first.result c.body_part-second.result (omega (arith, c.min-first.ensures, c.saturating_sub.ensures, c.len.ensures)) (c.deref.ensures.value ∙ c.append.ensures.items) (take_rest c.args.piece.now c.min-first.result) c.body_part-second.ensures.takes c.body_part-second.ensures.header

pub returns-clause-held : goal.returns-clause-held
returns-clause-held c = held_all c.args.held.now.items c.args.piece.now c.append.new.held.items _ c.append-2.new.held.items c.min-first.result c.body_part-second.result (omega (arith, c.min-first.ensures, c.saturating_sub.ensures, c.len.ensures)) c.append.ensures.items (take_rest c.args.piece.now c.min-first.result) c.append-2.ensures.items
