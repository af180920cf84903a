use Rattle.std.proofs.lemmas.Bool.{false≢true}
use Rattle.ipc_frame.proofs.TakingLemmas.{no_nul_held, greeting_takes, greeting_one}
use Rattle.ipc_frame.proofs.taking.greeting_part.Goals as goal

pub returns-clause-takes : goal.returns-clause-takes
returns-clause-takes c = greeting_takes c.args.limits.now c.args.held.now c.args.piece.now c.min.result c.up_to_nul.result (no_nul_held c.args.held.now c.requires.no_nul (λ h. false≢true (c.if-ends_in_nul.ensures.1 h))) c.if-held-limit.false c.min.ensures c.up_to_nul.ensures

pub returns-clause-one : goal.returns-clause-one
returns-clause-one c = greeting_one c.args.limits.now c.args.held.now c.args.piece.now c.min.result c.up_to_nul.result (no_nul_held c.args.held.now c.requires.no_nul (λ h. false≢true (c.if-ends_in_nul.ensures.1 h))) c.if-held-limit.false c.min.ensures c.up_to_nul.ensures
