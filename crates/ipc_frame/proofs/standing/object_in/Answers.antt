use Rattle.ipc_frame.proofs.FrontLemmas.{value_stands}
use Rattle.ipc_frame.proofs.standing.object_in.Goals as goal

pub returns-in-Ok-clause-stands : goal.returns-in-Ok-clause-stands
returns-in-Ok-clause-stands c = value_stands c.args.head c.args.place c.in-Ok.length _ c.value_in.result _ c.in-Ok.ensures c.if-length-body.true c.requires c.value_in.ensures.stands
