-- What a session's thread takes with it may go there.
use denote.RattleType.{RattleType}
use denote.Param.Send.{IsSend, IsSync, sendable}
use Rattle.std.proofs.Crossing.{crosses}
use Rattle.std.specs.contracts.sync.atomic.AtomicBool as AtomicBool
use Rattle.day_rows.specs.contracts.schema.Schema as Schema
use Rattle.q_values.specs.contracts.limits.Limits as Limits
use Rattle.shared_sessions.specs.contracts.serve.Connection as Connection

pub AtomicBool-send : IsSend AtomicBool.the_row
AtomicBool-send = search (sendable, crosses) depth 60 fits 20000

pub AtomicBool-sync : IsSync AtomicBool.the_row
AtomicBool-sync = search (sendable, crosses) depth 60 fits 20000

pub Schema-send : IsSend Schema.the_row
Schema-send = search (sendable, crosses) depth 60 fits 20000

pub Schema-sync : IsSync Schema.the_row
Schema-sync = search (sendable, crosses) depth 60 fits 20000

pub Limits-sync : IsSync Limits.the_row
Limits-sync = search (sendable, crosses) depth 60 fits 20000

pub Connection-send : (L C G N : RattleType) → IsSend L → IsSend C → IsSend G → IsSend N → IsSend (Connection.the_row L C G N)
Connection-send L C G N l c g n = search (sendable, crosses) depth 60 fits 20000

-- what `search` needs to send a session to its thread, beside what it needs to share the lock
pub ruleset sent = (AtomicBool-send, AtomicBool-sync, Schema-send, Schema-sync, Limits-sync, Connection-send)
