use Rattle.std.proofs.Common.{◌++◌, take}
use Rattle.std.proofs.KnownBytes.{Appends-trans, Appends-kept}
use Rattle.outside_real.proofs.SentLemmas.{moves_slice, prefix_sent, prefix_taken, prefix_kept}
use Rattle.outside_real.proofs.retry.write_waiting.Goals.{in-Ok, in-Err+else-not-may_try_again}
use Rattle.outside_real.proofs.retry.write_waiting.Goals as goal

pub returns-in-Ok-eq0 : goal.returns-in-Ok-eq0
returns-in-Ok-eq0 g c =
    let (done, split, appended) = c.loop.invariant in
    prefix_taken _ _ _ _ done c.loop.rest.now c.in-Ok-eq0.field-0 split appended c.in-Ok-eq0.ensures.bytes

pub returns-then-not-may_try_again : goal.returns-then-not-may_try_again
returns-then-not-may_try_again g c =
    let (done, split, appended) = c.loop.invariant in
    prefix_kept _ _ _ _ done c.loop.rest.now split appended c.in-Err.ensures.bytes

pub loop-preserved : goal.loop-preserved
loop-preserved g c =
    let (done, split, appended) = c.loop.invariant in
    let rest = c.loop.rest.now in
    elim c.match-write.branch [
      | in-Ok w ↦ rw w.rest-is (done ++ take w.in-Ok.count rest, moves_slice _ done rest w.in-Ok.count split, Appends-trans _ _ _ _ _ appended w.in-Ok.ensures.bytes)
      | in-Err+else-not-may_try_again w ↦ rw w.rest-is (done, split, Appends-kept _ _ _ _ appended w.in-Err.ensures.bytes)
    ]

pub returns : goal.returns
returns g c =
    let (done, split, appended) = c.loop.invariant in
    prefix_sent _ _ _ done c.loop.rest.now split appended
