use Rattle.std.proofs.Common.{◌≡◌, ◌∙◌, Some, refl, sym, ap}
use Rattle.plant_shared.specs.Shared.{shown_shared}
use Rattle.shared_sessions.specs.Sessions.{line}
use Rattle.shared_sessions.proofs.SessionLemmas.{served}
use Rattle.shared_sessions.proofs.serve.serve_shared.Goals as goal

pub returns : goal.returns
returns g c =
    let frame = c.args.lock.now.made.memory.frame in
    let origin = g.D.Disk.shown c.args.lock.now.made.origin in
    let given = c.args.connection in
    let left = c.serve_session-report.new in
    let a = line (g.L.Link.shown given.link) (g.C.Clock.readings given.clock) (g.N.Recorder.noted given.recorder) in
    let b = line (g.L.Link.shown left.link) (g.C.Clock.readings left.clock) (g.N.Recorder.noted left.turns) in
    let access = shown_shared g.D.Disk.shown left.access in
    let session = rw c.new-access.ensures at c.serve_session-report.ensures in
    let pass = c.into_parts.ensures in
    let done = served c.args.limits.now frame origin c.args.lock.now.id c.args.pass c.into_parts.result c.requires.pass_is.of_lock a b c.serve_session-report.result.end
    access session (ap Some (sym pass.lock)) pass.number pass.seen pass.mine pass.own in
    record {
      served = done;
      finished = λ unused. record {
        finished = record {
          of_lock = ap Some (sym (done.leaves.lock ∙ c.requires.pass_is.of_lock));
          began = c.args.pass;
          unmade = c.requires.unmade;
          before = a;
          unused = unused;
          served = done;
        };
        number_is = done.leaves.number;
      };
    }
