use Rattle.std.proofs.Common.{sym, ◌∙◌}
use Rattle.session.proofs.DeviceLemmas.{devices-none, devices-devices}
use Rattle.session.proofs.RunLemmas.{runs_none, same_frame, fits_on, goes_on, goes_to_end}
use Rattle.session.proofs.session.Session.serve_all.Goals as goal

pub loop-init : goal.loop-init
loop-init g c = (tt, tt, devices-none c.args.self.now, runs_none c.args.self.now.limits.now 0 _ _ _ _ _ _ _ c.requires.known c.requires.first, c.requires.some)

pub serve_next-requires-clause-limits : goal.serve_next-requires-clause-limits
serve_next-requires-clause-limits g c = rw c.loop.invariant.2.limits c.requires.limits

pub serve_next-requires-clause-same : goal.serve_next-requires-clause-same
serve_next-requires-clause-same g c = same_frame c.args.self.now.limits.now 0 _ _ _ _ _ _ _ _ c.loop.invariant.3 c.requires.same ∙ sym c.loop.invariant.2.limits

pub serve_next-requires-clause-known : goal.serve_next-requires-clause-known
serve_next-requires-clause-known g c = c.loop.invariant.3.limits_same ∙ sym c.loop.invariant.2.limits

pub serve_next-requires-clause-some : goal.serve_next-requires-clause-some
serve_next-requires-clause-some g c = c.loop.invariant.4

pub serve_next-requires-clause-fits : goal.serve_next-requires-clause-fits
serve_next-requires-clause-fits g c = fits_on c.args.self.now.limits.now 0 _ _ _ _ _ _ _ _ c.loop.invariant.3 c.requires.fits

pub returns-in-Some-serve_next-clause-converses : goal.returns-in-Some-serve_next-clause-converses
returns-in-Some-serve_next-clause-converses g c = goes_to_end c.args.self.now.limits.now 0 _ _ _ _ _ _ _ _ _ _ c.loop.invariant.3 (λ q at. rw c.loop.invariant.2.limits at (c.in-Some-serve_next.ensures.goes q at))

pub loop-preserved : goal.loop-preserved
loop-preserved g c =
    let served = c.in-None-serve_next.ensures in
    let more = goes_on c.args.self.now.limits.now 0 _ _ _ _ _ _ _ _ _ _ _ _ c.loop.invariant.3 (λ q at. rw c.loop.invariant.2.limits at (served.goes q at)) in
    (tt, tt, devices-devices _ _ _ c.loop.invariant.2 served.same, more.0, more.1)
