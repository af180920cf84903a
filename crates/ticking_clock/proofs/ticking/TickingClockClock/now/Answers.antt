use Rattle.std.proofs.Common.{rules, ◌≡◌, ◌∙◌, suc, w64, to_z, of_z}
use Rattle.ticking_clock.specs.Clock.{tick, ticks}
use Rattle.ticking_clock.proofs.ticking.TickingClockClock.now.Goals as goal

pub invariant_of-self : goal.invariant_of-self
invariant_of-self g c =
    let n = c.self.invariant.1.0 in
    let same : to_z w64 (of_z w64 c.saturating_add-self-inside.result) ≡ c.saturating_add-self-inside.result = search rules in
    let given : c.push.new.self ≡ ticks g.K.Ticks.start g.K.Ticks.step (suc n) = search rules in
    let next : c.saturating_add-self-inside.result ≡ tick g.K.Ticks.start g.K.Ticks.step (suc n) = search rules in
    (c.self.invariant.0, (suc n, given, same ∙ next))
