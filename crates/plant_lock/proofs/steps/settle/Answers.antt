use Rattle.std.proofs.Common.{rules, length, ◌≤◌, subst, sym}
use Rattle.plant_lock.proofs.StepLemmas.{settles}
use Rattle.plant_lock.proofs.ListLemmas.{longer_first, longer_second}
use Rattle.plant_lock.proofs.steps.settle.Goals as goal

pub load-requires : goal.load-requires
load-requires g c = let v = c.args.seat.now.me.0 in (
  search rules,
  search rules,
  settles g.S.Chronicle.entries g.S.Chronicle.by g.S.Chronicle.frame _ _ _ _ (subst (λ l. length v.before ≤ length l) (sym c.requires.joined) (longer_first v.before v.told))
      (subst (λ l. length v.told ≤ length l) (sym c.requires.joined) (longer_second v.before v.told)),
)
