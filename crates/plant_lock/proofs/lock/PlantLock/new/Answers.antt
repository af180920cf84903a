use Rattle.std.proofs.Common.{arith, refl}
use Rattle.plant_lock.proofs.StepLemmas.{starts}
use Rattle.plant_lock.proofs.ListLemmas.{own_fresh}
use Rattle.plant_lock.proofs.lock.PlantLock.new.Goals as goal

pub new-made-requires : goal.new-made-requires
new-made-requires g c = let h = g.S.Chronicle in
    rw (c.in_ok-slots.ensures.ok, c.of.ensures) (starts h.entries h.by h.frame (h.frame c.args.state) c.args.state c.args.first _ _ refl c.length.ensures refl c.requires.fresh)

pub returns-in-Ok-clause-own : goal.returns-in-Ok-clause-own
returns-in-Ok-clause-own g c = let h = g.S.Chronicle in
    rw (c.of_seat.ensures, c.in-Ok.ensures.ok.4, c.of.ensures) (own_fresh h.by c.args.first c.args.first (h.entries c.args.state) c.requires.fresh (omega arith))
