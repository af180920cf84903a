use Rattle.std.proofs.Common.{rules, arith, ap, ◌∙◌, sym}
use Rattle.plant_lock.proofs.StepLemmas.{splits}
use Rattle.plant_lock.proofs.ListLemmas.{own_fresh}
use Rattle.plant_lock.proofs.lock.PlantLock.pass.Goals as goal

pub split_seat-daughter-requires : goal.split_seat-daughter-requires
split_seat-daughter-requires g c = (search rules, search rules, splits g.S.Chronicle.entries g.S.Chronicle.by g.S.Chronicle.frame _ _ _)

pub split_seat-told-requires : goal.split_seat-told-requires
split_seat-told-requires g c = (search rules, search rules, splits g.S.Chronicle.entries g.S.Chronicle.by g.S.Chronicle.frame _ _ _)

pub returns-clause-own : goal.returns-clause-own
returns-clause-own g c = let drawn = c.draw_number-drawn in
    rw (c.of_seat-2.ensures, c.split_seat-told.ensures.2, drawn.ensures.drawn)
    (own_fresh g.S.Chronicle.by drawn.result drawn.result c.split_seat-daughter.result.me.0.seen drawn.ensures.undrawn (omega arith) ∙ sym (ap (λ m. m.0.mine) c.split_seat-daughter.ensures.4))
