use Rattle.std.proofs.Common.{rules}
use Rattle.plant_lock.proofs.StepLemmas.{serves}
use Rattle.plant_lock.proofs.steps.serve_next.Goals as goal

pub fetch_add-served-requires : goal.fetch_add-served-requires
fetch_add-served-requires g c = let h = c.requires.holds in
    (search rules, search rules, serves g.S.Chronicle.entries g.S.Chronicle.by g.S.Chronicle.frame _ _ _ _ h.0 h.1 h.2 h.3 h.4)
