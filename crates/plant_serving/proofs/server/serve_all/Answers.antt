use Rattle.std.proofs.Common.{◌≡◌, ◌∙◌, ap, sym}
use Rattle.day_rows.specs.declared.entry.Entry.{Entry}
use Rattle.plant_lock.specs.Told.{Told}
use Rattle.plant_serving.proofs.StartLemmas.{begun_as}
use Rattle.plant_serving.proofs.server.serve_all.Goals as goal

pub accept_all-sessions-requires-clause-works : goal.accept_all-sessions-requires-clause-works
accept_all-sessions-requires-clause-works g c κs within =
    let made = c.new-sessions.ensures in
    begun_as _ _ _ _ _ _ _ _ made.running made.progress (ap g.O.Outside.seen (sym c.of.ensures))
    (ap (λ (t : Told Entry). t.lock) made.first ∙ c.requires.of_lock) (ap (λ (t : Told Entry). t.seen) made.first ∙ c.requires.knows)
