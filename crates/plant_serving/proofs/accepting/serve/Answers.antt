use Rattle.std.proofs.Common.{◌≡◌, ◌∙◌, ◌∷◌, ◌++◌, [], refl, ap, sym, subst}
use Rattle.std.specs.Prelude.{IsPermutation}
use Rattle.std.proofs.lemmas.List.Sorted.{IsPermutation-to_front}
use Rattle.outside_api.specs.Link.{IsFresh}
use Rattle.program_outside.specs.Outside.{linked_of}
use Rattle.plant_serving.specs.Serving.{Accepted, Begins, setting_of}
use Rattle.plant_serving.specs.Working.{Promised}
use Rattle.shared_sessions.specs.Sessions.{Line, IsUnused, line}
use Rattle.plant_serving.proofs.WorkLemmas.{accepts_as, drawn_begins, permuted}
use Rattle.plant_serving.proofs.accepting.serve.Goals as goal

pub wait_for-requires-after_bounds : goal.wait_for-requires-after_bounds
wait_for-requires-after_bounds g c κs within =
    let setting = setting_of c.args.server.now.shop.lock.now c.args.server.now.shop.limits.now in
    let made = c.connected-connection.result in
    let before : Line = line (g.O.Link.Link.shown made.link) (g.O.Clock.Clock.readings made.clock) (g.O.Recorder.Recorder.noted made.recorder) in
    let pass = c.pass-first.result.1 in
    let given : Accepted = record { before = before; began = pass } in
    let link = sym (ap g.O.Link.Link.shown c.connected-connection.ensures.link) in
    let unused : IsUnused before = record {
      link = subst IsFresh link c.requires.works.1.0;
      clock = c.connected-connection.ensures.clock;
      notes = c.connected-connection.ensures.recorder;
    } in
    let begins : Begins setting given =
    drawn_begins _ _ _ _ _ _ _ _ _ pass c.requires.works.2 unused c.pass-first.ensures.daughter c.pass-first.ensures.few c.pass-first.ensures.own in
    let now = c.connected-connection.ensures.same ∙ c.requires.works.1.1 ∙ ap (λ l. linked_of c.requires.works.0 l) link in
    accepts_as _ _ _ _ _ _ _ _ _ _ given c.in-Ok.running c.pass-first.ensures.mother c.in-Ok.ensures.started now c.requires.goes_on c.requires.few
    c.pass-first.ensures.differ.1 begins c.requires.works.2

pub settle-requires-after_bounds : goal.settle-requires-after_bounds
settle-requires-after_bounds g c κs within =
    let setting = setting_of c.args.server.now.shop.lock.now c.args.server.now.shop.limits.now in
    let made = c.connected-connection.result in
    let before : Line = line (g.O.Link.Link.shown made.link) (g.O.Clock.Clock.readings made.clock) (g.O.Recorder.Recorder.noted made.recorder) in
    let pass = c.pass-first.result.1 in
    let given : Accepted = record { before = before; began = pass } in
    let link = sym (ap g.O.Link.Link.shown c.connected-connection.ensures.link) in
    let unused : IsUnused before = record {
      link = subst IsFresh link c.requires.works.1.0;
      clock = c.connected-connection.ensures.clock;
      notes = c.connected-connection.ensures.recorder;
    } in
    let begins : Begins setting given =
    drawn_begins _ _ _ _ _ _ _ _ _ pass c.requires.works.2 unused c.pass-first.ensures.daughter c.pass-first.ensures.few c.pass-first.ensures.own in
    let now = c.connected-connection.ensures.same ∙ c.requires.works.1.1 ∙ ap (λ l. linked_of c.requires.works.0 l) link in
    let one : Promised g.row.D.Denot = record { setting = setting; accepted = given } in
    let works = accepts_as _ _ _ _ _ _ _ _ _ _ given one c.pass-first.ensures.mother refl now c.requires.goes_on c.requires.few
    c.pass-first.ensures.differ.1 begins c.requires.works.2 in
    (one, permuted _ _ _ _ _ _ _ _ _ (IsPermutation-to_front c.args.sessions.running.items one) works, c.in-Err.ensures.here)
