use Rattle.std.proofs.Common.{◌≡◌, ◌∙◌, ◌≤◌, ap, sym, subst, arith}
use mathlib.Core.List.{IsPrefix}
use Rattle.day_rows.specs.declared.entry.Entry.{Entry}
use Rattle.plant_lock.specs.Told.{Told, Noted}
use Rattle.plant_serving.proofs.WorkLemmas.{pass_of_lock, settled_as}
use Rattle.plant_serving.proofs.sessions.Sessions.settle.Goals as goal

pub note-pass-requires : goal.note-pass-requires
note-pass-requires g c = pass_of_lock _ _ _ _ _ _ _ _ _ _ _ _ c.requires.1 c.requires.2

pub learn-requires-clause-note : goal.learn-requires-clause-note
learn-requires-clause-note g c =
    ap (λ (n : Noted Entry). n.lock) c.note-pass.ensures.note ∙ pass_of_lock _ _ _ _ _ _ _ _ _ _ _ _ c.requires.1 c.requires.2

pub returns-clause-works : goal.returns-clause-works
returns-clause-works g c =
    let latest = ap (λ (t : Told Entry). t.latest) c.learn.ensures.pass in
    let later : c.args.self.first.latest ≤ c.learn.result.latest = omega (arith, latest) in
    let learnt : IsPrefix c.args.finished.pass.seen c.learn.result.seen =
    subst (λ xs. IsPrefix xs c.learn.result.seen) (ap (λ (n : Noted Entry). n.seen) c.note-pass.ensures.note) c.learn.ensures.told in
    settled_as _ _ _ _ _ _ _ _ _ _ _ _ _ _ _ c.after-self.ensures c.back.ensures (ap (λ (t : Told Entry). t.lock) c.learn.ensures.pass) later
    c.learn.ensures.seen learnt c.requires.2 c.requires.1
