use Rattle.std.proofs.Common.{◌≡◌, ◌∙◌, refl, ap, sym, subst}
use Rattle.day_rows.specs.declared.entry.Entry.{Entry}
use Rattle.plant_memory.specs.Memory.{MemoryView, SnapshotView}
use Rattle.plant_lock.specs.Told.{Told}
use Rattle.plant_shared.specs.Shared.{locked, SnapsPass}
use Rattle.std.specs.Prelude.{IfOk}
use Rattle.plant_core.proofs.TurnLemmas.{none_added}
use Rattle.plant_shared.proofs.PassLemmas.{looked}
use Rattle.plant_shared.proofs.SharedLemmas.{snaps_shared}
use Rattle.plant_shared.proofs.turns.snapshot.Goals as goal

pub give-requires-clause-history : goal.give-requires-clause-history
give-requires-clause-history g c =
    none_added _ _ _ (ap (λ p. p.memory.entries) c.state.ensures.state ∙ sym (ap (λ (t : Told Entry). t.seen) c.take-held.ensures.pass))

pub returns : goal.returns
returns g c =
    let taken = c.take-held.ensures in
    let old = c.args.pass in
    let plant : MemoryView = c.take-held.result.state.memory in
    let frame = c.args.lock.now.made.memory.frame in
    let home = locked (g.D.Disk.shown c.args.lock.now.made.origin) c.args.lock.now.id in
    let found = subst (λ (m : MemoryView). IfOk c.shown-answer.result (λ (s : SnapshotView). s ≡ record { frame = m.frame; entries = m.entries }))
    (ap (λ p. p.memory) c.state.ensures.state) c.shown-answer.ensures.answer in
    let after = looked g.D.Disk.shown c.args.lock.now.id c.args.lock.now.made c.take-held.result.state c.state.result.now old c.take-held.result.pass c.give.result
    c.requires taken.pass taken.history taken.frame taken.own c.state.ensures.state c.shown-answer.ensures.sound c.give.ensures.pass c.give.ensures.own in
    record {
      pass = after.pass;
      number = after.number;
      answer = subst (λ (q : Told Entry). SnapsPass frame home old q c.shown-answer.result) (sym after.is)
          (snaps_shared frame home old plant after.took c.shown-answer.result found);
      step = after.step _ (refl, found);
      latest = after.latest;
    }
