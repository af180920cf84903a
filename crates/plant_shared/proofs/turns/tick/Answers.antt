use Rattle.std.proofs.Common.{◌≡◌, ◌∙◌, w64, to_z, of_z, rules, refl, ap, sym, subst}
use Rattle.day_rows.specs.declared.entry.Entry.{Entry}
use Rattle.plant_memory.specs.Memory.{MemoryView}
use Rattle.plant_lock.specs.Told.{Told}
use Rattle.plant_shared.specs.Took.{Took, given}
use Rattle.plant_shared.specs.Shared.{locked, IsLatest, TicksPass, latest_tick}
use Rattle.plant_shared.proofs.PassLemmas.{can_give, frame_kept, is_found, origin_is, is_given, stays_pass, tick_is}
use Rattle.plant_shared.proofs.SharedLemmas.{ticks_shared, latest_ticks}
use Rattle.plant_shared.proofs.turns.tick.Goals as goal

pub give-requires : goal.give-requires
give-requires g c =
    let taken = c.take-held.ensures in
    record {
      frame = frame_kept c.ticked-turn.new.plant c.state.result.now c.take-held.result.state c.args.lock.now.made c.take-held.result.lock.made c.ticked-turn.ensures.frame
          c.ticked-turn.ensures.origin c.state.ensures.state taken.frame (ap (λ l. l.made) taken.lock);
      history = can_give _ _ _ _ _ c.number-by.ensures
          (ap (λ p. p.memory.entries) c.state.ensures.state ∙ sym (ap (λ (t : Told Entry). t.seen) taken.pass)) c.ticked-turn.ensures.made;
    }

pub returns : goal.returns
returns g c =
    let now : to_z w64 (of_z w64 c.args.now) ≡ c.args.now = search rules in
    let taken = c.take-held.ensures in
    let old = c.args.pass in
    let plant : MemoryView = c.take-held.result.state.memory in
    let new : MemoryView = c.ticked-turn.new.plant.memory in
    let frame = c.args.lock.now.made.memory.frame in
    let home = locked (g.D.Disk.shown c.args.lock.now.made.origin) c.args.lock.now.id in
    let turn = c.ticked-turn.result in
    let took : Took frame old plant = record {
      rest = taken.history.0;
      whole = taken.history.1;
      frame_is = ap (λ u. u.frame) taken.frame;
      own_all = taken.own;
      own_seen = c.requires.own_is;
    } in
    let is : c.give.result ≡ given old plant new = is_given old c.take-held.result.pass c.give.result plant new taken.pass c.give.ensures.pass in
    let number : c.number-by.result ≡ old.number = c.number-by.ensures ∙ ap (λ (t : Told Entry). t.number) taken.pass in
    let same = c.state.ensures.state in
    let origin = origin_is g.D.Disk.shown c.args.lock.now.made c.take-held.result.state c.state.result.now taken.frame same in
    let made = tick_is _ _ plant c.state.result.now.memory new old.number c.number-by.result c.args.now turn origin (ap (λ p. p.memory) same) number
    (rw now at c.ticked-turn.ensures.turn) in
    record {
      pass = stays_pass c.args.lock.now.id old c.give.result plant new is c.requires c.give.ensures.own;
      number = ap (λ (t : Told Entry). t.number) is;
      turn = subst (λ (q : Told Entry). TicksPass frame home old q c.args.now turn) (sym is)
          (ticks_shared frame home _ old plant new took c.args.now turn made);
      step = record {
        before = c.take-held.result.state;
        after = c.ticked-turn.new.plant;
        found = is_found g.D.Disk.shown c.args.lock.now.made c.take-held.result.state c.state.result.now taken.frame same c.ticked-turn.ensures.before;
        left = record {
          unchanged = frame_kept c.ticked-turn.new.plant c.state.result.now c.take-held.result.state c.args.lock.now.made c.args.lock.now.made
              c.ticked-turn.ensures.frame c.ticked-turn.ensures.origin same taken.frame refl;
          sound = c.ticked-turn.ensures.after;
        };
        begins = taken.history;
        whole = ap (λ (t : Told Entry). t.seen) is;
        made = made;
      };
      latest = λ latest h. subst (λ (q : Told Entry). IsLatest q (latest_tick latest turn)) (sym is)
          (latest_ticks frame _ old plant new took latest h c.args.now turn made);
    }
