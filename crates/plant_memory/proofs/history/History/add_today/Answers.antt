use Rattle.std.proofs.Common.{◌≡◌, ◌∙◌, ◌-◌, ap, ap₂, sym, arith, length, take, drop}
use Rattle.std.proofs.lemmas.List.{take_rest}
use Rattle.plant_memory.specs.Chronicle.{today}
use Rattle.plant_memory.specs.Faults.{woven, shortened}
use Rattle.plant_memory.proofs.FaultLemmas.{length-woven}
use Rattle.plant_memory.proofs.HistoryLemmas.{today-chronicle}
use Rattle.plant_memory.proofs.history.History.add_today.Goals as goal

pub place_of-place-requires : goal.place_of-place-requires
place_of-place-requires c =
    let marks = c.self.inside.faults.marks in
    let updates = c.self.inside.current.day.updates in
    let own : today c.args.self.now.entries ≡ woven marks updates = rw (← c.self.view_is) (today-chronicle _ _ _ _ marks c.self.invariant.follow) in
    omega (arith, ap length own, length-woven marks updates, c.update_count.ensures, ap length c.marks.ensures, c.requires)

pub returns : goal.returns
returns c =
    let marks = c.self.inside.faults.marks in
    let updates = c.self.inside.current.day.updates in
    let place = c.place_of-place.result in
    let own : today c.args.self.now.entries ≡ woven marks updates = rw (← c.self.view_is) (today-chronicle _ _ _ _ marks c.self.invariant.follow) in
    let rest : drop c.args.from (woven c.marks.result.now updates) ≡ woven (shortened place.since (drop place.faults c.marks.result.now)) (drop place.updates updates) = c.place_of-place.ensures.rest updates (sym c.update_count.ensures) in
    let all : woven (shortened place.since (take (length c.marks-2.result.now - place.faults) (drop place.faults c.marks-2.result.now))) c.in_ok-updates.updates ≡ drop c.args.from (today c.args.self.now.entries) =
    ap₂ (λ ms us. woven (shortened place.since ms) us) (take_rest c.marks-2.result.now place.faults ∙ ap (drop place.faults) (c.marks-2.ensures ∙ sym c.marks.ensures)) c.in_ok-updates.ensures ∙ sym rest ∙ ap (λ ms. drop c.args.from (woven ms updates)) c.marks.ensures ∙ ap (drop c.args.from) (sym own) in
    rw all at c.weave.ensures
