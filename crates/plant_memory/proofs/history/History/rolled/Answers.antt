use Rattle.std.proofs.Common.{ap, ◌≡◌, ◌∙◌, ◌++◌, ◌∷◌, [], sym, refl, ℤ, w32, to_z, of_z, rules}
use Rattle.day_rows.specs.Chronicle.{date_of}
use Rattle.day_rows.specs.Day.{Opened}
use Rattle.plant_memory.specs.Faults.{FaultsView, woven}
use Rattle.plant_memory.specs.History.{Past}
use Rattle.plant_memory.proofs.HistoryLemmas.{history-rolled, entries-rolled, date_of-chronicle}
use Rattle.plant_memory.proofs.history.History.rolled.Goals as goal

pub invariant_of-result : goal.invariant_of-result
invariant_of-result c =
    let first : to_z w32 (of_z w32 c.self.inside.first) ≡ c.self.inside.first = search rules in
    let n : ℤ = to_z w32 (of_z w32 c.args.date) in
    let same : n ≡ c.args.date = search rules in
    let past : Past = record { day = c.self.inside.current.day; marks = c.self.inside.faults.marks; by = c.args.by; next = n } in
    let marks = ap (λ (f : FaultsView). f.marks) (c.in_ok-new.ensures.ok ∙ c.in_ok-copy.ensures) in
    let items : c.in_ok-ended.ended.items ≡ c.self.inside.ended.items ++ past ∷ [] = c.in_ok-ended.ensures ∙ rw (c.deref.ensures.value, c.in_ok-closed.ensures, marks) refl in
    let there : date_of c.args.self.now.first c.args.self.now.entries ≡ c.self.inside.current.day.date = rw (← c.self.view_is) (date_of-chronicle _ _ _ _ c.self.inside.faults.marks c.self.invariant.follow) in
    rw (first, items, c.in_ok-new-2.ensures) (
    history-rolled _ _ past c.in_ok-current.current.day _ _ _ _ _ _ c.self.invariant (ap (λ (o : Opened). o.day.date) c.in_ok-current.ensures)
    (ap (λ (o : Opened). o.day.kinds) c.in_ok-current.ensures ∙ sym (rw (← c.self.view_is) at c.requires.schema)) (ap (λ (o : Opened). o.day.updates) c.in_ok-current.ensures)
    (rw (same, ← there) c.requires.later) (rw same c.requires.last) c.max.ensures c.requires.by
    )

pub returns : goal.returns
returns c =
    let first : to_z w32 (of_z w32 c.self.inside.first) ≡ c.self.inside.first = search rules in
    let n : ℤ = to_z w32 (of_z w32 c.args.date) in
    let same : n ≡ c.args.date = search rules in
    let past : Past = record { day = c.self.inside.current.day; marks = c.self.inside.faults.marks; by = c.args.by; next = n } in
    let marks = ap (λ (f : FaultsView). f.marks) (c.in_ok-new.ensures.ok ∙ c.in_ok-copy.ensures) in
    let items : c.in_ok-ended.ended.items ≡ c.self.inside.ended.items ++ past ∷ [] = c.in_ok-ended.ensures ∙ rw (c.deref.ensures.value, c.in_ok-closed.ensures, marks) refl in
    let firsts = first ∙ ap (λ h. h.first) c.self.view_is in
    let kinds = ap (λ (o : Opened). o.day.kinds) c.in_ok-current.ensures ∙ sym c.requires.schema in
    let entries = entries-rolled _ _ past _ _ _ items (λ i. woven (c.in_ok-new-2.ensures i).marks (c.in_ok-current.ensures i).day.updates) (ap (λ h. h.entries) c.self.view_is) same in
    let room = ap (λ (o : Opened). o.room) c.in_ok-current.ensures in
    let spare = ap (λ (f : FaultsView). f.spare) c.in_ok-new-2.ensures in
    λ i. record { first = firsts i; kinds = kinds i; entries = entries i; room = room i; spare = spare i }
