use Rattle.std.proofs.Common.{arith, ◌≡◌, ◌∙◌, ◌<◌, ◌-◌, length, w32, to_z, of_z, rules, ap}
use Rattle.plant_memory.specs.History.{Past}
use Rattle.plant_memory.proofs.ShownLemmas.{length-dates, date_at-zero, date_at-next}
use Rattle.plant_memory.proofs.history.History.date_at.Goals as goal

pub returns-then-k-eq0 : goal.returns-then-k-eq0
returns-then-k-eq0 c =
    let same : to_z w32 (of_z w32 c.self.inside.first) ≡ c.self.inside.first = search rules in
    rw (← c.self.view_is) (same ∙ date_at-zero _ _ _ _ c.self.inside.faults.marks _ c.self.invariant.follow c.if-k-eq0.true)

pub index-requires : goal.index-requires
index-requires c =
    let size = length-dates _ _ _ _ c.self.inside.faults.marks c.self.invariant.follow in
    let below = rw (← c.self.view_is) at c.requires in
    omega (arith, size, below, c.self.inside.ended.ok, c.if-k-eq0.false)

pub returns : goal.returns
returns c =
    let same : to_z w32 (of_z w32 c.behind-self.inside.next) ≡ c.behind-self.inside.next = search rules in
    let size = length-dates _ _ _ _ c.self.inside.faults.marks c.self.invariant.follow in
    let below = rw (← c.self.view_is) at c.requires in
    let inside : c.args.k - 1 < length c.self.inside.ended.items = omega (arith, size, below, c.if-k-eq0.false) in
    let some : 0 < c.args.k = omega (arith, c.if-k-eq0.false) in
    rw (← c.self.view_is) (same ∙ ap (λ (p : Past). p.next) c.behind-self.view_is ∙ date_at-next _ _ _ _ c.self.inside.faults.marks _ _ c.self.invariant.follow some inside c.index.ensures)
