use Rattle.std.proofs.Common.{arith, refl, ◌∷◌, []}
use Rattle.std.proofs.lemmas.Option.{slice_get_within}
use Rattle.std.proofs.lemmas.List.Sums.{sum_by-append}
use Rattle.day_rows.specs.Day.{IsUpdate, opened_of, entry_rows}
use Rattle.day_rows.proofs.BlockLemmas.{all-right, marked, sum-one}
use Rattle.day_rows.proofs.DayLemmas.{day-pushed}
use Rattle.day_rows.proofs.open_day.OpenDay.push.Goals as goal

pub push-requires-clause-next : goal.push-requires-clause-next
push-requires-clause-next c = rw (← c.self.view_is) at c.requires

pub push-requires-clause-table : goal.push-requires-clause-table
push-requires-clause-table c =
    let opened = opened_of c.self.inside.date c.self.inside.tables.items c.self.inside.updates.updates c.self.inside.updates.room in
    let next = rw (← c.self.view_is) at c.requires in
    let grown = day-pushed opened c.args.entry c.self.invariant.0 c.self.invariant.1 next in
    let m = marked c.self.inside.tables.items c.args.entry (all-right (IsUpdate c.self.inside.tables.items) c.self.inside.updates.updates (c.args.entry ∷ []) grown.0.updates).0 in
    omega (arith, slice_get_within c.self.inside.tables.items _ m.0 m.1, c.self.invariant.2)

pub push-requires-clause-bounded : goal.push-requires-clause-bounded
push-requires-clause-bounded c =
    let opened = opened_of c.self.inside.date c.self.inside.tables.items c.self.inside.updates.updates c.self.inside.updates.room in
    let next = rw (← c.self.view_is) at c.requires in
    let grown = day-pushed opened c.args.entry c.self.invariant.0 c.self.invariant.1 next in
    omega (arith, grown.0.bounded, sum_by-append entry_rows c.self.inside.updates.updates (c.args.entry ∷ []), sum-one entry_rows 0 c.args.entry)

pub invariant_of-self : goal.invariant_of-self
invariant_of-self c =
    let opened = opened_of c.self.inside.date c.self.inside.tables.items c.self.inside.updates.updates c.self.inside.updates.room in
    let next = rw (← c.self.view_is) at c.requires in
    let grown = day-pushed opened c.args.entry c.self.invariant.0 c.self.invariant.1 next in
    rw c.push.ensures (grown.0, grown.1, c.self.invariant.2)

pub returns : goal.returns
returns c = rw (c.push.ensures, ← c.self.view_is) refl
