use Rattle.std.proofs.Common.{arith, ◌≡◌, ◌<◌, length, refl}
use Rattle.plant_memory.proofs.ShownLemmas.{length-dates, past_at, rows-past, rows-last, column_in, column_shown}
use Rattle.plant_memory.proofs.history.History.column.Goals as goal

pub column-requires-clause-exists : goal.column-requires-clause-exists
column-requires-clause-exists c =
    let inside : c.args.k < length c.self.inside.ended.items = omega (arith, c.if-k-len.true, c.len.ensures, c.self.inside.ended.ok) in
    let is = past_at _ _ _ _ _ _ c.self.invariant.follow inside c.index.ensures in
    let has = rw (← c.self.view_is) at c.requires.exists in
    rw c.day.ensures (has.0, column_in _ c.index.result.now.day _ _ _ is.kinds_are has.1)

pub column-requires-clause-within : goal.column-requires-clause-within
column-requires-clause-within c =
    let inside : c.args.k < length c.self.inside.ended.items = omega (arith, c.if-k-len.true, c.len.ensures, c.self.inside.ended.ok) in
    rw (c.day.ensures, ← rows-past _ _ _ _ c.self.inside.faults.marks _ c.args.table _ c.self.invariant.follow inside c.index.ensures) (rw (← c.self.view_is) at c.requires.within)

pub returns-then-k-len : goal.returns-then-k-len
returns-then-k-len c =
    let inside : c.args.k < length c.self.inside.ended.items = omega (arith, c.if-k-len.true, c.len.ensures, c.self.inside.ended.ok) in
    let is = past_at _ _ _ _ _ _ c.self.invariant.follow inside c.index.ensures in
    rw (← c.self.view_is) (column_shown _ _ c.index.result.now.day _ _ _ _ _ _ is.kinds_are (rows-past _ _ _ _ c.self.inside.faults.marks _ c.args.table _ c.self.invariant.follow inside c.index.ensures) (rw c.day.ensures at c.column.ensures))

pub column-requires-2-clause-within : goal.column-requires-2-clause-within
column-requires-2-clause-within c =
    let size = length-dates _ _ _ _ c.self.inside.faults.marks c.self.invariant.follow in
    let below = rw (← c.self.view_is) at c.requires.date in
    let last : c.args.k ≡ length c.self.inside.ended.items = omega (arith, size, below, c.if-k-len.false, c.len.ensures, c.self.inside.ended.ok) in
    rw (← rows-last _ _ _ _ c.self.inside.faults.marks _ c.args.table c.self.invariant.follow last) (rw (← c.self.view_is) at c.requires.within)

pub returns : goal.returns
returns c =
    let size = length-dates _ _ _ _ c.self.inside.faults.marks c.self.invariant.follow in
    let below = rw (← c.self.view_is) at c.requires.date in
    let last : c.args.k ≡ length c.self.inside.ended.items = omega (arith, size, below, c.if-k-len.false, c.len.ensures, c.self.inside.ended.ok) in
    rw (← c.self.view_is) (column_shown _ _ c.self.inside.current.day _ _ _ _ _ _ refl (rows-last _ _ _ _ c.self.inside.faults.marks _ c.args.table c.self.invariant.follow last) c.column-2.ensures)
