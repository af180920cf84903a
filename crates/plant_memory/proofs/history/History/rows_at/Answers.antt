use Rattle.std.proofs.Common.{arith, ◌≡◌, ◌∙◌, ◌<◌, length, ap, sym}
use Rattle.plant_memory.proofs.ShownLemmas.{length-dates, past_at, rows-past, rows-last}
use Rattle.plant_memory.proofs.history.History.rows_at.Goals as goal

pub rows-requires : goal.rows-requires
rows-requires c =
    let inside : c.args.k < length c.self.inside.ended.items = omega (arith, c.if-k-len.true, c.len.ensures, c.self.inside.ended.ok) in
    rw (c.day.ensures, (past_at _ _ _ _ _ _ c.self.invariant.follow inside c.index.ensures).kinds_are) (rw (← c.self.view_is) at c.requires.table)

pub returns-then-k-len : goal.returns-then-k-len
returns-then-k-len c =
    let inside : c.args.k < length c.self.inside.ended.items = omega (arith, c.if-k-len.true, c.len.ensures, c.self.inside.ended.ok) in
    rw (← c.self.view_is) ((rw c.day.ensures at c.rows.ensures) ∙ ap length (sym (rows-past _ _ _ _ c.self.inside.faults.marks _ c.args.table _ c.self.invariant.follow inside c.index.ensures)))

pub returns : goal.returns
returns c =
    let size = length-dates _ _ _ _ c.self.inside.faults.marks c.self.invariant.follow in
    let below = rw (← c.self.view_is) at c.requires.date in
    let last : c.args.k ≡ length c.self.inside.ended.items = omega (arith, size, below, c.if-k-len.false, c.len.ensures, c.self.inside.ended.ok) in
    rw (← c.self.view_is) (c.rows-2.ensures ∙ ap length (sym (rows-last _ _ _ _ c.self.inside.faults.marks _ c.args.table c.self.invariant.follow last)))
