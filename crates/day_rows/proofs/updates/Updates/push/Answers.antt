use Rattle.std.proofs.Common.{arith, refl, ap, ◌≡◌, ◌∙◌, ◌+◌, ◌-◌, ◌<◌, length, take}
use Rattle.std.proofs.lemmas.List.{length-set}
use Rattle.day_rows.specs.Blocks.{Kept, updates_in, mark_of}
use Rattle.day_rows.specs.Day.{total_rows}
use Rattle.day_rows.proofs.BlockLemmas.{take_more_got}
use Rattle.day_rows.proofs.KeptLemmas.{some-room, next-got, counts-fit, kept-pushed, room-left, loose-fits, sealed-few}
use Rattle.day_rows.proofs.updates.Updates.push.Goals as goal

pub place_after-sealed-requires-clause-fits : goal.place_after-sealed-requires-clause-fits
place_after-sealed-requires-clause-fits c =
    let blocks = c.self.inside.store.blocks in
    let last = c.self.inside.store.last in
    let held = c.self.inside.store.held in
    let shown = c.self.inside.shown in
    let room = c.self.inside.room in
    let sealed = c.self.inside.sealed in
    let before = c.self.inside.before in
    let loose = c.self.inside.loose in
    let counts = c.self.inside.counts.items in
    let rows = c.self.inside.rows in
    omega (arith, loose-fits blocks last held shown room sealed before loose counts rows c.self.invariant, c.rows_of_entry-rows.ensures, c.requires.bounded)

pub place_after-sealed-requires-clause-few : goal.place_after-sealed-requires-clause-few
place_after-sealed-requires-clause-few c =
    let blocks = c.self.inside.store.blocks in
    let last = c.self.inside.store.last in
    let held = c.self.inside.store.held in
    let shown = c.self.inside.shown in
    let room = c.self.inside.room in
    let sealed = c.self.inside.sealed in
    let before = c.self.inside.before in
    let loose = c.self.inside.loose in
    let counts = c.self.inside.counts.items in
    let rows = c.self.inside.rows in
    omega (arith, sealed-few blocks last held shown room sealed before loose counts rows c.self.invariant, c.count_one-shown.ensures)

pub add_rows-requires-clause-fits : goal.add_rows-requires-clause-fits
add_rows-requires-clause-fits c =
    let whole = updates_in c.self.inside.store.blocks c.self.inside.store.last in
    let table = ap (λ (k : Kept). k.tables) c.self.view_is in
    let rows = ap (λ (k : Kept). total_rows k.updates) c.self.view_is in
    let t_in : (mark_of c.args.entry.now).table < length c.self.inside.counts.items = omega (arith, table, c.requires.table) in
    omega (arith, counts-fit (take c.self.inside.shown whole) c.args.entry.now c.self.inside.counts.items c.self.inside.rows c.self.inside.sealed c.self.inside.loose c.self.invariant.counted t_in, rows, c.requires.bounded)

pub count_one-shown-requires : goal.count_one-shown-requires
count_one-shown-requires c =
    let whole = updates_in c.self.inside.store.blocks c.self.inside.store.last in
    let next = rw (← c.self.view_is) at c.requires.next in
    omega (arith, some-room whole c.self.inside.shown c.self.inside.room c.args.entry.now next, c.self.invariant.all_within)

pub invariant_of-self : goal.invariant_of-self
invariant_of-self c =
    let whole = updates_in c.self.inside.store.blocks c.self.inside.store.last in
    let next = rw (← c.self.view_is) at c.requires.next in
    let table = ap (λ (k : Kept). k.tables) c.self.view_is in
    let t_in : (mark_of c.args.entry.now).table < length c.self.inside.counts.items = omega (arith, table, c.requires.table) in
    let left : (c.self.inside.room - 1) + 1 ≡ c.self.inside.room = omega (arith, some-room whole c.self.inside.shown c.self.inside.room c.args.entry.now next) in
    let seals = rw (c.rows_of_entry-rows.ensures, c.count_one-shown.ensures) at c.place_after-sealed.ensures.full in
    let opens = rw (c.rows_of_entry-rows.ensures) at c.place_after-sealed.ensures.open in
    rw (c.add_rows.ensures, c.rows_of_entry-rows.ensures, c.count_one-shown.ensures) (kept-pushed _ _ _ _ _ _ _ _ _ _ c.args.entry.now _ _ _ _ c.self.invariant next t_in left seals opens)

pub returns : goal.returns
returns c =
    let whole = updates_in c.self.inside.store.blocks c.self.inside.store.last in
    let next = rw (← c.self.view_is) at c.requires.next in
    let left : (c.self.inside.room - 1) + 1 ≡ c.self.inside.room = omega (arith, some-room whole c.self.inside.shown c.self.inside.room c.args.entry.now next) in
    let size = ap length c.add_rows.ensures ∙ length-set c.self.inside.counts.items _ _ in
    let grown = take_more_got whole c.self.inside.shown c.args.entry.now (next-got whole c.self.inside.shown c.self.inside.room c.args.entry.now next) in
    let less = room-left whole c.self.inside.shown c.self.inside.room (c.self.inside.room - 1) left in
    rw (← c.self.view_is, size, c.count_one-shown.ensures, grown, less) refl
