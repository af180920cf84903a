use Rattle.std.proofs.Common.{arith, refl, ◌≡◌, ◌≤◌, ◌+◌, length, take}
use Rattle.std.proofs.lemmas.List.{take_all}
use Rattle.day_rows.specs.Blocks.{updates_in}
use Rattle.day_rows.proofs.KeptLemmas.{grows-whole, kept-grown, shown-planned, room-planned, enough-planned}
use Rattle.day_rows.proofs.StoreLemmas.{longer}
use Rattle.day_rows.proofs.updates.Updates.reserve.Goals as goal

pub extend-requires-clause-grows : goal.extend-requires-clause-grows
extend-requires-clause-grows c =
    let blocks = c.self.inside.store.blocks in
    let last = c.self.inside.store.last in
    let held = c.self.inside.store.held in
    let shown = c.self.inside.shown in
    let room = c.self.inside.room in
    let sealed = c.self.inside.sealed in
    let before = c.self.inside.before in
    let loose = c.self.inside.loose in
    let counts = c.self.inside.counts.items in
    let rows = c.self.inside.rows in
    grows-whole blocks last held shown room sealed before loose counts rows c.self.invariant (omega (arith, c.if-self.false, c.self.invariant.all_within))

pub invariant_of-self : goal.invariant_of-self
invariant_of-self c =
    let blocks = c.self.inside.store.blocks in
    let last = c.self.inside.store.last in
    let held = c.self.inside.store.held in
    let shown = c.self.inside.shown in
    let room = c.self.inside.room in
    let sealed = c.self.inside.sealed in
    let before = c.self.inside.before in
    let loose = c.self.inside.loose in
    let counts = c.self.inside.counts.items in
    let rows = c.self.inside.rows in
    let none : held ≡ shown = omega (arith, c.if-self.false, c.self.invariant.all_within) in
    let empty : room ≡ 0 = omega (arith, c.if-self.false, c.self.invariant.all_within) in
    let grew = c.extend.ensures.grew in
    let store = c.extend.ensures.store in
    let enough : shown + room ≤ c.extend.new.self.held = omega (arith, none, empty, longer (updates_in blocks last) (updates_in c.extend.new.self.blocks c.extend.new.self.last) grew.begins, c.self.invariant.store.held_is, store.held_is) in
    kept-grown blocks last held shown room sealed before loose counts rows c.extend.new.self.blocks c.extend.new.self.last c.extend.new.self.held room c.self.invariant none grew store enough (λ some. absurd (omega (arith, some, empty)))

pub invariant_of-self-2 : goal.invariant_of-self-2
invariant_of-self-2 c =
    let blocks = c.self.inside.store.blocks in
    let last = c.self.inside.store.last in
    let held = c.self.inside.store.held in
    let shown = c.self.inside.shown in
    let room = c.self.inside.room in
    let sealed = c.self.inside.sealed in
    let before = c.self.inside.before in
    let loose = c.self.inside.loose in
    let counts = c.self.inside.counts.items in
    let rows = c.self.inside.rows in
    let none : held ≡ shown = omega (arith, c.if-self.false, c.self.invariant.all_within) in
    let whole = updates_in blocks last in
    let size : length whole ≡ shown = omega (arith, none, c.self.invariant.store.held_is) in
    let enough = enough-planned shown c.extend.new.self.held c.extend.new.self.blocks c.extend.new.self.last whole c.args.entries.now c.in_ok-extend.ensures.ok size c.extend.ensures.store in
    kept-grown blocks last held shown room sealed before loose counts rows c.extend.new.self.blocks c.extend.new.self.last c.extend.new.self.held (length c.args.entries.now) c.self.invariant none c.extend.ensures.grew c.extend.ensures.store enough (λ some. c.in_ok-extend.ensures.grows)

pub returns-clause-ok : goal.returns-clause-ok
returns-clause-ok c =
    let blocks = c.self.inside.store.blocks in
    let last = c.self.inside.store.last in
    let held = c.self.inside.store.held in
    let shown = c.self.inside.shown in
    let room = c.self.inside.room in
    let sealed = c.self.inside.sealed in
    let before = c.self.inside.before in
    let loose = c.self.inside.loose in
    let counts = c.self.inside.counts.items in
    let rows = c.self.inside.rows in
    let none : held ≡ shown = omega (arith, c.if-self.false, c.self.invariant.all_within) in
    let was = updates_in blocks last in
    let size : length was ≡ shown = omega (arith, none, c.self.invariant.store.held_is) in
    let whole = updates_in c.extend.new.self.blocks c.extend.new.self.last in
    let all : take shown was ≡ was = take_all shown was (omega (arith, size)) in
    rw (← c.self.view_is, shown-planned shown whole was c.args.entries.now c.in_ok-extend.ensures.ok size, room-planned shown whole was c.args.entries.now c.in_ok-extend.ensures.ok size, all) refl
