-- What a held state ends as, once a `&mut` to the state has ended.
use Rattle.std.specs.Prelude.{[]}
use Rattle.std.specs.Borrow.{Lends, MutBor, Fml, RattleType}
use mir.Syntax.{named}
use Rattle.plant_lock.specs.Told.{Taken}
use Rattle.plant_lock.specs.declared.chronicle.Chronicle.{Ghosts}
use Rattle.plant_lock.specs.contracts.held.Held.{the_row}

-- the same lock and pass, with the state w
abbrev pub with_state : {S E : Type 0} → Taken S E → S → Taken S E
with_state t w = record t { state = w }

-- the state is the last value written through r, and all else is as it was
abbrev pub LendsState : (S E F : RattleType) → Ghosts S.Denot E.Denot F.Denot → MutBor (Taken S.Denot E.Denot) → MutBor S.Denot → Fml
LendsState S E F g t r = Lends (the_row (record { mir = named 1; lft = [] }) S E F g) S t r (with_state t.now)
