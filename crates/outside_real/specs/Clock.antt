-- Readings of the machine's clock.
use Rattle.std.specs.Prelude.{◌≡◌, ℕ, ℤ, pos, ◌-ℤ◌, ◌-◌, ◌^◌, Result, Ok, Err}
use Rattle.std.specs.Int.{int_min}
use Rattle.std.specs.Duration.{as_nanos}
use Rattle.std.specs.declared.io.Error.{Error}
use Rattle.std.specs.declared.time.Duration.{Duration}
use Rattle.outside_api.specs.Counts.{counted}
use Rattle.outside_real.specs.declared.clock.RealClock.{RealClock}

-- the moment, in nanoseconds since 2000.01.01, that lies this many nanoseconds after 1970.01.01; it saturates
abbrev pub moment : ℕ → ℤ
moment since_1970 = int_min (pos since_1970 -ℤ pos 946684800000000000) (pos (2 ^ 63 - 1))

-- how many readings the system didn't give
abbrev pub clock_faults : {C : Type 0} → RealClock C → ℕ
clock_faults clock = clock.faults

-- the reading that an answer of the system makes: its time, or where it failed the reading before, and that is counted
abbrev pub Takes : {C : Type 0} → Result Duration Error → RealClock C → RealClock C → ℤ → Type 0
Takes (Ok since_1970) old new reading = (reading ≡ moment (as_nanos since_1970)) × (new ≡ record old { last = reading })
Takes (Err _) old new reading = (reading ≡ old.last) × (new ≡ record old { faults = counted old.faults 1 })

-- a reading that some answer of the system makes
abbrev pub Reads : {C : Type 0} → RealClock C → RealClock C → ℤ → Type 0
Reads old new reading = (answer : Result Duration Error) × Takes answer old new reading
