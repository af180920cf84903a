-- A server at work: the sessions that it has accepted and those that it has handed back.
use Rattle.std.specs.Prelude.{◌≡◌, ◌≢◌, ◌<◌, ◌≤◌, ℕ, Bool, true, false, List, [], ◌∷◌, ◌++◌, length, map, All, Option, Some, None, IsPermutation}
use mathlib.Core.List.{IsPrefix}
use Rattle.day_rows.specs.declared.entry.Entry.{Entry}
use Rattle.day_rows.specs.declared.schema.Shape.{Shape}
use Rattle.outside_api.specs.Disk.{DiskView}
use Rattle.plant_core.specs.Plant.{PlantView}
use Rattle.plant_lock.specs.Told.{Lock, Told}
use Rattle.plant_serving.specs.declared.end.ServeEnd.{ServeEnd}
use Rattle.plant_serving.specs.declared.end.ServeEnd.TheVariants as v
use Rattle.plant_serving.specs.declared.end.Progress.{Progress}
use Rattle.plant_serving.specs.Serving.{Setting, Accepted, Session, Begins, IsEnded, WasServed, NumbersRise, served_of, setting_of}
use Rattle.program_outside.specs.Outside.{OutsideView}
use Rattle.q_values.specs.Limits.{AreLimits}
use Rattle.q_values.specs.declared.limits.Limits.{Limits}
use Rattle.session.specs.declared.end.End.{End}
use Rattle.session.specs.declared.end.End.TheVariants as e
use Rattle.shared_sessions.specs.Sessions.{Line}

-- what a thread promises of its session: it began so, and in this setting
pub record Promised (D : Type 0) : Type 0 where
  pub setting : Setting D
  pub accepted : Accepted

-- what the thread of a session promises that is served through this lock, with these limits, devices and pass
abbrev pub promised : {D : Type 0} → Lock (PlantView D) → Limits → Line → Told Entry → Promised D
promised lock limits before began = record { setting = setting_of lock limits; accepted = record { before = before; began = began } }

-- that session was served
abbrev pub ServesOne : {D : Type 0} → (D → DiskView) → Lock (PlantView D) → Limits → Line → Told Entry → Line → Told Entry → End → Type 0
ServesOne shown lock limits before began after pass end =
    IsEnded shown (setting_of lock limits) (record { before = before; began = began }) after pass end

-- a session that is waited for
pub record IsAwaited {D : Type 0} (setting : Setting D) (promised : Promised D) : Type 0 where
  pub setting_is : promised.setting ≡ setting
  pub begins : Begins setting promised.accepted

-- the limits and tables are those of the plant
pub record IsLawful {D : Type 0} (setting : Setting D) (schema : List Shape) : Type 0 where
  pub limits_are : setting.frame.limits ≡ setting.limits
  pub lawful : AreLimits setting.limits
  pub schema_is : schema ≡ setting.frame.schema

-- how often an accept failed, by why no more are accepted
abbrev pub faults_of : Option ServeEnd → ℕ
faults_of None = 0
faults_of (Some v.Served) = 0
faults_of (Some (v.NotAccepted cause)) = 1
faults_of (Some v.NoMemory) = 0

-- why no more than `accepted` of `count` connections are accepted, if so
abbrev pub IsStop : ℕ → ℕ → Option ServeEnd → Type 0
IsStop accepted count None = accepted ≤ count
IsStop accepted count (Some v.Served) = ⊥
IsStop accepted count (Some (v.NotAccepted cause)) = accepted < count
IsStop accepted count (Some v.NoMemory) = accepted ≤ count

-- whether a session that ended so was out of memory
abbrev pub is_short_end : End → Bool
is_short_end e.Closed = false
is_short_end e.Truncated = false
is_short_end (e.BadMessage code at) = false
is_short_end e.ReadFault = false
is_short_end e.WriteFault = false
is_short_end e.Idle = false
is_short_end e.NoMemory = true

-- how a server ends, by why it accepted no more, and by whether a session was out of memory
abbrev pub end_of : Option ServeEnd → Bool → ServeEnd
end_of (Some why) short = why
end_of None true = v.NoMemory
end_of None false = v.Served

-- no more are to be accepted
abbrev pub IsDone : Progress → ℕ → Type 0
IsDone progress count = progress.stopped ≡ None → progress.accepted ≡ count

-- Where a server stands that began when its outside showed `old`: which sessions it has accepted and which it has handed back. Its
-- first pass has seen what each of those had seen in the end
pub record Works {D : Type 0} (shown : D → DiskView) (setting : Setting D) (count : ℕ) (old : OutsideView) (first : Told Entry)
    (running : List (Promised D)) (progress : Progress) (now : OutsideView) : Type 0 where
  pub accepted : List Accepted
  pub handed : List Session
  pub number_is : length accepted ≡ progress.accepted
  pub of_lock : first.lock ≡ setting.lock
  pub knows : IsPrefix setting.loaded first.seen
  pub once : IsPermutation (map (λ s. s.accepted) handed ++ map (λ p. p.accepted) running) accepted
  pub each : All (WasServed shown setting) handed
  pub awaited : All (IsAwaited setting) running
  pub rise : NumbersRise 0 accepted
  pub drawn : All (λ a. a.began.number ≤ first.latest) accepted
  pub seen : All (λ s. IsPrefix s.pass.seen first.seen) handed
  pub told_is : now ≡ served_of old accepted handed (faults_of progress.stopped)
  pub short_is : progress.is_short ≡ false → All (λ s. s.end ≢ e.NoMemory) handed
  pub stop : IsStop progress.accepted count progress.stopped

-- the same when all have been handed back
pub record Finishes {D : Type 0} (shown : D → DiskView) (setting : Setting D) (count : ℕ) (old : OutsideView) (first : Told Entry) (end : ServeEnd)
    (now : OutsideView) : Type 0 where
  pub progress : Progress
  pub works : Works shown setting count old first [] progress now
  pub done : IsDone progress count
  pub end_is : end ≡ end_of progress.stopped progress.is_short
