-- The devices of a session's state, and what a part of a session leaves as it was.
use Rattle.std.specs.Prelude.{◌≡◌, ℤ, false, List, length, Option}
use Rattle.std.specs.Borrow.{MutBor}
use Rattle.outside_api.specs.Link.{LinkView}
use Rattle.plant_core.specs.Access.{AccessView}
use Rattle.q_values.specs.declared.turn.Turn.{Turn}
use Rattle.session.specs.Run.{World, world}
use Rattle.session.specs.State.{State, is_owed}
use Rattle.session.specs.declared.session.Session.{Session}

-- a field holds the reference that was given, and its value is unchanged
pub record IsLent {T : Type 0} (given field : MutBor T) : Type 0 where
  pub same : field.ghost_name ≡ given.ghost_name
  pub value : field.now ≡ given.now

-- what a session's devices show, by what each of them shows
abbrev pub world_of : {A L C G N : Type 0} → (A → AccessView) → (L → LinkView) → (C → Option (List ℤ)) → (N → Option (List Turn)) → Session A L C G N → World
world_of access link clock notes s = world (link s.link.now) (clock s.clock.now) (notes s.recorder.now) (access s.access.now)

-- what a session knows between two events, by what its access shows
abbrev pub state_of : {A L C G N : Type 0} → (A → AccessView) → Session A L C G N → State
state_of access s = record { known = length (access s.access.now).seen; subscriber = s.client.now.subscriber; due = false }

-- the same when an event was served, and publications haven't been looked for
abbrev pub served_of : {A L C G N : Type 0} → (A → AccessView) → Session A L C G N → State
served_of access s = record {
  known = length (access s.access.now).seen;
  subscriber = s.client.now.subscriber;
  due = is_owed s.client.now.subscriber (length (access s.access.now).seen);
}

-- the session still has its devices and its limits
pub record HasSameDevices {A L C G N : Type 0} (old new : Session A L C G N) : Type 0 where
  pub access : new.access.ghost_name ≡ old.access.ghost_name
  pub link : new.link.ghost_name ≡ old.link.ghost_name
  pub clock : new.clock.ghost_name ≡ old.clock.ghost_name
  pub recorder : new.recorder.ghost_name ≡ old.recorder.ghost_name
  pub limits : new.limits.now ≡ old.limits.now

-- nothing was read from the link, and no read timed out
pub record HearsNothing {A L C G N : Type 0} (old new : Session A L C G N) : Type 0 where
  pub devices : HasSameDevices old new
  pub reader : new.client.now.reader ≡ old.client.now.reader
  pub idles_left : new.idles_left ≡ old.idles_left

-- nothing was read, and the subscriber is as it was
pub record KeepsSubscriber {A L C G N : Type 0} (old new : Session A L C G N) : Type 0 where
  pub unheard : HearsNothing old new
  pub subscriber : new.client.now.subscriber ≡ old.client.now.subscriber

-- nothing was read, written or noted
pub record OnlyAsks {A L C G N : Type 0} (old new : Session A L C G N) : Type 0 where
  pub unheard : KeepsSubscriber old new
  pub link : new.link.now ≡ old.link.now
  pub recorder : new.recorder.now ≡ old.recorder.now
