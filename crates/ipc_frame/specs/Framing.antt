-- What the calls of a framer do.
use Rattle.std.specs.Prelude.{◌≡◌, ◌+◌, ℕ, Bool, true, false, if◌then◌else◌, List, ◌++◌, length, take, MatchBool}
use Rattle.ipc_codec.specs.Written.{IsPlain, AtomsFit}
use Rattle.q_values.specs.Bytes.{HasNoNul}
use Rattle.q_values.specs.Tree.{Tree, tree}
use Rattle.q_values.specs.declared.limits.Limits.{Limits}
use Rattle.ipc_frame.specs.Stream.{Front, built, unbuilt, whole, fault, front_of, IsGreeting}
use Rattle.ipc_frame.specs.Taking.{Takes, NeedsGreeting, NeedsMessage, IsUnfinished}
use Rattle.ipc_frame.specs.View.{FramerView, told_place, passed}
use Rattle.ipc_frame.specs.declared.bad.Bad.TheVariants as b
use Rattle.ipc_frame.specs.declared.next.Next.{Next}
use Rattle.ipc_frame.specs.declared.next.Next.TheVariants as n

-- these bytes are less than the next handshake or message, and show no fault
abbrev pub IsNeeded : Limits → Bool → List ℕ → Type 0
IsNeeded limits greeted held = MatchBool greeted (NeedsMessage limits held) (NeedsGreeting limits held)

-- what `next` returns after the handshake, where `size` bytes are held from the offset `place` on, and this is their front
abbrev pub StandsFront : ℕ → ℕ → Front → Next → Type 0
StandsFront place size front (n.Greeting capability) = ⊥
StandsFront place size front (n.Message m) = front ≡ whole size (record { sync = m.sync; content = built (tree m.value) })
StandsFront place size front (n.NotBuilt sync at) = (k : ℕ) × (front ≡ whole size (record { sync = sync; content = unbuilt k })) × (at ≡ told_place (place + k))
StandsFront place size front (n.Skipped sync) = (t : Tree) × (front ≡ whole size (record { sync = sync; content = built t }))
StandsFront place size front n.Need = IsUnfinished front
StandsFront place size front (n.Bad code at) = (k : ℕ) × (front ≡ fault code k) × (at ≡ told_place (place + k))

-- these bytes are one more than a handshake may have before its NUL, with no NUL among them
pub record IsTooLong (limits : Limits) (held : List ℕ) : Type 0 where
  pub no_nul : HasNoNul held
  pub long : length held ≡ limits.greeting + 1

-- what `next` returns at the start of a stream, where these bytes are held
abbrev pub StandsGreeting : Limits → ℕ → List ℕ → Next → Type 0
StandsGreeting limits place held (n.Greeting capability) = IsGreeting limits held capability
StandsGreeting limits place held (n.Message m) = ⊥
StandsGreeting limits place held (n.NotBuilt sync at) = ⊥
StandsGreeting limits place held (n.Skipped sync) = ⊥
StandsGreeting limits place held n.Need = NeedsGreeting limits held
StandsGreeting limits place held (n.Bad code at) = IsTooLong limits held × (code ≡ b.Greeting) × (at ≡ told_place (place + limits.greeting))

-- what `next` returns
abbrev pub Stands : FramerView → Next → Type 0
Stands v next = MatchBool v.greeted (StandsFront v.place (length v.held) (front_of v.limits v.held) next) (StandsGreeting v.limits v.place v.held next)

-- whether the bytes of what is returned are dropped from the buffer: those of a handshake or a message are
abbrev pub is_passed : Next → Bool
is_passed (n.Greeting capability) = true
is_passed (n.Message m) = true
is_passed (n.NotBuilt sync at) = true
is_passed (n.Skipped sync) = true
is_passed n.Need = false
is_passed (n.Bad code at) = false

-- a value that is returned can be written
abbrev pub CanBeWritten : Next → Type 0
CanBeWritten (n.Greeting capability) = Unit {0}
CanBeWritten (n.Message m) = IsPlain (tree m.value) × AtomsFit (tree m.value)
CanBeWritten (n.NotBuilt sync at) = Unit {0}
CanBeWritten (n.Skipped sync) = Unit {0}
CanBeWritten n.Need = Unit {0}
CanBeWritten (n.Bad code at) = Unit {0}

-- a call of `next`: a handshake or a message is returned, and dropped from the buffer
pub record Gives (old : FramerView) (next : Next) (new : FramerView) : Type 0 where
  pub stands : Stands old next
  pub after : new ≡ (if is_passed next then passed old else old)

-- a call of `feed`: bytes of the piece are taken as long as they are needed
pub record Feeds (old : FramerView) (piece : List ℕ) (taken : ℕ) (new : FramerView) : Type 0 where
  pub takes : Takes (IsNeeded old.limits old.greeted) old.held piece taken
  pub after : new ≡ record old { held = old.held ++ take taken piece }
