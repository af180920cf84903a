-- What a session hears in the bytes of a stream.
use Rattle.std.specs.Prelude.{◌≡◌, ◌+◌, ℕ, Bool, true, false, List, [], ◌∷◌, ◌++◌, length, Option, Some, None}
use Rattle.ipc_frame.specs.Stream.{Message, IsFrame, IsGreeting}
use Rattle.q_values.specs.declared.limits.Limits.{Limits}
use Rattle.session.specs.Served.{Event, greeted, asked, idled, published}

-- The bytes from this offset of the stream on are exactly those of these events: the handshake, where it hasn't been
-- heard before, and then messages, in order. A read timeout and a publication have no bytes.
abbrev pub Hears : Limits → Bool → ℕ → List ℕ → List Event → Bool → Type 0
Hears limits before place bytes [] after = (bytes ≡ []) × (after ≡ before)
Hears limits false place bytes (greeted capability ∷ events) after =
    (greeting : List ℕ) × (rest : List ℕ) × (bytes ≡ greeting ++ rest) × IsGreeting limits greeting capability
    × Hears limits true (place + length greeting) rest events after
Hears limits true place bytes (greeted capability ∷ events) after = ⊥
Hears limits false place bytes (asked message ∷ events) after = ⊥
Hears limits true place bytes (asked message ∷ events) after =
    (first : List ℕ) × (rest : List ℕ) × (bytes ≡ first ++ rest) × IsFrame limits place first message
    × Hears limits true (place + length first) rest events after
Hears limits before place bytes (idled ∷ events) after = Hears limits before place bytes events after
Hears limits before place bytes (published ∷ events) after = Hears limits before place bytes events after

-- the capability of the handshake, if it was heard
abbrev pub greeting_heard : List Event → Option ℕ
greeting_heard [] = None
greeting_heard (greeted capability ∷ events) = Some capability
greeting_heard (asked message ∷ events) = greeting_heard events
greeting_heard (idled ∷ events) = greeting_heard events
greeting_heard (published ∷ events) = greeting_heard events

-- the messages that were heard, in order
abbrev pub messages_heard : List Event → List Message
messages_heard [] = []
messages_heard (greeted capability ∷ events) = messages_heard events
messages_heard (asked message ∷ events) = message ∷ messages_heard events
messages_heard (idled ∷ events) = messages_heard events
messages_heard (published ∷ events) = messages_heard events

-- how many reads timed out
abbrev pub idles_heard : List Event → ℕ
idles_heard [] = 0
idles_heard (greeted capability ∷ events) = idles_heard events
idles_heard (asked message ∷ events) = idles_heard events
idles_heard (idled ∷ events) = idles_heard events + 1
idles_heard (published ∷ events) = idles_heard events
