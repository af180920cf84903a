-- What a stream of bytes is: a handshake, messages, and how the bytes end (KX, IPC reference).
use Rattle.std.specs.Prelude.{◌≡◌, ◌==◌, ◌≤◌, ◌+◌, ◌-◌, ℕ, Bool, not, nat_lt, nat_le, if◌then◌else◌}
use Rattle.std.specs.Prelude.{List, [], ◌∷◌, ◌++◌, length, take, drop, slice_index, Option, Some, None, Result, Ok, Err}
use Rattle.std.specs.Int.{w32, from_le_bytes, from_be_bytes}
use Rattle.ipc_codec.specs.Reading.{object_of}
use Rattle.ipc_codec.specs.declared.order.Order.{Order}
use Rattle.ipc_codec.specs.declared.order.Order.TheVariants.{Little, Big}
use Rattle.ipc_codec.specs.declared.refusal.DecodeRefusal.{DecodeRefusal}
use Rattle.ipc_codec.specs.declared.refusal.DecodeRefusal.TheVariants as r
use Rattle.q_values.specs.Bytes.{HasNoNul}
use Rattle.q_values.specs.Tree.{Tree}
use Rattle.q_values.specs.declared.limits.Limits.{Limits}
use Rattle.ipc_frame.specs.declared.bad.Bad.{Bad}
use Rattle.ipc_frame.specs.declared.bad.Bad.TheVariants as b
use Rattle.ipc_frame.specs.declared.head.Head.{Head}
use Rattle.ipc_frame.specs.declared.head.BadHeader.{BadHeader}

-- what a message holds: a value, or an object of a type that is not supported, with the offset of that type's byte
pub data Content : Type 0 where
  built : Tree → Content
  unbuilt : ℕ → Content

-- a message: whether its sender waits for a response, and what it holds
pub record Message : Type 0 where
  pub sync : Bool
  pub content : Content

-- how the bytes of a stream end
pub data Ending : Type 0 where
  closed : Ending
  truncated : Ending
  bad : Bad → ℕ → Ending

-- what is at the front of bytes after the handshake; offsets are counted from the front
pub data Front : Type 0 where
  -- no byte
  nothing : Front
  -- less than a whole message
  partial : Front
  -- a message of n bytes
  whole : ℕ → Message → Front
  -- a fault at an offset
  fault : Bad → ℕ → Front

-- the byte order that a header's first byte says
abbrev pub order_of : ℕ → Order
order_of first = if first == 1 then Little else Big

-- the number in four bytes
abbrev pub length_in : Order → List ℕ → ℕ
length_in Little four = from_le_bytes w32 four
length_in Big four = from_be_bytes w32 four

-- the length that the eight bytes of a header say
abbrev pub header_length : List ℕ → ℕ
header_length bytes = length_in (order_of (slice_index bytes 0)) (slice_index bytes 4 ∷ slice_index bytes 5 ∷ slice_index bytes 6 ∷ slice_index bytes 7 ∷ [])

abbrev pub bad_header : Bad → ℕ → Result Head BadHeader
bad_header code at = Err (record { code = code; at = at })

-- what a header says, or its first fault
abbrev pub header_of : Limits → List ℕ → Result Head BadHeader
header_of limits bytes =
    if nat_lt 1 (slice_index bytes 0) then bad_header b.Order 0 else
    (if nat_lt 1 (slice_index bytes 1) then bad_header b.Kind 1 else
    (if not (slice_index bytes 2 == 0) then bad_header b.Compressed 2 else
    (if nat_lt (header_length bytes) 9 then bad_header b.Length 4 else
    (if nat_lt limits.message (header_length bytes) then bad_header b.TooLong 4 else
    Ok (record { order = order_of (slice_index bytes 0); sync = slice_index bytes 1 == 1; length = header_length bytes })))))

-- a message with this header, by what is read after it
abbrev pub body_front : Head → Result (Tree × ℕ) DecodeRefusal → Front
body_front head (Ok x) =
    if x.1 + 8 == head.length then whole head.length (record { sync = head.sync; content = built x.0 }) else fault b.Object (x.1 + 8)
body_front head (Err (r.NotBuilt at)) = whole head.length (record { sync = head.sync; content = unbuilt (at + 8) })
body_front head (Err (r.Truncated at)) = fault b.Object (at + 8)
body_front head (Err (r.BadType at)) = fault b.Object (at + 8)
body_front head (Err (r.BadShape at)) = fault b.Object (at + 8)
body_front head (Err (r.TooDeep at)) = fault b.Object (at + 8)
body_front head (Err r.NoMemory) = fault b.Object 8

abbrev pub header_front : List ℕ → Result Head BadHeader → Front
header_front bytes (Err f) = fault f.code f.at
header_front bytes (Ok head) =
    if nat_lt (length bytes) head.length then partial else body_front head (object_of head.order (take (head.length - 8) (drop 8 bytes)))

-- what is at the front: a header is judged when its eight bytes are there, an object when its whole message is
abbrev pub front_of : Limits → List ℕ → Front
front_of limits bytes =
    if length bytes == 0 then nothing else
    (if nat_lt (length bytes) 8 then partial else header_front bytes (header_of limits bytes))

-- what a message holds, `place` bytes further on in a stream
abbrev pub moved_content : ℕ → Content → Content
moved_content place (built t) = built t
moved_content place (unbuilt at) = unbuilt (place + at)

abbrev pub moved : ℕ → Message → Message
moved place message = record { sync = message.sync; content = moved_content place message.content }

-- the bytes at this offset of a stream are exactly this message, whose offsets are the stream's
abbrev pub IsFrame : Limits → ℕ → List ℕ → Message → Type 0
IsFrame limits place frame message = (here : Message) × (front_of limits frame ≡ whole (length frame) here) × (message ≡ moved place here)

-- the bytes at this offset of a stream are these messages, in order
abbrev pub Frames : Limits → ℕ → List ℕ → List Message → Type 0
Frames limits place bytes [] = bytes ≡ []
Frames limits place bytes (message ∷ messages) =
    (frame : List ℕ) × (rest : List ℕ) × (bytes ≡ frame ++ rest) × IsFrame limits place frame message
    × Frames limits (place + length frame) rest messages

-- how a stream ends at this offset, where this is the front of what is left
abbrev pub EndsAt : ℕ → Front → Ending → Type 0
EndsAt place nothing ending = ending ≡ closed
EndsAt place partial ending = ending ≡ truncated
EndsAt place (fault code at) ending = ending ≡ bad code (place + at)
EndsAt place (whole n message) ending = ⊥

-- the capability that the last byte of a handshake asks for: the byte, where it is at most 6
abbrev pub capability_in : ℕ → ℕ
capability_in last = if nat_le last 6 then last else 0

-- a handshake's capability, by the last byte before its NUL
abbrev pub capability_of : List ℕ → ℕ
capability_of credentials = capability_in (slice_index credentials (length credentials - 1))

-- the bytes are a whole handshake of this capability: credentials and a NUL
pub record IsGreeting (limits : Limits) (bytes : List ℕ) (capability : ℕ) : Type 0 where
  pub credentials : List ℕ
  pub parts : bytes ≡ credentials ++ 0 ∷ []
  pub no_nul : HasNoNul credentials
  pub short : length credentials ≤ limits.greeting
  pub last : capability ≡ capability_of credentials

-- how a stream of n bytes ends that has no whole handshake
abbrev pub ungreeted : Limits → ℕ → Ending
ungreeted limits n = if n == 0 then closed else (if nat_le n limits.greeting then truncated else bad b.Greeting limits.greeting)

-- the bytes at this offset of a stream are these messages, and a rest that ends so
pub record AreMessages (limits : Limits) (place : ℕ) (bytes : List ℕ) (messages : List Message) (ending : Ending) : Type 0 where
  pub body : List ℕ
  pub rest : List ℕ
  pub parts : bytes ≡ body ++ rest
  pub frames : Frames limits place body messages
  pub ends : EndsAt (place + length body) (front_of limits rest) ending

-- a stream with a whole handshake
pub record IsGreeted (limits : Limits) (bytes : List ℕ) (capability : ℕ) (messages : List Message) (ending : Ending) : Type 0 where
  pub greeting : List ℕ
  pub others : List ℕ
  pub parts : bytes ≡ greeting ++ others
  pub greets : IsGreeting limits greeting capability
  pub holds : AreMessages limits (length greeting) others messages ending

-- the bytes are a handshake of this capability, where it is whole, these messages, and a rest that ends so
abbrev pub IsStream : Limits → List ℕ → Option ℕ → List Message → Ending → Type 0
IsStream limits bytes None messages ending = HasNoNul (take (limits.greeting + 1) bytes) × (messages ≡ []) × (ending ≡ ungreeted limits (length bytes))
IsStream limits bytes (Some capability) messages ending = IsGreeted limits bytes capability messages ending
