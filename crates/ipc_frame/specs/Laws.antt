-- What holds of streams and framers, whatever the bytes and however they are split into pieces.
use Rattle.std.specs.Prelude.{◌≡◌, ◌↔◌, ◌<◌, ℕ, Bool, List, [], ◌∷◌, ◌++◌, length, drop, Option, Ok}
use Rattle.ipc_codec.specs.Spells.{Spells}
use Rattle.q_values.specs.Tree.{Tree}
use Rattle.q_values.specs.declared.limits.Limits.{Limits}
use Rattle.ipc_frame.specs.Framing.{Stands, Gives, Feeds}
use Rattle.ipc_frame.specs.Run.{Step, Item, fault_at, Runs, bytes_of, told_by, items_of, ending_of, AreTold}
use Rattle.ipc_frame.specs.Stream.{Message, Ending, bad, built, whole, front_of, header_of, IsStream}
use Rattle.ipc_frame.specs.View.{FramerView, fresh, told_place}
use Rattle.ipc_frame.specs.declared.bad.Bad.{Bad}
use Rattle.ipc_frame.specs.declared.head.Head.{Head}
use Rattle.ipc_frame.specs.declared.next.Next.TheVariants as n

-- bytes are a stream in one way at most
abbrev pub StreamIsReadOnce : Type 0
StreamIsReadOnce =
    (limits : Limits) (bytes : List ℕ) (g h : Option ℕ) (ms ns : List Message) (x y : Ending)
    → IsStream limits bytes g ms x → IsStream limits bytes h ns y → (g ≡ h) × (ms ≡ ns) × (x ≡ y)

-- bytes are a stream in one way at least
abbrev pub StreamIsRead : Type 0
StreamIsRead = (limits : Limits) (bytes : List ℕ) → (g : Option ℕ) × (ms : List Message) × (x : Ending) × IsStream limits bytes g ms x

-- bytes are a header and, after it, an encoding of this value and nothing else
pub record SpellsMessage (limits : Limits) (frame : List ℕ) (sync : Bool) (t : Tree) : Type 0 where
  pub head : Head
  pub header : header_of limits frame ≡ Ok head
  pub told : head.sync ≡ sync
  pub fills : length frame ≡ head.length
  pub object : Spells head.order (drop 8 frame) t

-- exactly those are a whole message of this value
abbrev pub MessageIsSpelled : Type 0
MessageIsSpelled =
    (limits : Limits) (frame : List ℕ) (sync : Bool) (t : Tree)
    → (front_of limits frame ≡ whole (length frame) (record { sync = sync; content = built t })) ↔ SpellsMessage limits frame sync t

-- a call of `feed` takes something of a piece that has bytes exactly where `next` would return `Need`
pub record GoesOn (old : FramerView) (piece : List ℕ) (taken : ℕ) : Type 0 where
  pub some : Stands old n.Need → 0 < length piece → 0 < taken
  pub none : (Stands old n.Need → ⊥) → taken ≡ 0

abbrev pub FeedGoesOn : Type 0
FeedGoesOn = (old : FramerView) (piece : List ℕ) (taken : ℕ) (new : FramerView) → Feeds old piece taken new → GoesOn old piece taken

-- all items of this stream but these have been returned
abbrev pub AllAreTold : List Item → List Step → Option ℕ → List Message → Ending → Type 0
AllAreTold left steps g ms x = AreTold (λ items. items ≡ left) (told_by steps) (items_of g ms x)

-- what a run of a new framer returns
pub record IsExact (limits : Limits) (steps : List Step) (view : FramerView) : Type 0 where
  -- the first of the items of each stream that begins with the bytes taken
  pub first :
      (more : List ℕ) (g : Option ℕ) (ms : List Message) (x : Ending)
      → IsStream limits (bytes_of steps ++ more) g ms x → AreTold (λ _. Unit {0}) (told_by steps) (items_of g ms x)
  -- where `Need` comes next, all items of the bytes taken, which end between messages or within one
  pub need :
      (new : FramerView) → Gives view n.Need new → (g : Option ℕ) (ms : List Message) (x : Ending)
      → IsStream limits (bytes_of steps) g ms x → AllAreTold [] steps g ms x × (x ≡ ending_of view.held)
  -- where `Bad` comes next, all items but that fault, with which the stream ends
  pub fault :
      (code : Bad) (at : ℕ) (new : FramerView) → Gives view (n.Bad code at) new
      → (more : List ℕ) (g : Option ℕ) (ms : List Message) (x : Ending) → IsStream limits (bytes_of steps ++ more) g ms x
      → (k : ℕ) × (at ≡ told_place k) × (x ≡ bad code k) × AllAreTold (fault_at code k ∷ []) steps g ms x

-- a new framer returns the handshake, messages and fault of the stream that it is fed, however that is split into pieces
abbrev pub FramerIsExact : Type 0
FramerIsExact = (limits : Limits) (steps : List Step) (view : FramerView) → Runs (fresh limits) steps view → IsExact limits steps view
